-- `stop_set` writes the hart's row.
use Rattle.store.proofs.ViewLaws.{own-seen, own-altered}
use Rattle.store.proofs.EachLaws.{ended-kept}
use Rattle.store.specs.Sets.{set_of}
use Rattle.rules.specs.Counters.{each, ended}
use Rattle.std.proofs.Common.{rules}
use Rattle.store.proofs.keeping.stop_set.Goals as goal

pub stop_row-requires : goal.stop_row-requires
stop_row-requires c =
    let a = c.args in
    let k = c.requires in
    rw (c.index.ensures, ← own-seen a.t.now c.told-t a.h.number (search rules)) (ended-kept _ k.1 a.s a.flags)

pub returns : goal.returns
returns c =
    let a = c.args in
    own-altered _ c.requires.0 _ (search rules) _ c.index.ensures (each (ended a.flags) (set_of a.s)) _
    c.stop_row.ensures
