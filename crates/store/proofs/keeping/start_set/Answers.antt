-- `start_set` writes the hart's row.
use Rattle.store.proofs.ViewLaws.{own-seen, own-altered}
use Rattle.store.proofs.EachLaws.{begun_kept}
use Rattle.store.specs.Sets.{set_of}
use Rattle.rules.specs.Counters.{each, begun}
use Rattle.std.proofs.Common.{rules}
use Rattle.store.proofs.keeping.start_set.Goals as goal

pub start_row-requires : goal.start_row-requires
start_row-requires c =
    let a = c.args in
    let k = c.requires in
    rw (c.index.ensures, ← own-seen a.t.now c.told-t a.h.number (search rules))
    (begun_kept _ k.1.fine a.s a.flags a.initial k.1.mapped)

pub returns : goal.returns
returns c =
    let a = c.args in
    own-altered _ c.requires.0 _ (search rules) _ c.index.ensures (each (begun a.flags a.initial) (set_of a.s)) _
    c.start_row.ensures
