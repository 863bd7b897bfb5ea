-- `configure` writes the hart's row.
use Rattle.store.proofs.ViewLaws.{own-altered}
use Rattle.store.specs.Sets.{configure_at}
use Rattle.std.proofs.Common.{rules}
use Rattle.store.proofs.keeping.configure.Goals as goal

pub returns : goal.returns
returns c =
    let a = c.args in
    own-altered _ c.requires _ (search rules) _ c.index.ensures (configure_at a.flags a.code.number a.i.number) _
    c.configure_counter.ensures
