-- `put_hart` writes the hart's row.
use Rattle.store.proofs.ViewLaws.{hart-altered}
use Rattle.rules.specs.declared.records.Hart.{Hart}
use Rattle.std.proofs.Common.{rules}
use Rattle.store.proofs.keeping.put_hart.Goals as goal

pub returns : goal.returns
returns c =
    hart-altered _ c.requires.1 _ (search rules) _ c.index.ensures (λ (_ : Hart). c.args.x) _ c.pack.ensures
