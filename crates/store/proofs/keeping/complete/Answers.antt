-- `complete` hands the hart's row on.
use Rattle.store.proofs.ViewLaws.{hart-altered}
use Rattle.store.specs.Settling.{completed_of}
use Rattle.std.proofs.Common.{rules}
use Rattle.store.proofs.keeping.complete.Goals as goal

pub returns : goal.returns
returns c =
    hart-altered _ c.requires.1 _ (search rules) _ c.index.ensures completed_of _ c.settle_row.ensures
