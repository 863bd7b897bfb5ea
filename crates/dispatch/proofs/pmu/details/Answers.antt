-- `details` asks the number alone.
use mathlib.Core.Path.{ap}
use Rattle.std.specs.Prelude.{Ok}
use Rattle.dispatch.proofs.CounterSetLaws.{plain-denied}
use Rattle.dispatch.proofs.MeetsLaws.{plain-giving}
use Rattle.rules.proofs.CounterWays.{details-none, details-given}
use Rattle.dispatch.proofs.pmu.details.Goals as goal

pub returns-in_err-try_from : goal.returns-in_err-try_from
returns-in_err-try_from c =
    λ t h s. plain-denied t h s c.in_err-try_from.ensures (details-none _ _) c.from_residual.ensures

pub returns : goal.returns
returns c =
    λ t h s. plain-giving t h s _ _ _ (details-given _ _ c.in_ok-try_from.ensures.0) (ap Ok c.value.ensures)
