-- `read_high` asks as `read` does.
use mathlib.Core.Path.{ap}
use Rattle.std.specs.Prelude.{Ok}
use Rattle.rules.specs.Replies.{view}
use Rattle.dispatch.proofs.CounterSetLaws.{plain-denied}
use Rattle.dispatch.proofs.MeetsLaws.{plain-giving}
use Rattle.rules.proofs.CounterWays.{read-high-none, read-high-given}
use Rattle.dispatch.proofs.pmu.read_high.Goals as goal

pub returns-in_err-mapped_counter : goal.returns-in_err-mapped_counter
unfolding view
returns-in_err-mapped_counter c =
    plain-denied _ _ c.requires c.in_err-mapped_counter.ensures (read-high-none _ _) c.from_residual.ensures

pub returns : goal.returns
unfolding view
returns c =
    plain-giving _ _ c.requires _ _ _ (read-high-given _ _ c.in_ok-mapped_counter.ensures.0) (ap Ok c.value.ensures)
