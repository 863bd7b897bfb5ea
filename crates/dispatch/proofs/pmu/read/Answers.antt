-- `read` gives the value of a counter that can be read.
use mathlib.Core.Bool.{false}
use mathlib.Core.Path.{ap, ◌∙◌}
use Rattle.std.specs.Prelude.{Ok}
use Rattle.rules.specs.Answers.{done}
use Rattle.rules.specs.Replies.{view}
use Rattle.rules.specs.declared.records.Counter.{Counter}
use Rattle.dispatch.proofs.CounterSetLaws.{plain-denied}
use Rattle.dispatch.proofs.MeetsLaws.{plain-giving}
use Rattle.rules.proofs.CounterWays.{read_none, read-given}
use Rattle.dispatch.proofs.pmu.read.Goals as goal

pub returns-in_err-mapped_counter : goal.returns-in_err-mapped_counter
unfolding view
returns-in_err-mapped_counter c =
    plain-denied _ _ c.requires c.in_err-mapped_counter.ensures (read_none _ _) c.from_residual.ensures

pub returns : goal.returns
unfolding view
returns c =
    let given = c.in_ok-mapped_counter.ensures in
    plain-giving _ _ c.requires _ _ _ (read-given _ _ given.0)
    (ap Ok (c.value.ensures ∙ ap (λ (x : Counter). done x.value false 0) given.1))
