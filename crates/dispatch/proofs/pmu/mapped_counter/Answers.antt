-- `mapped_counter` asks the number, then whether the counter is mapped.
use mathlib.Core.Path.{ap, ◌∙◌}
use Rattle.rules.specs.Tables.{counter_at}
use Rattle.dispatch.proofs.CounterSetLaws.{over-unread, mapped-read, unread}
use Rattle.dispatch.proofs.MeetsLaws.{passed, stopped}
use Rattle.dispatch.proofs.pmu.mapped_counter.Goals as goal

pub returns-in_err-try_from : goal.returns-in_err-try_from
returns-in_err-try_from c =
    let over = c.in_err-try_from.ensures in
    unread _ _ _ over (over-unread _ _ over.0) c.from_residual.ensures

pub returns-in_err-ensure : goal.returns-in_err-ensure
returns-in_err-ensure c =
    let mapped = mapped-read _ _ _ c.in_ok-try_from.ensures c.get_counter-counter.ensures c.is_some.ensures in
    unread _ _ _ (stopped _ _ c.ensure.ensures c.in_err-ensure.was) mapped c.from_residual-in_err-ensure.ensures

pub returns : goal.returns
returns c =
    let given = c.in_ok-try_from.ensures in
    let read = c.get_counter-counter.ensures in (
      mapped-read _ _ _ given read c.is_some.ensures ∙ passed _ _ c.ensure.ensures c.in_ok-ensure.was,
      read ∙ ap (counter_at _) given.1,
    )
