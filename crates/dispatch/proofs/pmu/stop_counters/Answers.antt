-- `stop_counters` makes its checks in order, then stops the set.
use mathlib.Core.Path.{ap, sym, ◌∙◌}
use borrow.Author.Tests.{ltb-true, ltb-false, not-true, not-false}
use Rattle.std.specs.Prelude.{Ok}
use Rattle.rules.specs.Replies.{view}
use Rattle.dispatch.proofs.CounterSetLaws.{all-by, plain-denied}
use Rattle.dispatch.proofs.MeetsLaws.{plain-counting, passed, stopped}
use Rattle.rules.proofs.CounterWays.{counter-stop-flags, counter-stop-no-counter, counter-stop-snapshot}
use Rattle.rules.proofs.CounterWays.{counter-stop-idle, counter-stop-given}
use Rattle.dispatch.proofs.pmu.stop_counters.Goals as goal

pub returns-in_err-ensure : goal.returns-in_err-ensure
unfolding view
returns-in_err-ensure c =
    λ p. plain-denied _ _ c.requires.shaped (stopped _ _ c.ensure.ensures c.in_err-ensure.was)
    (λ n. counter-stop-flags p _ _ _ _ (ltb-false _ _ n)) c.from_residual.ensures

pub returns-in_err-set : goal.returns-in_err-set
unfolding view
returns-in_err-set c =
    let flags = ltb-true _ _ (passed _ _ c.ensure.ensures c.in_ok-ensure.was) in
    λ p. plain-denied _ _ c.requires.shaped (c.in_err-set.ensures p)
    (counter-stop-no-counter p _ _ _ _ flags) c.from_residual-in_err-set.ensures

pub returns-in_err-ensure-2 : goal.returns-in_err-ensure-2
unfolding view
returns-in_err-ensure-2 c =
    let flags = ltb-true _ _ (passed _ _ c.ensure.ensures c.in_ok-ensure.was) in
    λ p. plain-denied _ _ c.requires.shaped (stopped _ _ c.ensure-2.ensures c.in_err-ensure-2.was)
    (λ n. counter-stop-snapshot p _ _ _ _ flags (c.in_ok-set.ensures p).0 (sym c.bit_of.ensures ∙ not-false _ n))
    c.from_residual-in_err-ensure-2.ensures

pub returns-in_err-ensure-3 : goal.returns-in_err-ensure-3
unfolding view
returns-in_err-ensure-3 c =
    let flags = ltb-true _ _ (passed _ _ c.ensure.ensures c.in_ok-ensure.was) in
    let direct = sym c.bit_of.ensures ∙ not-true _ (passed _ _ c.ensure-2.ensures c.in_ok-ensure-2.was) in
    λ p.
    let (fits, word) = c.in_ok-set.ensures p in
    plain-denied _ _ c.requires.shaped (stopped _ _ c.ensure-3.ensures c.in_err-ensure-3.was)
    (λ n. counter-stop-idle p _ _ _ _ flags fits direct (all-by _ word c.all_running.ensures n))
    c.from_residual-in_err-ensure-3.ensures

pub returns : goal.returns
unfolding view
returns c =
    let flags = ltb-true _ _ (passed _ _ c.ensure.ensures c.in_ok-ensure.was) in
    let direct = sym c.bit_of.ensures ∙ not-true _ (passed _ _ c.ensure-2.ensures c.in_ok-ensure-2.was) in
    let running = passed _ _ c.ensure-3.ensures c.in_ok-ensure-3.was in
    λ p.
    let (fits, word) = c.in_ok-set.ensures p in
    plain-counting _ _ _ _ _ _ _
    (counter-stop-given p _ _ _ _ flags fits direct (all-by _ word c.all_running.ensures running))
    (ap Ok c.value.ensures) (rw word at c.stop_set.ensures)
