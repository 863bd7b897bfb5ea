-- `start_counters` makes its checks in order, then starts the set.
use mathlib.Core.Path.{ap, sym, ◌∙◌}
use borrow.Author.Tests.{ltb-true, ltb-false, not-true, not-false}
use Rattle.std.specs.Prelude.{Ok}
use Rattle.rules.specs.Replies.{view}
use Rattle.dispatch.proofs.CounterSetLaws.{all-by, plain-denied}
use Rattle.dispatch.proofs.MeetsLaws.{plain-counting, passed, stopped}
use Rattle.rules.proofs.CounterWays.{counter-start-flags, counter-start-no-counter, counter-start-unmapped}
use Rattle.rules.proofs.CounterWays.{counter-start-snapshot, counter-start-running, counter-start-given}
use Rattle.dispatch.proofs.pmu.start_counters.Goals as goal

pub returns-in_err-ensure : goal.returns-in_err-ensure
unfolding view
returns-in_err-ensure c =
    λ p. plain-denied _ _ c.requires.shaped (stopped _ _ c.ensure.ensures c.in_err-ensure.was)
    (λ n. counter-start-flags p _ _ _ _ _ (ltb-false _ _ n)) c.from_residual.ensures

pub returns-in_err-set : goal.returns-in_err-set
unfolding view
returns-in_err-set c =
    let flags = ltb-true _ _ (passed _ _ c.ensure.ensures c.in_ok-ensure.was) in
    λ p. plain-denied _ _ c.requires.shaped (c.in_err-set.ensures p)
    (counter-start-no-counter p _ _ _ _ _ flags) c.from_residual-in_err-set.ensures

pub returns-in_err-ensure-2 : goal.returns-in_err-ensure-2
unfolding view
returns-in_err-ensure-2 c =
    let flags = ltb-true _ _ (passed _ _ c.ensure.ensures c.in_ok-ensure.was) in
    λ p.
    let (fits, word) = c.in_ok-set.ensures p in
    plain-denied _ _ c.requires.shaped (stopped _ _ c.ensure-2.ensures c.in_err-ensure-2.was)
    (λ n. counter-start-unmapped p _ _ _ _ _ flags fits (all-by _ word c.all_mapped.ensures n))
    c.from_residual-in_err-ensure-2.ensures

pub returns-in_err-ensure-3 : goal.returns-in_err-ensure-3
unfolding view
returns-in_err-ensure-3 c =
    let flags = ltb-true _ _ (passed _ _ c.ensure.ensures c.in_ok-ensure.was) in
    let mapped = passed _ _ c.ensure-2.ensures c.in_ok-ensure-2.was in
    λ p.
    let (fits, word) = c.in_ok-set.ensures p in
    plain-denied _ _ c.requires.shaped (stopped _ _ c.ensure-3.ensures c.in_err-ensure-3.was)
    (λ n. counter-start-snapshot p _ _ _ _ _ flags fits (all-by _ word c.all_mapped.ensures mapped)
    (sym c.bit_of.ensures ∙ not-false _ n)) c.from_residual-in_err-ensure-3.ensures

pub returns-in_err-ensure-4 : goal.returns-in_err-ensure-4
unfolding view
returns-in_err-ensure-4 c =
    let flags = ltb-true _ _ (passed _ _ c.ensure.ensures c.in_ok-ensure.was) in
    let mapped = passed _ _ c.ensure-2.ensures c.in_ok-ensure-2.was in
    let direct = sym c.bit_of.ensures ∙ not-true _ (passed _ _ c.ensure-3.ensures c.in_ok-ensure-3.was) in
    λ p.
    let (fits, word) = c.in_ok-set.ensures p in
    plain-denied _ _ c.requires.shaped (stopped _ _ c.ensure-4.ensures c.in_err-ensure-4.was)
    (λ n. counter-start-running p _ _ _ _ _ flags fits (all-by _ word c.all_mapped.ensures mapped) direct
    (all-by _ word c.none_running.ensures n)) c.from_residual-in_err-ensure-4.ensures

pub returns : goal.returns
unfolding view
returns c =
    let flags = ltb-true _ _ (passed _ _ c.ensure.ensures c.in_ok-ensure.was) in
    let mapped = passed _ _ c.ensure-2.ensures c.in_ok-ensure-2.was in
    let direct = sym c.bit_of.ensures ∙ not-true _ (passed _ _ c.ensure-3.ensures c.in_ok-ensure-3.was) in
    let idle = passed _ _ c.ensure-4.ensures c.in_ok-ensure-4.was in
    λ p.
    let (fits, word) = c.in_ok-set.ensures p in
    plain-counting _ _ _ _ _ _ _
    (counter-start-given p _ _ _ _ _ flags fits (all-by _ word c.all_mapped.ensures mapped) direct
    (all-by _ word c.none_running.ensures idle))
    (ap Ok c.value.ensures) (rw word at c.start_set.ensures)
