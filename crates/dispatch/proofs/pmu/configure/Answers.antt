-- `configure` makes its checks in order, then configures the counter that matches.
use mathlib.Core.Path.{ap, ◌∙◌}
use borrow.Author.Tests.{ltb-true, ltb-false, eqb-true, eqb-false}
use Rattle.std.specs.Prelude.{Ok}
use Rattle.rules.specs.Replies.{view}
use Rattle.dispatch.proofs.CounterSetLaws.{plain-denied}
use Rattle.dispatch.proofs.MeetsLaws.{handed, plain-failing, plain-counting, passed, stopped}
use Rattle.rules.proofs.CounterWays.{configure-flags, configure-no-counter, configure-no-event, configure-data}
use Rattle.rules.proofs.CounterWays.{configure-no-match, configure-given}
use Rattle.tables.proofs.Laws.{match-some, match_none}
use Rattle.dispatch.proofs.pmu.configure.Goals as goal

pub returns-in_err-ensure : goal.returns-in_err-ensure
unfolding view
returns-in_err-ensure c =
    λ p. plain-denied _ _ c.requires (stopped _ _ c.ensure.ensures c.in_err-ensure.was)
    (λ n. configure-flags p _ _ _ _ _ _ (ltb-false _ _ n)) c.from_residual.ensures

pub returns-in_err-set : goal.returns-in_err-set
unfolding view
returns-in_err-set c =
    let flags = ltb-true _ _ (passed _ _ c.ensure.ensures c.in_ok-ensure.was) in
    λ p. plain-denied _ _ c.requires (c.in_err-set.ensures p)
    (configure-no-counter p _ _ _ _ _ _ flags) c.from_residual-in_err-set.ensures

pub returns-in_err-code : goal.returns-in_err-code
unfolding view
returns-in_err-code c =
    let flags = ltb-true _ _ (passed _ _ c.ensure.ensures c.in_ok-ensure.was) in
    λ p. plain-denied _ _ c.requires c.in_err-code.ensures
    (configure-no-event p _ _ _ _ _ _ flags (c.in_ok-set.ensures p).0) c.from_residual-in_err-code.ensures

pub returns-in_err-ensure-2 : goal.returns-in_err-ensure-2
unfolding view
returns-in_err-ensure-2 c =
    let flags = ltb-true _ _ (passed _ _ c.ensure.ensures c.in_ok-ensure.was) in
    λ p. plain-denied _ _ c.requires (stopped _ _ c.ensure-2.ensures c.in_err-ensure-2.was)
    (λ n. configure-data p _ _ _ _ _ _ flags (c.in_ok-set.ensures p).0 c.in_ok-code.ensures.0 (eqb-false _ _ n))
    c.from_residual-in_err-ensure-2.ensures

pub returns-in_err-i : goal.returns-in_err-i
unfolding view
returns-in_err-i c =
    let flags = ltb-true _ _ (passed _ _ c.ensure.ensures c.in_ok-ensure.was) in
    let empty = eqb-true _ _ (passed _ _ c.ensure-2.ensures c.in_ok-ensure-2.was) in
    let match = match_none _ _ _ _ c.match_counter.ensures c.in_err-i.ensures.ok_part in
    λ p.
    let (fits, word) = c.in_ok-set.ensures p in
    plain-failing _ _ c.requires _ _ _ _
    (configure-no-match p _ _ _ _ _ _ flags fits c.in_ok-code.ensures.0 empty (rw word at match))
    (let none = rw c.in_err-i.ensures.ok_part at c.in_err-i.ensures.value in
    handed _ c.from_residual-in_err-i.ensures ∙ cc)

pub returns : goal.returns
unfolding view
returns c =
    let flags = ltb-true _ _ (passed _ _ c.ensure.ensures c.in_ok-ensure.was) in
    let (event, code) = c.in_ok-code.ensures in
    let empty = eqb-true _ _ (passed _ _ c.ensure-2.ensures c.in_ok-ensure-2.was) in
    let match = match-some _ _ _ _ c.match_counter.ensures _ c.in_ok-i.ensures.ok_part in
    λ p.
    let (fits, word) = c.in_ok-set.ensures p in
    plain-counting _ _ _ _ _ _ _
    (configure-given p _ _ _ _ _ _ flags fits event empty _ (rw word at match))
    (ap Ok c.value.ensures) (rw code at c.configure.ensures)
