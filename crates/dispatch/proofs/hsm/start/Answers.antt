-- `start` makes its checks in order, then moves the target and lays one action.
use mathlib.Core.Bool.{false}
use mathlib.Core.List.{[], ◌∷◌}
use mathlib.Core.Path.{◌≡◌, sym, ap, ◌∙◌}
use Prim.Native.Nat.{ℕ}
use lib.Dec.{eqb}
use borrow.Author.Tests.{eqb-true, eqb-false}
use Rattle.std.proofs.Common.{arith}
use Rattle.std.specs.Prelude.{Some, None, Ok}
use Rattle.rules.specs.Names.{START_PENDING}
use Rattle.rules.specs.Replies.{view, enter}
use Rattle.rules.specs.Tables.{hart_at, state_of, in_state}
use Rattle.tables.specs.Keeping.{seen, put_hart}
use Rattle.rules.specs.declared.actions.Action.{Action}
use Rattle.rules.specs.declared.records.Hart.{Hart}
use Rattle.rules.specs.declared.answers.Error.TheVariants.{InvalidParam, AlreadyAvailable, InvalidAddress}
use Rattle.rules.proofs.HartWays.{start-not-enabled, start-not-stopped, start-nowhere, start-given}
use Rattle.dispatch.specs.Meets.{put_action}
use Rattle.dispatch.proofs.LayingLaws.{lay-first}
use Rattle.dispatch.proofs.MeetsLaws.{failing, moving, failed-by, passed, stopped, hart-off, hart-on}
use Rattle.dispatch.proofs.hsm.start.Goals as goal

pub returns-in_err-target : goal.returns-in_err-target
returns-in_err-target c =
    let none : c.hart.result ≡ None = grind arith in
    let e : c.in_err-target.field-0.0 ≡ InvalidParam = grind arith in
    failing _ _ c.requires.shaped _ InvalidParam (start-not-enabled _ _ _ _ _ (hart-off _ _ c.hart.ensures none))
    (failed-by _ e c.from_residual.ensures) _

pub returns-in_err-ensure : goal.returns-in_err-ensure
unfolding view
returns-in_err-ensure c =
    let a = c.args in
    let t = seen a.t.now in
    let some : c.hart.result ≡ Some c.in_ok-target.target = grind arith in
    let on = hart-on _ _ c.hart.ensures some in
    let stop = stopped (eqb c.get_hart-x.result.state 1) AlreadyAvailable c.ensure.ensures c.in_err-ensure.was in
    let away = eqb-false _ _ stop.0 in
    failing _ _ c.requires.shaped _ AlreadyAvailable
    (start-not-stopped _ _ _ _ _ on.0
    (λ e. away (ap (λ (x : Hart). x.state) c.get_hart-x.ensures ∙ ap (state_of t.harts) on.1 ∙ e)))
    (failed-by _ stop.1 c.from_residual-in_err-ensure.ensures) _

pub returns-in_err-ensure-2 : goal.returns-in_err-ensure-2
unfolding view
returns-in_err-ensure-2 c =
    let a = c.args in
    let t = seen a.t.now in
    let some : c.hart.result ≡ Some c.in_ok-target.target = grind arith in
    let on = hart-on _ _ c.hart.ensures some in
    let here = eqb-true _ _ (passed (eqb c.get_hart-x.result.state 1) AlreadyAvailable c.ensure.ensures (c.in_ok-ensure.was)) in
    let stop = stopped _ InvalidAddress c.ensure-2.ensures c.in_err-ensure-2.was in
    failing _ _ c.requires.shaped _ InvalidAddress
    (start-nowhere _ _ _ _ _ on.0
    (sym (ap (λ (x : Hart). x.state) c.get_hart-x.ensures ∙ ap (state_of t.harts) on.1) ∙ here)
    (sym c.valid_address.ensures ∙ stop.0))
    (failed-by _ stop.1 c.from_residual-in_err-ensure-2.ensures) _

pub returns : goal.returns
unfolding view
returns c =
    let a = c.args in
    let t = seen a.t.now in
    let some : c.hart.result ≡ Some c.in_ok-target.target = grind arith in
    let on = hart-on _ _ c.hart.ensures some in
    let read : c.get_hart-x.result ≡ hart_at t.harts a.target = c.get_hart-x.ensures ∙ ap (hart_at t.harts) on.1 in
    let here = eqb-true _ _ (passed (eqb c.get_hart-x.result.state 1) AlreadyAvailable c.ensure.ensures c.in_ok-ensure.was) in
    let valid = passed _ InvalidAddress c.ensure-2.ensures c.in_ok-ensure-2.was in
    let put = c.put_hart.ensures in
    moving _ _ _ _ _ _ false (enter a.target a.address a.opaque ∷ []) a.target
    (in_state (hart_at t.harts a.target) START_PENDING)
    (start-given _ _ _ _ _ on.0 (sym (ap (λ (x : Hart). x.state) read) ∙ here) (sym c.valid_address.ensures ∙ valid))
    (ap Ok c.actions.ensures)
    (record {
      is = put.is ∙ ap (λ (k : ℕ). put_hart t k c.in_state.result) on.1
          ∙ ap (put_hart t a.target) (c.in_state.ensures ∙ ap (λ (y : Hart). in_state y START_PENDING) read);
      shaped = put.shaped;
    })
    (c.put_action.ensures
    ∙ ap (λ (y : Action). put_action a.actions.now 0 y)
    (c.enter.ensures ∙ ap (λ (k : ℕ). enter k a.address a.opaque) on.1)
    ∙ lay-first a.actions.now _)
