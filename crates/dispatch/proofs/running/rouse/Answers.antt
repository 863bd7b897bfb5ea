-- `rouse` tests H5, then moves the hart and lays its action.
use mathlib.Core.Bool.{false}
use mathlib.Core.List.{List, [], ◌∷◌}
use mathlib.Core.Path.{◌≡◌, refl, sym, ap, ◌∙◌}
use lib.Dec.{eqb}
use lib.ListN.{set}
use Rattle.std.proofs.Common.{arith}
use Rattle.std.proofs.lemmas.Option.{none-some, same_Some}
use Rattle.std.specs.Prelude.{Some, None, Ok}
use Rattle.rules.specs.Names.{SUSPENDED, RESUME_PENDING}
use Rattle.rules.specs.Harts.{wake_of, wake_actions}
use Rattle.rules.specs.Replies.{view, moves, enter, laid, words_of}
use Rattle.rules.specs.Tables.{hart_at, in_state}
use Rattle.tables.specs.Keeping.{seen}
use Rattle.rules.specs.declared.actions.Action.{Action}
use Rattle.rules.specs.declared.records.Hart.{Hart}
use Rattle.rules.specs.declared.answers.Refusal.TheVariants.{StateForbids}
use Rattle.rules.proofs.Logic.{if-true, if-false, by_cases}
use Rattle.rules.proofs.HartWays.{wake-forbidden, wake-given}
use Rattle.dispatch.specs.Meets.{put_action}
use Rattle.dispatch.proofs.LayingLaws.{lay-first}
use Rattle.dispatch.proofs.MeetsLaws.{refusing, moving, refused-by}
use Rattle.dispatch.proofs.running.rouse.Goals as goal

-- a wake leads to RESUME_PENDING
wake-state : (x y : Hart) → wake_of x ≡ Some y → y.state ≡ RESUME_PENDING
unfolding wake_of
wake-state x y e =
    by_cases (eqb x.state SUSPENDED)
    (λ s. ap (λ (z : Hart). z.state) (sym (same_Some (in_state x RESUME_PENDING) y (sym (if-true _ _ s) ∙ e))))
    (λ n. absurd (none-some y (sym (if-false _ _ n) ∙ e)))

pub returns-in_err-next : goal.returns-in_err-next
unfolding view
returns-in_err-next c =
    let none : c.wake.result ≡ None = grind arith in
    let e : c.in_err-next.field-0.0 ≡ StateForbids = grind arith in
    refusing _ _ c.requires.shaped _ StateForbids
    (wake-forbidden _ _ (ap wake_of (sym c.get_hart-x.ensures) ∙ sym c.wake.ensures ∙ none))
    (refused-by _ e c.from_residual.ensures) _

pub put_hart-requires : goal.put_hart-requires
put_hart-requires c =
    let y = c.in_ok-next.next in
    let some : c.wake.result ≡ Some y = grind arith in
    let state = wake-state _ y (ap wake_of (sym c.get_hart-x.ensures) ∙ sym c.wake.ensures ∙ some) in
    (omega (arith, state), c.requires.shaped)

pub returns-then-x : goal.returns-then-x
unfolding view laid words_of wake_actions
returns-then-x c =
    let a = c.args in
    let h = a.h.number in
    let t = seen a.t.now in
    let y = c.in_ok-next.next in
    let some : c.wake.result ≡ Some y = grind arith in
    let step = ap wake_of (sym c.get_hart-x.ensures) ∙ sym c.wake.ensures ∙ some in
    let kept = ap (λ (z : Hart). z.retentive) (sym c.get_hart-x.ensures) ∙ c.if-x.true in
    moving _ _ _ _ _ _ false [] h y
    (wake-given _ _ y step ∙ ap (λ (l : List Action). moves (view t h) false l (set t.harts h y)) (if-true _ _ kept))
    (ap Ok c.actions.ensures) c.put_hart.ensures refl

pub returns : goal.returns
unfolding view wake_actions
returns c =
    let a = c.args in
    let h = a.h.number in
    let t = seen a.t.now in
    let x = hart_at t.harts h in
    let y = c.in_ok-next.next in
    let some : c.wake.result ≡ Some y = grind arith in
    let step = ap wake_of (sym c.get_hart-x.ensures) ∙ sym c.wake.ensures ∙ some in
    let lost = ap (λ (z : Hart). z.retentive) (sym c.get_hart-x.ensures) ∙ c.if-x.false in
    moving _ _ _ _ _ _ false (enter h x.address x.opaque ∷ []) h y
    (wake-given _ _ y step ∙ ap (λ (l : List Action). moves (view t h) false l (set t.harts h y)) (if-false _ _ lost))
    (ap Ok c.actions-2.ensures) c.put_hart.ensures
    (c.put_action.ensures
    ∙ ap (λ (z : Action). put_action a.actions.now 0 z)
    (c.enter.ensures ∙ ap (λ (z : Hart). enter h z.address z.opaque) c.get_hart-x.ensures)
    ∙ lay-first a.actions.now _)
