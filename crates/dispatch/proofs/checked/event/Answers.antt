-- `event` on well-formed tables: H2, H6, then one event counted.
use mathlib.Core.List.{map}
use mathlib.Core.Path.{◌≡◌, refl, ap, ◌∙◌, subst}
use Prim.Native.Nat.{ℕ}
use Rattle.std.proofs.Common.{arith}
use Rattle.std.proofs.lemmas.Bool.{leb-true, leb-false}
use Rattle.std.specs.Prelude.{Some, None, Ok}
use Rattle.rules.specs.Machine.{event}
use Rattle.rules.specs.Replies.{view, counted, count_at}
use Rattle.rules.specs.Tables.{own_at}
use Rattle.tables.specs.Keeping.{seen, Holds, count_hart}
use Rattle.rules.specs.declared.answers.Refusal.TheVariants.{NotEnabled, NotReportable}
use Rattle.rules.proofs.HostWays.{checked-not-enabled, event-reply}
use Rattle.rules.proofs.CounterWays.{event-not-reportable, event-given}
use Rattle.dispatch.proofs.AdmissionLaws.{admitted}
use Rattle.dispatch.proofs.MeetsLaws.{refusing, plain-counting, refused-by, hart-off, hart-on}
use Rattle.dispatch.proofs.checked.event.Goals as goal

pub returns-in_err-h : goal.returns-in_err-h
returns-in_err-h c =
    let a = c.args in
    let none : c.hart.result ≡ None = grind arith in
    let e : c.in_err-h.field-0.0 ≡ NotEnabled = grind arith in
    refusing _ _ c.requires.shaped _ NotEnabled
    (checked-not-enabled _ _ (event a.h a.code) refl (hart-off _ _ c.hart.ensures none))
    (refused-by _ e c.from_residual.ensures)

pub returns-in_err-code : goal.returns-in_err-code
unfolding view
returns-in_err-code c =
    let a = c.args in
    let some : c.hart.result ≡ Some c.in_ok-h.h = grind arith in
    let on = hart-on _ _ c.hart.ensures some in
    let over = c.in_err-code.ensures in
    λ m. admitted a.p.now a.t.now _ m m (λ (h : ℕ). event h a.code) _ refl on refl
    (event-reply _ _ _ a.code ∙ event-not-reportable _ _ (leb-false _ _ over.0))
    (refusing _ _ c.requires.shaped _ NotReportable refl (refused-by _ over.1 c.from_residual-in_err-code.ensures) m)

pub returns : goal.returns
unfolding count_at own_at view
returns c =
    let a = c.args in
    let h = c.in_ok-h.h.number in
    let code = c.in_ok-code.code.number in
    let t = seen a.t.now in
    let some : c.hart.result ≡ Some c.in_ok-h.h = grind arith in
    let on = hart-on _ _ c.hart.ensures some in
    let given = c.in_ok-code.ensures in
    λ m. admitted a.p.now a.t.now _ m m (λ (k : ℕ). event k a.code) _ refl on refl
    (event-reply _ t h a.code ∙ event-given _ _ (leb-true _ _ given.0))
    (plain-counting a.t.now _ h _ _ 0 (map (counted a.code) (own_at t h)) refl (ap Ok c.value.ensures)
    (subst (λ (e : ℕ). Holds c.count.new.t (count_hart t h e)) given.1 c.count.ensures) m)
