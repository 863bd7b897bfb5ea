-- `call` on well-formed tables: H4, H2, H3, then the request.
use mathlib.Core.Path.{refl, sym, ap, ◌∙◌}
use Prim.Native.Nat.{ℕ}
use lib.Dec.{eqb}
use lib.ListN.{length}
use borrow.Author.Tests.{eqb-true, eqb-false}
use Rattle.rules.specs.Machine.{call}
use Rattle.tables.specs.Keeping.{seen}
use Rattle.rules.specs.declared.records.Hart.{Hart}
use Rattle.rules.specs.declared.answers.Refusal.TheVariants.{NotStarted}
use Rattle.rules.proofs.HostWays.{call-not-started, call-started}
use Rattle.dispatch.proofs.AdmissionLaws.{not-admitted, admitted}
use Rattle.dispatch.proofs.MeetsLaws.{refusing, refused-by, passed, stopped}
use Rattle.dispatch.proofs.checked.call.Goals as goal

pub returns-in_err-h : goal.returns-in_err-h
returns-in_err-h c =
    let a = c.args in
    let room = length a.actions.now in
    refusing _ _ c.requires.shaped _ _
    (not-admitted a.p.now (seen a.t.now) (call room a.h a.r) room refl c.in_err-h.ensures)
    (refused-by _ refl c.from_residual.ensures) _

pub returns-in_err-ensure : goal.returns-in_err-ensure
returns-in_err-ensure c =
    let a = c.args in
    let room = length a.actions.now in
    let in' = c.in_ok-h.ensures in
    let stop = stopped (eqb c.get_hart-x.result.state 0) NotStarted c.ensure.ensures c.in_err-ensure.was in
    let away = eqb-false _ _ stop.0 in
    admitted a.p.now a.t.now _ _ _ (λ (h : ℕ). call room h a.r) _ in'.0 in'.1 refl
    (call-not-started _ _ _ _ _ (λ e. away (ap (λ (x : Hart). x.state) c.get_hart-x.ensures ∙ e)))
    (refusing _ _ c.requires.shaped _ NotStarted refl (refused-by _ stop.1 c.from_residual-in_err-ensure.ensures) _)

pub returns : goal.returns
returns c =
    let a = c.args in
    let room = length a.actions.now in
    let in' = c.in_ok-h.ensures in
    let here = eqb-true _ _ (passed (eqb c.get_hart-x.result.state 0) NotStarted c.ensure.ensures c.in_ok-ensure.was) in
    admitted a.p.now a.t.now _ _ _ (λ (h : ℕ). call room h a.r) _ in'.0 in'.1 refl
    (call-started _ _ _ _ _ (sym (ap (λ (x : Hart). x.state) c.get_hart-x.ensures) ∙ here))
    c.answer.ensures
