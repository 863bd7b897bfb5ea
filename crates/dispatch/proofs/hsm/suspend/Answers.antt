-- `suspend` tests its type, then for non-retentive sleep its address, and moves the caller.
use mathlib.Core.Bool.{Bool, true, ◌||◌}
use mathlib.Core.List.{[]}
use mathlib.Core.Path.{◌≡◌, refl, sym, ap, ◌∙◌}
use Prim.Native.Nat.{ℕ, ◌≤◌}
use native.Mathlib.Omega.{arith}
use lib.Dec.{eqb}
use borrow.Author.Tests.{eq-eqb, ne_eqb}
use Rattle.std.specs.Prelude.{Ok}
use Rattle.rules.specs.Names.{RESUME_PENDING, retentive_type, non_retentive_type}
use Rattle.rules.specs.Platform.{valid_address}
use Rattle.rules.specs.Harts.{suspend_of}
use Rattle.rules.specs.Replies.{view, laid, words_of}
use Rattle.tables.specs.Keeping.{seen, put_hart}
use Rattle.rules.specs.declared.records.Hart.{Hart}
use Rattle.rules.specs.declared.answers.Error.TheVariants.{InvalidParam, InvalidAddress}
use Rattle.rules.proofs.Logic.{if-both, or-yes, or-no}
use Rattle.dispatch.proofs.SuspendLaws.{suspend-unknown, suspend-unplaced, suspend-placed}
use Rattle.dispatch.proofs.MeetsLaws.{failing, moving, failed-by, passed, stopped}
use Rattle.dispatch.proofs.hsm.suspend.Goals.{then-retentive, else-retentive, then-retentive-2, else-retentive-2}
use Rattle.dispatch.proofs.hsm.suspend.Goals as goal

pub returns-in_err-ensure : goal.returns-in_err-ensure
returns-in_err-ensure c =
    let y = c.args.sleep in
    let known : c.if-retentive.ensure ≡ (eqb y retentive_type || eqb y non_retentive_type) =
    elim c.if-retentive.branch
    [ then-retentive w ↦ or-yes _ _ _ (eq-eqb _ _ w.if-retentive.true) w.ensure-is | else-retentive w ↦ or-no (ne_eqb _ _ w.if-retentive.false) w.ensure-is ] in
    let stop = stopped _ InvalidParam c.ensure.ensures c.in_err-ensure.was in
    failing _ _ c.requires _ InvalidParam (suspend-unknown _ _ _ _ _ _ (sym known ∙ stop.0))
    (failed-by _ stop.1 c.from_residual.ensures)

pub returns-in_err-ensure-2 : goal.returns-in_err-ensure-2
returns-in_err-ensure-2 c =
    let y = c.args.sleep in
    let known : c.if-retentive.ensure ≡ (eqb y retentive_type || eqb y non_retentive_type) =
    elim c.if-retentive.branch
    [ then-retentive w ↦ or-yes _ _ _ (eq-eqb _ _ w.if-retentive.true) w.ensure-is | else-retentive w ↦ or-no (ne_eqb _ _ w.if-retentive.false) w.ensure-is ] in
    let placed : c.if-retentive-2.ensure ≡ (eqb y retentive_type || valid_address c.args.p.now c.args.address) =
    elim c.if-retentive-2.branch [
      | then-retentive-2 w ↦ or-yes _ _ _ (eq-eqb _ _ w.if-retentive-2.true) w.ensure-is
      | else-retentive-2 w ↦ or-no (ne_eqb _ _ w.if-retentive-2.false) (w.ensure-is ∙ w.valid_address.ensures)
    ] in
    let stop = stopped _ InvalidAddress c.ensure-2.ensures c.in_err-ensure-2.was in
    failing _ _ c.requires _ InvalidAddress
    (suspend-unplaced _ _ _ _ _ _ (sym known ∙ passed _ InvalidParam c.ensure.ensures c.in_ok-ensure.was)
    (sym placed ∙ stop.0))
    (failed-by _ stop.1 c.from_residual-in_err-ensure-2.ensures)

-- the record of a suspended hart is one that the tables can keep
suspended-state : (r : Bool) (a o : ℕ) → (suspend_of r a o).state ≤ RESUME_PENDING
unfolding suspend_of
suspended-state r a o = if-both (λ (x : Hart). x.state ≤ RESUME_PENDING) r (λ _. omega arith) (λ _. omega arith)

pub put_hart-requires : goal.put_hart-requires
put_hart-requires c = (rw c.suspend.ensures (suspended-state _ _ _), c.requires)

pub returns : goal.returns
unfolding view laid words_of
returns c =
    let a = c.args in
    let y = a.sleep in
    let known : c.if-retentive.ensure ≡ (eqb y retentive_type || eqb y non_retentive_type) =
    elim c.if-retentive.branch
    [ then-retentive w ↦ or-yes _ _ _ (eq-eqb _ _ w.if-retentive.true) w.ensure-is | else-retentive w ↦ or-no (ne_eqb _ _ w.if-retentive.false) w.ensure-is ] in
    let placed : c.if-retentive-2.ensure ≡ (eqb y retentive_type || valid_address a.p.now a.address) =
    elim c.if-retentive-2.branch [
      | then-retentive-2 w ↦ or-yes _ _ _ (eq-eqb _ _ w.if-retentive-2.true) w.ensure-is
      | else-retentive-2 w ↦ or-no (ne_eqb _ _ w.if-retentive-2.false) (w.ensure-is ∙ w.valid_address.ensures)
    ] in
    let put = c.put_hart.ensures in
    λ m. moving _ _ _ m m _ true [] a.h.number (suspend_of (eqb y retentive_type) a.address a.opaque)
    (suspend-placed _ _ _ _ _ _ (sym known ∙ passed _ InvalidParam c.ensure.ensures c.in_ok-ensure.was)
    (sym placed ∙ passed _ InvalidAddress c.ensure-2.ensures c.in_ok-ensure-2.was))
    (ap Ok c.parked.ensures)
    (record { is = put.is ∙ ap (put_hart (seen a.t.now) a.h.number) c.suspend.ensures; shaped = put.shaped })
    refl
