-- `status` reads the target's record.
use mathlib.Core.Path.{◌≡◌, ap, ◌∙◌}
use Prim.Native.Nat.{ℕ}
use mathlib.Core.Bool.{false}
use Rattle.std.proofs.Common.{arith}
use Rattle.std.specs.Prelude.{Some, None, Ok}
use Rattle.rules.specs.Answers.{done}
use Rattle.rules.specs.Tables.{state_of}
use Rattle.rules.specs.Replies.{view}
use Rattle.rules.specs.declared.answers.Error.TheVariants.{InvalidParam}
use Rattle.rules.specs.declared.records.Hart.{Hart}
use Rattle.tables.specs.Keeping.{seen}
use Rattle.rules.proofs.HartWays.{status-not-enabled, status-given}
use Rattle.dispatch.proofs.MeetsLaws.{plain-failing, plain-giving, failed-by, hart-off, hart-on}
use Rattle.dispatch.proofs.hsm.status.Goals as goal

pub returns-in_err-target : goal.returns-in_err-target
returns-in_err-target c =
    let none : c.hart.result ≡ None = grind arith in
    let e : c.in_err-target.field-0.0 ≡ InvalidParam = grind arith in
    plain-failing _ _ c.requires _ _ _ InvalidParam (status-not-enabled _ _ _ (hart-off _ _ c.hart.ensures none))
    (failed-by _ e c.from_residual.ensures)

pub returns : goal.returns
unfolding view
returns c =
    let a = c.args in
    let on = hart-on _ _ c.hart.ensures (let z : c.hart.result ≡ Some c.in_ok-target.target = grind arith in z) in
    plain-giving _ _ c.requires _ _ _ (status-given _ _ _ on.0)
    (ap Ok (c.value.ensures
    ∙ ap (λ (x : Hart). done x.state false 0) c.get_hart-x.ensures
    ∙ ap (λ (k : ℕ). done (state_of (seen a.t.now).harts k) false 0) on.1))
