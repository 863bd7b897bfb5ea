-- `fresh`: the platform decides.
use mathlib.Core.Bool.{Bool, true, false, not}
use mathlib.Core.Path.{◌≡◌, refl, sym, ap, ◌∙◌}
use Rattle.std.specs.Prelude.{Result, Ok, Err}
use Rattle.rules.specs.Answers.{done}
use Rattle.rules.specs.Choice.{when◌then◌else◌}
use Rattle.rules.specs.Platform.{platform_accepted}
use Rattle.rules.specs.Machine.{fresh_answer}
use Rattle.rules.specs.declared.answers.Refusal.{Refusal}
use Rattle.rules.specs.declared.answers.Refusal.TheVariants.{NotWellFormed}
use Rattle.rules.specs.declared.answers.Denial.TheVariants.{Refused}
use Rattle.dispatch.proofs.MeetsLaws.{refused-by}
use Rattle.dispatch.proofs.host.fresh.Goals as goal

-- the answer to what making fresh tables gave, of a platform that is accepted or not
gave-ok : (b : Bool) {o : Result (Unit {0}) Refusal} {u : Unit {0}} → o ≡ (when b then Ok tt else Err NotWellFormed)
    → o ≡ Ok u → Ok (done 0 false 0) ≡ (when not b then Err (Refused NotWellFormed) else Ok (done 0 false 0))
unfolding when◌then◌else◌
gave-ok true e q = refl
gave-ok false e q = cc

gave-err : (b : Bool) {o : Result (Unit {0}) Refusal} {k : Refusal} → o ≡ (when b then Ok tt else Err NotWellFormed)
    → o ≡ Err k
    → (k ≡ NotWellFormed)
    × ((when not b then Err (Refused NotWellFormed) else Ok (done 0 false 0)) ≡ Err (Refused NotWellFormed))
unfolding when◌then◌else◌
gave-err true e q = cc
gave-err false e q = (cc, refl)

pub returns-in_err-make_fresh-clause-answer : goal.returns-in_err-make_fresh-clause-answer
unfolding fresh_answer
returns-in_err-make_fresh-clause-answer c =
    let h1 = gave-err (platform_accepted c.args.p.now) c.make_fresh.ensures.answer c.in_err-make_fresh.was in
    refused-by _ h1.0 c.from_residual.ensures ∙ sym h1.1

pub returns-clause-answer : goal.returns-clause-answer
unfolding fresh_answer
returns-clause-answer c =
    ap Ok c.value.ensures
    ∙ gave-ok (platform_accepted c.args.p.now) c.make_fresh.ensures.answer c.in_ok-make_fresh.was
