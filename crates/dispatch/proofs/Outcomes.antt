-- A theorem for each statement of specs/Outcomes, under its name. Assumes nothing.
use mathlib.Core.Path.{◌≡◌, refl, sym, ap, ◌∙◌, subst}
use mathlib.Core.Bool.{Bool, true, false}
use mathlib.Core.List.{List, [], ◌∷◌}
use Prim.Native.Nat.{ℕ}
use Rattle.std.specs.Cmp.Derive.{both_true}
use Rattle.std.specs.Cmp.{second_so}
use Rattle.rules.specs.Platform.{platform_accepted}
use Rattle.rules.specs.Tables.{Tables, well_formed, tables_well_formed}
use Rattle.rules.specs.Machine.{after, reply, checked_reply, hart_of}
use Rattle.tables.specs.Keeping.{Holds, FreshOr, seen}
use Rattle.rules.specs.declared.platform.Platform.{Platform}
use Rattle.tables.proofs.Laws.{held-once}
use Rattle.rules.proofs.Theorems.{well-formed-kept}
use Rattle.rules.proofs.HostWays.{reply-checked}
use Rattle.dispatch.proofs.MeetsLaws.{by}
use Rattle.dispatch.specs.Steps.{Run, no_step, first_step}
use Rattle.dispatch.specs.Outcomes.{CheckedAgree, ContractsStep, FreshRowsFollow, OneFresh, OneFront}
use Rattle.dispatch.specs.Outcomes.{OneOutcome, OneRun, RowsFollow}

-- ----- one outcome

-- a reply settles the answer, the rows and the memory
pub one-outcome : OneOutcome
one-outcome t t₁ t₂ m m₁ m₂ h q a₁ a₂ x y =
    (x.answer ∙ sym y.answer, (held-once t₁ t₂ _ x.tables y.tables, x.memory ∙ sym y.memory))

fresh-once : (b : Bool) (p : Platform) (t t₁ t₂ : List (List ℕ)) → FreshOr b p t t₁ → FreshOr b p t t₂ → t₁ ≡ t₂
fresh-once true p t t₁ t₂ x y = held-once t₁ t₂ _ x y
fresh-once false p t t₁ t₂ x y = x ∙ sym y

-- making fresh tables settles the answer and the rows, refused or not
pub one-fresh : OneFresh
one-fresh p t t₁ t₂ a₁ a₂ x y = (x.0 ∙ sym y.0, fresh-once (platform_accepted p) p t t₁ t₂ x.1 y.1)

-- an answer settles the words handed back and where they lie
pub one-front : OneFront
one-front m r₁ r₂ a x y = (x.0 ∙ sym y.0, x.1 ∙ sym y.1)

-- ----- steps and runs

-- whatever a function of the host did is a step
pub contracts-step : ContractsStep
contracts-step p t t' m m' h a = record {
  calls = λ q w. record { lent = refl; meets = w };
  completions = λ w. record { lent = refl; meets = w m };
  wakes = λ w. record { lent = refl; meets = w };
  events = λ code w. record { lent = tt; meets = w m };
}

-- rows that hold some tables hold, after a run, those that the rules give after its operations
pub rows-follow : RowsFollow
unfolding after
rows-follow p t t' s [] k no_step = k
rows-follow p t t' s (op ∷ ops) k (first_step {t₁} x r) =
    rows-follow p t₁ t' (after p s op) ops
    (subst (λ (z : Tables). Holds t₁ (after p z op)) k.is x.meets.tables) r

-- rows that were made fresh hold the tables of the history
pub fresh-rows-follow : FreshRowsFollow
fresh-rows-follow p lent t t' a ops ok f r =
    rows-follow p t t' _ ops (subst (λ (b : Bool). FreshOr b p lent t) ok f.1) r

-- a history settles the rows
pub one-run : OneRun
one-run p t t₁ t₂ [] no_step no_step = refl
one-run p t t₁ t₂ (op ∷ ops) (first_step {t₁ = u} x r) (first_step {t₁ = v} y s) =
    let e : u ≡ v = held-once u v _ x.meets.tables y.meets.tables in
    one-run p v t₁ t₂ ops (subst (λ (z : List (List ℕ)). Run p z ops t₁) e r) s

-- ----- the functions on tables that are well formed

-- behind the test of the tables the outcome is the same, and the tables stay well formed
pub checked-agree : CheckedAgree
unfolding after well_formed
checked-agree p op t t' m m' a w x =
    let replied = reply-checked p (seen t) op w.accepted w.fine in
    let met = by t t' m m' (hart_of op) (reply p (seen t) op) (checked_reply p (seen t) op) a replied x in
    let well = well-formed-kept p (seen t) op (both_true w.accepted w.fine) in
    record {
      same = met;
      well = record {
        shaped = met.tables.shaped;
        accepted = w.accepted;
        fine = ap (tables_well_formed p) met.tables.is ∙ second_so (platform_accepted p) _ well;
      };
    }
