-- An operation that is done passed every test: the tables were well formed and its hart enabled.
use mathlib.Core.Path.{◌≡◌, refl}
use mathlib.Core.Bool.{Bool, true, false}
use Prim.Native.Nat.{ℕ}
use native.Mathlib.Omega.{arith}
use borrow.Author.Tests.{not-false}
use Rattle.std.proofs.lemmas.Bool.{false≢true}
use Rattle.std.specs.Cmp.{second_so}
use Rattle.rules.specs.declared.answers.Refusal.{Refusal}
use Rattle.rules.specs.Choice.{when◌then◌else◌}
use Rattle.rules.specs.Platform.{enabled, platform_accepted}
use Rattle.rules.specs.Tables.{Tables, well_formed, tables_well_formed, TablesWellFormed}
use Rattle.rules.specs.Replies.{view, Done, Reply, refused, failed, did, accepted}
use Rattle.rules.specs.Machine.{Operation, hart_of, enabled_reply, checked_reply, reply}
use Rattle.rules.specs.declared.platform.Platform.{Platform}
use Rattle.rules.proofs.WellFormed.{tables_agree}

-- a choice that is done was not refused
pub if-did : (b : Bool) (k : Refusal) (r : Reply) (d : Done) → (when b then refused k else r) ≡ did d
    → (b ≡ false) × (r ≡ did d)
unfolding when◌then◌else◌
if-did true k r d e = let z : ◌≡◌ {A = ℕ} 0 1 = cc in absurd (omega arith)
if-did false k r d e = (refl, e)

pub record Passed (p : Platform) (t : Tables) (op : Operation) (d : Done) : Type 0 where
  pub fine : TablesWellFormed p t
  pub on : enabled p (hart_of op) ≡ true
  pub replied : enabled_reply p (view t (hart_of op)) op ≡ did d

pub did-passed : (p : Platform) (t : Tables) (op : Operation) (d : Done) → reply p t op ≡ did d → Passed p t op d
unfolding reply checked_reply well_formed
did-passed p t op d e =
    let a = if-did _ _ (checked_reply p t op) d e in
    let b = if-did _ _ _ d a.1 in
    let c = if-did _ _ (enabled_reply p (view t (hart_of op)) op) d b.1 in
    record {
      fine = (tables_agree p t).0 (second_so (platform_accepted p) (tables_well_formed p t) (not-false _ a.0));
      on = not-false _ c.0;
      replied = c.1;
    }

-- an accepted reply is what was done
pub accepted-did : (r : Reply) → accepted r ≡ true → (d : Done) × (r ≡ did d)
accepted-did (refused k) e = absurd (false≢true e)
accepted-did (failed k) e = absurd (false≢true e)
accepted-did (did d) e = (d, refl)
