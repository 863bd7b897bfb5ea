-- What is answered to an operation whose hart is admitted, or not.
use mathlib.Core.Path.{◌≡◌, ap, ◌∙◌, subst}
use mathlib.Core.Bool.{true, false}
use mathlib.Core.List.{List}
use Prim.Native.Nat.{ℕ}
use lib.Dec.{ltb}
use Rattle.std.specs.Cmp.{first_so, second_so}
use Rattle.rules.specs.Names.{action_memory}
use Rattle.rules.specs.Tables.{Tables, well_formed}
use Rattle.rules.specs.Answers.{Answer}
use Rattle.rules.specs.Platform.{enabled, platform_accepted}
use Rattle.rules.specs.Replies.{Reply, refused, view}
use Rattle.rules.specs.Machine.{Operation, hart_of, is_short, enabled_reply, checked_reply}
use Rattle.rules.specs.declared.platform.Platform.{Platform}
use Rattle.rules.specs.declared.answers.Refusal.{Refusal}
use Rattle.rules.proofs.HostWays.{checked-short, checked-not-enabled, checked-enabled}
use Rattle.tables.specs.Keeping.{seen, Shaped}
use Rattle.dispatch.specs.Meets.{Denied, short, off, Meets, WellFormed}
use Rattle.dispatch.proofs.MeetsLaws.{by}

pub not-admitted : (p : Platform) (t : Tables) (op : Operation) (room : ℕ) {k : Refusal}
    → is_short op ≡ ltb room action_memory → Denied p room (hart_of op) k → checked_reply p t op ≡ refused k
not-admitted p t op room e (short s) = checked-short p t op (e ∙ s)
not-admitted p t op room e (off l n) = checked-not-enabled p t op (e ∙ l) n

-- what is answered where it is: f k is the operation of hart k, and h is the hart that k was taken for
module _ (p : Platform) (t t' : List (List ℕ)) (m m' : List ℕ) (f : ℕ → Operation) (a : Answer) {h k : ℕ}
    (long : is_short (f h) ≡ false) (on : (enabled p k ≡ true) × (h ≡ k)) where
  pub admitted : hart_of (f h) ≡ h → {q : Reply} → enabled_reply p (view (seen t) h) (f h) ≡ q
      → Meets t t' m m' h q a → Meets t t' m m' k (checked_reply p (seen t) (f k)) a
  admitted of {q} e w =
      subst (λ (j : ℕ). Meets t t' m m' j (checked_reply p (seen t) (f j)) a) on.1
      (by t t' m m' h (checked_reply p (seen t) (f h)) q a
      (checked-enabled p (seen t) (f h) long (ap (enabled p) (of ∙ on.1) ∙ on.0)
      ∙ ap (λ (j : ℕ). enabled_reply p (view (seen t) j) (f h)) of ∙ e)
      w)

-- ----- once the platform and the tables are vouched for

pub vouched : (p : Platform) (t : List (List ℕ)) → Shaped t → well_formed p (seen t) ≡ true → WellFormed p t
unfolding well_formed
vouched p t s w = record {
  shaped = s;
  accepted = first_so (platform_accepted p) _ w;
  fine = second_so (platform_accepted p) _ w;
}
