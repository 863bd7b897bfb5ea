-- Plain logic: the laws of `when◌then◌else◌`, tests joined by and, or, not, and contradictions.
use mathlib.Core.Path.{◌≡◌, refl, sym, ◌∙◌}
use mathlib.Core.Bool.{Bool, true, false, not, ◌||◌}
use Prim.Native.Nat.{ℕ, ◌<◌, ◌≤◌}
use lib.Dec.{ltb}
use borrow.Author.Tests.{ltb-true, ltb-false}
use Rattle.std.proofs.lemmas.Bool.{false≢true}
use Rattle.std.proofs.lemmas.Bool.Decides.{nat_tests}
use Rattle.rules.specs.Choice.{when◌then◌else◌}

-- ----- choices

module _ {A : Type 0} where
  pub if-true : {b : Bool} (x y : A) → b ≡ true → when b then x else y ≡ x
  unfolding when◌then◌else◌
  if-true x y e = rw e

  pub if-false : {b : Bool} (x y : A) → b ≡ false → when b then x else y ≡ y
  unfolding when◌then◌else◌
  if-false x y e = rw e

  -- to prove P of a choice is to prove it of each arm, under what the test then says
  pub if-both : (P : A → Type 0) (b : Bool) {x y : A} → (b ≡ true → P x) → (b ≡ false → P y) → P (when b then x else y)
  unfolding when◌then◌else◌
  if-both P true f g = f refl
  if-both P false f g = g refl

  -- both arms are the same
  pub if-same : (b : Bool) (x : A) → when b then x else x ≡ x
  unfolding when◌then◌else◌
  if-same true x = refl
  if-same false x = refl

-- for goals on a choice whose test compares numbers
pub ruleset choice = (if-true, if-false, nat_tests)

-- a function of a choice is the choice of the function's values
pub if-ap : {A B : Type 0} (g : A → B) (b : Bool) (x y : A) → g (when b then x else y) ≡ when b then g x else g y
unfolding when◌then◌else◌
if-ap g true x y = refl
if-ap g false x y = refl

-- ----- contradictions

-- a test does not come out both ways
pub clash : {b : Bool} → b ≡ true → b ≡ false → ⊥
clash t f = false≢true (sym f ∙ t)

pub by_cases : {P : Type 0} (b : Bool) → (b ≡ true → P) → (b ≡ false → P) → P
by_cases true f g = f refl
by_cases false f g = g refl

-- a number is below another, or at least it
pub below_or : {P : Type 0} (a b : ℕ) → (a < b → P) → (b ≤ a → P) → P
below_or a b f g = by_cases (ltb a b) (λ e. f (ltb-true a b e)) (λ e. g (ltb-false a b e))

-- ----- or

pub or-of : (a b : Bool) → (a ≡ false → b ≡ true) → (a || b) ≡ true
or-of true b f = refl
or-of false b f = f refl

pub or_right : (a b : Bool) → (a || b) ≡ true → a ≡ false → b ≡ true
or_right true b e f = absurd (false≢true (sym f))
or_right false b e f = e

-- ----- not

-- one test implies another
pub not-or : (a b : Bool) → (a ≡ true → b ≡ true) → (not a || b) ≡ true
not-or true b f = f refl
not-or false b f = refl

pub not-or-inv : (a b : Bool) → (not a || b) ≡ true → a ≡ true → b ≡ true
not-or-inv true b e f = e
not-or-inv false b e f = absurd (false≢true f)

-- ----- `a || b` in code: a where a holds, else b

pub or-yes : (a b v : Bool) → a ≡ true → v ≡ a → v ≡ (a || b)
or-yes a b v e q = q ∙ e ∙ (rw e refl)

pub or-no : {a b v : Bool} → a ≡ false → v ≡ b → v ≡ (a || b)
or-no {a} {b} {v} e q = rw e q
