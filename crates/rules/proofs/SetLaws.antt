-- Laws of sets of numbers: every, those, keep and all, membership, ascending lists, and the numbers that a mask
-- selects.
use mathlib.Core.Path.{◌≡◌, refl, sym, ap, ap₂, ◌∙◌, subst}
use mathlib.Core.Bool.{Bool, true, false, ◌&&◌, ◌||◌}
use mathlib.Core.List.Memᴰ
use mathlib.Core.List.{List, [], ◌∷◌, ◌++◌, append-nil, Memᴰ}
use mathlib.Core.Logic.{⊎_elim}
use Prim.Native.Nat.{ℕ, zero, suc, ◌+◌, ◌<◌, ◌≤◌}
use native.Mathlib.Nat.{le_of_suc-le-suc, not-suc-le-zero, eq-or-lt_of_le}
use native.Mathlib.Numerals.{add-one}
use native.Mathlib.Omega.{arith}
use lib.ListN.{length, length-append}
use Rattle.std.specs.Cmp.Derive.{both_true}
use Rattle.std.specs.Cmp.{first_so, second_so}
use Rattle.rules.specs.Choice.{when◌then◌else◌}
use Rattle.std.specs.List.{list_all, list_any}
use Rattle.rules.specs.Sets.{every, those, all, any}
use Rattle.rules.proofs.Logic.{if-true, if-false, if-both, by_cases}

-- ----- all and any are the library's

module _ {A : Type 0} (f : A → Bool) where
  pub all-list : (l : List A) → list_all f l ≡ all f l
  unfolding all
  all-list [] = refl
  all-list (x ∷ l) = ap (λ (b : Bool). f x && b) (all-list l)

  pub any-list : (l : List A) → list_any f l ≡ any f l
  unfolding any
  any-list [] = refl
  any-list (x ∷ l) = ap (λ (b : Bool). f x || b) (any-list l)

-- ----- every: f holds at each number below n

pub every-at : (f : ℕ → Bool) (n i : ℕ) → i < n → every n f ≡ true → f i ≡ true
unfolding every
every-at f zero i l e = absurd (not-suc-le-zero l)
every-at f (suc n) i l e =
    ⊎_elim
    (λ q. subst (λ (k : ℕ). f k ≡ true) (sym q) (second_so (every n f) (f n) e))
    (λ m. every-at f n i m (first_so (every n f) (f n) e))
    (eq-or-lt_of_le (le_of_suc-le-suc l))

pub every_of : (f : ℕ → Bool) (n : ℕ) → ((i : ℕ) → i < n → f i ≡ true) → every n f ≡ true
unfolding every
every_of f zero h = refl
every_of f (suc n) h = both_true (every_of f n (λ i l. h i (omega arith))) (h n (omega arith))

pub every-ext : (f g : ℕ → Bool) (n : ℕ) → ((i : ℕ) → i < n → f i ≡ g i) → every n f ≡ every n g
unfolding every
every-ext f g zero h = refl
every-ext f g (suc n) h = ap₂ ◌&&◌ (every-ext f g n (λ i l. h i (omega arith))) (h n (omega arith))

-- ----- those: the numbers below n at which f holds

pub those-hit : (f : ℕ → Bool) (n : ℕ) → f n ≡ true → those (n + 1) f ≡ those n f ++ (n ∷ [])
unfolding those
those-hit f n e = rw (add-one n) (ap (λ (l : List ℕ). those n f ++ l) (if-true _ _ e))

pub those-miss : (f : ℕ → Bool) (n : ℕ) → f n ≡ false → those (n + 1) f ≡ those n f
unfolding those
those-miss f n e = rw (add-one n) (ap (λ (l : List ℕ). those n f ++ l) (if-false _ _ e) ∙ append-nil (those n f))

pub those-few : (f : ℕ → Bool) (n : ℕ) → length (those n f) ≤ n
unfolding those
those-few f zero = omega arith
those-few f (suc n) =
    let h = those-few f n in
    if-both (λ (l : List ℕ). length (those n f ++ l) ≤ suc n) (f n)
    (λ e. omega (arith, length-append (those n f) (n ∷ [])))
    (λ e. omega (arith, length-append (those n f) []))

pub those-ext : (n : ℕ) (f g : ℕ → Bool) → ((i : ℕ) → i < n → f i ≡ g i) → those n f ≡ those n g
unfolding those
those-ext zero f g e = refl
those-ext (suc n) f g e = rw (e n (omega arith), those-ext n f g (λ i h. e i (omega arith)))

pub those-in : (f : ℕ → Bool) (n i : ℕ) → i < n → f i ≡ true → Memᴰ i (those n f)
unfolding those
those-in f zero i l e = absurd (not-suc-le-zero l)
those-in f (suc n) i l e =
    ⊎_elim
    (λ q. Memᴰ.append_right (those n f)
    (rw (if-true _ _ (subst (λ (k : ℕ). f k ≡ true) q e)) (Memᴰ.head q)))
    (λ m. Memᴰ.append_left _ (those-in f n i m e))
    (eq-or-lt_of_le (le_of_suc-le-suc l))

-- a list with one number, or none
one-or-none : (f : ℕ → Bool) (n i : ℕ) → Memᴰ i (when f n then n ∷ [] else []) → (i < suc n) × (f i ≡ true)
one-or-none f n i m =
    by_cases (f n)
    (λ e.
    let q = Memᴰ.eq_of_singleton (rw (if-true _ _ e) at m) in
    (omega (arith, q), subst (λ (k : ℕ). f k ≡ true) (sym q) e))
    (λ e. absurd (Memᴰ.not-nil (rw (if-false _ _ e) at m)))

pub those-only : (f : ℕ → Bool) (n i : ℕ) → Memᴰ i (those n f) → (i < n) × (f i ≡ true)
unfolding those
those-only f zero i m = absurd (Memᴰ.not-nil m)
those-only f (suc n) i m =
    ⊎_elim
    (λ a. let r = those-only f n i a in (omega (arith, r.0), r.1))
    (λ b. one-or-none f n i b)
    (Memᴰ.append_cases (those n f) m)
