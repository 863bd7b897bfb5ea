-- Laws of sets of counters as words: their bits, the test that one holds another, and the lowest number of one.
use Rattle.std.proofs.Common.{◌≡◌, ℕ, zero, suc, ◌+◌, ◌-◌, ◌*◌, ◌/◌, ◌%◌, ◌^◌, ◌<◌, ◌≤◌, Bool, true, false, not, ◌&&◌, ◌||◌, eqb, ◌⊎◌, List, [], ◌∷◌, ◌++◌, sym, refl, ap, ◌∙◌, subst, ap₂, inl, inr, ⊎_elim, pow-suc, arith, lit<, eq-eqb, ne_eqb}
use mathlib.Core.Bool.{and-true, and_assoc}
use Rattle.std.specs.Prelude.{Some, None}
use lib.Bits.{bit_and, and_le_r}
use Rattle.std.specs.Int.{trailing_zeros, w8, w64}
use Rattle.std.proofs.lemmas.Nat.Bits.{bit_at-trailing_zeros}
use Rattle.rules.specs.Choice.{when◌then◌else◌}
use Rattle.rules.specs.Sets.{bit, every, those, all, first}
use Rattle.rules.proofs.Logic.{if-true, if-false, by_cases, below_or}
use Rattle.rules.proofs.SetLaws.{every-at, every-ext}
use Rattle.rules.proofs.platform.BitLaws.{bit-first, bit-next, bit-and, subset-word}
use Rattle.store.specs.Sets.{mask_of}

-- ----- the word of a set

abbrev unit : Bool → ℕ
unit b = when b then 1 else 0

one-or-none : (b : Bool) → (unit b ≡ 0) ⊎ (unit b ≡ 1)
unfolding when◌then◌else◌
one-or-none true = inr refl
one-or-none false = inl refl

pub mask-small : (n : ℕ) (f : ℕ → Bool) → mask_of n f < 2 ^ n
unfolding mask_of
mask-small zero f = lit< tt
mask-small (suc n) f =
    let h = mask-small n (λ i. f (suc i)) in
    subst (λ (x : ℕ). unit (f 0) + 2 * mask_of n (λ i. f (suc i)) < x) (sym (pow-suc 2 n))
    (⊎_elim (λ e. omega (arith, h, e)) (λ e. omega (arith, h, e)) (one-or-none (f 0)))

pub mask-bit : (n : ℕ) (f : ℕ → Bool) (i : ℕ) → i < n → bit (mask_of n f) i ≡ f i
unfolding mask_of
mask-bit zero f i l = absurd (omega arith)
mask-bit (suc n) f zero l =
    bit-first _
    ∙ by_cases (f 0)
    (λ e. ap (λ (x : ℕ). eqb ((x + 2 * mask_of n (λ i. f (suc i))) % 2) 1) (if-true _ _ e)
    ∙ eq-eqb _ _ (odd (mask_of n (λ i. f (suc i)))) ∙ sym e)
    (λ e. ap (λ (x : ℕ). eqb ((x + 2 * mask_of n (λ i. f (suc i))) % 2) 1) (if-false _ _ e)
    ∙ ne_eqb _ _ (λ q. even (mask_of n (λ i. f (suc i))) q) ∙ sym e)
  where
    odd : (m : ℕ) → (1 + 2 * m) % 2 ≡ 1
    odd m = omega arith

    even : (m : ℕ) → (0 + 2 * m) % 2 ≡ 1 → ⊥
    even m e = omega arith
mask-bit (suc n) f (suc i) l =
    bit-next _ i ∙ ap (λ (x : ℕ). bit x i) (halved (f 0) (mask_of n (λ i. f (suc i))))
    ∙ mask-bit n (λ i. f (suc i)) i (omega arith)
  where
    halved : (b : Bool) (m : ℕ) → (unit b + 2 * m) / 2 ≡ m
    halved b m = ⊎_elim (λ e. omega (arith, e)) (λ e. omega (arith, e)) (one-or-none b)

-- one number more
pub mask-more : (n : ℕ) (f : ℕ → Bool) → mask_of (suc n) f ≡ mask_of n f + (when f n then 2 ^ n else 0)
unfolding mask_of
mask-more zero f = omega arith
mask-more (suc n) f =
    ap (λ (x : ℕ). (when f 0 then 1 else 0) + 2 * x) (mask-more n (λ i. f (suc i)))
    ∙ by_cases (f (suc n))
    (λ e.
    let a = if-true (2 ^ n) 0 e in
    let b = if-true (2 ^ suc n) 0 e in
    let d = pow-suc 2 n in
    omega (arith, a, b, d))
    (λ e.
    let a = if-false (2 ^ n) 0 e in
    let b = if-false (2 ^ suc n) 0 e in
    omega (arith, a, b))

-- the numbers that are not in a set
not-one : (b : Bool) (n x y : ℕ) → x + y + 1 ≡ 2 ^ n → 2 ^ suc n ≡ 2 ^ n * 2
    → ((when b then 1 else 0) + 2 * x) + ((when not b then 1 else 0) + 2 * y) + 1 ≡ 2 ^ suc n
unfolding when◌then◌else◌
not-one true n x y h d = omega (arith, h, d)
not-one false n x y h d = omega (arith, h, d)

mask-both : (n : ℕ) (f : ℕ → Bool) → mask_of n f + mask_of n (λ i. not (f i)) + 1 ≡ 2 ^ n
unfolding mask_of
mask-both zero f = refl
mask-both (suc n) f =
    not-one (f 0) n (mask_of n (λ i. f (suc i))) (mask_of n (λ i. not (f (suc i)))) (mask-both n (λ i. f (suc i)))
    (pow-suc 2 n)

pub mask-not : (n : ℕ) (f : ℕ → Bool) → 2 ^ n - 1 - mask_of n f ≡ mask_of n (λ i. not (f i))
mask-not n f = omega (arith, mask-both n f)

-- ----- whether a test holds of each number of a set

all_append : (f : ℕ → Bool) (a b : List ℕ) → all f (a ++ b) ≡ (all f a && all f b)
unfolding all
all_append f [] b = refl
all_append f (x ∷ a) b = ap (λ (c : Bool). f x && c) (all_append f a b) ∙ sym (and_assoc (f x) (all f a) (all f b))

pub all-those : (n : ℕ) (f g : ℕ → Bool) → all f (those n g) ≡ every n (λ i. not (g i) || f i)
unfolding those every all when◌then◌else◌
all-those zero f g = refl
all-those (suc n) f g =
    all_append f (those n g) (when g n then n ∷ [] else []) ∙ ap₂ ◌&&◌ (all-those n f g) (last (g n))
  where
    last : (b : Bool) → all f (when b then n ∷ [] else []) ≡ (not b || f n)
    last true = and-true (f n)
    last false = refl

pub ones_bit : (i : ℕ) → i < 8 → bit 255 i ≡ true
unfolding every bit
ones_bit i l = every-at (bit 255) 8 i l refl

low_bit : (s i : ℕ) → i < 8 → bit (bit_and s 255) i ≡ bit s i
low_bit s i l = bit-and s 255 i ∙ ap (λ (b : Bool). bit s i && b) (ones_bit i l) ∙ and-true (bit s i)

-- each of the low eight bits of s is one of the word of f
pub within-is : (s : ℕ) (f : ℕ → Bool)
    → eqb (bit_and (bit_and s 255) (mask_of 8 f)) (bit_and s 255) ≡ all f (those 8 (bit s))
within-is s f =
    subset-word 8 (bit_and s 255) (mask_of 8 f) (omega (arith, and_le_r s 255))
    ∙ every-ext _ _ 8 (λ i l. ap₂ (λ (a b : Bool). not a || b) (low_bit s i l) (mask-bit 8 f i l))
    ∙ sym (all-those 8 f (bit s))

-- ----- the lowest number of a set

-- the first of a set is its lowest number
none-those : (n : ℕ) (f : ℕ → Bool) → ((i : ℕ) → i < n → f i ≡ false) → those n f ≡ []
unfolding those
none-those zero f e = refl
none-those (suc n) f e = ap₂ ◌++◌ (none-those n f (λ i l. e i (omega arith))) (if-false _ _ (e n (omega arith)))

first-front : (a b : List ℕ) (i : ℕ) → first a ≡ Some i → first (a ++ b) ≡ Some i
unfolding first
first-front [] b i e = absurd (let z : ◌≡◌ {A = ℕ} 0 1 = cc in omega arith)
first-front (x ∷ a) b i e = e

first-those : (n : ℕ) (f : ℕ → Bool) (t : ℕ) → t < n → f t ≡ true → ((i : ℕ) → i < t → f i ≡ false)
    → first (those n f) ≡ Some t
unfolding those first
first-those zero f t l e q = absurd (omega arith)
first-those (suc n) f t l e q =
    below_or t n
    (λ m. first-front (those n f) _ t (first-those n f t m e q))
    (λ m.
    let z : t ≡ n = omega arith in
    ap₂ (λ (a b : List ℕ). first (a ++ b)) (none-those n f (λ i k. q i (omega arith)))
    (if-true _ _ (subst (λ (k : ℕ). f k ≡ true) z e)) ∙ ap Some (sym z))

-- the place of the lowest bit is the first number
module _ (m : ℕ) (p : 0 < m) (s : m ≤ 255) where
  abbrev low : ℕ
  low = trailing_zeros w64 m

  pub lowest-under : low < 8
  lowest-under =
      let a = bit_at-trailing_zeros w64 m p (omega arith) in
      let b = bit_at-trailing_zeros w8 m p (omega arith) in
      below_or low 8 (λ l. l) (λ l. absurd (omega (arith, a.2 (trailing_zeros w8 m) (omega (arith, b.0)), b.1)))

  pub lowest-first : first (those 8 (bit m)) ≡ Some low
  unfolding bit
  lowest-first =
      let a = bit_at-trailing_zeros w64 m p (omega arith) in
      first-those 8 (bit m) low lowest-under (eq-eqb _ 1 a.1) (λ i l. ne_eqb _ 1 (λ e. omega (arith, e, a.2 i l)))

pub none-first : first (those 8 (bit 0)) ≡ None
unfolding first those bit when◌then◌else◌
none-first = refl
