-- Tests as the code asks them: one for each number of a range, and of one number or hart.
use mathlib.Core.Path.{◌≡◌, refl, ap, ap₂, ◌∙◌}
use mathlib.Core.Bool.{Bool, true, ◌&&◌, and-true}
use mathlib.Core.List.{List, [], ◌∷◌, ◌++◌}
use Prim.Native.Nat.{ℕ, zero, suc, ◌+◌, ◌-◌, ◌*◌, ◌^◌, ◌/◌, ◌<◌, ◌≤◌}
use native.Mathlib.Nat.{one-le-pow, div-lt_iff_lt-mul, div-eq_of_lt, pow-le-pow_right}
use native.Mathlib.Omega.{arith}
use lib.Dec.{eqb, ltb, leb}
use borrow.Author.Tests.{eq-eqb, eqb-true, lt-ltb, ltb-true}
use Rattle.std.specs.List.{list_all, range_with_len}
use Rattle.std.proofs.lemmas.List.Folds.{list_all-append}
use Rattle.std.proofs.lemmas.Bool.Decides.{nat_tests}
use Rattle.std.specs.Cmp.{both_ways}
use Rattle.rules.specs.Choice.{when◌then◌else◌}
use Rattle.rules.specs.Masks.{selects}
use Rattle.rules.specs.Platform.{enabled}
use Rattle.rules.specs.Sets.{bit, every, names, ones}
use Rattle.rules.specs.declared.platform.Platform.{Platform}
use Rattle.rules.proofs.Logic.{choice}
use Rattle.rules.proofs.ReachWays.{hypervisors-by-hart}
use Rattle.rules.proofs.WellFormed.{enabled-over}

-- ----- `(0..n).all(f)` in code

range-more : (a n b : ℕ) → a + n ≡ b → range_with_len a (suc n) ≡ range_with_len a n ++ (b ∷ [])
range-more a zero b e = ap (λ (x : ℕ). x ∷ []) (omega (arith, e))
range-more a (suc n) b e = ap (λ (l : List ℕ). a ∷ l) (range-more (a + 1) n b (omega (arith, e)))

pub every-list : (f : ℕ → Bool) (n : ℕ) → list_all f (range_with_len 0 n) ≡ every n f
unfolding every
every-list f zero = refl
every-list f (suc n) =
    ap (list_all f) (range-more 0 n n (omega arith)) ∙ list_all-append f (range_with_len 0 n) (n ∷ [])
    ∙ ap₂ ◌&&◌ (every-list f n) (and-true (f n))

-- ----- numbers below a power of 2, as `id >> width == 0` asks it

pub shifted_out : (a w : ℕ) → eqb (a / 2 ^ w) 0 ≡ ltb a (2 ^ w)
shifted_out a w =
    both_ways (eqb (a / 2 ^ w) 0) (ltb a (2 ^ w))
    (λ y. lt-ltb a (2 ^ w) (quotient-zero a (2 ^ w) (one-le-pow w 2 (omega arith)) (eqb-true (a / 2 ^ w) 0 y)))
    (λ y. eq-eqb (a / 2 ^ w) 0 (div-eq_of_lt (ltb-true a (2 ^ w) y)))
  where
    quotient-zero : (a k : ℕ) → 0 < k → a / k ≡ 0 → a < k
    quotient-zero a k p e =
        let h : a < 1 * k = (div-lt_iff_lt-mul p).0 (let z : a / k < 1 = omega (arith, e) in z) in
        omega (arith, h)

pub word_below : (a w : ℕ) → a < 2 ^ 64 → 64 ≤ w → ltb a (2 ^ w) ≡ true
word_below a w fits wide =
    let more : 2 ^ 64 ≤ 2 ^ w = pow-le-pow_right (omega arith) wide in
    lt-ltb a (2 ^ w) (omega (arith, fits, more))

pub ruleset of_widths = (shifted_out, word_below, nat_tests)

-- ----- tests of one hart

pub selects-opened : (p : Platform) (m base h : ℕ)
    → selects p m base h
    ≡ when eqb base (ones 64) then enabled p h else (leb base h && (ltb (h - base) 64 && bit m (h - base)))
unfolding selects names
selects-opened p m base h = refl

pub ruleset of_harts = (choice, selects-opened, enabled-over, hypervisors-by-hart)
