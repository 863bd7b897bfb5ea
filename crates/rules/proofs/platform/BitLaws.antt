-- Laws of a word's bits: of the word halved, of and, that the bits are the word, and when one word has each bit
-- of another.
use mathlib.Core.Path.{◌≡◌, refl, sym, ap, ◌∙◌}
use mathlib.Core.Bool.{Bool, true, false, not, ◌&&◌, ◌||◌}
use Prim.Native.Nat.{ℕ, suc, min, ◌/◌, ◌%◌, ◌^◌, ◌<◌}
use native.Mathlib.Nat.{mod-lt}
use native.Mathlib.Omega.{arith}
use lib.Bits.{bit_and, and_le_l}
use lib.Dec.{eqb, lit<}
use borrow.Author.Tests.{eqb-true, eq-eqb}
use Rattle.std.specs.Cmp.{second_so, both_ways}
use Rattle.std.specs.Int.{bit_at}
use Rattle.std.proofs.lemmas.Bool.Decides.{nat_tests}
use Rattle.std.proofs.lemmas.Nat.Bits.{bit_at_lowest, bit_at-suc, bit_at_and, same_from_bits_below}
use Rattle.rules.specs.Sets.{bit, every}
use Rattle.rules.proofs.Logic.{not-or, not-or-inv}
use Rattle.rules.proofs.SetLaws.{every-at, every_of}

-- ----- the word halved

pub bit-first : (m : ℕ) → bit m 0 ≡ eqb (m % 2) 1
unfolding bit
bit-first m = ap (λ (x : ℕ). eqb x 1) (bit_at_lowest m)

pub bit-next : (m i : ℕ) → bit m (suc i) ≡ bit (m / 2) i
unfolding bit
bit-next m i = ap (λ (x : ℕ). eqb x 1) (bit_at-suc m i)

-- ----- the bits are the word

same-digit : (a b : ℕ) → a < 2 → b < 2 → eqb a 1 ≡ eqb b 1 → a ≡ b
same-digit a b h l e = grind (arith, nat_tests)

pub bits-one : (n a b : ℕ) → a < 2 ^ n → b < 2 ^ n → ((i : ℕ) → i < n → bit a i ≡ bit b i) → a ≡ b
unfolding bit
bits-one n a b h l e =
    same_from_bits_below n a b h l
    (λ i m. same-digit (bit_at a i) (bit_at b i) (mod-lt _ (lit< tt)) (mod-lt _ (lit< tt)) (e i m))

-- ----- and

and-digit : (a b : ℕ) → a < 2 → b < 2 → eqb (min a b) 1 ≡ (eqb a 1 && eqb b 1)
and-digit a b h l = grind (arith, nat_tests)

pub bit-and : (a b i : ℕ) → bit (bit_and a b) i ≡ (bit a i && bit b i)
unfolding bit
bit-and a b i =
    ap (λ (x : ℕ). eqb x 1) (bit_at_and a b i)
    ∙ and-digit (bit_at a i) (bit_at b i) (mod-lt _ (lit< tt)) (mod-lt _ (lit< tt))

-- ----- each bit of a is one of b

and_same : (a b : Bool) → (a ≡ true → b ≡ true) → (a && b) ≡ a
and_same true b f = f refl
and_same false b f = refl

pub subset-word : (n a b : ℕ) → a < 2 ^ n → eqb (bit_and a b) a ≡ every n (λ i. not (bit a i) || bit b i)
subset-word n a b l =
    both_ways (eqb (bit_and a b) a) (every n (λ i. not (bit a i) || bit b i))
    (λ e.
    let z = eqb-true (bit_and a b) a e in
    every_of (λ i. not (bit a i) || bit b i) n
    (λ i m. not-or (bit a i) (bit b i)
    (λ q. second_so (bit a i) (bit b i) (sym (bit-and a b i) ∙ ap (λ (x : ℕ). bit x i) z ∙ q))))
    (λ e.
    eq-eqb (bit_and a b) a
    (bits-one n (bit_and a b) a (omega (arith, and_le_l a b)) l
    (λ i m. bit-and a b i
    ∙ and_same (bit a i) (bit b i)
    (not-or-inv (bit a i) (bit b i) (every-at (λ i. not (bit a i) || bit b i) n i m e)))))
