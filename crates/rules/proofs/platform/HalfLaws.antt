-- Laws of the two words of a set of harts, 64 harts each.
use mathlib.Core.Path.{◌≡◌, sym, ap, ap₂, ◌∙◌}
use mathlib.Core.Bool.{Bool, not, ◌&&◌, ◌||◌, and-true, and_assoc}
use Prim.Native.Nat.{ℕ, zero, suc, ◌+◌, ◌-◌, ◌^◌, ◌<◌}
use native.Mathlib.Omega.{arith}
use lib.Bits.{bit_and}
use lib.Dec.{eqb}
use borrow.Author.Tests.{lt-ltb, le-ltb}
use Rattle.rules.specs.Names.{harts}
use Rattle.rules.specs.Sets.{bit, every}
use Rattle.rules.specs.Platform.{has}
use Rattle.rules.specs.declared.platform.HartSet.{HartSet}
use Rattle.rules.proofs.Logic.{if-true, if-false}
use Rattle.rules.proofs.SetLaws.{every-ext}
use Rattle.rules.proofs.platform.BitLaws.{subset-word}

pub has-low : (s : HartSet) (k : ℕ) → k < 64 → has s k ≡ bit s.low k
unfolding has
has-low s k l = if-true _ _ (lt-ltb k 64 l)

pub has-high : (s : HartSet) (k : ℕ) → k < 64 → has s (64 + k) ≡ bit s.high k
unfolding has
has-high s k l =
    if-false _ _ (le-ltb (64 + k) 64 (omega arith)) ∙ if-true _ _ (lt-ltb (64 + k) harts (omega arith))
    ∙ ap (bit s.high) (let z : 64 + k - 64 ≡ k = omega arith in z)

every-from : (n k : ℕ) (f : ℕ → Bool) → k ≡ 64 + n → every k f ≡ (every 64 f && every n (λ i. f (64 + i)))
unfolding every
every-from zero k f e = ap (λ (j : ℕ). every j f) (let z : k ≡ 64 = omega arith in z) ∙ sym (and-true (every 64 f))
every-from (suc n) zero f e = absurd (omega arith)
every-from (suc n) (suc k) f e =
    let q : k ≡ 64 + n = omega arith in
    ap₂ ◌&&◌ (every-from n k f q) (ap f q) ∙ and_assoc (every 64 f) (every n (λ i. f (64 + i))) (f (64 + n))

pub every-halves : (f : ℕ → Bool) → every harts f ≡ (every 64 f && every 64 (λ i. f (64 + i)))
every-halves f = every-from 64 harts f (omega arith)

pub subset_words : (s r : HartSet) → s.low < 2 ^ 64 → s.high < 2 ^ 64
    → every harts (λ h. not (has s h) || has r h)
    ≡ (eqb (bit_and s.low r.low) s.low && eqb (bit_and s.high r.high) s.high)
subset_words s r l m =
    every-halves (λ h. not (has s h) || has r h)
    ∙ ap₂ ◌&&◌
    (every-ext _ _ 64 (λ i k. ap₂ (λ (a b : Bool). not a || b) (has-low s i k) (has-low r i k))
    ∙ sym (subset-word 64 s.low r.low l))
    (every-ext _ _ 64 (λ i k. ap₂ (λ (a b : Bool). not a || b) (has-high s i k) (has-high r i k))
    ∙ sym (subset-word 64 s.high r.high m))
