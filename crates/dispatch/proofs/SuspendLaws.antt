-- A suspend by the two tests that the code joins: that the type is one of the two, and that the address of one that is
-- not retentive is valid.
use mathlib.Core.Bool.{Bool, true, false, ◌||◌}
use mathlib.Core.List.{[]}
use mathlib.Core.Path.{◌≡◌, refl, sym}
use Prim.Native.Nat.{ℕ}
use lib.Dec.{eqb}
use lib.ListN.{set}
use borrow.Author.Tests.{eqb-true, eqb-false}
use Rattle.std.proofs.lemmas.Bool.{false≢true}
use Rattle.rules.specs.Names.{retentive_type, non_retentive_type}
use Rattle.rules.specs.Platform.{valid_address}
use Rattle.rules.specs.Harts.{suspend_of, suspend_reply}
use Rattle.rules.specs.Replies.{View, failed, moves}
use Rattle.rules.specs.declared.platform.Platform.{Platform}
use Rattle.rules.specs.declared.answers.Error.TheVariants.{InvalidParam, InvalidAddress}
use Rattle.rules.proofs.Logic.{by_cases, or_right}
use Rattle.rules.proofs.HartWays.{suspend-retentive, suspend-no-type, suspend-nowhere, suspend-given}

-- neither of two tests
neither : (a b : Bool) → (a || b) ≡ false → (a ≡ false) × (b ≡ false)
neither true b e = absurd (false≢true (sym e))
neither false b e = (refl, e)

module _ (p : Platform) (v : View) (h y a o : ℕ) where
  pub suspend-unknown : (eqb y retentive_type || eqb y non_retentive_type) ≡ false
      → suspend_reply p v h y a o ≡ failed InvalidParam
  suspend-unknown e =
      let n = neither _ _ e in
      suspend-no-type p v h y a o (eqb-false _ _ n.0) (eqb-false _ _ n.1)

  module _ (known : (eqb y retentive_type || eqb y non_retentive_type) ≡ true) where
    pub suspend-unplaced : (eqb y retentive_type || valid_address p a) ≡ false
        → suspend_reply p v h y a o ≡ failed InvalidAddress
    suspend-unplaced e =
        let n = neither _ _ e in
        suspend-nowhere p v h y a o (eqb-false _ _ n.0) (eqb-true _ _ (or_right _ _ known n.0)) n.1

    pub suspend-placed : (eqb y retentive_type || valid_address p a) ≡ true
        → suspend_reply p v h y a o ≡ moves v true [] (set v.harts h (suspend_of (eqb y retentive_type) a o))
    suspend-placed e =
        by_cases (eqb y retentive_type)
        (λ r. rw r (suspend-retentive p v h y a o (eqb-true _ _ r)))
        (λ n. rw n
        (suspend-given p v h y a o (eqb-false _ _ n) (eqb-true _ _ (or_right _ _ known n)) (or_right _ _ e n)))
