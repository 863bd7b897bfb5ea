-- One choice for every definition: `when test then this else that`.
-- It stays shut until a proof opens it, so that a goal shows its test and both arms; its laws are
-- in proofs/Logic.
use Rattle.std.specs.Prelude.{Bool, true, false}

module _ {A : Type 0} where
  infixr 10 when◌then◌else◌
  unfoldable pub when◌then◌else◌ : Bool → A → A → A
  when true then x else y = x
  when false then x else y = y
