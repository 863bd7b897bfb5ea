-- A check and what is answered where it fails.
use Rattle.std.specs.Prelude.{Bool, true, false, Result, Ok, Err}

module _ {E : Type 0} where
  abbrev pub ensured : Bool → E → Result (Unit {0}) E
  ensured true e = Ok tt
  ensured false e = Err e
