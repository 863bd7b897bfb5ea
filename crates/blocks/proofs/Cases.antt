-- The record of nine words by the tests of its first word.
use Rattle.std.proofs.Common.{◌≡◌, ℕ, Bool, true, false, cond, List, get_or, refl}
use Rattle.std.proofs.lemmas.Bool.Decides.{nat_tests}
use Rattle.rules.specs.Choice.{when◌then◌else◌}
use Rattle.blocks.specs.Blocks.{record_at, record_of}

pub record_at-first : (ws : List ℕ) → record_at ws 0 ≡ record_of (get_or ws 0 0) (get_or ws 1 0) (get_or ws 2 0) (get_or ws 3 0) (get_or ws 4 0) (get_or ws 5 0) (get_or ws 6 0) (get_or ws 7 0) (get_or ws 8 0)
unfolding record_at
record_at-first ws = refl

pub when-cond : {A : Type 0} (b : Bool) (x y : A) → (when b then x else y) ≡ cond b x y
unfolding when◌then◌else◌
when-cond true x y = refl
when-cond false x y = refl

pub ruleset kinds = (record_at-first, when-cond, nat_tests)
