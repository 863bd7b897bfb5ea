-- Base: the version, the probe, and the numbers of the platform.
use Rattle.std.specs.Prelude.{Bool, ◌||◌, ℕ, eqb}
use Rattle.rules.specs.Choice.{when◌then◌else◌}
use Rattle.rules.specs.Names.{BASE, IPI, RFENCE, HSM, PMU}

-- "version 3.0 is 50331648"
abbrev pub spec_version : ℕ
spec_version = 50331648

-- "probe (a0, all 64 bits) gives 1 for the five extensions, else 0"
unfoldable pub is_extension : ℕ → Bool
is_extension e = eqb e BASE || (eqb e IPI || (eqb e RFENCE || (eqb e HSM || eqb e PMU)))

-- what a probe of the extension e gives
unfoldable pub probed : ℕ → ℕ
probed e = when is_extension e then 1 else 0
