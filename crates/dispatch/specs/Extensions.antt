-- The extensions by their numbers.
use Rattle.std.specs.Prelude.{◌≡◌, ℕ, Result, Ok, Err}
use Rattle.rules.specs.Names.{BASE, IPI, RFENCE, HSM, PMU}
use Rattle.rules.specs.Base.{probed}
use Rattle.rules.specs.declared.answers.Error.{Error}
use Rattle.rules.specs.declared.answers.Error.TheVariants.{NotSupported}
use Rattle.dispatch.specs.declared.extensions.Extension.{Extension}
use Rattle.dispatch.specs.declared.extensions.Extension.TheVariants.{Base, Ipi, Rfence, Hsm, Pmu}

-- its EID
abbrev pub eid_of : Extension → ℕ
eid_of Base = BASE
eid_of Ipi = IPI
eid_of Rfence = RFENCE
eid_of Hsm = HSM
eid_of Pmu = PMU

-- what a number is taken for: the extension whose EID it is, or -2 where a probe finds none
abbrev pub ExtensionGiven : (eid : ℕ) → Result Extension Error → Type 0
ExtensionGiven eid (Ok x) = eid_of x ≡ eid
ExtensionGiven eid (Err e) = (probed eid ≡ 0) × (e ≡ NotSupported)
