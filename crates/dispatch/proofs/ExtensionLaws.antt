-- What a number tells that is an extension's, or none's.
use mathlib.Core.Path.{◌≡◌, refl, sym, ◌∙◌}
use Prim.Native.Nat.{ℕ}
use native.Mathlib.Omega.{arith}
use borrow.Author.Tests.{ne_eqb}
use Rattle.rules.specs.Choice.{when◌then◌else◌}
use Rattle.rules.specs.Names.{BASE, IPI, RFENCE, HSM, PMU}
use Rattle.rules.specs.Base.{is_extension, probed}
use Rattle.rules.specs.Requests.{other, request, unknown}
use Rattle.rules.specs.declared.answers.Registers.{Registers}
use Rattle.rules.proofs.RequestWays.{request-unknown}
use Rattle.dispatch.specs.Extensions.{eid_of}
use Rattle.dispatch.specs.declared.extensions.Extension.{Extension}
use Rattle.dispatch.specs.declared.extensions.Extension.TheVariants.{Base, Ipi, Rfence, Hsm, Pmu}

-- a probe finds each extension
pub probe_finds : (x : Extension) → probed (eid_of x) ≡ 1
unfolding probed is_extension when◌then◌else◌
probe_finds Base = refl
probe_finds Ipi = refl
probe_finds Rfence = refl
probe_finds Hsm = refl
probe_finds Pmu = refl

-- and no other number
pub probe_misses : (e : ℕ) → (e ≡ BASE → ⊥) → (e ≡ IPI → ⊥) → (e ≡ RFENCE → ⊥) → (e ≡ HSM → ⊥) → (e ≡ PMU → ⊥)
    → probed e ≡ 0
unfolding probed is_extension when◌then◌else◌
probe_misses e b i r h p = rw (ne_eqb _ _ b, ne_eqb _ _ i, ne_eqb _ _ r, ne_eqb _ _ h, ne_eqb _ _ p) refl

-- what no probe finds asks for nothing
module _ (r : Registers) (none : probed r.a7 ≡ 0) where
  not-this : (x : Extension) → r.a7 ≡ eid_of x → ⊥
  not-this x e = let z : ◌≡◌ {A = ℕ} 0 1 = sym none ∙ (rw e (probe_finds x)) in omega (arith, z)

  pub asks-nothing : request r ≡ other unknown
  asks-nothing = request-unknown r (not-this Base) (not-this Ipi) (not-this Rfence) (not-this Hsm) (not-this Pmu)
