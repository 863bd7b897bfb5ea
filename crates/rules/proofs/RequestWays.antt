-- Which request a call's registers make, by its extension and its function.
use mathlib.Core.Path.{◌≡◌, refl}
use Prim.Native.Nat.{◌^◌, ◌%◌, ◌<◌}
use native.Mathlib.Omega.{arith}
use borrow.Author.Tests.{ne_eqb}
use Rattle.rules.specs.Choice.{when◌then◌else◌}
use Rattle.rules.specs.Names.{BASE, IPI, RFENCE, HSM, PMU}
use Rattle.rules.specs.Requests.{hart_start, hart_stop, hart_suspend, life, other, base_version, base_implementation}
use Rattle.rules.specs.Requests.{base_implementation_version, base_probe, base_vendor, base_architecture}
use Rattle.rules.specs.Requests.{base_machine, interrupt, hart_status, counter_count, counter_details}
use Rattle.rules.specs.Requests.{counter_configure, counter_start, counter_stop, counter_read, counter_read_high}
use Rattle.rules.specs.Requests.{unknown, base_request, interrupt_request, fence_request, hart_request}
use Rattle.rules.specs.Requests.{counter_request, request}
use Rattle.rules.specs.declared.answers.Registers.{Registers}

module _ (r : Registers) where
  -- ----- the extension

  pub request-base : r.a7 ≡ BASE → request r ≡ other (base_request r)
  unfolding request when◌then◌else◌
  request-base e = rw e refl

  pub request-ipi : r.a7 ≡ IPI → request r ≡ other (interrupt_request r)
  unfolding request when◌then◌else◌
  request-ipi e = rw e refl

  pub request-rfence : r.a7 ≡ RFENCE → request r ≡ other (fence_request r)
  unfolding request when◌then◌else◌
  request-rfence e = rw e refl

  pub request-hsm : r.a7 ≡ HSM → request r ≡ hart_request r
  unfolding request when◌then◌else◌
  request-hsm e = rw e refl

  pub request-pmu : r.a7 ≡ PMU → request r ≡ other (counter_request r)
  unfolding request when◌then◌else◌
  request-pmu e = rw e refl

  pub request-unknown : (r.a7 ≡ BASE → ⊥) → (r.a7 ≡ IPI → ⊥) → (r.a7 ≡ RFENCE → ⊥) → (r.a7 ≡ HSM → ⊥)
      → (r.a7 ≡ PMU → ⊥)
      → request r ≡ other unknown
  unfolding request when◌then◌else◌
  request-unknown a b c d e = rw (ne_eqb _ _ a, ne_eqb _ _ b, ne_eqb _ _ c, ne_eqb _ _ d, ne_eqb _ _ e) refl

  -- ----- interrupts

  pub interrupt-0 : r.a6 ≡ 0 → interrupt_request r ≡ interrupt r.a0 r.a1
  unfolding interrupt_request when◌then◌else◌
  interrupt-0 e = rw e refl

  pub interrupt-unknown : (r.a6 ≡ 0 → ⊥) → interrupt_request r ≡ unknown
  unfolding interrupt_request when◌then◌else◌
  interrupt-unknown n = rw (ne_eqb _ _ n) refl

  -- ----- Base

  pub base-0 : r.a6 ≡ 0 → base_request r ≡ base_version
  unfolding base_request when◌then◌else◌
  base-0 e = rw e refl

  pub base-1 : r.a6 ≡ 1 → base_request r ≡ base_implementation
  unfolding base_request when◌then◌else◌
  base-1 e = rw e refl

  pub base-2 : r.a6 ≡ 2 → base_request r ≡ base_implementation_version
  unfolding base_request when◌then◌else◌
  base-2 e = rw e refl

  pub base-3 : r.a6 ≡ 3 → base_request r ≡ base_probe r.a0
  unfolding base_request when◌then◌else◌
  base-3 e = rw e refl

  pub base-4 : r.a6 ≡ 4 → base_request r ≡ base_vendor
  unfolding base_request when◌then◌else◌
  base-4 e = rw e refl

  pub base-5 : r.a6 ≡ 5 → base_request r ≡ base_architecture
  unfolding base_request when◌then◌else◌
  base-5 e = rw e refl

  pub base-6 : r.a6 ≡ 6 → base_request r ≡ base_machine
  unfolding base_request when◌then◌else◌
  base-6 e = rw e refl

  pub base-unknown : 6 < r.a6 → base_request r ≡ unknown
  unfolding base_request when◌then◌else◌
  base-unknown l =
      rw (
        ne_eqb r.a6 0 (λ e. omega arith),
        ne_eqb r.a6 1 (λ e. omega arith),
        ne_eqb r.a6 2 (λ e. omega arith),
        ne_eqb r.a6 3 (λ e. omega arith),
        ne_eqb r.a6 4 (λ e. omega arith),
        ne_eqb r.a6 5 (λ e. omega arith),
        ne_eqb r.a6 6 (λ e. omega arith),
      ) refl

  -- ----- hart state

  pub hart-0 : r.a6 ≡ 0 → hart_request r ≡ life (hart_start r.a0 r.a1 r.a2)
  unfolding hart_request when◌then◌else◌
  hart-0 e = rw e refl

  pub hart-1 : r.a6 ≡ 1 → hart_request r ≡ life hart_stop
  unfolding hart_request when◌then◌else◌
  hart-1 e = rw e refl

  pub hart-2 : r.a6 ≡ 2 → hart_request r ≡ other (hart_status r.a0)
  unfolding hart_request when◌then◌else◌
  hart-2 e = rw e refl

  pub hart-3 : r.a6 ≡ 3 → hart_request r ≡ life (hart_suspend (r.a0 % 2 ^ 32) r.a1 r.a2)
  unfolding hart_request when◌then◌else◌
  hart-3 e = rw e refl

  pub hart-unknown : 3 < r.a6 → hart_request r ≡ other unknown
  unfolding hart_request when◌then◌else◌
  hart-unknown l =
      rw (
        ne_eqb r.a6 0 (λ e. omega arith),
        ne_eqb r.a6 1 (λ e. omega arith),
        ne_eqb r.a6 2 (λ e. omega arith),
        ne_eqb r.a6 3 (λ e. omega arith),
      ) refl

  -- ----- performance counters

  pub counter-0 : r.a6 ≡ 0 → counter_request r ≡ counter_count
  unfolding counter_request when◌then◌else◌
  counter-0 e = rw e refl

  pub counter-1 : r.a6 ≡ 1 → counter_request r ≡ counter_details r.a0
  unfolding counter_request when◌then◌else◌
  counter-1 e = rw e refl

  pub counter-2 : r.a6 ≡ 2 → counter_request r ≡ counter_configure r.a0 r.a1 r.a2 r.a3 r.a4
  unfolding counter_request when◌then◌else◌
  counter-2 e = rw e refl

  pub counter-3 : r.a6 ≡ 3 → counter_request r ≡ counter_start r.a0 r.a1 r.a2 r.a3
  unfolding counter_request when◌then◌else◌
  counter-3 e = rw e refl

  pub counter-4 : r.a6 ≡ 4 → counter_request r ≡ counter_stop r.a0 r.a1 r.a2
  unfolding counter_request when◌then◌else◌
  counter-4 e = rw e refl

  pub counter-5 : r.a6 ≡ 5 → counter_request r ≡ counter_read r.a0
  unfolding counter_request when◌then◌else◌
  counter-5 e = rw e refl

  pub counter-6 : r.a6 ≡ 6 → counter_request r ≡ counter_read_high r.a0
  unfolding counter_request when◌then◌else◌
  counter-6 e = rw e refl

  pub counter-unknown : 6 < r.a6 → counter_request r ≡ unknown
  unfolding counter_request when◌then◌else◌
  counter-unknown l =
      rw (
        ne_eqb r.a6 0 (λ e. omega arith),
        ne_eqb r.a6 1 (λ e. omega arith),
        ne_eqb r.a6 2 (λ e. omega arith),
        ne_eqb r.a6 3 (λ e. omega arith),
        ne_eqb r.a6 4 (λ e. omega arith),
        ne_eqb r.a6 5 (λ e. omega arith),
        ne_eqb r.a6 6 (λ e. omega arith),
      ) refl
