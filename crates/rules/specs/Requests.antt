-- What a call asks for: which registers each function reads, and no others.
-- "Any other EID or FID, compared over all 64 bits of a7 and a6 (house), answers -2."
use Rattle.std.specs.Prelude.{◌||◌, ℕ, ◌^◌, ◌%◌, leb, eqb}
use Rattle.rules.specs.Choice.{when◌then◌else◌}
use Rattle.rules.specs.Names.{BASE, IPI, RFENCE, HSM, PMU}
use Rattle.rules.specs.declared.answers.Registers.{Registers}

-- the three calls that stand in a row, and so alter a hart's record
pub data LifeRequest : Type 0 where
  hart_start : (target address opaque : ℕ) → LifeRequest
  hart_stop : LifeRequest
  hart_suspend : (type address opaque : ℕ) → LifeRequest

-- all others
pub data PlainRequest : Type 0 where
  base_version base_implementation base_implementation_version base_vendor base_architecture
      base_machine : PlainRequest
  base_probe : (eid : ℕ) → PlainRequest
  interrupt : (mask base : ℕ) → PlainRequest
  fence : (fid mask base start size id : ℕ) → PlainRequest
  hart_status : (target : ℕ) → PlainRequest
  counter_count : PlainRequest
  counter_details : (i : ℕ) → PlainRequest
  counter_configure : (base mask flags event data' : ℕ) → PlainRequest
  counter_start : (base mask flags initial : ℕ) → PlainRequest
  counter_stop : (base mask flags : ℕ) → PlainRequest
  counter_read counter_read_high : (i : ℕ) → PlainRequest
  unknown : PlainRequest

-- what a call asks for
pub data Request : Type 0 where
  life : LifeRequest → Request
  other : PlainRequest → Request

-- "Base, seven functions: version ..; probe (a0, all 64 bits) ..; the rest come from the platform."
unfoldable pub base_request : Registers → PlainRequest
base_request r =
    when eqb r.a6 0 then base_version
    else when eqb r.a6 1 then base_implementation
    else when eqb r.a6 2 then base_implementation_version
    else when eqb r.a6 3 then base_probe r.a0
    else when eqb r.a6 4 then base_vendor
    else when eqb r.a6 5 then base_architecture
    else when eqb r.a6 6 then base_machine
    else unknown

-- IPI, one function: the mask and its base
unfoldable pub interrupt_request : Registers → PlainRequest
interrupt_request r = when eqb r.a6 0 then interrupt r.a0 r.a1 else unknown

-- "FENCE.I has no range"; only FID 2, 3 and 5 have an ASID or VMID; "absent words 0"
unfoldable pub fence_request : Registers → PlainRequest
fence_request r =
    when eqb r.a6 0 then fence 0 r.a0 r.a1 0 0 0
    else when eqb r.a6 2 || (eqb r.a6 3 || eqb r.a6 5) then fence r.a6 r.a0 r.a1
    r.a2 r.a3 r.a4
    else when leb r.a6 6 then fence r.a6 r.a0 r.a1 r.a2 r.a3 0
    else unknown

-- Suspend: "Only the low 32 bits of a0 are read."
unfoldable pub hart_request : Registers → Request
hart_request r =
    when eqb r.a6 0 then life (hart_start r.a0 r.a1 r.a2)
    else when eqb r.a6 1 then life hart_stop
    else when eqb r.a6 2 then other (hart_status r.a0)
    else when eqb r.a6 3 then life (hart_suspend (r.a0 % 2 ^ 32) r.a1 r.a2)
    else other unknown

-- "PMU functions 7 and 8 answer -2 for now"
unfoldable pub counter_request : Registers → PlainRequest
counter_request r =
    when eqb r.a6 0 then counter_count
    else when eqb r.a6 1 then counter_details r.a0
    else when eqb r.a6 2 then counter_configure r.a0 r.a1 r.a2 r.a3 r.a4
    else when eqb r.a6 3 then counter_start r.a0 r.a1 r.a2 r.a3
    else when eqb r.a6 4 then counter_stop r.a0 r.a1 r.a2
    else when eqb r.a6 5 then counter_read r.a0
    else when eqb r.a6 6 then counter_read_high r.a0
    else unknown

-- what the registers of a call ask for, by the extension in a7
unfoldable pub request : Registers → Request
request r =
    when eqb r.a7 BASE then other (base_request r)
    else when eqb r.a7 IPI then other (interrupt_request r)
    else when eqb r.a7 RFENCE then other (fence_request r)
    else when eqb r.a7 HSM then hart_request r
    else when eqb r.a7 PMU then other (counter_request r)
    else other unknown
