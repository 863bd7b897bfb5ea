-- Firmware events and what fences hand on, by the standard's names, and how often an event is
-- counted. In specs/ only the promises cite this file.
use Rattle.std.specs.Prelude.{List, [], ◌∷◌, ℕ, zero, suc, eqb}
use Rattle.rules.specs.Choice.{when◌then◌else◌}
use Rattle.rules.specs.declared.actions.Fence.{Fence}
use Rattle.rules.specs.declared.actions.Fence.TheVariants.{FenceI, SfenceVma, SfenceVmaAsid}
use Rattle.rules.specs.declared.actions.Fence.TheVariants.{HfenceGvmaVmid, HfenceGvma}
use Rattle.rules.specs.declared.actions.Fence.TheVariants.{HfenceVvmaAsid, HfenceVvma}
use Rattle.rules.specs.declared.answers.Registers.{Registers}

-- the code that the standard gives to each event "Sent .. request to other hart"
abbrev pub sent_event : Fence → ℕ
sent_event FenceI = 8
sent_event SfenceVma = 10
sent_event SfenceVmaAsid = 12
sent_event HfenceGvma = 14
sent_event HfenceGvmaVmid = 16
sent_event HfenceVvma = 18
sent_event HfenceVvmaAsid = 20

-- what each fence hands on of its arguments: FENCE.I nothing, those with an ASID or VMID that too
pub data Operands : Type 0 where
  nothing range range_and_id : Operands

-- which of these each fence has
abbrev pub operands_of : Fence → Operands
operands_of FenceI = nothing
operands_of SfenceVma = range
operands_of SfenceVmaAsid = range_and_id
operands_of HfenceGvmaVmid = range_and_id
operands_of HfenceGvma = range
operands_of HfenceVvmaAsid = range_and_id
operands_of HfenceVvma = range

-- "absent words 0; otherwise the arguments unaltered"
abbrev pub start_in : Operands → Registers → ℕ
start_in nothing q = 0
start_in range q = q.a2
start_in range_and_id q = q.a2

-- the size, where there is one
abbrev pub size_in : Operands → Registers → ℕ
size_in nothing q = 0
size_in range q = q.a3
size_in range_and_id q = q.a3

-- the ASID or VMID, where there is one
abbrev pub id_in : Operands → Registers → ℕ
id_in nothing q = 0
id_in range q = 0
id_in range_and_id q = q.a4

-- f, n times over
unfoldable pub times : {A : Type 0} → ℕ → (A → A) → A → A
times zero f c = c
times (suc n) f c = times n f (f c)

-- how many of some harts are not h
unfoldable pub others : ℕ → List ℕ → ℕ
others h [] = 0
others h (k ∷ ks) = when eqb k h then others h ks else suc (others h ks)

-- how many of some harts are k
unfoldable pub occurs : ℕ → List ℕ → ℕ
occurs k [] = 0
occurs k (j ∷ ks) = when eqb j k then suc (occurs k ks) else occurs k ks
