-- Interrupts and remote fences. "Fences FID 0 to 6: FENCE.I, SFENCE.VMA, SFENCE.VMA ASID,
-- HFENCE.GVMA VMID, HFENCE.GVMA, HFENCE.VVMA ASID, HFENCE.VVMA."
use Rattle.std.specs.Prelude.{Bool, true, not, ◌&&◌, ◌||◌, List, [], ◌∷◌, ℕ, ◌+◌, ◌^◌, ltb, leb}
use Rattle.std.specs.Prelude.{◌≡◌, ◌≤◌, eqb, get_or, Result, Ok, Err}
use Rattle.rules.specs.declared.answers.Error.{Error}
use Rattle.rules.specs.Choice.{when◌then◌else◌}
use Rattle.rules.specs.Sets.{ones, all}
use Rattle.rules.specs.Names.{interrupt_kind, fence_kind, interrupt_sent}
use Rattle.rules.specs.Platform.{width, hypervisor}
use Rattle.rules.specs.Masks.{selected, selection_fits, reached, send_to}
use Rattle.rules.specs.Replies.{View, Plain, fails}
use Rattle.rules.specs.declared.platform.Platform.{Platform}
use Rattle.rules.specs.declared.actions.Fence.{Fence}
use Rattle.rules.specs.declared.actions.Fence.TheVariants.{FenceI, SfenceVma, SfenceVmaAsid}
use Rattle.rules.specs.declared.actions.Fence.TheVariants.{HfenceGvmaVmid, HfenceGvma}
use Rattle.rules.specs.declared.actions.Fence.TheVariants.{HfenceVvmaAsid, HfenceVvma}
use Rattle.rules.specs.declared.answers.Error.TheVariants.{NotSupported, InvalidParam}
use Rattle.rules.specs.declared.answers.Error.TheVariants.{InvalidAddress}

-- "Fences FID 0 to 6": the function of each
abbrev pub function_of : Fence → ℕ
function_of FenceI = 0
function_of SfenceVma = 1
function_of SfenceVmaAsid = 2
function_of HfenceGvmaVmid = 3
function_of HfenceGvma = 4
function_of HfenceVvmaAsid = 5
function_of HfenceVvma = 6

-- what a number is taken for: the fence whose function it is, or -2 where there is none
abbrev pub FenceGiven : (fid : ℕ) → Result Fence Error → Type 0
FenceGiven fid (Ok f) = function_of f ≡ fid
FenceGiven fid (Err e) = (e ≡ NotSupported) × (7 ≤ fid)

-- "Sent codes: .. fences FID 0 to 6: 8, 10, 12, 16, 14, 20, 18."
abbrev pub sent_codes : List ℕ
sent_codes = 8 ∷ 10 ∷ 12 ∷ 16 ∷ 14 ∷ 20 ∷ 18 ∷ []

-- the code of a fence by its function
unfoldable pub sent_code : (fid : ℕ) → ℕ
sent_code f = get_or sent_codes f 0

-- "ASID or VMID below 2^width": FID 2 and 5 have an ASID, FID 3 a VMID, the others none
unfoldable pub id_valid : Platform → (fid id : ℕ) → Bool
id_valid p f i =
    when eqb f 2 || eqb f 5 then ltb i (2 ^ p.asid)
    else when eqb f 3 then ltb i (2 ^ p.vmid)
    else true

-- "hypervisor extension on every selected hart for FID 3 to 6"
unfoldable pub hypervisors_fit : Platform → (fid : ℕ) → (selected : List ℕ) → Bool
hypervisors_fit p f hs = when leb 3 f then all (hypervisor p) hs else true

-- "The range is the whole space if start and size are both 0, or size is 2^64 - 1 with any start.
-- Otherwise start + size may be at most 2^64. Size 0 with another start is accepted as it stands
-- (house)."
unfoldable pub range_valid : (w start size : ℕ) → Bool
range_valid w s n = (eqb s 0 && eqb n 0) || (eqb n (ones w) || leb (s + n) (2 ^ w))

-- an interrupt: "any selected number not enabled gives -3"; "2 interrupt (three zeros)"
unfoldable pub interrupt_reply : Platform → View → (mask base : ℕ) → Plain
interrupt_reply p v m base =
    when not (selection_fits p m base) then fails InvalidParam
    else send_to interrupt_kind 0 0 0 interrupt_sent (reached p v.harts m base)

-- "Order: harts (-3), ASID or VMID below 2^width (-3), hypervisor extension on every selected hart
-- for FID 3 to 6 (-2), range (-5)." Words that a fence has not are 0; "otherwise the arguments
-- unaltered". "The caller's VMID for FID 5 and 6 is the host's to add (house)."
unfoldable pub fence_reply : Platform → View → (fid mask base start size id : ℕ) → Plain
fence_reply p v f m base s n i =
    when not (selection_fits p m base) then fails InvalidParam
    else when not (id_valid p f i) then fails InvalidParam
    else when not (hypervisors_fit p f (selected p m base)) then fails NotSupported
    else when not (range_valid (width p) s n) then fails InvalidAddress
    else send_to (fence_kind + f) s n i (sent_code f) (reached p v.harts m base)
