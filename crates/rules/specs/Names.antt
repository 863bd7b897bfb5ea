-- Every number of document 01 under its name there. The code's constants are those of
-- src/numbers.rt.
use Rattle.std.specs.Prelude.{ℕ, ◌^◌, ℤ, pos, negsuc}

-- ----- what there is: "Hart numbers 0 to 127. Eight counters a hart."

abbrev pub harts : ℕ
harts = 128

abbrev pub counters : ℕ
counters = 8

-- "0 to 8 memory ranges, ASID width 0 to 16 bits, VMID width 0 to 14 bits"
abbrev pub max_ranges : ℕ
max_ranges = 8

abbrev pub max_asid_width : ℕ
max_asid_width = 16

abbrev pub max_vmid_width : ℕ
max_vmid_width = 14

-- "Details: 2^63": a firmware counter
abbrev pub firmware_counter : ℕ
firmware_counter = 2 ^ 63

-- "action memory under 640 words": five words for each of 128 harts
abbrev pub action_memory : ℕ
action_memory = 640

-- ----- extensions, as a7 holds them

abbrev pub BASE : ℕ
BASE = 0x10

abbrev pub IPI : ℕ
IPI = 0x735049

abbrev pub RFENCE : ℕ
RFENCE = 0x52464E43

abbrev pub HSM : ℕ
HSM = 0x48534D

abbrev pub PMU : ℕ
PMU = 0x504D55

-- ----- errors: "a0 carries the error as a negative number". `negsuc n` is -(n + 1).

abbrev pub success : ℤ
success = pos 0

-- -2
abbrev pub not_supported : ℤ
not_supported = negsuc 1

-- -3
abbrev pub invalid_param : ℤ
invalid_param = negsuc 2

-- -5
abbrev pub invalid_address : ℤ
invalid_address = negsuc 4

-- -6
abbrev pub already_available : ℤ
already_available = negsuc 5

-- -7
abbrev pub already_started : ℤ
already_started = negsuc 6

-- -8
abbrev pub already_stopped : ℤ
already_stopped = negsuc 7

-- -9
abbrev pub no_shared_memory : ℤ
no_shared_memory = negsuc 8

-- ----- host refusals: the k of Hk

-- "platform or tables not well formed"
abbrev pub not_well_formed : ℕ
not_well_formed = 1

-- "the hart number is not enabled or is over 127"
abbrev pub not_enabled : ℕ
not_enabled = 2

-- "a call from a hart not STARTED"
abbrev pub not_started : ℕ
not_started = 3

-- "action memory under 640 words (calls, completions, wakes)"
abbrev pub short_memory : ℕ
short_memory = 4

-- "completion or wake that the hart's state does not allow"
abbrev pub state_forbids : ℕ
state_forbids = 5

-- "reported firmware event code over 5"
abbrev pub not_reportable : ℕ
not_reportable = 6

-- "unknown record kind (program only)"
abbrev pub unknown_kind : ℕ
unknown_kind = 7

-- "block check wrong (program only)"
abbrev pub block_check : ℕ
block_check = 8

-- ----- hart states: "0 STARTED, 1 STOPPED, 2 START_PENDING, 3 STOP_PENDING, 4 SUSPENDED,
-- 5 SUSPEND_PENDING, 6 RESUME_PENDING"

abbrev pub STARTED : ℕ
STARTED = 0

abbrev pub STOPPED : ℕ
STOPPED = 1

abbrev pub START_PENDING : ℕ
START_PENDING = 2

abbrev pub STOP_PENDING : ℕ
STOP_PENDING = 3

abbrev pub SUSPENDED : ℕ
SUSPENDED = 4

abbrev pub SUSPEND_PENDING : ℕ
SUSPEND_PENDING = 5

abbrev pub RESUME_PENDING : ℕ
RESUME_PENDING = 6

-- suspend types: "Type 0 is retentive ..; type 0x80000000 is not"
abbrev pub retentive_type : ℕ
retentive_type = 0

abbrev pub non_retentive_type : ℕ
non_retentive_type = 0x80000000

-- ----- action kinds: "1 enter at an address .., 2 interrupt .., 3 to 9 fences FID 0 to 6"

abbrev pub enter_kind : ℕ
enter_kind = 1

abbrev pub interrupt_kind : ℕ
interrupt_kind = 2

abbrev pub fence_kind : ℕ
fence_kind = 3

-- ----- firmware events: "Events 0xF0000 to 0xF0015 only", so codes 0 to 21; "The host reports
-- codes 0 to 5."

abbrev pub first_event : ℕ
first_event = 0xF0000

abbrev pub last_event : ℕ
last_event = 0xF0015

abbrev pub last_code : ℕ
last_code = 21

-- how many codes there are
abbrev pub codes : ℕ
codes = 22

abbrev pub last_reported : ℕ
last_reported = 5

-- "Sent codes: interrupt 6"
abbrev pub interrupt_sent : ℕ
interrupt_sent = 6
