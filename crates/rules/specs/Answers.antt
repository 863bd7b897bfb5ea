-- What the answers stand for: "Where an answer is an enum, there is a definition that gives this
-- paper's number and values for each of its cases."
--   error_number e     what a0 carries for an error
--   refusal_number k   the k of Hk
--   done v parked n    what was done: the value v, the mark, n actions
--   Answer             what was done, an error, or Hk
--   parked_in          whether an answer marks the caller parked
--   count_in           the number of actions in an answer
--   pair e v parked n  a pair: the error e, the value v, the mark, n actions
--   paired             the pair of an answer, or the refusal in its place
use Rattle.std.specs.Prelude.{ℕ, ℤ, Bool, false, Result, Ok, Err}
use Rattle.rules.specs.Names.{success, not_supported, invalid_param, invalid_address}
use Rattle.rules.specs.Names.{already_available, already_started, already_stopped, no_shared_memory}
use Rattle.rules.specs.Names.{not_well_formed, not_enabled, not_started, short_memory}
use Rattle.rules.specs.Names.{state_forbids, not_reportable, unknown_kind, block_check}
use Rattle.rules.specs.declared.answers.Error.{Error}
use Rattle.rules.specs.declared.answers.Error.TheVariants.{NotSupported, InvalidParam}
use Rattle.rules.specs.declared.answers.Error.TheVariants.{InvalidAddress, AlreadyAvailable}
use Rattle.rules.specs.declared.answers.Error.TheVariants.{AlreadyStarted, AlreadyStopped}
use Rattle.rules.specs.declared.answers.Error.TheVariants.{NoSharedMemory}
use Rattle.rules.specs.declared.answers.Refusal.{Refusal}
use Rattle.rules.specs.declared.answers.Refusal.TheVariants.{NotWellFormed, NotEnabled, NotStarted}
use Rattle.rules.specs.declared.answers.Refusal.TheVariants.{ShortMemory, StateForbids}
use Rattle.rules.specs.declared.answers.Refusal.TheVariants.{NotReportable, UnknownKind, BlockCheck}
use Rattle.rules.specs.declared.answers.Success.{Success}
use Rattle.rules.specs.declared.answers.Denial.{Denial}
use Rattle.rules.specs.declared.answers.Denial.TheVariants.{Failed, Refused}
use Rattle.rules.specs.declared.answers.Pair.{Pair}

-- "a0 carries the error as a negative number"
abbrev pub error_number : Error → ℤ
error_number NotSupported = not_supported
error_number InvalidParam = invalid_param
error_number InvalidAddress = invalid_address
error_number AlreadyAvailable = already_available
error_number AlreadyStarted = already_started
error_number AlreadyStopped = already_stopped
error_number NoSharedMemory = no_shared_memory

-- the k of Hk
abbrev pub refusal_number : Refusal → ℕ
refusal_number NotWellFormed = not_well_formed
refusal_number NotEnabled = not_enabled
refusal_number NotStarted = not_started
refusal_number ShortMemory = short_memory
refusal_number StateForbids = state_forbids
refusal_number NotReportable = not_reportable
refusal_number UnknownKind = unknown_kind
refusal_number BlockCheck = block_check

-- the value for a1, whether the caller is parked, and the number of actions
abbrev pub done : (value : ℕ) → (parked : Bool) → (actions : ℕ) → Success
done v k n = record { value = v; parked = k; actions = n }

-- what was done, an error, or Hk
abbrev pub Answer : Type 0
Answer = Result Success Denial

-- a refusal and an error mark nobody
abbrev pub parked_in : Answer → Bool
parked_in (Ok d) = d.parked
parked_in (Err d) = false

-- and give no action
abbrev pub count_in : Answer → ℕ
count_in (Ok d) = d.actions
count_in (Err d) = 0

-- the error, the value for a1, whether the caller is parked, and the number of actions
abbrev pub pair : (error : ℤ) → (value : ℕ) → (parked : Bool) → (actions : ℕ) → Pair
pair e v k n = record { error = e; value = v; parked = k; actions = n }

-- "a1 is 0 on every error", which marks nobody and gives no action; "Host refusals come instead of
-- a pair"
abbrev pub paired : Answer → Result Pair Refusal
paired (Ok d) = Ok (pair success d.value d.parked d.actions)
paired (Err (Failed e)) = Ok (pair (error_number e) 0 false 0)
paired (Err (Refused k)) = Err k
