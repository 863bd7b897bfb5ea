-- The promises on refusals, errors and answers. Each statement stands under its sentence.
use mathlib.Core.List.{Memᴰ, List, [], ◌∷◌, map}
use Rattle.std.specs.Prelude.{Bool, ◌&&◌, ◌||◌, true, false, ◌≡◌, ◌<◌, ℕ, length, eqb, ℤ, None}
use Rattle.std.specs.Prelude.{Ok, Err, negsuc}
use Rattle.rules.specs.Answers.{done, error_number, refusal_number, parked_in, count_in}
use Rattle.rules.specs.Answers.{pair, paired}
use Rattle.rules.specs.Requests.{LifeRequest, PlainRequest, Request, base_architecture}
use Rattle.rules.specs.Requests.{base_implementation, base_implementation_version, base_machine}
use Rattle.rules.specs.Requests.{base_probe, base_vendor, base_version, counter_configure}
use Rattle.rules.specs.Requests.{counter_count, counter_details, counter_read, counter_read_high}
use Rattle.rules.specs.Requests.{counter_start, counter_stop, fence, hart_start, hart_status}
use Rattle.rules.specs.Requests.{hart_stop, hart_suspend, interrupt, life, other, request}
use Rattle.rules.specs.Requests.{unknown}
use Rattle.rules.specs.Names.{last_reported, STARTED, HSM, success, not_supported}
use Rattle.rules.specs.Names.{invalid_param, invalid_address, already_available}
use Rattle.rules.specs.Names.{already_started, already_stopped, no_shared_memory}
use Rattle.rules.specs.Tables.{hart_at, Tables, state_of, well_formed}
use Rattle.rules.specs.Machine.{event, waking, completion, is_short, Operation, call, hart_of}
use Rattle.rules.specs.Machine.{reply, after}
use Rattle.rules.specs.Harts.{done_of, wake_of}
use Rattle.rules.specs.Platform.{enabled}
use Rattle.rules.specs.Replies.{Done, Reply, refused, failed, did, accepted, answer_of}
use Rattle.rules.specs.Replies.{actions_of, memory_after, pair_of, register}
use Rattle.rules.specs.declared.answers.Error.{Error}
use Rattle.rules.specs.declared.answers.Refusal.{Refusal}
use Rattle.rules.specs.declared.answers.Denial.TheVariants.{Refused, Failed}
use Rattle.rules.specs.declared.platform.Platform.{Platform}
use Rattle.rules.specs.declared.answers.Error.TheVariants.{NotSupported, InvalidParam}
use Rattle.rules.specs.declared.answers.Error.TheVariants.{InvalidAddress, AlreadyAvailable}
use Rattle.rules.specs.declared.answers.Error.TheVariants.{AlreadyStarted, AlreadyStopped}
use Rattle.rules.specs.declared.answers.Error.TheVariants.{NoSharedMemory}
use Rattle.rules.specs.declared.answers.Refusal.TheVariants.{NotWellFormed, NotEnabled, NotStarted}
use Rattle.rules.specs.declared.answers.Refusal.TheVariants.{ShortMemory, StateForbids}
use Rattle.rules.specs.declared.answers.Refusal.TheVariants.{NotReportable, UnknownKind, BlockCheck}

-- "Every refusal, error pairs included, leaves the tables and all action memory unaltered; the
-- front part handed back is then empty."
pub record Unaltered (p : Platform) (t : Tables) (op : Operation) : Type 0 where
  pub tables : after p t op ≡ t
  pub actions : actions_of (reply p t op) ≡ []
  pub memory : (m : List ℕ) → memory_after m (reply p t op) ≡ m

-- of every operation that is refused or answered an error
abbrev pub RefusalsAlterNothing : Type 0
RefusalsAlterNothing = (p : Platform) (t : Tables) (op : Operation)
    → accepted (reply p t op) ≡ false → Unaltered p t op

-- "Host refusals come instead of a pair, tested in this order": H1, H4, H2, and last H3, H5 or H6
abbrev pub LastRefusal : Platform → Tables → Operation → Type 0
-- "a call from a hart not STARTED"
LastRefusal p t (call room h q) = (state_of t.harts h ≡ STARTED → ⊥)
    → reply p t (call room h q) ≡ refused NotStarted
-- "completion or wake that the hart's state does not allow"
LastRefusal p t (completion room h) = done_of (hart_at t.harts h) ≡ None
    → reply p t (completion room h) ≡ refused StateForbids
LastRefusal p t (waking room h) = wake_of (hart_at t.harts h) ≡ None
    → reply p t (waking room h) ≡ refused StateForbids
-- "reported firmware event code over 5"
LastRefusal p t (event h e) = last_reported < e → reply p t (event h e) ≡ refused NotReportable

-- each refusal is given if its test fails and those before it pass
pub record HostRefusals (p : Platform) (t : Tables) (op : Operation) : Type 0 where
  -- "platform or tables not well formed"
  pub h1 : well_formed p t ≡ false → reply p t op ≡ refused NotWellFormed
  -- "action memory under 640 words (calls, completions, wakes)"
  pub h4 : well_formed p t ≡ true → is_short op ≡ true → reply p t op ≡ refused ShortMemory
  -- "the hart number is not enabled or is over 127"
  pub h2 : well_formed p t ≡ true → is_short op ≡ false → enabled p (hart_of op) ≡ false
      → reply p t op ≡ refused NotEnabled
  pub last : well_formed p t ≡ true → is_short op ≡ false → enabled p (hart_of op) ≡ true
      → LastRefusal p t op

-- of every operation
abbrev pub HostRefusalsInOrder : Type 0
HostRefusalsInOrder = (p : Platform) (t : Tables) (op : Operation) → HostRefusals p t op

-- "A refusal gives its listed number": the errors that each request may be answered, in the order
-- of its checks
abbrev pub life_errors : LifeRequest → List Error
life_errors (hart_start k a o) = InvalidParam ∷ AlreadyAvailable ∷ InvalidAddress ∷ []
life_errors hart_stop = []
life_errors (hart_suspend y a o) = InvalidParam ∷ InvalidAddress ∷ []

-- those of the requests that alter no hart record
abbrev pub plain_errors : PlainRequest → List Error
plain_errors base_version = []
plain_errors base_implementation = []
plain_errors base_implementation_version = []
plain_errors (base_probe e) = []
plain_errors base_vendor = []
plain_errors base_architecture = []
plain_errors base_machine = []
plain_errors (interrupt m base) = InvalidParam ∷ []
plain_errors (fence f m base s n i) = InvalidParam ∷ NotSupported ∷ InvalidAddress ∷ []
plain_errors (hart_status k) = InvalidParam ∷ []
plain_errors counter_count = []
plain_errors (counter_details i) = InvalidParam ∷ []
plain_errors (counter_configure base m flags e d) = InvalidParam ∷ NotSupported ∷ []
plain_errors (counter_start base m flags x) = InvalidParam ∷ NoSharedMemory ∷ AlreadyStarted ∷ []
plain_errors (counter_stop base m flags) = InvalidParam ∷ NoSharedMemory ∷ AlreadyStopped ∷ []
plain_errors (counter_read i) = InvalidParam ∷ []
plain_errors (counter_read_high i) = InvalidParam ∷ []
plain_errors unknown = NotSupported ∷ []

-- those of any request
abbrev pub request_errors : Request → List Error
request_errors (life q) = life_errors q
request_errors (other q) = plain_errors q

-- completions, wakes and events are never answered an error
abbrev pub errors_of : Operation → List Error
errors_of (call room h q) = request_errors (request q)
errors_of (completion room h) = []
errors_of (waking room h) = []
errors_of (event h e) = []

-- the host refusals of each operation, in the order of their tests
abbrev pub refusals_of : Operation → List Refusal
refusals_of (call room h q) = NotWellFormed ∷ ShortMemory ∷ NotEnabled ∷ NotStarted ∷ []
refusals_of (completion room h) = NotWellFormed ∷ ShortMemory ∷ NotEnabled ∷ StateForbids ∷ []
refusals_of (waking room h) = NotWellFormed ∷ ShortMemory ∷ NotEnabled ∷ StateForbids ∷ []
refusals_of (event h e) = NotWellFormed ∷ NotEnabled ∷ NotReportable ∷ []

-- a reply that is listed for this operation
pub data Listed (op : Operation) : Reply → Type 0 where
  listed-refusal : {k : Refusal} → Memᴰ k (refusals_of op) → Listed op (refused k)
  listed-error : {e : Error} → Memᴰ e (errors_of op) → Listed op (failed e)
  no-refusal : {d : Done} → Listed op (did d)

-- of every operation
abbrev pub RefusalsListed : Type 0
RefusalsListed = (p : Platform) (t : Tables) (op : Operation) → Listed op (reply p t op)

-- "A refusal gives its listed number": H1 to H8, and -2, -3, -5 to -9 (negsuc n is -(n + 1))
pub record NumbersListed : Type 0 where
  pub refusals : map refusal_number
      (NotWellFormed ∷ NotEnabled ∷ NotStarted ∷ ShortMemory ∷ StateForbids ∷ NotReportable
      ∷ UnknownKind ∷ BlockCheck ∷ []) ≡ 1 ∷ 2 ∷ 3 ∷ 4 ∷ 5 ∷ 6 ∷ 7 ∷ 8 ∷ []
  pub errors : map error_number
      (NotSupported ∷ InvalidParam ∷ InvalidAddress ∷ AlreadyAvailable ∷ AlreadyStarted
      ∷ AlreadyStopped ∷ NoSharedMemory ∷ [])
      ≡ negsuc 1 ∷ negsuc 2 ∷ negsuc 4 ∷ negsuc 5 ∷ negsuc 6 ∷ negsuc 7 ∷ negsuc 8 ∷ []

-- "-3 stands in the register as 18446744073709551613": what a0 holds for success and each error
abbrev pub errors : List ℤ
errors =
    success ∷ not_supported ∷ invalid_param ∷ invalid_address ∷ already_available ∷ already_started
    ∷ already_stopped ∷ no_shared_memory ∷ []

-- 2^64 less the size of each error
abbrev pub RegisterValues : Type 0
RegisterValues = map register errors
    ≡ 0 ∷ 18446744073709551614 ∷ 18446744073709551613 ∷ 18446744073709551611
    ∷ 18446744073709551610 ∷ 18446744073709551609 ∷ 18446744073709551608 ∷ 18446744073709551607 ∷ []

-- "The host's answer is 0, 0, marked parked; only stop and suspend mark it."
abbrev pub is_parking : Operation → Bool
is_parking (call room h q) = eqb q.a7 HSM && (eqb q.a6 1 || eqb q.a6 3)
is_parking (completion room h) = false
is_parking (waking room h) = false
is_parking (event h e) = false

-- of every operation that is done
abbrev pub ParkedExactly : Type 0
ParkedExactly = (p : Platform) (t : Tables) (op : Operation) (d : Done) → reply p t op ≡ did d
    → d.parked ≡ is_parking op

-- "Host refusals come instead of a pair"; "a1 is 0 on every error"; what was done is answered by 0,
-- its value, its mark, and the length of its actions
pub record AnswerExact (r : Reply) : Type 0 where
  pub refusal : (k : Refusal) → r ≡ refused k → answer_of r ≡ Err (Refused k)
  pub error : (e : Error) → r ≡ failed e → answer_of r ≡ Err (Failed e)
  pub done : (d : Done) → r ≡ did d
      → answer_of r ≡ Ok (done d.value d.parked (length d.actions))
  -- no mark and no action where it was not done
  pub bare : accepted r ≡ false
      → (parked_in (answer_of r) ≡ false) × (count_in (answer_of r) ≡ 0)
  -- what a0 and a1 hold
  pub no_pair : (k : Refusal) → r ≡ refused k → pair_of (answer_of r) ≡ []
  pub error_pair : (e : Error) → r ≡ failed e
      → pair_of (answer_of r) ≡ register (error_number e) ∷ 0 ∷ []
  pub done_pair : (d : Done) → r ≡ did d
      → pair_of (answer_of r) ≡ register success ∷ d.value ∷ []
  -- the pair that the host hands on, with the mark and the number of actions
  pub no_paired : (k : Refusal) → r ≡ refused k → paired (answer_of r) ≡ Err k
  pub error_paired : (e : Error) → r ≡ failed e
      → paired (answer_of r) ≡ Ok (pair (error_number e) 0 false 0)
  pub done_paired : (d : Done) → r ≡ did d
      → paired (answer_of r) ≡ Ok (pair success d.value d.parked (length d.actions))

-- of every operation
abbrev pub AnswersExact : Type 0
AnswersExact = (p : Platform) (t : Tables) (op : Operation) → AnswerExact (reply p t op)
