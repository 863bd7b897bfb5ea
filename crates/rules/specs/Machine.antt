-- The whole machine: what each operation is answered on which tables, and the tables after it.
--   Operation          a call, a completion, a wake or a reported event; room is how many words of
--                      action memory were lent with it
--   reply p t op       the answer's content, host refusals first
--   after, after_all   the tables after an operation, and after a history of them
--   fresh_over         lent tables made fresh
--   fresh_answer       the answer to that
use Rattle.std.specs.Prelude.{Bool, false, not, List, [], ◌∷◌, ℕ, ltb, eqb, Ok, Err}
use Rattle.rules.specs.Answers.{done, Answer}
use Rattle.rules.specs.Platform.{platform_accepted, enabled}
use Rattle.rules.specs.Tables.{fresh, Tables, state_of, well_formed}
use Rattle.rules.specs.Names.{action_memory, counters, STARTED}
use Rattle.rules.specs.Choice.{when◌then◌else◌}
use Rattle.rules.specs.Replies.{View, view, Reply, refused, Plain, fails, gives, plain, commit}
use Rattle.rules.specs.Base.{spec_version, probed}
use Rattle.rules.specs.Fences.{interrupt_reply, fence_reply}
use Rattle.rules.specs.Harts.{start_reply, stop_reply, status_reply, suspend_reply, done_reply}
use Rattle.rules.specs.Harts.{wake_reply}
use Rattle.rules.specs.Counters.{details_reply, configure_reply, counter_start_reply}
use Rattle.rules.specs.Counters.{counter_stop_reply, read_reply, read_high_reply, event_reply}
use Rattle.rules.specs.Requests.{LifeRequest, hart_start, hart_stop, hart_suspend, Request}
use Rattle.rules.specs.Requests.{life, other, request, PlainRequest, base_version}
use Rattle.rules.specs.Requests.{base_implementation, base_implementation_version, base_vendor}
use Rattle.rules.specs.Requests.{base_architecture, base_machine, base_probe, interrupt, fence}
use Rattle.rules.specs.Requests.{hart_status, counter_count, counter_details, counter_configure}
use Rattle.rules.specs.Requests.{counter_start, counter_stop, counter_read, counter_read_high}
use Rattle.rules.specs.Requests.{unknown}
use Rattle.rules.specs.declared.answers.Denial.TheVariants.{Refused}
use Rattle.rules.specs.declared.platform.Platform.{Platform}
use Rattle.rules.specs.declared.answers.Registers.{Registers}
use Rattle.rules.specs.declared.answers.Error.TheVariants.{NotSupported}
use Rattle.rules.specs.declared.answers.Refusal.TheVariants.{NotWellFormed, NotEnabled, NotStarted}
use Rattle.rules.specs.declared.answers.Refusal.TheVariants.{ShortMemory}

-- ----- the reply to a call of the running hart h

-- to a call that stands in a row
unfoldable pub life_reply : Platform → View → (h : ℕ) → LifeRequest → Reply
life_reply p v h (hart_start k a o) = start_reply p v k a o
life_reply p v h hart_stop = stop_reply v h
life_reply p v h (hart_suspend y a o) = suspend_reply p v h y a o

-- to every other call
unfoldable pub plain_reply : Platform → View → PlainRequest → Plain
plain_reply p v base_version = gives spec_version v.own
plain_reply p v base_implementation = gives p.implementation v.own
plain_reply p v base_implementation_version = gives p.version v.own
plain_reply p v (base_probe e) = gives (probed e) v.own
plain_reply p v base_vendor = gives p.vendor v.own
plain_reply p v base_architecture = gives p.architecture v.own
plain_reply p v base_machine = gives p.machine v.own
plain_reply p v (interrupt m base) = interrupt_reply p v m base
plain_reply p v (fence f m base s n i) = fence_reply p v f m base s n i
plain_reply p v (hart_status k) = status_reply p v k
plain_reply p v counter_count = gives counters v.own
plain_reply p v (counter_details i) = details_reply v.own i
plain_reply p v (counter_configure base m flags e d) = configure_reply p v.own base m flags e d
plain_reply p v (counter_start base m flags x) = counter_start_reply p v.own base m flags x
plain_reply p v (counter_stop base m flags) = counter_stop_reply p v.own base m flags
plain_reply p v (counter_read i) = read_reply v.own i
plain_reply p v (counter_read_high i) = read_high_reply v.own i
plain_reply p v unknown = fails NotSupported

-- to any call
unfoldable pub request_reply : Platform → View → (h : ℕ) → Request → Reply
request_reply p v h (life q) = life_reply p v h q
request_reply p v h (other q) = plain v (plain_reply p v q)

-- ----- operations

-- what the host asks for, of hart h
pub data Operation : Type 0 where
  call : (room h : ℕ) → Registers → Operation
  completion : (room h : ℕ) → Operation
  waking : (room h : ℕ) → Operation
  event : (h code : ℕ) → Operation

-- the hart that it is of
abbrev pub hart_of : Operation → ℕ
hart_of (call room h r) = h
hart_of (completion room h) = h
hart_of (waking room h) = h
hart_of (event h e) = h

-- H4: "action memory under 640 words (calls, completions, wakes)"
abbrev pub is_short : Operation → Bool
is_short (call room h r) = ltb room action_memory
is_short (completion room h) = ltb room action_memory
is_short (waking room h) = ltb room action_memory
is_short (event h e) = false

-- H3, H5 and H6, and what else there is to answer
unfoldable pub enabled_reply : Platform → View → Operation → Reply
enabled_reply p v (call room h r) =
    when not (eqb (state_of v.harts h) STARTED) then refused NotStarted
    else request_reply p v h (request r)
enabled_reply p v (completion room h) = done_reply v h
enabled_reply p v (waking room h) = wake_reply v h
enabled_reply p v (event h e) = event_reply v e

-- on tables that are well formed: H4, H2, then the rest
unfoldable pub checked_reply : Platform → Tables → Operation → Reply
checked_reply p t op =
    when is_short op then refused ShortMemory
    else when not (enabled p (hart_of op)) then refused NotEnabled
    else enabled_reply p (view t (hart_of op)) op

-- "Host refusals come instead of a pair, tested in this order": H1, H4, H2, H3, H5, H6
unfoldable pub reply : Platform → Tables → Operation → Reply
reply p t op = when not (well_formed p t) then refused NotWellFormed else checked_reply p t op

-- ----- the tables after

-- after one operation
unfoldable pub after : Platform → Tables → Operation → Tables
after p t op = commit t (hart_of op) (reply p t op)

-- after a history of them
abbrev pub after_all : Platform → Tables → List Operation → Tables
after_all p t [] = t
after_all p t (op ∷ ops) = after_all p (after p t op) ops

-- ----- fresh tables: H1 for a platform that is not accepted, and the lent tables stay as they were

-- the lent tables after they were made fresh
unfoldable pub fresh_over : Platform → Tables → Tables
fresh_over p t = when not (platform_accepted p) then t else fresh p

-- the answer to that
unfoldable pub fresh_answer : Platform → Answer
fresh_answer p =
    when not (platform_accepted p) then Err (Refused NotWellFormed)
    else Ok (done 0 false 0)
