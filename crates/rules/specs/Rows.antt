-- What stands in whose row, and what demand 3 asks of an event besides that it fits.
use Rattle.std.specs.Prelude.{Bool, true, ◌&&◌, ◌||◌, List, [], ◌∷◌, ◌++◌, ℕ, leb, eqb}
use Rattle.rules.specs.Choice.{when◌then◌else◌}
use Rattle.rules.specs.Names.{STARTED, action_memory, retentive_type, non_retentive_type}
use Rattle.rules.specs.Platform.{valid_address}
use Rattle.rules.specs.Tables.{Tables, state_of, fresh}
use Rattle.rules.specs.Replies.{accepted}
use Rattle.rules.specs.Requests.{LifeRequest, hart_start, hart_stop, hart_suspend, Request}
use Rattle.rules.specs.Requests.{life, other, request}
use Rattle.rules.specs.Machine.{Operation, call, completion, waking, event, reply, after, after_all}
use Rattle.rules.specs.Lives.{Event, start, stop, suspend, done, wake}
use Rattle.rules.specs.declared.platform.Platform.{Platform}

-- an event in the row of a hart
pub data InRow : Type 0 where
  infix 80 ◌does◌
  ◌does◌ : ℕ → Event → InRow

-- "A start stands in its target's row; stop, suspend, done and wake in that of the hart itself"
abbrev pub life_event : ℕ → LifeRequest → InRow
life_event h (hart_start k a o) = k does start
life_event h hart_stop = h does stop
life_event h (hart_suspend y a o) = h does suspend

-- "every other call stands in none"
abbrev pub request_event : ℕ → Request → List InRow
request_event h (life q) = life_event h q ∷ []
request_event h (other q) = []

-- where each operation stands, if it stands in a row
abbrev pub event_of : Operation → List InRow
event_of (call room h r) = request_event h (request r)
event_of (completion room h) = h does done ∷ []
event_of (waking room h) = h does wake ∷ []
event_of (event h e) = []

-- those that stand in the row of h
abbrev pub of_hart : ℕ → List InRow → List Event
of_hart h [] = []
of_hart h (k does e ∷ es) = when eqb h k then e ∷ of_hart h es else of_hart h es

-- what an operation adds to the row of h: nothing unless it is accepted
unfoldable pub adds : Platform → ℕ → Tables → Operation → List Event
adds p h t op = when accepted (reply p t op) then of_hart h (event_of op) else []

-- what a history adds to the row of h
abbrev pub row_of : Platform → ℕ → Tables → List Operation → List Event
row_of p h t [] = []
row_of p h t (op ∷ ops) = adds p h t op ++ row_of p h (after p t op) ops

-- "The boot hart counts as already past its first start and done." (demand 3)
unfoldable pub prior : Platform → ℕ → List Event
prior p h = when eqb h p.boot then start ∷ done ∷ [] else []

-- the tables after a history from fresh
abbrev pub tables_now : Platform → List Operation → Tables
tables_now p ops = after_all p (fresh p) ops

-- the row of h so far
abbrev pub row_now : Platform → List Operation → ℕ → List Event
row_now p ops h = prior p h ++ row_of p h (fresh p) ops

-- "for a call, .. its type and address pass" (demand 3)
unfoldable pub passes : Platform → Request → Bool
passes p (life (hart_start k a o)) = valid_address p a
passes p (life hart_stop) = true
passes p (life (hart_suspend y a o)) =
    eqb y retentive_type || (eqb y non_retentive_type && valid_address p a)
passes p (other q) = true

-- "its action memory is long enough and, for a call, its caller is running and its type and address
-- pass" (demand 3)
unfoldable pub ready : Platform → Tables → Operation → Bool
ready p t (call room h r) = leb action_memory room
    && (eqb (state_of t.harts h) STARTED && passes p (request r))
ready p t (completion room h) = leb action_memory room
ready p t (waking room h) = leb action_memory room
ready p t (event h e) = true
