-- What a call is shown, what it answers, the tables and the action memory after it.
--   View           what an operation of hart h sees: the hart records, and h's own eight counters
--   Reply          Hk, an error pair, or what was done (Done)
--   Plain, plain   the reply of a call that alters no hart record
--   commit         the tables after a reply
--   answer_of      the answer that the host gets for a reply
--   pair_of        what a0 and a1 hold for an answer
--   front_of       the front part of the action memory that the host gets back
--   memory_after   the action memory after a reply
use Rattle.std.specs.Prelude.{Bool, true, false, ◌&&◌, List, [], ◌∷◌, ◌++◌, map, ℕ, suc, ◌+◌, ◌-◌}
use Rattle.std.specs.Prelude.{◌^◌, ◌%◌, eqb, ℤ, pos, negsuc, get_or, set, length, drop}
use Rattle.std.specs.Prelude.{Option, Some, None, Result, Ok, Err}
use Rattle.rules.specs.Choice.{when◌then◌else◌}
use Rattle.rules.specs.Names.{enter_kind}
use Rattle.rules.specs.Answers.{done, Answer, paired}
use Rattle.rules.specs.Tables.{Tables, own_at}
use Rattle.rules.specs.declared.records.Hart.{Hart}
use Rattle.rules.specs.declared.records.Counter.{Counter}
use Rattle.rules.specs.declared.actions.Action.{Action}
use Rattle.rules.specs.declared.answers.Error.{Error}
use Rattle.rules.specs.declared.answers.Refusal.{Refusal}
use Rattle.rules.specs.declared.answers.Denial.TheVariants.{Refused, Failed}
use Rattle.rules.specs.declared.answers.Pair.{Pair}

-- what an operation of a hart is shown
pub record View : Type 0 where
  pub harts : List Hart
  pub own : List Counter

-- what an operation of hart h is shown of the tables
unfoldable pub view : Tables → ℕ → View
view t h = record { harts = t.harts; own = own_at t h }

-- the value for a1, whether the caller is parked, the actions, the hart records and the caller's
-- counters after, and the event that was sent: its code, and the harts that were reached
pub record Done : Type 0 where
  pub value : ℕ
  pub parked : Bool
  pub actions : List Action
  pub harts : List Hart
  pub own : List Counter
  pub code : ℕ
  pub told : List ℕ

-- Hk, an error pair, or what was done
pub data Reply : Type 0 where
  refused : (k : Refusal) → Reply
  failed : (error : Error) → Reply
  did : Done → Reply

-- accepted: neither a refusal nor an error pair
abbrev pub accepted : Reply → Bool
accepted (refused k) = false
accepted (failed e) = false
accepted (did d) = true

-- the hart records after, and nothing else but a mark and actions
unfoldable pub moves : View → (parked : Bool) → List Action → List Hart → Reply
moves v k acts hs = did
    (record {
      value = 0;
      parked = k;
      actions = acts;
      harts = hs;
      own = v.own;
      code = 0;
      told = [];
    })

-- ----- calls that alter no hart record: an error, a value and the caller's counters after, or
-- actions

-- what such a call answers
pub data Plain : Type 0 where
  fails : (error : Error) → Plain
  gives : (value : ℕ) → (own : List Counter) → Plain
  sends : List Action → (code : ℕ) → (told : List ℕ) → Plain

-- its reply to a caller that was shown v
unfoldable pub plain : View → Plain → Reply
plain v (fails e) = failed e
plain v (gives n cs) = did
    (record {
      value = n;
      parked = false;
      actions = [];
      harts = v.harts;
      own = cs;
      code = 0;
      told = [];
    })
plain v (sends acts c ks) = did
    (record {
      value = 0;
      parked = false;
      actions = acts;
      harts = v.harts;
      own = v.own;
      code = c;
      told = ks;
    })

-- ----- events: "An event adds one, going from 2^64 - 1 to 0, to every running counter of that hart
-- mapped to its code."

-- it is mapped, and to this code
abbrev pub is_mapped_to : (code : ℕ) → Option ℕ → Bool
is_mapped_to e None = false
is_mapped_to e (Some k) = eqb k e

-- the counter c after an event of this code
unfoldable pub counted : (code : ℕ) → Counter → Counter
counted e c =
    when c.running && is_mapped_to e c.event
    then record {
      event = c.event;
      running = c.running;
      value = (c.value + 1) % 2 ^ 64;
    }
    else c

-- an event of this code in hart h
unfoldable pub count_at : (h code : ℕ) → List (List Counter) → List (List Counter)
count_at h e t = set t h (map (counted e) (get_or t h []))

-- "For each reached hart other than the caller, the caller has one sent event and the target one
-- received event. Received is sent + 1."
unfoldable pub tell_one : (h code k : ℕ) → List (List Counter) → List (List Counter)
tell_one h e k t = when eqb k h then t else count_at k (e + 1) (count_at h e t)

-- the events of these harts, one after another
unfoldable pub tell : (h code : ℕ) → (told : List ℕ) → List (List Counter) → List (List Counter)
tell h e [] t = t
tell h e (k ∷ ks) t = tell h e ks (tell_one h e k t)

-- ----- the tables after: "Every refusal, error pairs included, leaves the tables and all action
-- memory unaltered"

-- the tables after a reply to hart h
unfoldable pub commit : Tables → (h : ℕ) → Reply → Tables
commit t h (refused k) = t
commit t h (failed e) = t
commit t h (did d) = record {
  harts = d.harts;
  counters = tell h d.code d.told (set t.counters h d.own);
}

-- ----- what the host gets

-- "-3 stands in the register as 18446744073709551613"
unfoldable pub register : ℤ → ℕ
register (pos n) = n
register (negsuc n) = 2 ^ 64 - suc n

-- what was done carries the number of actions
unfoldable pub answer_of : Reply → Answer
answer_of (refused k) = Err (Refused k)
answer_of (failed e) = Err (Failed e)
answer_of (did d) = Ok (done d.value d.parked (length d.actions))

-- the error's register value in a0, the value in a1
abbrev pub registers_of : Result Pair Refusal → List ℕ
registers_of (Ok x) = register x.error ∷ x.value ∷ []
registers_of (Err k) = []

-- "Where an answer is an enum, there is a definition that gives this paper's number and values for
-- each of its cases.": what a0 and a1 hold, "a1 is 0 on every error"; Hk gives no pair. "No other
-- register changes."
unfoldable pub pair_of : Answer → List ℕ
pair_of a = registers_of (paired a)

-- "the front part handed back is then empty"
unfoldable pub actions_of : Reply → List Action
actions_of (refused k) = []
actions_of (failed e) = []
actions_of (did d) = d.actions

-- "An action is five words: target, kind, start, size, id."
unfoldable pub words_of : List Action → List ℕ
words_of [] = []
words_of (a ∷ as') = a.target ∷ a.kind ∷ a.start ∷ a.size ∷ a.id ∷ words_of as'

-- "The host gets back the filled front part of its own action memory; words after it keep their
-- contents."
unfoldable pub laid : List ℕ → List ℕ → List ℕ
laid words memory = words ++ drop (length words) memory

-- the action memory after a reply
unfoldable pub memory_after : List ℕ → Reply → List ℕ
memory_after memory r = laid (words_of (actions_of r)) memory

-- "The host gets back the filled front part"
unfoldable pub front_of : Reply → List ℕ
front_of r = words_of (actions_of r)

-- "1 enter at an address (start, opaque, 0)"
abbrev pub enter : (target address opaque : ℕ) → Action
enter k a o = record { target = k; kind = enter_kind; start = a; size = o; id = 0 }
