-- THE PROMISES: here, and in Refusals, Deliveries and Counting, stands every statement that is
-- proved of the rules, each under the sentence it stands for. Read these four files and the
-- definitions they cite; proofs/Theorems has a theorem of the same name for each.
use Rattle.std.specs.Prelude.{◌≡◌, true, false, List, [], ◌∷◌, ◌++◌, map, ◌↔◌, ◌%◌, ◌^◌, ℕ, Ok}
use Rattle.rules.specs.Lives.{suspend, Event, Life, row, events, Reading, placed}
use Rattle.rules.specs.Names.{STOPPED, SUSPEND_PENDING, non_retentive_type, retentive_type}
use Rattle.rules.specs.Names.{STARTED, HSM}
use Rattle.rules.specs.Answers.{done}
use Rattle.rules.specs.Tables.{blank, counter_at, idle, hart_at, Tables, state_of, own_at}
use Rattle.rules.specs.Tables.{fresh, tables_well_formed, TablesWellFormed, well_formed}
use Rattle.rules.specs.Machine.{Operation, call, hart_of, reply, after}
use Rattle.rules.specs.Platform.{enabled, platform_accepted, PlatformAccepted}
use Rattle.rules.specs.Replies.{accepted, answer_of, actions_of}
use Rattle.rules.specs.Rows.{◌does◌, event_of, tables_now, row_now, ready}
use Rattle.rules.specs.Edges.{Edge, edges, computed}
use Rattle.rules.specs.declared.records.Hart.{Hart}
use Rattle.rules.specs.declared.platform.Platform.{Platform}
use Rattle.rules.specs.declared.answers.Registers.{Registers}

-- ----- demand 3

-- of the enabled hart h after any history from fresh tables
pub record LivesOf (p : Platform) (ops : List Operation) (h : ℕ) : Type 0 where
  -- "each enabled hart's accepted events form the start of a row of lives" (demand 3)
  pub reads : Reading (row_now p ops h)
  -- "The reported status is the one that this place in the row names" (demand 3): the table's, and
  -- what a status call answers
  pub status : (r : Reading (row_now p ops h)) → state_of (tables_now p ops).harts h ≡ placed r
  pub reported : (r : Reading (row_now p ops h)) (room k : ℕ) (q : Registers) → q.a7 ≡ HSM
      → q.a6 ≡ 2 → q.a0 ≡ h
      → ready p (tables_now p ops) (call room k q) ≡ true
      → answer_of (reply p (tables_now p ops) (call room k q)) ≡ Ok (done (placed r) false 0)
  -- "An event that fits is accepted if its action memory is long enough and, for a call, its caller
  -- is running and its type and address pass; one that does not fit is refused." (demand 3)
  pub accepts : (e : Event) (op : Operation) → event_of op ≡ h does e ∷ []
      → ready p (tables_now p ops) op ≡ true
      → Reading (row_now p ops h ++ (e ∷ [])) → accepted (reply p (tables_now p ops) op) ≡ true
  pub refuses : (e : Event) (op : Operation) → event_of op ≡ h does e ∷ []
      → ¬ Reading (row_now p ops h ++ (e ∷ [])) → accepted (reply p (tables_now p ops) op) ≡ false

-- "For any sequence of calls, completions and wakes from a fresh accepted platform" (demand 3)
abbrev pub LivesHold : Type 0
LivesHold = (p : Platform) → platform_accepted p ≡ true → (ops : List Operation) (h : ℕ)
    → enabled p h ≡ true → LivesOf p ops h

-- "No row can be read in two ways" (demand 3): two readings of the same events agree in every event
-- and status, and a row that is whole settles its lives
pub record ReadOnce : Type 0 where
  pub fronts : (es : List Event) (r s : Reading es) → r.front ≡ s.front
  pub rows : (ls ls' : List Life) → events (row ls) ≡ events (row ls') → ls ≡ ls'

-- ----- well formed

-- the tests say what the statements say
abbrev pub PlatformTestAgrees : Type 0
PlatformTestAgrees = (p : Platform) → platform_accepted p ≡ true ↔ PlatformAccepted p

abbrev pub TablesTestAgrees : Type 0
TablesTestAgrees = (p : Platform) (t : Tables) → tables_well_formed p t ≡ true ↔ TablesWellFormed p t

-- fresh tables of an accepted platform are well formed, and every operation keeps tables well
-- formed
abbrev pub FreshWellFormed : Type 0
FreshWellFormed = (p : Platform) → platform_accepted p ≡ true → well_formed p (fresh p) ≡ true

abbrev pub WellFormedKept : Type 0
WellFormedKept = (p : Platform) (t : Tables) (op : Operation) → well_formed p t ≡ true
    → well_formed p (after p t op) ≡ true

-- ----- fresh tables and sleep notes

-- "Fresh: boot hart STARTED, every other STOPPED, sleep notes retentive, 0, 0, all counters
-- unmapped, stopped, zero."
pub record FreshTables (p : Platform) : Type 0 where
  pub boot : hart_at (fresh p).harts p.boot ≡ idle STARTED
  pub others : (h : ℕ) → (h ≡ p.boot → ⊥) → hart_at (fresh p).harts h ≡ idle STOPPED
  pub counters : (h i : ℕ) → counter_at (own_at (fresh p) h) i ≡ blank

-- of every accepted platform
abbrev pub FreshExact : Type 0
FreshExact = (p : Platform) → platform_accepted p ≡ true → FreshTables p

-- "An accepted suspend writes the sleep note (retentive, 0, 0 for type 0)": hart h's record x after
-- it
pub record NoteWritten (q : Registers) (x : Hart) : Type 0 where
  pub type : (q.a0 % 2 ^ 32 ≡ retentive_type → ⊥) → q.a0 % 2 ^ 32 ≡ non_retentive_type
  pub retentive : q.a0 % 2 ^ 32 ≡ retentive_type → x ≡ idle SUSPEND_PENDING
  pub non_retentive : q.a0 % 2 ^ 32 ≡ non_retentive_type
      → x ≡ record
      { state = SUSPEND_PENDING; retentive = false; address = q.a1; opaque = q.a2 }

-- of every suspend that is accepted
abbrev pub SuspendsNoted : Type 0
SuspendsNoted = (p : Platform) (t : Tables) (room h : ℕ) (q : Registers) → q.a7 ≡ HSM → q.a6 ≡ 3
    → accepted (reply p t (call room h q)) ≡ true
    → NoteWritten q (hart_at (after p t (call room h q)).harts h)

-- "nothing else alters it": neither a refusal nor any operation but a suspend of that hart
pub record SameNote (x y : Hart) : Type 0 where
  pub retentive : y.retentive ≡ x.retentive
  pub address : y.address ≡ x.address
  pub opaque : y.opaque ≡ x.opaque

-- of every operation and every hart k
abbrev pub NotesKept : Type 0
NotesKept = (p : Platform) (t : Tables) (op : Operation) (k : ℕ)
    → (accepted (reply p t op) ≡ true → event_of op ≡ k does suspend ∷ [] → ⊥)
    → SameNote (hart_at t.harts k) (hart_at (after p t op).harts k)

-- ----- isolation

-- "For two well-formed states that differ only in other harts' counters, a call gives the same
-- pair, hart states and actions." So does every other operation.
pub record Alike (p : Platform) (h : ℕ) (t t' : Tables) : Type 0 where
  pub well : well_formed p t ≡ true
  pub well' : well_formed p t' ≡ true
  pub harts : t.harts ≡ t'.harts
  pub own : own_at t h ≡ own_at t' h

-- the same pair, hart states and actions
pub record SameOutcome (p : Platform) (op : Operation) (t t' : Tables) : Type 0 where
  pub answer : answer_of (reply p t op) ≡ answer_of (reply p t' op)
  pub actions : actions_of (reply p t op) ≡ actions_of (reply p t' op)
  pub harts : (after p t op).harts ≡ (after p t' op).harts

-- of every operation on two such states
abbrev pub CountersApart : Type 0
CountersApart = (p : Platform) (op : Operation) (t t' : Tables) → Alike p (hart_of op) t t'
    → SameOutcome p op t t'

-- ----- edges

-- P1 to P12, computed
abbrev pub EdgesHold : Type 0
EdgesHold = computed edges ≡ map (λ (e : Edge). e.want) edges
