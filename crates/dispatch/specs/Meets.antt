-- What a function of the dispatcher has to meet: its answer, the tables after it and the action
-- memory after it are those of a reply of the rules.
--   Meets t t' m m' h q r   rows t and memory m before, t' and m' after, the reply q, the answer r
--   Keeps t h q r           the same of a function that alters neither rows nor memory
--   Ready p t m h           what a function behind the host's tests may rely on
--   WellFormed p t          what a function behind the test of the tables may rely on
--   Admitted p room h o     what a hart number is taken for: H4, H2, or the hart
--   told_one, told          the tables once one hart, or some, were told of an event
--   put_action              memory with one action put at a place
use Rattle.std.specs.Prelude.{◌≡◌, List, [], ◌∷◌, ◌++◌, true, false, ℕ, ◌+◌, ◌≤◌, length}
use Rattle.std.specs.Prelude.{take, drop, ltb, Result, Ok, Err}
use Rattle.rules.specs.Names.{action_memory}
use Rattle.rules.specs.Platform.{enabled, platform_accepted}
use Rattle.rules.specs.Tables.{Tables, tables_well_formed}
use Rattle.rules.specs.Replies.{Reply, tell_one, tell, commit, answer_of, memory_after}
use Rattle.tables.specs.Keeping.{seen, Shaped, Holds}
use Rattle.rules.specs.Answers.{Answer}
use Rattle.rules.specs.Numbers.{HartId}
use Rattle.rules.specs.declared.answers.Refusal.{Refusal}
use Rattle.rules.specs.declared.answers.Refusal.TheVariants.{ShortMemory, NotEnabled}
use Rattle.rules.specs.declared.actions.Action.{Action}
use Rattle.rules.specs.declared.platform.Platform.{Platform}

pub record Meets (t t' : List (List ℕ)) (m m' : List ℕ) (h : ℕ) (q : Reply) (r : Answer) : Type
    0 where
  pub answer : r ≡ answer_of q
  pub tables : Holds t' (commit (seen t) h q)
  pub memory : m' ≡ memory_after m q

abbrev pub Keeps : List (List ℕ) → ℕ → Reply → Answer → Type 0
Keeps t h q r = (m : List ℕ) → Meets t t m m h q r

abbrev pub told_one : Tables → (h code k : ℕ) → Tables
told_one s h e k = record { harts = s.harts; counters = tell_one h e k s.counters }

abbrev pub told : Tables → (h code : ℕ) → List ℕ → Tables
told s h e ks = record { harts = s.harts; counters = tell h e ks s.counters }

abbrev pub put_action : List ℕ → (at : ℕ) → Action → List ℕ
put_action m at a = take at
    m ++ ((a.target ∷ a.kind ∷ a.start ∷ a.size ∷ a.id ∷ []) ++ drop (at + 5) m)

-- the tables are well formed, hart h is enabled, and there is room for every action
pub record Ready (p : Platform) (t : List (List ℕ)) (m : List ℕ) (h : ℕ) : Type 0 where
  pub shaped : Shaped t
  pub fine : tables_well_formed p (seen t) ≡ true
  pub on : enabled p h ≡ true
  pub room : action_memory ≤ length m

-- platform and tables are well formed
pub record WellFormed (p : Platform) (t : List (List ℕ)) : Type 0 where
  pub shaped : Shaped t
  pub accepted : platform_accepted p ≡ true
  pub fine : tables_well_formed p (seen t) ≡ true

-- the hart h that is admitted with so many words of action memory: H4 is tested before H2
pub data Denied (p : Platform) (room h : ℕ) : Refusal → Type 0 where
  short : ltb room action_memory ≡ true → Denied p room h ShortMemory
  off : ltb room action_memory ≡ false → enabled p h ≡ false → Denied p room h NotEnabled

abbrev pub Admitted : Platform → (room h : ℕ) → Result HartId Refusal → Type 0
Admitted p room h (Ok x) =
    (ltb room action_memory ≡ false) × ((enabled p h ≡ true) × (x.number ≡ h))
Admitted p room h (Err k) = Denied p room h k
