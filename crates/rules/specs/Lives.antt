-- The row of a hart, as demand 3 words it. No table of states stands here: a row is written down
-- from its lives, and each event carries the status that the place right after it names.
-- Demand 3 is the third condition of README.md.
use Rattle.std.specs.Prelude.{◌≡◌, List, [], ◌∷◌, ◌++◌, map, ℕ}
use Rattle.rules.specs.Names.{STARTED, STOPPED, START_PENDING, STOP_PENDING, SUSPENDED}
use Rattle.rules.specs.Names.{SUSPEND_PENDING, RESUME_PENDING}

-- the events of a row
pub data Event : Type 0 where
  start stop suspend done wake : Event

-- an event, and the status that the place after it names
pub record Mark : Type 0 where
  pub event : Event
  pub status : ℕ

infix 80 ◌named◌
abbrev pub ◌named◌ : Event → ℕ → Mark
◌named◌ e s = record { event = e; status = s }

-- "rounds of suspend, done, wake, done" (demand 3)
pub data Round : Type 0 where
  sleep : Round

-- the marks of a round
abbrev pub round : Round → List Mark
round sleep =
    suspend named SUSPEND_PENDING
    ∷ done named SUSPENDED
    ∷ wake named RESUME_PENDING
    ∷ done named STARTED
    ∷ []

-- "any number of rounds" (demand 3), and then what follows
abbrev pub rounds : List Round → List Mark → List Mark
rounds [] k = k
rounds (r ∷ rs) k = round r ++ rounds rs k

-- a life is its rounds: "start, done, any number of rounds .., and at last stop, done" (demand 3)
abbrev pub Life : Type 0
Life = List Round

-- the marks of a life, and then what follows
abbrev pub life : Life → List Mark → List Mark
life rs k =
    start named START_PENDING
    ∷ done named STARTED
    ∷ rounds rs (stop named STOP_PENDING ∷ done named STOPPED ∷ k)

-- "a row of lives" (demand 3)
abbrev pub row : List Life → List Mark
row [] = []
row (l ∷ ls) = life l (row ls)

-- the events of some marks
abbrev pub events : List Mark → List Event
events = map (λ (m : Mark). m.event)

-- the status after these marks, where s held before them
abbrev pub last : ℕ → List Mark → ℕ
last s [] = s
last s (m ∷ ms) = last m.status ms

-- a reading of es as the start of a row of lives: the row of some lives falls into a front, whose
-- events are es, and a back
pub record Reading (es : List Event) : Type 0 where
  pub lives : List Life
  pub front : List Mark
  pub back : List Mark
  pub whole : front ++ back ≡ row lives
  pub said : events front ≡ es

-- the status that the place at the end of es names: "before the first start .., STOPPED"
abbrev pub placed : {es : List Event} → Reading es → ℕ
placed r = last STOPPED r.front
