-- The view: what rows of words are as the tables of the rules.
--   seen t              the tables that the rows t hold
--   Shaped t            the rows t have the shape that their type gives them
--   Holds t s           the rows t hold the tables s
--   put_hart, put_own   the tables with hart h's record, or its eight counters, put anew
--   alter_own           the tables with hart h's eight counters altered
--   count_hart          the tables after an event of a code at hart h
--   fresh_rows boot     the rows of fresh tables; `FreshOr`: what making them leaves
--   fresh_made p        what making them answers
use Rattle.std.specs.Prelude.{◌≡◌, ℕ, ◌-◌, ◌<◌, Bool, true, false, List, [], ◌∷◌, map, length}
use Rattle.std.specs.Prelude.{replicate, slice_index_or, slice_set, Result, Ok, Err}
use Rattle.rules.specs.Choice.{when◌then◌else◌}
use Rattle.rules.specs.Names.{harts, STARTED, STOPPED}
use Rattle.rules.specs.Platform.{platform_accepted}
use Rattle.rules.specs.Tables.{Tables, own_at, fresh}
use Rattle.rules.specs.Replies.{count_at}
use Rattle.rules.specs.declared.platform.Platform.{Platform}
use Rattle.rules.specs.declared.records.Hart.{Hart}
use Rattle.rules.specs.declared.records.Counter.{Counter}
use Rattle.rules.specs.declared.answers.Refusal.{Refusal}
use Rattle.rules.specs.declared.answers.Refusal.TheVariants.{NotWellFormed}
use Rattle.store.specs.Rows.{words, state_word, hart_in, counters_in, Fit}

unfoldable pub seen : List (List ℕ) → Tables
seen t = record { harts = map hart_in t; counters = map counters_in t }

abbrev pub put_hart : Tables → (h : ℕ) → Hart → Tables
put_hart s h x = record { harts = slice_set s.harts h x; counters = s.counters }

abbrev pub put_own : Tables → (h : ℕ) → List Counter → Tables
put_own s h cs = record { harts = s.harts; counters = slice_set s.counters h cs }

abbrev pub alter_own : Tables → (h : ℕ) → (List Counter → List Counter) → Tables
alter_own s h f = put_own s h (f (own_at s h))

abbrev pub count_hart : Tables → (h code : ℕ) → Tables
count_hart s h e = record { harts = s.harts; counters = count_at h e s.counters }

-- what it says is told to this crate's proofs alone
pub record Shaped (t : List (List ℕ)) : Type 0 where
  size : length t ≡ harts
  rows : (h : ℕ) → h < harts → Fit (slice_index_or t h [])

pub make_shaped : (t : List (List ℕ)) → length t ≡ harts
    → ((h : ℕ) → h < harts → Fit (slice_index_or t h [])) → Shaped t
make_shaped t e f = record { size = e; rows = f }

pub size_of : (t : List (List ℕ)) → Shaped t → length t ≡ harts
size_of t k = k.size

pub row_of : (t : List (List ℕ)) → Shaped t → (h : ℕ) → h < harts → Fit (slice_index_or t h [])
row_of t k = k.rows

pub record Holds (t : List (List ℕ)) (s : Tables) : Type 0 where
  pub is : seen t ≡ s
  pub shaped : Shaped t

-- ----- fresh tables

-- the row of a hart in a state, all else 0
abbrev pub fresh_row : (state : ℕ) → List ℕ
fresh_row s = state_word s ∷ replicate (words - 1) 0

-- the boot hart's row is STARTED, every other STOPPED
abbrev pub fresh_rows : (boot : ℕ) → List (List ℕ)
fresh_rows boot = slice_set (replicate harts (fresh_row STOPPED)) boot (fresh_row STARTED)

-- what making fresh tables answers: "platform .. not well formed" is H1
abbrev pub fresh_made : Platform → Result Unit Refusal
fresh_made p = when platform_accepted p then Ok tt else Err NotWellFormed

-- what it leaves: fresh tables, or what was there
abbrev pub FreshOr : Bool → Platform → (t t' : List (List ℕ)) → Type 0
FreshOr true p t t' = Holds t' (fresh p)
FreshOr false p t t' = t' ≡ t
