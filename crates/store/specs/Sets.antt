-- Sets of counters as words of bits.
--   mask_of n f      the word whose bit i is f i, for each i below n
--   Fine cs          each of the counters cs is well formed
--   set_of s         the counters that the low eight bits of a word name
--   Startable cs s   each of the counters cs is well formed, and those of the set s are mapped
--   configure_at     counter i configured
--   Kept f s cs      f keeps each counter of the set s well formed; `MayChange R`: so does all that
--                    R allows
--   Changed R s n    the row after a change, by R, of those of the set s among its first n counters
use Rattle.std.specs.Prelude.{◌≡◌, ℕ, zero, suc, ◌+◌, ◌*◌, ◌<◌, ◌≤◌, Bool, true, false, List}
use Rattle.std.specs.Prelude.{slice_set}
use Rattle.rules.specs.Choice.{when◌then◌else◌}
use Rattle.rules.specs.Names.{counters}
use Rattle.rules.specs.Sets.{bit, those, all}
use Rattle.rules.specs.Tables.{counter_at, CounterFine}
use Rattle.rules.specs.Counters.{is_mapped, configured}
use Rattle.rules.specs.declared.records.Counter.{Counter}
use Rattle.store.specs.Rows.{hart_in, counters_in, Fit}

unfoldable pub mask_of : ℕ → (ℕ → Bool) → ℕ
mask_of zero f = 0
mask_of (suc n) f = (when f 0 then 1 else 0) + 2 * mask_of n (λ i. f (suc i))

abbrev pub Fine : List Counter → Type 0
Fine cs = (i : ℕ) → CounterFine (counter_at cs i)

abbrev pub set_of : ℕ → List ℕ
set_of s = those counters (bit s)

-- a set that can be started: the counters are well formed, and those of the set are mapped
pub record Startable (cs : List Counter) (s : ℕ) : Type 0 where
  pub fine : Fine cs
  pub mapped : all (is_mapped cs) (set_of s) ≡ true

-- counter i configured
abbrev pub configure_at : (flags code i : ℕ) → List Counter → List Counter
configure_at flags e i cs = slice_set cs i (configured flags e (counter_at cs i))

-- f keeps each counter of the set s well formed
abbrev pub Kept : (Counter → Counter) → (s : ℕ) → List Counter → Type 0
Kept f s cs = (i : ℕ) → i < counters → bit s i ≡ true → CounterFine (f (counter_at cs i))

-- what R makes of a counter of the set s is well formed
abbrev pub MayChange : (Counter → Counter → Type 0) → (s : ℕ) → List Counter → Type 0
MayChange R s cs = (i : ℕ) → i < counters → bit s i ≡ true → (x : Counter)
    → R (counter_at cs i) x → CounterFine x

-- of the first n counters of the row r, those of the set s are in r' what R makes of them; all
-- else is as it was
pub record Changed (R : Counter → Counter → Type 0) (s n : ℕ) (r r' : List ℕ) : Type 0 where
  pub hart : hart_in r' ≡ hart_in r
  pub made : (i : ℕ) → i < n → bit s i ≡ true
      → R (counter_at (counters_in r) i) (counter_at (counters_in r') i)
  pub left : (i : ℕ) → i < n → bit s i ≡ false
      → counter_at (counters_in r') i ≡ counter_at (counters_in r) i
  pub ahead : (i : ℕ) → n ≤ i → i < counters
      → counter_at (counters_in r') i ≡ counter_at (counters_in r) i
  pub fit : Fit r'
