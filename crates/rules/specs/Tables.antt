-- The tables: a record for each hart and eight counters for each hart, fresh ones, and when they
-- are well formed.
--   Tables                   the hart records, and the counters hart by hart
--   hart_at, own_at, counter_at   hart h's record; its eight counters; counter i of eight
--   state_of                 a hart's state
--   in_state x s             the record x in another state, its sleep note kept
--   idle s                   the record in state s with a sleep note that says nothing
--   fresh p                  the tables at power-up
--   tables_well_formed p t   no ground of H1 holds against them; `TablesWellFormed` says the same
--                            as a statement
use Rattle.std.specs.Prelude.{◌≡◌, Bool, true, false, not, ◌&&◌, List, [], ℕ, ◌≤◌, ◌<◌, leb, eqb}
use Rattle.std.specs.Prelude.{get_or, set, length, replicate, Option, Some, None, is_some}
use Rattle.rules.specs.Choice.{when◌then◌else◌}
use Rattle.rules.specs.Sets.{every}
use Rattle.rules.specs.Names.{harts, counters, last_code, STARTED, STOPPED, RESUME_PENDING}
use Rattle.rules.specs.Platform.{enabled, platform_accepted}
use Rattle.rules.specs.declared.platform.Platform.{Platform}
use Rattle.rules.specs.declared.records.Hart.{Hart}
use Rattle.rules.specs.declared.records.Counter.{Counter}

-- the hart records, and the counters hart by hart
pub record Tables : Type 0 where
  pub harts : List Hart
  pub counters : List (List Counter)

-- "sleep notes retentive, 0, 0"
abbrev pub idle : ℕ → Hart
idle s = record { state = s; retentive = true; address = 0; opaque = 0 }

-- "unmapped, stopped, zero"
abbrev pub blank : Counter
blank = record { event = None; running = false; value = 0 }

-- the record x in another state, its sleep note kept
abbrev pub in_state : Hart → ℕ → Hart
in_state x s = record
    { state = s; retentive = x.retentive; address = x.address; opaque = x.opaque }

-- hart h's record
unfoldable pub hart_at : List Hart → ℕ → Hart
hart_at hs h = get_or hs h (idle STOPPED)

-- hart h's state
abbrev pub state_of : List Hart → ℕ → ℕ
state_of hs h = (hart_at hs h).state

-- hart h's eight counters
unfoldable pub own_at : Tables → ℕ → List Counter
own_at t h = get_or t.counters h []

-- counter i of eight
unfoldable pub counter_at : List Counter → ℕ → Counter
counter_at cs i = get_or cs i blank

-- "Fresh: boot hart STARTED, every other STOPPED, sleep notes retentive, 0, 0, all counters
-- unmapped, stopped, zero."
unfoldable pub fresh : Platform → Tables
fresh p = record {
  harts = set (replicate harts (idle STOPPED)) p.boot (idle STARTED);
  counters = replicate harts (replicate counters blank);
}

-- ----- "Well formed: the platform passes; each state is 0 to 6; a hart not enabled is as fresh,
-- STOPPED with unmapped, stopped, zero counters; a mapped code is 0 to 21; a running counter is
-- mapped."

-- as fresh, the sleep note included
unfoldable pub is_idle : Hart → Bool
is_idle x = eqb x.state STOPPED && (x.retentive && (eqb x.address 0 && eqb x.opaque 0))

-- unmapped, stopped, zero
unfoldable pub is_blank : Counter → Bool
is_blank c = not (is_some c.event) && (not c.running && eqb c.value 0)

-- of a hart that is enabled or not
unfoldable pub hart_well_formed : Bool → Hart → Bool
hart_well_formed on x = when on then leb x.state RESUME_PENDING else is_idle x

-- "a mapped code is 0 to 21; a running counter is mapped"
unfoldable pub event_well_formed : Option ℕ → (running : Bool) → Bool
event_well_formed (Some e) running = leb e last_code
event_well_formed None running = not running

unfoldable pub counter_well_formed : Bool → Counter → Bool
counter_well_formed on c = when on then event_well_formed c.event c.running else is_blank c

-- a record for each of 128 harts, and eight counters for each
unfoldable pub shaped : Tables → Bool
shaped t = eqb (length t.harts) harts
    && (eqb (length t.counters) harts && every harts (λ h. eqb (length (own_at t h)) counters))

-- the record and the eight counters of hart h
unfoldable pub hart_row_well_formed : Platform → Tables → ℕ → Bool
hart_row_well_formed p t h =
    hart_well_formed (enabled p h) (hart_at t.harts h)
    && every counters (λ i. counter_well_formed (enabled p h) (counter_at (own_at t h) i))

-- no ground of H1 holds against the tables
unfoldable pub tables_well_formed : Platform → Tables → Bool
tables_well_formed p t = shaped t && every harts (hart_row_well_formed p t)

-- "the platform passes", and its tables do
unfoldable pub well_formed : Platform → Tables → Bool
well_formed p t = platform_accepted p && tables_well_formed p t

-- ----- the same as a statement

-- of a counter
pub record CounterFine (c : Counter) : Type 0 where
  pub codes : (e : ℕ) → c.event ≡ Some e → e ≤ last_code
  pub runs : c.running ≡ true → is_some c.event ≡ true

-- of the hart h with the record x
pub record HartFine (p : Platform) (h : ℕ) (x : Hart) : Type 0 where
  pub state : x.state ≤ RESUME_PENDING
  pub unused : enabled p h ≡ false → x ≡ idle STOPPED

-- of its eight counters cs
pub record OwnFine (p : Platform) (h : ℕ) (cs : List Counter) : Type 0 where
  pub eight : length cs ≡ counters
  pub fine : (i : ℕ) → CounterFine (counter_at cs i)
  pub unused : enabled p h ≡ false → (i : ℕ) → counter_at cs i ≡ blank

-- of every hart
pub record TablesWellFormed (p : Platform) (t : Tables) : Type 0 where
  pub records : length t.harts ≡ harts
  pub rows : length t.counters ≡ harts
  pub hart : (h : ℕ) → h < harts → HartFine p h (hart_at t.harts h)
  pub own : (h : ℕ) → h < harts → OwnFine p h (own_at t h)
