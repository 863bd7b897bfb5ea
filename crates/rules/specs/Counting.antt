-- The promises on counters: what an event counts, and where. Each statement stands under its
-- sentence.
use Rattle.std.specs.Prelude.{◌≡◌, true, false, ◌↔◌, ℕ, ◌+◌, ◌^◌, ◌%◌, ◌<◌, ◌≤◌, Some, None}
use mathlib.Core.List.{[], ◌∷◌, Memᴰ}
use Rattle.rules.specs.Sets.{bit, Ascending, all}
use Rattle.rules.specs.Names.{counters}
use Rattle.rules.specs.Platform.{width}
use Rattle.rules.specs.Tables.{Tables, own_at, counter_at}
use Rattle.rules.specs.Replies.{Done, did, accepted, counted}
use Rattle.rules.specs.Events.{times, others, occurs}
use Rattle.rules.specs.Counters.{counter_set, is_counter}
use Rattle.rules.specs.Machine.{Operation, event, hart_of, reply, after}
use Rattle.rules.specs.Rows.{InRow, event_of}
use Rattle.rules.specs.declared.platform.Platform.{Platform}
use Rattle.rules.specs.declared.records.Counter.{Counter}

-- ----- counters

-- "An event adds one, going from 2^64 - 1 to 0, to every running counter of that hart mapped to its
-- code", and to no other
pub record CountsExactly (e : ℕ) (c : Counter) : Type 0 where
  pub adds : c.running ≡ true → c.event ≡ Some e
      → counted e c ≡ record
      { event = c.event; running = c.running; value = (c.value + 1) % 2 ^ 64 }
  pub stopped : c.running ≡ false → counted e c ≡ c
  pub unmapped : c.event ≡ None → counted e c ≡ c
  pub elsewhere : (c.event ≡ Some e → ⊥) → counted e c ≡ c

-- of every event code and every counter
abbrev pub EventsAddOne : Type 0
EventsAddOne = (e : ℕ) (c : Counter) → CountsExactly e c

-- "Set: bit i is counter base + i without wrapping; numbers over 7 are -3. Here base 2^64 - 1 has
-- no special meaning."
pub record CounterSetExact (p : Platform) (base m : ℕ) : Type 0 where
  pub members : (k : ℕ) → Memᴰ k (counter_set p base m)
      ↔ ((i : ℕ) × (i < width p) × (bit m i ≡ true) × (k ≡ base + i))
  pub never_wraps : (i : ℕ) → i < width p → bit m i ≡ true → counters ≤ base + i
      → all is_counter (counter_set p base m) ≡ false
  pub ascending : Ascending (counter_set p base m)

-- of every set
abbrev pub CounterSetsExact : Type 0
CounterSetsExact = (p : Platform) (base m : ℕ) → CounterSetExact p base m

-- an accepted reported event is counted in its own hart, and nothing else is altered
pub record EventCounted (p : Platform) (t : Tables) (h e : ℕ) : Type 0 where
  pub own : (i : ℕ)
      → counter_at (own_at (after p t (event h e)) h) i ≡ counted e (counter_at (own_at t h) i)
  pub others : (k : ℕ) → (k ≡ h → ⊥) → own_at (after p t (event h e)) k ≡ own_at t k
  pub harts : (after p t (event h e)).harts ≡ t.harts

-- of every reported event that is accepted
abbrev pub EventsCounted : Type 0
EventsCounted = (p : Platform) (t : Tables) (h e : ℕ) → accepted (reply p t (event h e)) ≡ true
    → EventCounted p t h e

-- "For each reached hart other than the caller, the caller has one sent event and the target one
-- received event. .. Received is sent + 1."
pub record TrafficCounted (p : Platform) (t : Tables) (op : Operation) (d : Done) : Type 0 where
  pub sent : (i : ℕ) → counter_at (own_at (after p t op) (hart_of op)) i
      ≡ times (others (hart_of op) d.told) (counted d.code) (counter_at d.own i)
  pub received : (k : ℕ) → (k ≡ hart_of op → ⊥)
      → (i : ℕ) → counter_at (own_at (after p t op) k) i
      ≡ times (occurs k d.told) (counted (d.code + 1)) (counter_at (own_at t k) i)

-- of every operation that is done
abbrev pub TrafficCountedExactly : Type 0
TrafficCountedExactly = (p : Platform) (t : Tables) (op : Operation) (d : Done)
    → reply p t op ≡ did d → TrafficCounted p t op d

-- "No change of state alters a counter (house)": an operation that stands in a row
abbrev pub CountersOutliveStates : Type 0
CountersOutliveStates = (p : Platform) (t : Tables) (op : Operation) (e : InRow)
    → event_of op ≡ e ∷ [] → (after p t op).counters ≡ t.counters
