-- The caller's own eight firmware counters: PMU functions 1 to 6, and reported events.
--   counter_set p base m   the numbers of a set of counters
--   each f is cs           f at the counters with these numbers
use Rattle.std.specs.Prelude.{Bool, true, false, not, ◌&&◌, ◌||◌, List, [], ◌∷◌, map, ℕ, ◌-◌, ◌^◌}
use Rattle.std.specs.Prelude.{ltb, leb, eqb, set}
use Rattle.std.specs.Prelude.{Option, Some, None, is_some}
use Rattle.rules.specs.Choice.{when◌then◌else◌}
use Rattle.rules.specs.Sets.{bit, numbers, keep, all, first}
use Rattle.rules.specs.Names.{counters, first_event, last_event, last_reported, firmware_counter}
use Rattle.rules.specs.Platform.{width}
use Rattle.rules.specs.Tables.{counter_at}
use Rattle.rules.specs.Replies.{View, Reply, refused, Plain, fails, gives, plain, counted}
use Rattle.rules.specs.declared.platform.Platform.{Platform}
use Rattle.rules.specs.declared.records.Counter.{Counter}
use Rattle.rules.specs.declared.answers.Error.TheVariants.{NotSupported, InvalidParam}
use Rattle.rules.specs.declared.answers.Error.TheVariants.{AlreadyStarted, AlreadyStopped}
use Rattle.rules.specs.declared.answers.Error.TheVariants.{NoSharedMemory}
use Rattle.rules.specs.declared.answers.Refusal.TheVariants.{NotReportable}

-- "Set: bit i is counter base + i without wrapping; numbers over 7 are -3. Here base 2^64 - 1 has
-- no special meaning."
unfoldable pub counter_set : Platform → (base mask : ℕ) → List ℕ
counter_set p base m = numbers (width p) base m

-- "numbers over 7 are -3"
unfoldable pub is_counter : ℕ → Bool
is_counter i = ltb i counters

-- f at the counters with these numbers
unfoldable pub each : (Counter → Counter) → List ℕ → List Counter → List Counter
each f [] cs = cs
each f (i ∷ is) cs = each f is (set cs i (f (counter_at cs i)))

-- counter i of eight is mapped
unfoldable pub is_mapped : List Counter → ℕ → Bool
is_mapped cs i = is_some (counter_at cs i).event

-- counter i of eight is running
unfoldable pub is_running : List Counter → ℕ → Bool
is_running cs i = (counter_at cs i).running

-- counter i of eight is not running
unfoldable pub not_running : List Counter → ℕ → Bool
not_running cs i = not (is_running cs i)

-- ----- "Details: 2^63 for counters 0 to 7, else -3."

unfoldable pub details_reply : List Counter → (i : ℕ) → Plain
details_reply cs i = when not (is_counter i) then fails InvalidParam else gives firmware_counter cs

-- ----- configure

-- "Events 0xF0000 to 0xF0015 only."
unfoldable pub is_event : ℕ → Bool
is_event e = leb first_event e && leb e last_event

-- "Chosen is the lowest counter of the set that is not running; with skip (bit 0) the lowest of the
-- set, running or not."
unfoldable pub chosen : (flags : ℕ) → List Counter → (set : List ℕ) → Option ℕ
chosen flags cs is = first (keep (λ i. bit flags 0 || not_running cs i) is)

-- "It is mapped. Bit 1 clears its value; bit 2 sets it running; otherwise value and running stay."
unfoldable pub configured : (flags code : ℕ) → Counter → Counter
configured flags e c = record {
  event = Some e;
  running = bit flags 2 || c.running;
  value = when bit flags 1 then 0 else c.value;
}

-- "The value returned is the counter."
unfoldable pub configure_chosen : (flags code : ℕ) → List Counter → Option ℕ → Plain
configure_chosen flags e cs None = fails NotSupported
configure_chosen flags e cs (Some i) = gives i (set cs i (configured flags e (counter_at cs i)))

-- "Configure: flags above bit 7 (-3), counters (-3), event (-2), event data (-3), match (-2)."
unfoldable pub configure_reply : Platform → List Counter → (base mask flags event data' : ℕ) → Plain
configure_reply p cs base m flags e d =
    when leb (2 ^ 8) flags then fails InvalidParam
    else when not (all is_counter (counter_set p base m)) then fails InvalidParam
    else when not (is_event e) then fails NotSupported
    else when not (eqb d 0) then fails InvalidParam
    else configure_chosen flags (e - first_event) cs (chosen flags cs (counter_set p base m))

-- ----- start and stop: "All or none"

-- "Bit 0 loads a3."
unfoldable pub begun : (flags initial : ℕ) → Counter → Counter
begun flags x c = record {
  event = c.event;
  running = true;
  value = when bit flags 0 then x else c.value;
}

-- "Start: flags above bit 1 (-3), counters (-3), an unmapped counter (-3, house), bit 1 (-9), any
-- running (-7)."
unfoldable pub counter_start_reply : Platform → List Counter → (base mask flags initial : ℕ) → Plain
counter_start_reply p cs base m flags x =
    when leb (2 ^ 2) flags then fails InvalidParam
    else when not (all is_counter (counter_set p base m)) then fails InvalidParam
    else when not (all (is_mapped cs) (counter_set p base m)) then fails InvalidParam
    else when bit flags 1 then fails NoSharedMemory
    else when not (all (not_running cs) (counter_set p base m)) then fails AlreadyStarted
    else gives 0 (each (begun flags x) (counter_set p base m) cs)

-- "Bit 0 also unmaps; the value stays."
unfoldable pub ended : (flags : ℕ) → Counter → Counter
ended flags c = record {
  event = when bit flags 0 then None else c.event;
  running = false;
  value = c.value;
}

-- "Stop: flags above bit 1 (-3), counters (-3), bit 1 (-9), any not running (-8)."
unfoldable pub counter_stop_reply : Platform → List Counter → (base mask flags : ℕ) → Plain
counter_stop_reply p cs base m flags =
    when leb (2 ^ 2) flags then fails InvalidParam
    else when not (all is_counter (counter_set p base m)) then fails InvalidParam
    else when bit flags 1 then fails NoSharedMemory
    else when not (all (is_running cs) (counter_set p base m)) then fails AlreadyStopped
    else gives 0 (each (ended flags) (counter_set p base m) cs)

-- ----- "Read (FID 5): over 7 or unmapped is -3 (house), never a zero. High read (FID 6): the same
-- refusals, else 0."

-- counter i can be read: it is one of the eight, and mapped
unfoldable pub can_read : List Counter → ℕ → Bool
can_read cs i = is_counter i && is_mapped cs i

-- the reply to a read: the value
unfoldable pub read_reply : List Counter → (i : ℕ) → Plain
read_reply cs i =
    when not (can_read cs i) then fails InvalidParam
    else gives (counter_at cs i).value cs

-- the reply to a high read: 0
unfoldable pub read_high_reply : List Counter → (i : ℕ) → Plain
read_high_reply cs i = when not (can_read cs i) then fails InvalidParam else gives 0 cs

-- ----- reported events: "The host reports codes 0 to 5"; a code over 5 is H6

unfoldable pub event_reply : View → (code : ℕ) → Reply
event_reply v e =
    when not (leb e last_reported) then refused NotReportable
    else plain v (gives 0 (map (counted e) v.own))
