-- What one hart's row of words holds.
--   state_in w, hart_in r   the state in a row's first word; a row's hart record
--   byte w i                byte i of a word, lowest first
--   with_byte w i b         the word with byte i put anew
--   counter_of b v          the counter with the control byte b and the value v
--   control_of c            the control byte of a counter; `control_for` of its event and running
--   counter_in r i          counter i of a row; `counters_in r`: all eight
--   Fit r                   r has the shape that its type gives it
--   Held r x cs             the row r holds the record x and the counters cs
--   Alters r r' f           the row r' is r with its counters altered by f
use Rattle.std.specs.Prelude.{◌≡◌, ℕ, zero, suc, ◌+◌, ◌-◌, ◌*◌, ◌/◌, ◌%◌, ◌^◌, ◌<◌, Bool, true}
use Rattle.std.specs.Prelude.{false, List, map, length, ◌==◌, nat_lt, slice_index}
use Rattle.std.specs.Prelude.{Option, Some, None}
use Rattle.std.specs.List.{range_with_len}
use Rattle.rules.specs.Choice.{when◌then◌else◌}
use Rattle.rules.specs.Names.{counters}
use Rattle.rules.specs.declared.records.Hart.{Hart}
use Rattle.rules.specs.declared.records.Counter.{Counter}

-- ----- the places in a row

-- how many words it has
abbrev pub words : ℕ
words = 12

abbrev pub state_at : ℕ
state_at = 0

abbrev pub address_at : ℕ
address_at = 1

abbrev pub opaque_at : ℕ
opaque_at = 2

abbrev pub control_at : ℕ
control_at = 3

abbrev pub values_at : ℕ
values_at = 4

-- ----- the hart record

-- cleared memory holds no state
unfoldable pub state_in : ℕ → ℕ
state_in w = when nat_lt w 2 then 2 ^ 64 - 1 else w / 2 - 1

unfoldable pub hart_in : List ℕ → Hart
hart_in r = record {
  state = state_in (slice_index r state_at);
  retentive = (slice_index r state_at % 2 == 0);
  address = slice_index r address_at;
  opaque = slice_index r opaque_at;
}

-- the first word of a hart in a state with a retentive sleep note, and what another note adds
abbrev pub state_word : ℕ → ℕ
state_word s = 2 * (s + 1)

abbrev pub note_of : Bool → ℕ
note_of true = 0
note_of false = 1

-- ----- the counters

unfoldable pub byte : ℕ → ℕ → ℕ
byte w zero = w % 256
byte w (suc i) = byte (w / 256) i

-- the word with byte i put anew
unfoldable pub with_byte : ℕ → ℕ → ℕ → ℕ
with_byte w zero b = w / 256 * 256 + b
with_byte w (suc i) b = with_byte (w / 256) i b * 256 + w % 256

-- a stopped counter's control byte is 1 + code, a running one's 23 + code; 44 is the last
abbrev pub stopped_code : ℕ
stopped_code = 1

abbrev pub running_code : ℕ
running_code = 23

abbrev pub last_control : ℕ
last_control = 44

unfoldable pub counter_of : ℕ → ℕ → Counter
counter_of b v =
    when b == 0 then record { event = None; running = false; value = v }
    else when nat_lt b running_code
    then record { event = Some (b - stopped_code); running = false; value = v }
    else record { event = Some (b - running_code); running = true; value = v }

abbrev pub control_for : Option ℕ → (running : Bool) → ℕ
control_for (Some e) running = when running then e + running_code else e + stopped_code
control_for None running = 0

abbrev pub control_of : Counter → ℕ
control_of c = control_for c.event c.running

unfoldable pub counter_in : List ℕ → ℕ → Counter
counter_in r i = counter_of (byte (slice_index r control_at) i) (slice_index r (values_at + i))

unfoldable pub counters_in : List ℕ → List Counter
counters_in r = map (counter_in r) (range_with_len 0 counters)

-- ----- a row

pub record Fit (r : List ℕ) : Type 0 where
  pub size : length r ≡ words
  pub small : (i : ℕ) → slice_index r i < 2 ^ 64

pub record Held (r : List ℕ) (x : Hart) (cs : List Counter) : Type 0 where
  pub hart : hart_in r ≡ x
  pub own : counters_in r ≡ cs
  pub fit : Fit r

-- the row r' is r with its counters altered by f
abbrev pub Alters : (r r' : List ℕ) → (List Counter → List Counter) → Type 0
Alters r r' f = Held r' (hart_in r) (f (counters_in r))
