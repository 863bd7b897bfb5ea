-- What is made of the numbers that a counter call names.
use Rattle.std.specs.Prelude.{◌≡◌, true, false, ℕ, List, Result, Ok, Err}
use Rattle.rules.specs.Sets.{all}
use Rattle.rules.specs.Tables.{counter_at}
use Rattle.rules.specs.Counters.{counter_set, is_counter, can_read}
use Rattle.rules.specs.declared.answers.Error.{Error}
use Rattle.rules.specs.declared.answers.Error.TheVariants.{InvalidParam}
use Rattle.rules.specs.declared.platform.Platform.{Platform}
use Rattle.rules.specs.declared.records.Counter.{Counter}
use Rattle.tables.specs.Keeping.{set_of}

-- a base and a mask are taken for the word of their set, or are -3
abbrev pub SetGiven : Platform → (base mask : ℕ) → Result ℕ Error → Type 0
SetGiven p base m (Ok w) =
    (all is_counter (counter_set p base m) ≡ true) × (set_of w ≡ counter_set p base m)
SetGiven p base m (Err e) = (all is_counter (counter_set p base m) ≡ false) × (e ≡ InvalidParam)

-- a number is taken for the counter that is read, or is -3
abbrev pub ReadGiven : List Counter → (i : ℕ) → Result Counter Error → Type 0
ReadGiven cs i (Ok c) = (can_read cs i ≡ true) × (c ≡ counter_at cs i)
ReadGiven cs i (Err e) = (can_read cs i ≡ false) × (e ≡ InvalidParam)
