-- What a number is taken for: an id that is in range, or the error or refusal of one that is not.
use Rattle.std.specs.Prelude.{◌≡◌, Bool, true, false, ℕ, ◌-◌, leb, Result, Ok, Err}
use Rattle.rules.specs.Names.{first_event, last_reported}
use Rattle.rules.specs.Counters.{is_counter, is_event}
use Rattle.rules.specs.declared.ids.Below.{Below}
use Rattle.rules.specs.declared.answers.Error.{Error}
use Rattle.rules.specs.declared.answers.Error.TheVariants.{NotSupported, InvalidParam}
use Rattle.rules.specs.declared.answers.Refusal.{Refusal}
use Rattle.rules.specs.declared.answers.Refusal.TheVariants.{NotReportable}
use Rattle.rules.specs.Numbers.{CounterId, EventCode}

-- the id of number n where the test holds, else what denies it
abbrev pub Given : {top : ℕ} {E : Type 0} → (test : Bool) (n : ℕ) (denial : E)
    → Result (Below top) E → Type 0
Given b n d (Ok x) = (b ≡ true) × (x.number ≡ n)
Given b n d (Err e) = (b ≡ false) × (e ≡ d)

-- "numbers over 7 are -3"
abbrev pub CounterGiven : (i : ℕ) → Result CounterId Error → Type 0
CounterGiven i = Given (is_counter i) i InvalidParam

-- "Events 0xF0000 to 0xF0015 only."
abbrev pub EventGiven : (event : ℕ) → Result EventCode Error → Type 0
EventGiven event = Given (is_event event) (event - first_event) NotSupported

-- "The host reports codes 0 to 5."
abbrev pub ReportGiven : (code : ℕ) → Result EventCode Refusal → Type 0
ReportGiven code = Given (leb code last_reported) code NotReportable
