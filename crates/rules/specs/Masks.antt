-- Which harts a mask selects, which of them are reached, and the actions for them.
use Rattle.std.specs.Prelude.{Bool, not, ◌||◌, ◌&&◌, List, map, ◌+◌, ℕ, eqb}
use Rattle.rules.specs.Sets.{bit, names, those, numbers, ones, keep, all}
use Rattle.rules.specs.Choice.{when◌then◌else◌}
use Rattle.rules.specs.Names.{harts, STOPPED, STOP_PENDING}
use Rattle.rules.specs.Platform.{width, enabled}
use Rattle.rules.specs.Tables.{state_of}
use Rattle.rules.specs.Replies.{Plain, sends}
use Rattle.rules.specs.declared.platform.Platform.{Platform}
use Rattle.rules.specs.declared.records.Hart.{Hart}
use Rattle.rules.specs.declared.actions.Action.{Action}

-- "With base 2^64 - 1 the mask is ignored and all enabled harts are selected. Otherwise bit i
-- selects hart base + i, summed without wrapping .. Mask 0 selects nobody and succeeds."
unfoldable pub selected : Platform → (mask base : ℕ) → List ℕ
selected p m base =
    when eqb base (ones (width p)) then those harts (enabled p)
    else numbers (width p) base m

-- "any selected number not enabled gives -3"
unfoldable pub selection_fits : Platform → (mask base : ℕ) → Bool
selection_fits p m base = all (enabled p) (selected p m base)

-- "A selected hart is reached unless STOPPED or STOP_PENDING (house). The caller may reach itself."
unfoldable pub is_reached : List Hart → ℕ → Bool
is_reached hs h = not (eqb (state_of hs h) STOPPED || eqb (state_of hs h) STOP_PENDING)

-- the harts that a mask reaches
unfoldable pub reached : Platform → List Hart → (mask base : ℕ) → List ℕ
reached p hs m base = keep (is_reached hs) (selected p m base)

-- an action for one hart
abbrev pub action_for : (kind start size id target : ℕ) → Action
action_for k s n i h = record { target = h; kind = k; start = s; size = n; id = i }

-- "One a reached hart, ascending.": an action for each of these harts, and one event of this code
-- sent to each of them
unfoldable pub send_to : (kind start size id code : ℕ) → List ℕ → Plain
send_to k s n i c hs = sends (map (action_for k s n i) hs) c hs

-- ----- the same, asked of one bit or one hart; where the mask fits, those harts (selects p m base)
-- is selected

-- bit i, if it is set, selects an enabled hart
unfoldable pub bit_fits : Platform → (mask base i : ℕ) → Bool
bit_fits p m base i = not (bit m i) || enabled p (base + i)

-- hart h is selected
unfoldable pub selects : Platform → (mask base h : ℕ) → Bool
selects p m base h =
    when eqb base (ones (width p)) then enabled p h
    else names (width p) base m h

-- hart h is selected and reached
unfoldable pub reaches : Platform → List Hart → (mask base h : ℕ) → Bool
reaches p hs m base h = selects p m base h && is_reached hs h
