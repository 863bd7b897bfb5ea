-- Hart states: start, stop, status and suspend, completions and wakes.
use Rattle.std.specs.Prelude.{Bool, true, false, not, List, [], ◌∷◌, ℕ, eqb, set}
use Rattle.std.specs.Prelude.{Option, Some, None}
use Rattle.rules.specs.Choice.{when◌then◌else◌}
use Rattle.rules.specs.Names.{STARTED, STOPPED, START_PENDING, STOP_PENDING, SUSPENDED}
use Rattle.rules.specs.Names.{SUSPEND_PENDING, RESUME_PENDING, retentive_type}
use Rattle.rules.specs.Names.{non_retentive_type}
use Rattle.rules.specs.Platform.{enabled, valid_address}
use Rattle.rules.specs.Tables.{idle, in_state, hart_at, state_of}
use Rattle.rules.specs.Replies.{View, Reply, refused, failed, moves, Plain, fails, gives, enter}
use Rattle.rules.specs.declared.platform.Platform.{Platform}
use Rattle.rules.specs.declared.records.Hart.{Hart}
use Rattle.rules.specs.declared.actions.Action.{Action}
use Rattle.rules.specs.declared.answers.Error.TheVariants.{InvalidParam, InvalidAddress}
use Rattle.rules.specs.declared.answers.Error.TheVariants.{AlreadyAvailable}
use Rattle.rules.specs.declared.answers.Refusal.TheVariants.{StateForbids}

-- ----- a record's next one, none where its state does not allow one

-- "Done: 2 to 0, 3 to 1, 5 to 4, 6 to 0."
unfoldable pub done_of : Hart → Option Hart
done_of x =
    when eqb x.state START_PENDING then Some (in_state x STARTED)
    else when eqb x.state STOP_PENDING then Some (in_state x STOPPED)
    else when eqb x.state SUSPEND_PENDING then Some (in_state x SUSPENDED)
    else when eqb x.state RESUME_PENDING then Some (in_state x STARTED)
    else None

-- "Wake: 4 to 6 only."
unfoldable pub wake_of : Hart → Option Hart
wake_of x = when eqb x.state SUSPENDED then Some (in_state x RESUME_PENDING) else None

-- "An accepted suspend writes the sleep note (retentive, 0, 0 for type 0); nothing else alters it."
unfoldable pub suspend_of : (retentive : Bool) → (address opaque : ℕ) → Hart
suspend_of r a o =
    when r then idle SUSPEND_PENDING
    else record { state = SUSPEND_PENDING; retentive = false; address = a; opaque = o }

-- ----- calls

-- "Start (FID 0: hart, address, opaque). Checks in order: hart enabled (-3), STOPPED (-6), address
-- (-5). To START_PENDING." "An accepted start gives one action of kind 1 for its target"
unfoldable pub start_reply : Platform → View → (target address opaque : ℕ) → Reply
start_reply p v k a o =
    when not (enabled p k) then failed InvalidParam
    else when not (eqb (state_of v.harts k) STOPPED) then failed AlreadyAvailable
    else when not (valid_address p a) then failed InvalidAddress
    else moves v false (enter k a o ∷ [])
    (set v.harts k (in_state (hart_at v.harts k) START_PENDING))

-- "Stop (FID 1). Caller to STOP_PENDING; nothing is returned to it. The host's answer is 0, 0,
-- marked parked"
unfoldable pub stop_reply : View → (h : ℕ) → Reply
stop_reply v h = moves v true [] (set v.harts h (in_state (hart_at v.harts h) STOP_PENDING))

-- "Status (FID 2). -3 for a hart not enabled, else its state."
unfoldable pub status_reply : Platform → View → (target : ℕ) → Plain
status_reply p v k =
    when not (enabled p k) then fails InvalidParam
    else gives (state_of v.harts k) v.own

-- "Type 0 is retentive and ignores the address; type 0x80000000 is not. Every other type is -3 ..
-- Then, for the non-retentive type, address (-5). To SUSPEND_PENDING; 0, 0, parked."
unfoldable pub suspend_reply : Platform → View → (h type address opaque : ℕ) → Reply
suspend_reply p v h y a o =
    when eqb y retentive_type then moves v true [] (set v.harts h (suspend_of true a o))
    else when not (eqb y non_retentive_type) then failed InvalidParam
    else when not (valid_address p a) then failed InvalidAddress
    else moves v true [] (set v.harts h (suspend_of false a o))

-- ----- completions and wakes of hart h: H5 where its state does not allow one

-- to its next record with these actions, or H5
unfoldable pub goes_on : View → (h : ℕ) → List Action → Option Hart → Reply
goes_on v h acts (Some x) = moves v false acts (set v.harts h x)
goes_on v h acts None = refused StateForbids

-- "a wake from non-retentive sleep gives one [action] for that hart with its stored address and
-- opaque. Nothing else gives any."
unfoldable pub wake_actions : (h : ℕ) → Hart → List Action
wake_actions h x = when x.retentive then [] else enter h x.address x.opaque ∷ []

-- the reply to a completion
unfoldable pub done_reply : View → (h : ℕ) → Reply
done_reply v h = goes_on v h [] (done_of (hart_at v.harts h))

-- the reply to a wake
unfoldable pub wake_reply : View → (h : ℕ) → Reply
wake_reply v h = goes_on v h (wake_actions h (hart_at v.harts h)) (wake_of (hart_at v.harts h))
