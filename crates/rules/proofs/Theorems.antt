-- A theorem for each statement of specs/Promises, Refusals, Deliveries and Counting, under its name. Assumes nothing.
use mathlib.Core.Path.{refl}
use Rattle.std.specs.Cmp.Derive.{both_true}
use Rattle.std.specs.Cmp.{first_so, second_so}
use Rattle.rules.specs.Deliveries.{ActionsExact, ActionsFit, FrontExact, EventsAccepted, FencesAccepted}
use Rattle.rules.specs.Deliveries.{InterruptsAccepted, MasksExact, CallsReachExactly}
use Rattle.rules.specs.Refusals.{AnswersExact, ParkedExactly, HostRefusalsInOrder, RefusalsAlterNothing}
use Rattle.rules.specs.Refusals.{RefusalsListed, NumbersListed, RegisterValues}
use Rattle.rules.specs.Promises.{FreshExact, NotesKept, SuspendsNoted, LivesHold, ReadOnce, PlatformTestAgrees}
use Rattle.rules.specs.Promises.{TablesTestAgrees, FreshWellFormed, WellFormedKept, CountersApart, EdgesHold}
use Rattle.rules.specs.Counting.{CounterSetsExact, EventsAddOne, EventsCounted, TrafficCountedExactly}
use Rattle.rules.specs.Counting.{CountersOutliveStates}
use Rattle.rules.specs.Edges.{computed, edges}
use Rattle.rules.specs.Tables.{well_formed}
use Rattle.rules.specs.Machine.{after}
use Rattle.rules.specs.Platform.{platform_accepted}
use Rattle.rules.specs.Replies.{register}
use Rattle.rules.proofs.WellFormed.{platform-agrees, tables_agree}
use Rattle.rules.proofs.Readings.{one-reading, one-row}
use Rattle.rules.proofs.Kept.{after_kept, fresh-fine}
use Rattle.rules.proofs.Demand3 as Demand3
use Rattle.rules.proofs.HostOrder as HostOrder
use Rattle.rules.proofs.Notes as Notes
use Rattle.rules.proofs.Masks as Masks
use Rattle.rules.proofs.Refusals as Refusals
use Rattle.rules.proofs.Reach as Reach
use Rattle.rules.proofs.SendsAccepted as SendsAccepted
use Rattle.rules.proofs.ActionsGiven as ActionsGiven
use Rattle.rules.proofs.Counting as Counting
use Rattle.rules.proofs.Traffic as Traffic

-- each enabled hart's accepted events are the start of a row of lives, its status is the one its place names, what fits
-- and is ready is accepted, and what does not fit is refused
pub lives-hold : LivesHold
lives-hold = Demand3.lives-hold

-- two readings of the same events agree in every event and status; a whole row settles its lives
pub read-once : ReadOnce
read-once = record { fronts = λ es r s. one-reading r s; rows = one-row }

-- every refusal and every error pair leaves the tables and the action memory as they were
pub refusals-alter-nothing : RefusalsAlterNothing
refusals-alter-nothing = Refusals.refusals-alter-nothing

-- the host's refusals come in document 01's order: H1, H4, H2, then H3, H5 or H6
pub host-refusals-in-order : HostRefusalsInOrder
host-refusals-in-order = HostOrder.host-refusals-in-order

-- every refusal and every error is one that document 01 lists
pub refusals-listed : RefusalsListed
refusals-listed = Refusals.refusals-listed

-- a pair is marked parked for a stop and a suspend alone
pub parked-exactly : ParkedExactly
parked-exactly = ActionsGiven.parked-exactly

-- Hk and no pair for a refusal, the error and 0 for an error, and else 0, the value, the mark and the number of actions
pub answers-exact : AnswersExact
answers-exact = ActionsGiven.answers-exact

-- each host refusal and each error has the number that document 01 lists
pub numbers-listed : NumbersListed
numbers-listed = record { refusals = refl; errors = refl }

-- -3 stands in the register as 18446744073709551613, and so for success and each error
pub register-values : RegisterValues
unfolding register
register-values = refl

-- the test of a platform says what its statement says
pub platform-test-agrees : PlatformTestAgrees
platform-test-agrees = platform-agrees

-- the test of tables says what its statement says
pub tables-test-agrees : TablesTestAgrees
tables-test-agrees = tables_agree

-- fresh tables of an accepted platform are well formed
pub fresh-well-formed : FreshWellFormed
unfolding well_formed
fresh-well-formed p ok = both_true ok ((tables_agree p _).1 (fresh-fine p ((platform-agrees p).0 ok).boot))

-- every operation keeps tables well formed
pub well-formed-kept : WellFormedKept
unfolding well_formed
well-formed-kept p t op w =
    both_true (first_so (platform_accepted p) _ w)
    ((tables_agree p (after p t op)).1 (after_kept p t op ((tables_agree p t).0 (second_so (platform_accepted p) _ w))))

-- fresh: the boot hart STARTED, every other STOPPED, notes that say nothing, blank counters
pub fresh-exact : FreshExact
fresh-exact = Notes.fresh-exact

-- an accepted suspend writes the sleep note
pub suspends-noted : SuspendsNoted
suspends-noted = Notes.suspends-noted

-- nothing else alters a sleep note
pub notes-kept : NotesKept
notes-kept = Notes.notes-kept

-- a mask selects and reaches exactly the harts that the rules name, ascending, with no sum that wraps
pub masks-exact : MasksExact
masks-exact = Masks.masks-exact

-- an accepted interrupt or fence reaches those harts, with the actions and the event that document 01 lists
pub calls-reach-exactly : CallsReachExactly
calls-reach-exactly = Reach.calls-reach-exactly

-- an interrupt of a running caller is accepted if its mask fits, and is answered -3 otherwise
pub interrupts-accepted : InterruptsAccepted
interrupts-accepted = SendsAccepted.interrupts-accepted

-- a fence of a running caller is accepted if its harts, id, hypervisors and range fit; the first that does not settles
-- its error
pub fences-accepted : FencesAccepted
fences-accepted = SendsAccepted.fences-accepted

-- a reported event of an enabled hart is accepted if its code is 0 to 5
pub events-accepted : EventsAccepted
events-accepted = SendsAccepted.events-accepted

-- a start gives one action, a wake from non-retentive sleep gives one, and but for interrupts and fences nothing else
-- gives any
pub actions-exact : ActionsExact
actions-exact = ActionsGiven.actions-exact

-- 640 words hold the actions of every operation
pub actions-fit : ActionsFit
actions-fit = ActionsGiven.actions-fit

-- the actions are laid at the front of the action memory, and the words after them stay
pub front-exact : FrontExact
front-exact = ActionsGiven.front-exact

-- a set of counters holds exactly base + i for each set bit i, and no base means all
pub counter-sets-exact : CounterSetsExact
counter-sets-exact = Masks.counter-sets-exact

-- an event adds one modulo 2^64 to exactly the running counters on its code
pub events-add-one : EventsAddOne
events-add-one = Counting.events-add-one

-- an accepted reported event is counted in its own hart, and alters nothing else
pub events-counted : EventsCounted
events-counted = Traffic.events-counted

-- for each reached hart other than the caller, one sent event and one received event
pub traffic-counted-exactly : TrafficCountedExactly
traffic-counted-exactly = Traffic.traffic-counted-exactly

-- no change of a hart's state alters a counter
pub counters-outlive-states : CountersOutliveStates
counters-outlive-states = Traffic.counters-outlive-states

-- an operation shows nothing of other harts' counters
pub counters-apart : CountersApart
counters-apart = Refusals.counters-apart

-- P1 to P12
pub edges-hold : EdgesHold
unfolding computed edges
edges-hold = refl
