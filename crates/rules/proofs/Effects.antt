-- What a reply does to the hart records: nothing, or one hart's record moved as its event goes in that hart's row.
use mathlib.Core.Path.{◌≡◌, refl, sym, ◌∙◌, subst}
use mathlib.Core.Bool.{Bool, true, false}
use mathlib.Core.List.{List, [], ◌∷◌}
use Prim.Native.Nat.{ℕ}
use native.Mathlib.Omega.{arith}
use lib.ListN.{set}
use Rattle.rules.specs.declared.answers.Error.{Error}
use Rattle.rules.specs.declared.answers.Refusal.{Refusal}
use borrow.Author.Tests.{eqb-true, not-false}
use Rattle.rules.specs.Choice.{when◌then◌else◌}
use Rattle.rules.specs.Names.{STARTED}
use Rattle.rules.specs.Platform.{enabled}
use Rattle.rules.specs.Tables.{Tables, hart_at, state_of}
use Rattle.rules.specs.Replies.{View, view, Done, Reply, refused, failed, did, moves, Plain, fails, gives}
use Rattle.rules.specs.Replies.{sends, plain}
use Rattle.rules.specs.Harts.{done_of, wake_of, suspend_of, start_reply, stop_reply, suspend_reply, goes_on}
use Rattle.rules.specs.Harts.{wake_actions, done_reply, wake_reply}
use Rattle.rules.specs.Counters.{event_reply}
use Rattle.rules.specs.Requests.{LifeRequest, hart_start, hart_stop, hart_suspend, Request, life, other, request}
use Rattle.rules.specs.Machine.{life_reply, plain_reply, request_reply, Operation, call, completion, waking, event}
use Rattle.rules.specs.Machine.{hart_of, enabled_reply, checked_reply, reply}
use Rattle.rules.specs.Lives.{Event, suspend, done, wake}
use Rattle.rules.specs.Rows.{InRow, ◌does◌, life_event, request_event, event_of}
use Rattle.rules.specs.declared.platform.Platform.{Platform}
use Rattle.rules.specs.declared.records.Hart.{Hart}
use Rattle.std.specs.Prelude.{Option, Some, None}
use Rattle.rules.specs.declared.actions.Action.{Action}
use Rattle.rules.proofs.Logic.{if-both}
use Rattle.rules.proofs.Readings.{Place, off, starting, up, falling, asleep, waking as rising, stopping, name}
use Rattle.rules.proofs.Readings.{one_name, Goes, g-start, g-started, g-suspend, g-suspended, g-wake, g-woken}
use Rattle.rules.proofs.Readings.{g-stop, g-stopped}

-- a hart's record stands at a place of its row
pub record Stands (at : Place) (x : Hart) : Type 0 where
  pub state : x.state ≡ name at

-- from whatever place x stands at, the event e leads to one that y stands at
abbrev pub Leads : Event → Hart → Hart → Type 0
Leads e x y = (from : Place) → Stands from x → (to : Place) × Goes from e to × Stands to y

pub data Effect (p : Platform) (hs : List Hart) : List InRow → List Hart → Type 0 where
  still : Effect p hs [] hs
  moved : {k : ℕ} {e : Event} (x : Hart) → enabled p k ≡ true → Leads e (hart_at hs k) x
      → Effect p hs (k does e ∷ []) (set hs k x)

-- a reply whose effect on the records hs is that of the events es
pub data Lawful (p : Platform) (hs : List Hart) (es : List InRow) : Reply → Type 0 where
  l-refused : {k : Refusal} → Lawful p hs es (refused k)
  l-failed : {e : Error} → Lawful p hs es (failed e)
  l-did : {d : Done} → Effect p hs es d.harts → Lawful p hs es (did d)

-- an event leads from the one place that a state names
leads : {from to : Place} {e : Event} {x y : Hart} → Goes from e to → x.state ≡ name from → y.state ≡ name to
    → Leads e x y
leads {from} {to} {e} g s u at q =
    (to, subst (λ (w : Place). Goes w e to) (one_name from at (sym s ∙ q.state)) g, record { state = u })

-- ----- the calls

walk : {p : Platform} {hs : List Hart} {es : List InRow} {b : Bool} {x y : Reply}
    → (b ≡ true → Lawful p hs es x) → (b ≡ false → Lawful p hs es y) → Lawful p hs es (when b then x else y)
walk {p} {hs} {es} {b} f g = if-both (Lawful p hs es) b f g

moves-lawful : {p : Platform} {es : List InRow} (v : View) (parked : Bool) (acts : List Action) {hs : List Hart}
    → Effect p v.harts es hs → Lawful p v.harts es (moves v parked acts hs)
unfolding moves
moves-lawful v parked acts e = l-did e

pub plain-lawful : {p : Platform} (v : View) (q : Plain) → Lawful p v.harts [] (plain v q)
unfolding plain
plain-lawful v (fails e) = l-failed
plain-lawful v (gives n cs) = l-did still
plain-lawful v (sends acts c ks) = l-did still

suspend-leads : {x : Hart} (r : Bool) (a o : ℕ) → x.state ≡ STARTED → Leads suspend x (suspend_of r a o)
unfolding suspend_of
suspend-leads {x} r a o s = if-both (Leads suspend x) r (λ _. leads g-suspend s refl) (λ _. leads g-suspend s refl)

life-lawful : (p : Platform) (v : View) (h : ℕ) → enabled p h ≡ true → state_of v.harts h ≡ STARTED
    → (q : LifeRequest) → Lawful p v.harts (life_event h q ∷ []) (life_reply p v h q)
unfolding life_reply start_reply stop_reply suspend_reply
life-lawful p v h on s (hart_start k a o) =
    walk (λ e. l-failed) (λ e. walk (λ f. l-failed) (λ f. walk (λ g. l-failed)
    (λ g. moves-lawful v false _ (moved _ (not-false _ e) (leads g-start (eqb-true _ _ (not-false _ f)) refl)))))
life-lawful p v h on s hart_stop = moves-lawful v true [] (moved _ on (leads g-stop s refl))
life-lawful p v h on s (hart_suspend y a o) =
    walk (λ e. moves-lawful v true [] (moved _ on (suspend-leads true a o s)))
    (λ e. walk (λ f. l-failed)
    (λ f. walk (λ g. l-failed) (λ g. moves-lawful v true [] (moved _ on (suspend-leads false a o s)))))

request-lawful : (p : Platform) (v : View) (h : ℕ) → enabled p h ≡ true → state_of v.harts h ≡ STARTED
    → (q : Request) → Lawful p v.harts (request_event h q) (request_reply p v h q)
unfolding request_reply
request-lawful p v h on s (life q) = life-lawful p v h on s q
request-lawful p v h on s (other q) = plain-lawful v (plain_reply p v q)

-- ----- completions and wakes

-- what is not allowed leads nowhere
never : {x : Hart} → None ≡ Some x → ⊥
never e = let z : ◌≡◌ {A = ℕ} 0 1 = cc in omega arith

done-leads : (x y : Hart) → done_of x ≡ Some y → Leads done x y
unfolding done_of when◌then◌else◌
done-leads x y e off q = absurd (never (rw q.state at e))
done-leads x y e starting q = let i = rw q.state at e in (up, g-started, record { state = cc })
done-leads x y e up q = absurd (never (rw q.state at e))
done-leads x y e falling q = let i = rw q.state at e in (asleep, g-suspended, record { state = cc })
done-leads x y e asleep q = absurd (never (rw q.state at e))
done-leads x y e rising q = let i = rw q.state at e in (up, g-woken, record { state = cc })
done-leads x y e stopping q = let i = rw q.state at e in (off, g-stopped, record { state = cc })

wake-leads : (x y : Hart) → wake_of x ≡ Some y → Leads wake x y
unfolding wake_of when◌then◌else◌
wake-leads x y e off q = absurd (never (rw q.state at e))
wake-leads x y e starting q = absurd (never (rw q.state at e))
wake-leads x y e up q = absurd (never (rw q.state at e))
wake-leads x y e falling q = absurd (never (rw q.state at e))
wake-leads x y e asleep q = let i = rw q.state at e in (rising, g-wake, record { state = cc })
wake-leads x y e rising q = absurd (never (rw q.state at e))
wake-leads x y e stopping q = absurd (never (rw q.state at e))

goes_on-lawful : {p : Platform} (v : View) (acts : List Action) {h : ℕ} {e : Event} → enabled p h ≡ true → (n : Option Hart)
    → ((x : Hart) → n ≡ Some x → Leads e (hart_at v.harts h) x)
    → Lawful p v.harts (h does e ∷ []) (goes_on v h acts n)
unfolding goes_on
goes_on-lawful v acts on (Some x) f = moves-lawful v false acts (moved _ on (f x refl))
goes_on-lawful v acts on None f = l-refused

-- ----- every operation

enabled-lawful : (p : Platform) (v : View) (op : Operation) → enabled p (hart_of op) ≡ true
    → Lawful p v.harts (event_of op) (enabled_reply p v op)
unfolding enabled_reply done_reply wake_reply event_reply
enabled-lawful p v (call room h r) on =
    walk (λ e. l-refused) (λ e. request-lawful p v h on (eqb-true _ _ (not-false _ e)) (request r))
enabled-lawful p v (completion room h) on =
    goes_on-lawful v [] on (done_of (hart_at v.harts h)) (done-leads (hart_at v.harts h))
enabled-lawful p v (waking room h) on =
    goes_on-lawful v (wake_actions h (hart_at v.harts h)) on (wake_of (hart_at v.harts h))
    (wake-leads (hart_at v.harts h))
enabled-lawful p v (event h e) on = walk (λ f. l-refused) (λ f. plain-lawful v _)

checked-lawful : (p : Platform) (t : Tables) (op : Operation) → Lawful p t.harts (event_of op) (checked_reply p t op)
unfolding checked_reply view
checked-lawful p t op = walk (λ e. l-refused)
    (λ e. walk (λ f. l-refused) (λ f. enabled-lawful p (view t (hart_of op)) op (not-false _ f)))

pub reply-lawful : (p : Platform) (t : Tables) (op : Operation) → Lawful p t.harts (event_of op) (reply p t op)
unfolding reply
reply-lawful p t op = walk (λ e. l-refused) (λ e. checked-lawful p t op)
