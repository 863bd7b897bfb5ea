-- An event that its hart's row lets come next, and that is ready, is accepted.
use mathlib.Core.Path.{◌≡◌, refl, ap, sym, ◌∙◌, subst}
use mathlib.Core.Bool.{Bool, true, false}
use mathlib.Core.List.{List, [], ◌∷◌}
use Prim.Native.Nat.{ℕ}
use native.Mathlib.Omega.{arith}
use lib.Dec.{ltb, leb, eqb}
use lib.ListN.{get_or-eq_default}
use borrow.Author.Tests.{eqb-true, eq-eqb, le-ltb, leb-true}
use Rattle.std.specs.Cmp.{first_so, second_so}
use Rattle.std.proofs.lemmas.Bool.{not_from_true}
use Rattle.rules.specs.Choice.{when◌then◌else◌}
use Rattle.rules.specs.Names.{STARTED, STOPPED, action_memory, harts, retentive_type, non_retentive_type}
use Rattle.rules.specs.Platform.{enabled}
use Rattle.rules.specs.Tables.{Tables, idle, hart_at, state_of, TablesWellFormed}
use Rattle.rules.specs.Replies.{View, view, Done, Reply, did, accepted, moves}
use Rattle.rules.specs.Harts.{done_of, wake_of, start_reply, stop_reply, suspend_reply, goes_on, done_reply, wake_reply}
use Rattle.rules.specs.Requests.{LifeRequest, hart_start, hart_stop, hart_suspend, Request, life, other, request}
use Rattle.rules.specs.Machine.{life_reply, request_reply, Operation, call, completion, waking, event}
use Rattle.rules.specs.Machine.{enabled_reply, checked_reply}
use Rattle.rules.specs.Lives.{Event, start, done, wake}
use Rattle.rules.specs.Rows.{◌does◌, life_event, request_event, event_of, passes, ready}
use Rattle.rules.specs.declared.platform.Platform.{Platform}
use Rattle.rules.specs.declared.records.Hart.{Hart}
use Rattle.std.specs.Prelude.{Option, Some}
use Rattle.rules.specs.declared.actions.Action.{Action}
use Rattle.rules.proofs.Logic.{if-false, if-both, by_cases, below_or, or_right}
use Rattle.rules.proofs.Readings.{Place, name, Goes, g-start, g-started, g-suspended, g-wake, g-woken}
use Rattle.rules.proofs.Readings.{g-stopped}
use Rattle.rules.proofs.Effects.{Stands}

pub data Accepted : Reply → Type 0 where
  is : {d : Done} → Accepted (did d)

pub is-accepted : {r : Reply} → Accepted r → accepted r ≡ true
is-accepted is = refl

pass : {b : Bool} (x : Reply) {y : Reply} → b ≡ false → Accepted y → Accepted (when b then x else y)
pass x e a = rw if-false a

moves-accepted : (v : View) (k : Bool) (acts : List Action) (hs : List Hart) → Accepted (moves v k acts hs)
unfolding moves
moves-accepted v k acts hs = is

-- a start's target is enabled and STOPPED
abbrev Target : Platform → List Hart → LifeRequest → Type 0
Target p hs (hart_start k a o) = (enabled p k ≡ true) × (state_of hs k ≡ STOPPED)
Target p hs hart_stop = Unit
Target p hs (hart_suspend y a o) = Unit

life-accepts : (p : Platform) (v : View) (h : ℕ) (q : LifeRequest) → passes p (life q) ≡ true → Target p v.harts q
    → Accepted (life_reply p v h q)
unfolding passes life_reply start_reply stop_reply suspend_reply
life-accepts p v h (hart_start k a o) ok g =
    pass _ (not_from_true _ g.0)
    (pass _ (not_from_true _ (eq-eqb _ _ g.1)) (pass _ (not_from_true _ ok) (moves-accepted v _ _ _)))
life-accepts p v h hart_stop ok g = moves-accepted v _ _ _
life-accepts p v h (hart_suspend y a o) ok g =
    if-both Accepted (eqb y retentive_type) (λ e. moves-accepted v _ _ _)
    (λ e.
    let w = or_right (eqb y retentive_type) _ ok e in
    pass _ (not_from_true _ (first_so (eqb y non_retentive_type) _ w))
    (pass _ (not_from_true _ (second_so (eqb y non_retentive_type) _ w)) (moves-accepted v _ _ _)))

-- an outcome that allows the event
data Allowed : Option Hart → Type 0 where
  allowed : {x : Hart} → Allowed (Some x)

done-goes : {a b : Place} (x : Hart) → Goes a done b → Stands a x → Allowed (done_of x)
unfolding done_of when◌then◌else◌
done-goes x g-started q = rw q.state allowed
done-goes x g-suspended q = rw q.state allowed
done-goes x g-woken q = rw q.state allowed
done-goes x g-stopped q = rw q.state allowed

wake-goes : {a b : Place} (x : Hart) → Goes a wake b → Stands a x → Allowed (wake_of x)
unfolding wake_of when◌then◌else◌
wake-goes x g-wake q = rw q.state allowed

start-goes : {a b : Place} → Goes a start b → name a ≡ STOPPED
start-goes g-start = refl

goes_on-accepts : (v : View) (h : ℕ) (acts : List Action) {n : Option Hart} → Allowed n → Accepted (goes_on v h acts n)
unfolding goes_on
goes_on-accepts v h acts allowed = moves-accepted v _ _ _

-- a running hart is enabled
pub running-enabled : (p : Platform) (t : Tables) → TablesWellFormed p t → (h : ℕ) → state_of t.harts h ≡ STARTED
    → enabled p h ≡ true
unfolding hart_at
running-enabled p t w h s =
    below_or h harts
    (λ l. by_cases (enabled p h) (λ on. on)
    (λ off. let same = ap (λ (x : Hart). x.state) ((w.hart h l).unused off) in absurd (omega arith)))
    (λ g.
    let same = ap (λ (x : Hart). x.state) (get_or-eq_default t.harts (idle STOPPED) {n = h} (rw w.records g))
    in
    absurd (omega arith))

module _ (p : Platform) (t : Tables) (fine : TablesWellFormed p t) (h : ℕ) (e : Event) (on : enabled p h ≡ true)
    (from to : Place)
    (stands : Stands from (hart_at t.harts h)) (g : Goes from e to) where
  at-event : {f : Event} → e ≡ f → Goes from f to
  at-event ef = subst (λ (z : Event). Goes from z to) ef g

  at-hart : {k : ℕ} → k ≡ h → Stands from (hart_at t.harts k)
  at-hart kh = subst (λ (j : ℕ). Stands from (hart_at t.harts j)) (sym kh) stands

  target : (k : ℕ) (q : LifeRequest) → life_event k q ∷ [] ≡ h does e ∷ [] → Target p t.harts q
  target k (hart_start j a o) i =
      let jh : j ≡ h = cc in
      let es : e ≡ start = cc in
      (rw jh on, (at-hart jh).state ∙ start-goes (at-event es))
  target k hart_stop i = tt
  target k (hart_suspend z a o) i = tt

  request-accepts : (k : ℕ) (q : Request) → request_event k q ≡ h does e ∷ [] → passes p q ≡ true
      → Accepted (request_reply p (view t k) k q)
  unfolding request_reply view
  request-accepts k (life q) i ok = life-accepts p (view t k) k q ok (target k q i)
  request-accepts k (other q) i ok = let z : ◌≡◌ {A = ℕ} 0 1 = cc in absurd (omega arith)

  long-enough : (room : ℕ) → leb action_memory room ≡ true → ltb room action_memory ≡ false
  long-enough room l = le-ltb room action_memory (leb-true action_memory room l)

  pub checked-accepts : (op : Operation) → event_of op ≡ h does e ∷ [] → ready p t op ≡ true
      → Accepted (checked_reply p t op)
  unfolding ready checked_reply enabled_reply done_reply wake_reply view
  checked-accepts (call room k r) i ok =
      let w = second_so (leb action_memory room) _ ok in
      let s : eqb (state_of t.harts k) STARTED ≡ true = first_so (eqb (state_of t.harts k) STARTED) _ w in
      pass _ (long-enough room (first_so _ _ ok))
      (pass _ (not_from_true _ (running-enabled p t fine k (eqb-true _ _ s))) (pass _ (not_from_true _ s)
      (request-accepts k (request r) i (second_so (eqb (state_of t.harts k) STARTED) _ w))))
  checked-accepts (completion room k) i ok =
      let kh : k ≡ h = cc in
      let on-k : enabled p k ≡ true = rw kh on in
      pass _ (long-enough room ok) (pass _ (not_from_true _ on-k)
      (goes_on-accepts (view t k) k _ (done-goes (hart_at t.harts k) (at-event cc) (at-hart kh))))
  checked-accepts (waking room k) i ok =
      let kh : k ≡ h = cc in
      let on-k : enabled p k ≡ true = rw kh on in
      pass _ (long-enough room ok) (pass _ (not_from_true _ on-k)
      (goes_on-accepts (view t k) k _ (wake-goes (hart_at t.harts k) (at-event cc) (at-hart kh))))
  checked-accepts (event k c) i ok = let z : ◌≡◌ {A = ℕ} 0 1 = cc in absurd (omega arith)
