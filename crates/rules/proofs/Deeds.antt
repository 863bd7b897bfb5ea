-- What each request does besides its tables: the actions it gives, whom it tells, whether it parks its caller.
use mathlib.Core.List.{map, List, [], ◌∷◌}
use mathlib.Core.Bool.{Bool, false, true}
use mathlib.Core.Path.{◌≡◌, refl, subst}
use Prim.Native.Nat.{◌≤◌, zero-le, ℕ}
use native.Mathlib.Omega.{arith}
use Rattle.rules.specs.declared.answers.Error.{Error}
use Rattle.rules.specs.declared.answers.Refusal.{Refusal}
use lib.ListN.{length, length-map}
use borrow.Author.Tests.{not-false}
use Rattle.rules.specs.Names.{harts}
use Rattle.rules.specs.Fences.{fence_reply, interrupt_reply}
use Rattle.rules.specs.Machine.{life_reply, plain_reply}
use Rattle.rules.specs.Replies.{Done, Plain, Reply, View, did, enter, failed, fails, gives, moves, plain}
use Rattle.rules.specs.Replies.{refused, sends}
use Rattle.rules.specs.Requests.{LifeRequest, PlainRequest, base_architecture, base_implementation}
use Rattle.rules.specs.Requests.{base_implementation_version, base_machine, base_probe, base_vendor, base_version}
use Rattle.rules.specs.Requests.{counter_configure, counter_count, counter_details, counter_read, counter_read_high}
use Rattle.rules.specs.Requests.{counter_start, counter_stop, fence, hart_start, hart_status, hart_stop, hart_suspend}
use Rattle.rules.specs.Requests.{interrupt, unknown}
use Rattle.rules.specs.Harts.{goes_on, start_reply, status_reply, stop_reply, suspend_reply}
use Rattle.rules.specs.Counters.{configure_chosen, configure_reply, counter_start_reply, counter_stop_reply}
use Rattle.rules.specs.Counters.{details_reply, read_high_reply, read_reply}
use Rattle.rules.specs.Masks.{action_for, reached, reaches, selection_fits, send_to}
use Rattle.rules.specs.Choice.{when◌then◌else◌}
use Rattle.rules.specs.declared.platform.Platform.{Platform}
use Rattle.rules.specs.declared.records.Hart.{Hart}
use Rattle.rules.specs.declared.records.Counter.{Counter}
use Rattle.std.specs.Prelude.{Option, None, Some}
use Rattle.rules.specs.declared.actions.Action.{Action}
use Rattle.rules.proofs.ReachWays.{reached-by-hart}
use Rattle.rules.proofs.Logic.{clash, if-both}
use Rattle.rules.proofs.SetLaws.{those-few}

-- a request that sends: an interrupt or a fence
abbrev pub sends_on : PlainRequest → Bool
sends_on base_version = false
sends_on base_implementation = false
sends_on base_implementation_version = false
sends_on (base_probe e) = false
sends_on base_vendor = false
sends_on base_architecture = false
sends_on base_machine = false
sends_on (interrupt m base) = true
sends_on (fence f m base s n i) = true
sends_on (hart_status k) = false
sends_on counter_count = false
sends_on (counter_details i) = false
sends_on (counter_configure base m flags e d) = false
sends_on (counter_start base m flags x) = false
sends_on (counter_stop base m flags) = false
sends_on (counter_read i) = false
sends_on (counter_read_high i) = false
sends_on unknown = false

-- ----- calls that alter no hart record: only those that send have actions, and at most one a hart

pub data PlainDeed (sending : Bool) : Plain → Type 0 where
  p-fails : {e : Error} → PlainDeed sending (fails e)
  p-gives : {n : ℕ} {cs : List Counter} → PlainDeed sending (gives n cs)
  p-sends : {acts : List Action} {c : ℕ} {ks : List ℕ} → sending ≡ true → length acts ≤ harts
      → PlainDeed sending (sends acts c ks)

walk : {s b : Bool} {x y : Plain} → (b ≡ true → PlainDeed s x) → (b ≡ false → PlainDeed s y)
    → PlainDeed s (when b then x else y)
walk {s} {b} f g = if-both (PlainDeed s) b f g

-- those that a mask that fits reaches are at most 128
reached-few : (p : Platform) (hs : List Hart) (m base : ℕ) → selection_fits p m base ≡ true
    → length (reached p hs m base) ≤ harts
reached-few p hs m base f = rw (reached-by-hart p m base hs f) (those-few (reaches p hs m base) harts)

send-deed : (p : Platform) (hs : List Hart) (m base k s n i c : ℕ) → selection_fits p m base ≡ true
    → PlainDeed true (send_to k s n i c (reached p hs m base))
unfolding send_to
send-deed p hs m base k s n i c f =
    let few : length (map (action_for k s n i) (reached p hs m base)) ≤ harts =
    rw (length-map (reached p hs m base) (action_for k s n i)) (reached-few p hs m base f) in
    p-sends refl few

chosen-deed : (flags e : ℕ) (cs : List Counter) (o : Option ℕ) → PlainDeed false (configure_chosen flags e cs o)
unfolding configure_chosen
chosen-deed flags e cs None = p-fails
chosen-deed flags e cs (Some i) = p-gives

pub plain-deed : (p : Platform) (v : View) (q : PlainRequest) → PlainDeed (sends_on q) (plain_reply p v q)
unfolding plain_reply interrupt_reply fence_reply status_reply details_reply configure_reply counter_start_reply counter_stop_reply read_reply read_high_reply
plain-deed p v base_version = p-gives
plain-deed p v base_implementation = p-gives
plain-deed p v base_implementation_version = p-gives
plain-deed p v (base_probe e) = p-gives
plain-deed p v base_vendor = p-gives
plain-deed p v base_architecture = p-gives
plain-deed p v base_machine = p-gives
plain-deed p v (interrupt m base) =
    walk (λ _. p-fails) (λ f. send-deed p v.harts m base _ _ _ _ _ (not-false _ f))
plain-deed p v (fence k m base s n i) =
    walk (λ _. p-fails) (λ f. walk (λ _. p-fails) (λ _. walk (λ _. p-fails) (λ _. walk (λ _. p-fails)
    (λ _. send-deed p v.harts m base _ _ _ _ _ (not-false _ f)))))
plain-deed p v (hart_status k) = walk (λ _. p-fails) (λ _. p-gives)
plain-deed p v counter_count = p-gives
plain-deed p v (counter_details i) = walk (λ _. p-fails) (λ _. p-gives)
plain-deed p v (counter_configure base m flags e d) =
    walk (λ _. p-fails) (λ _. walk (λ _. p-fails) (λ _. walk (λ _. p-fails) (λ _. walk (λ _. p-fails)
    (λ _. chosen-deed flags _ v.own _))))
plain-deed p v (counter_start base m flags x) =
    walk (λ _. p-fails) (λ _. walk (λ _. p-fails) (λ _. walk (λ _. p-fails) (λ _. walk (λ _. p-fails)
    (λ _. walk (λ _. p-fails) (λ _. p-gives)))))
plain-deed p v (counter_stop base m flags) =
    walk (λ _. p-fails) (λ _. walk (λ _. p-fails) (λ _. walk (λ _. p-fails) (λ _. walk (λ _. p-fails) (λ _. p-gives))))
plain-deed p v (counter_read i) = walk (λ _. p-fails) (λ _. p-gives)
plain-deed p v (counter_read_high i) = walk (λ _. p-fails) (λ _. p-gives)
plain-deed p v unknown = p-fails

-- ----- every reply: at most one action a hart; and one that tells nobody

pub data Few : Reply → Type 0 where
  few-refused : {k : Refusal} → Few (refused k)
  few-failed : {e : Error} → Few (failed e)
  few-did : {d : Done} → length d.actions ≤ harts → Few (did d)

pub data Quiet (acts : List Action) (parked : Bool) : Reply → Type 0 where
  q-refused : {k : Refusal} → Quiet acts parked (refused k)
  q-failed : {e : Error} → Quiet acts parked (failed e)
  q-did : {d : Done} → d.actions ≡ acts → d.told ≡ [] → d.parked ≡ parked → Quiet acts parked (did d)

pub quiet-did : {acts : List Action} {parked : Bool} {r : Reply} → Quiet acts parked r → (d : Done) → r ≡ did d
    → (d.actions ≡ acts) × (d.told ≡ []) × (d.parked ≡ parked)
quiet-did q-refused d e = let z : ◌≡◌ {A = ℕ} 0 1 = cc in absurd (omega arith)
quiet-did q-failed d e = let z : ◌≡◌ {A = ℕ} 0 1 = cc in absurd (omega arith)
quiet-did {acts} {parked} (q-did {d} a t k) x e =
    let same : d ≡ x = cc in
    subst (λ (y : Done). (y.actions ≡ acts) × (y.told ≡ []) × (y.parked ≡ parked)) same (a, t, k)

pub quiet-few : {acts : List Action} {parked : Bool} {r : Reply} → length acts ≤ harts → Quiet acts parked r → Few r
quiet-few l q-refused = few-refused
quiet-few l q-failed = few-failed
quiet-few l (q-did {d} a t k) = few-did {d = d} (rw a l)

pub plain-few : (v : View) {s : Bool} {q : Plain} → PlainDeed s q → Few (plain v q)
unfolding plain
plain-few v p-fails = few-failed
plain-few v p-gives = few-did zero-le
plain-few v (p-sends e l) = few-did l

pub plain_quiet : (v : View) {s : Bool} {q : Plain} → PlainDeed s q → s ≡ false → Quiet [] false (plain v q)
unfolding plain
plain_quiet v p-fails n = q-failed
plain_quiet v p-gives n = q-did refl refl refl
plain_quiet v (p-sends e l) n = absurd (clash e n)

pub plain-parked : (v : View) (q : Plain) (d : Done) → plain v q ≡ did d → d.parked ≡ false
unfolding plain
plain-parked v (fails e) d i = let z : ◌≡◌ {A = ℕ} 0 1 = cc in absurd (omega arith)
plain-parked v (gives n cs) d i = cc
plain-parked v (sends acts c ks) d i = cc

-- ----- calls that alter a hart's record, completions and wakes

pub stroll : {acts : List Action} {k b : Bool} {x y : Reply} → (b ≡ true → Quiet acts k x)
    → (b ≡ false → Quiet acts k y) → Quiet acts k (when b then x else y)
stroll {acts} {k} {b} f g = if-both (Quiet acts k) b f g

moves-quiet : (v : View) (k : Bool) (acts : List Action) (hs : List Hart) → Quiet acts k (moves v k acts hs)
unfolding moves
moves-quiet v k acts hs = q-did refl refl refl

-- "An accepted start gives one action of kind 1 for its target"; "only stop and suspend mark it"
abbrev pub acts_of : LifeRequest → List Action
acts_of (hart_start k a o) = enter k a o ∷ []
acts_of hart_stop = []
acts_of (hart_suspend y a o) = []

abbrev pub parks_on : LifeRequest → Bool
parks_on (hart_start k a o) = false
parks_on hart_stop = true
parks_on (hart_suspend y a o) = true

pub life-quiet : (p : Platform) (v : View) (h : ℕ) (q : LifeRequest) → Quiet (acts_of q) (parks_on q) (life_reply p v h q)
unfolding life_reply start_reply stop_reply suspend_reply
life-quiet p v h (hart_start k a o) =
    stroll (λ _. q-failed) (λ _. stroll (λ _. q-failed) (λ _. stroll (λ _. q-failed) (λ _. moves-quiet v _ _ _)))
life-quiet p v h hart_stop = moves-quiet v _ _ _
life-quiet p v h (hart_suspend y a o) =
    stroll (λ _. moves-quiet v _ _ _)
    (λ _. stroll (λ _. q-failed) (λ _. stroll (λ _. q-failed) (λ _. moves-quiet v _ _ _)))

pub life-few : (q : LifeRequest) → length (acts_of q) ≤ harts
life-few (hart_start k a o) = omega arith
life-few hart_stop = omega arith
life-few (hart_suspend y a o) = omega arith

pub goes_on-quiet : (v : View) (h : ℕ) (acts : List Action) (n : Option Hart) → Quiet acts false (goes_on v h acts n)
unfolding goes_on
goes_on-quiet v h acts (Some x) = moves-quiet v _ _ _
goes_on-quiet v h acts None = q-refused
