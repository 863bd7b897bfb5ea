-- The promises on counters: reported events, the events of interrupts and fences, and that no change of state alters
-- any.
use mathlib.Core.List.{◌∷◌, List, [], map}
use mathlib.Core.Bool.{true, false, Bool}
use mathlib.Core.Path.{refl, ◌≡◌, ap, ◌∙◌}
use Prim.Native.Nat.{ℕ, ◌+◌, ◌<◌}
use native.Mathlib.Omega.{arith}
use Rattle.rules.specs.declared.answers.Error.{Error}
use Rattle.rules.specs.declared.answers.Refusal.{Refusal}
use lib.Seq.{set-get_or, get_or-set_same, get_or-set_other}
use lib.ListN.{get_or, set, length}
use Rattle.rules.specs.Replies.{failed, refused, moves, View, view, Done, Reply, did, plain, counted, tell}
use Rattle.rules.specs.Replies.{commit}
use Rattle.rules.specs.Counting.{EventCounted, CountersOutliveStates, EventsCounted, TrafficCounted}
use Rattle.rules.specs.Counting.{TrafficCountedExactly}
use Rattle.rules.specs.Choice.{when◌then◌else◌}
use Rattle.rules.specs.Harts.{start_reply, stop_reply, suspend_reply, goes_on, done_reply, wake_reply}
use Rattle.rules.specs.Requests.{LifeRequest, hart_start, hart_stop, hart_suspend, Request, life, other, request}
use Rattle.rules.specs.Machine.{life_reply, request_reply, call, completion, waking, checked_reply, enabled_reply}
use Rattle.rules.specs.Machine.{Operation, event, hart_of, reply, after}
use Rattle.rules.specs.Rows.{InRow, request_event, event_of}
use Rattle.rules.specs.Tables.{Tables, own_at, counter_at}
use Rattle.rules.specs.Counters.{event_reply}
use Rattle.rules.specs.Events.{times, others, occurs}
use Rattle.rules.specs.declared.records.Hart.{Hart}
use Rattle.std.specs.Prelude.{Option, Some, None}
use Rattle.rules.specs.declared.actions.Action.{Action}
use Rattle.rules.specs.declared.platform.Platform.{Platform}
use Rattle.rules.specs.declared.records.Counter.{Counter}
use Rattle.rules.proofs.Logic.{if-both}
use Rattle.rules.proofs.WellFormed.{enabled_under}
use Rattle.rules.proofs.Own.{counted-at}
use Rattle.rules.proofs.Counting.{tell-caller, tell-other}
use Rattle.rules.proofs.Passed.{if-did, Passed, did-passed, accepted-did}

module _ (p : Platform) (t : Tables) (op : Operation) (d : Done) (e : reply p t op ≡ did d) where
  passed : Passed p t op d
  passed = did-passed p t op d e

  counters-after : (after p t op).counters ≡ tell (hart_of op) d.code d.told
      (set t.counters (hart_of op) d.own)
  unfolding after commit
  counters-after = ap (λ (r : Reply). (commit t (hart_of op) r).counters) e

  inside : hart_of op < length t.counters
  inside = rw passed.fine.rows (enabled_under p (hart_of op) passed.on)

  traffic : TrafficCounted p t op d
  unfolding own_at
  traffic = record {
    sent = λ i.
        ap (λ (cs : List (List Counter)). counter_at (get_or cs (hart_of op) []) i) counters-after
        ∙ tell-caller (hart_of op) d.code d.told (set t.counters (hart_of op) d.own) i
        ∙ ap (λ (cs : List Counter). times (others (hart_of op) d.told) (counted d.code) (counter_at cs i))
        (get_or-set_same t.counters (hart_of op) d.own [] inside);
    received = λ k away i.
        ap (λ (cs : List (List Counter)). counter_at (get_or cs k []) i) counters-after
        ∙ tell-other (hart_of op) d.code d.told (set t.counters (hart_of op) d.own) k i away
        ∙ ap (λ (cs : List Counter). times (occurs k d.told) (counted (d.code + 1)) (counter_at cs i))
        (get_or-set_other t.counters (hart_of op) k d.own [] away);
  }

pub traffic-counted-exactly : TrafficCountedExactly
traffic-counted-exactly p t op d e = traffic p t op d e

-- ----- a reported event

abbrev event_done : View → ℕ → Done
event_done v e = record
    { value = 0; parked = false; actions = []; harts = v.harts; own = map (counted e) v.own; code = 0; told = [] }

event-done : (p : Platform) (t : Tables) (h e : ℕ) (d : Done) → reply p t (event h e) ≡ did d
    → d ≡ event_done (view t h) e
unfolding enabled_reply event_reply plain
event-done p t h e d q = let r = (if-did _ _ _ d (did-passed p t (event h e) d q).replied).1 in cc

event-counted : (p : Platform) (t : Tables) (h e : ℕ) (d : Done) → reply p t (event h e) ≡ did d → EventCounted p t h e
unfolding after commit view own_at tell times others
event-counted p t h e d q =
    let same = event-done p t h e d q in
    record {
      own = λ i. (traffic p t (event h e) d q).sent i ∙ rw same (counted-at e (own_at t h) i);
      others = λ k away.
          ap (λ (cs : List (List Counter)). get_or cs k [])
          (counters-after p t (event h e) d q
          ∙ ap (λ (x : Done). tell h x.code x.told (set t.counters h x.own)) same)
          ∙ get_or-set_other t.counters h k _ [] away;
      harts = ap (λ (r : Reply). (commit t h r).harts) q ∙ ap (λ (x : Done). x.harts) same;
    }

pub events-counted : EventsCounted
events-counted p t h e yes' = let a = accepted-did (reply p t (event h e)) yes' in event-counted p t h e a.0 a.1

-- ----- no change of state alters a counter

-- a reply that leaves the counters as they were
data CountersStay (v : View) : Reply → Type 0 where
  s-refused : {k : Refusal} → CountersStay v (refused k)
  s-failed : {e : Error} → CountersStay v (failed e)
  s-did : {d : Done} → d.own ≡ v.own → d.told ≡ [] → CountersStay v (did d)

walk : {v : View} {b : Bool} {x y : Reply} → (b ≡ true → CountersStay v x) → (b ≡ false → CountersStay v y)
    → CountersStay v (when b then x else y)
walk {v} {b} f g = if-both (CountersStay v) b f g

moves-stay : (v : View) (k : Bool) (acts : List Action) (hs : List Hart) → CountersStay v (moves v k acts hs)
unfolding moves
moves-stay v k acts hs = s-did refl refl

life-stay : (p : Platform) (v : View) (h : ℕ) (q : LifeRequest) → CountersStay v (life_reply p v h q)
unfolding life_reply start_reply stop_reply suspend_reply
life-stay p v h (hart_start k a o) = walk (λ _. s-failed)
    (λ _. walk (λ _. s-failed) (λ _. walk (λ _. s-failed) (λ _. moves-stay v _ _ _)))
life-stay p v h hart_stop = moves-stay v _ _ _
life-stay p v h (hart_suspend y a o) =
    walk (λ _. moves-stay v _ _ _) (λ _. walk (λ _. s-failed) (λ _. walk (λ _. s-failed) (λ _. moves-stay v _ _ _)))

request-stay : (p : Platform) (v : View) (h : ℕ) (q : Request) (e : InRow) → request_event h q ≡ e ∷ []
    → CountersStay v (request_reply p v h q)
unfolding request_reply
request-stay p v h (life q) e i = life-stay p v h q
request-stay p v h (other q) e i = let z : ◌≡◌ {A = ℕ} 0 1 = cc in absurd (omega arith)

goes_on-stay : (v : View) (h : ℕ) (acts : List Action) (n : Option Hart) → CountersStay v (goes_on v h acts n)
unfolding goes_on
goes_on-stay v h acts (Some x) = moves-stay v _ _ _
goes_on-stay v h acts None = s-refused

enabled-stay : (p : Platform) (v : View) (op : Operation) (e : InRow) → event_of op ≡ e ∷ []
    → CountersStay v (enabled_reply p v op)
unfolding enabled_reply done_reply wake_reply
enabled-stay p v (call room h r) e i = walk (λ _. s-refused) (λ _. request-stay p v h (request r) e i)
enabled-stay p v (completion room h) e i = goes_on-stay v h _ _
enabled-stay p v (waking room h) e i = goes_on-stay v h _ _
enabled-stay p v (event h c) e i = let z : ◌≡◌ {A = ℕ} 0 1 = cc in absurd (omega arith)

reply-stay : (p : Platform) (t : Tables) (op : Operation) (e : InRow) → event_of op ≡ e ∷ []
    → CountersStay (view t (hart_of op)) (reply p t op)
unfolding reply checked_reply
reply-stay p t op e i = walk (λ _. s-refused)
    (λ _. walk (λ _. s-refused) (λ _. walk (λ _. s-refused) (λ _. enabled-stay p (view t (hart_of op)) op e i)))

stay-same : (t : Tables) (h : ℕ) (r : Reply) → CountersStay (view t h) r → (commit t h r).counters ≡ t.counters
unfolding commit tell view own_at
stay-same t h (refused k) s = refl
stay-same t h (failed k) s = refl
stay-same t h (did d) (s-did own told) = rw (told, own) (set-get_or t.counters h [])

pub counters-outlive-states : CountersOutliveStates
unfolding after
counters-outlive-states p t op e i = stay-same t (hart_of op) (reply p t op) (reply-stay p t op e i)
