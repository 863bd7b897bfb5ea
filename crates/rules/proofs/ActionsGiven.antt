-- Which actions each operation gives, that they fit into the action memory, how they are laid there, and which answer
-- comes with them.
use mathlib.Core.List.{◌∷◌, List, []}
use mathlib.Core.Bool.{Bool, ◌&&◌, ◌||◌, false}
use mathlib.Core.Path.{◌≡◌, refl, sym, ap, ◌∙◌}
use Prim.Native.Nat.{◌*◌, ◌≤◌, zero-le, ℕ}
use native.Mathlib.Omega.{arith}
use lib.Seq.{take-append_seam, drop-append_seam}
use lib.ListN.{length}
use lib.Dec.{eqb}
use borrow.Author.Tests.{eqb-true}
use Rattle.rules.specs.Answers.{count_in, parked_in, paired}
use Rattle.rules.specs.Replies.{accepted, failed, laid, refused, Done, Reply, View, actions_of, answer_of, did, front_of, memory_after, pair_of, view}
use Rattle.rules.specs.Replies.{words_of}
use Rattle.rules.specs.Counters.{event_reply}
use Rattle.rules.specs.Requests.{hart_start, PlainRequest, Request, base_request, counter_request, hart_request}
use Rattle.rules.specs.Requests.{life, other, request}
use Rattle.rules.specs.Deliveries.{ActionsExact, ActionsFit, CallGives, FrontExact}
use Rattle.rules.specs.Refusals.{AnswersExact, ParkedExactly}
use Rattle.rules.specs.Names.{action_memory, harts, HSM, IPI, RFENCE}
use Rattle.rules.specs.Machine.{Operation, call, checked_reply, completion, enabled_reply, event, hart_of}
use Rattle.rules.specs.Machine.{plain_reply, reply, request_reply, waking}
use Rattle.rules.specs.Tables.{Tables, hart_at}
use Rattle.rules.specs.Harts.{done_of, done_reply, wake_actions, wake_of, wake_reply}
use Rattle.rules.specs.Choice.{when◌then◌else◌}
use Rattle.rules.specs.declared.records.Hart.{Hart}
use Rattle.rules.specs.declared.platform.Platform.{Platform}
use Rattle.rules.specs.declared.answers.Registers.{Registers}
use Rattle.rules.specs.declared.actions.Action.{Action}
use Rattle.rules.proofs.Logic.{if-false, if-true, by_cases, clash, if-both}
use Rattle.rules.proofs.RequestWays.{hart-0, request-hsm}
use Rattle.rules.proofs.Passed.{did-passed, if-did}
use Rattle.rules.proofs.Deeds.{Few, Quiet, few-did, few-failed, few-refused, goes_on-quiet, life-few}
use Rattle.rules.proofs.Deeds.{life-quiet, p-gives, plain-deed, plain-few, plain-parked, plain_quiet}
use Rattle.rules.proofs.Deeds.{quiet-did, quiet-few, acts_of, parks_on, sends_on}

-- ----- which request tells nobody, and which starts nobody

module _ (q : Registers) where
  abbrev Silent : Request → Type 0
  Silent (life x) = Unit
  Silent (other x) = sends_on x ≡ false

  abbrev Sending : PlainRequest → Type 0
  Sending x = sends_on x ≡ false

  base-silent : Sending (base_request q)
  unfolding base_request
  base-silent =
      if-both Sending _ (λ _. refl)
      (λ _. if-both Sending _ (λ _. refl)
      (λ _. if-both Sending _ (λ _. refl)
      (λ _. if-both Sending _ (λ _. refl)
      (λ _. if-both Sending _ (λ _. refl)
      (λ _. if-both Sending _ (λ _. refl) (λ _. if-both Sending _ (λ _. refl) (λ _. refl)))))))

  counter-silent : Sending (counter_request q)
  unfolding counter_request
  counter-silent =
      if-both Sending _ (λ _. refl)
      (λ _. if-both Sending _ (λ _. refl)
      (λ _. if-both Sending _ (λ _. refl)
      (λ _. if-both Sending _ (λ _. refl)
      (λ _. if-both Sending _ (λ _. refl)
      (λ _. if-both Sending _ (λ _. refl) (λ _. if-both Sending _ (λ _. refl) (λ _. refl)))))))

  silent : (q.a7 ≡ IPI → ⊥) → (q.a7 ≡ RFENCE → ⊥) → Silent (request q)
  unfolding request hart_request
  silent i f =
      if-both Silent _ (λ _. base-silent)
      (λ _. if-both Silent _ (λ e. absurd (i (eqb-true _ _ e)))
      (λ _. if-both Silent _ (λ e. absurd (f (eqb-true _ _ e)))
      (λ _. if-both Silent _
      (λ _. if-both Silent _ (λ _. tt)
      (λ _. if-both Silent _ (λ _. tt)
      (λ _. if-both Silent _ (λ _. refl) (λ _. if-both Silent _ (λ _. tt) (λ _. refl)))))
      (λ _. if-both Silent _ (λ _. counter-silent) (λ _. refl)))))

  abbrev acts : Request → List Action
  acts (life x) = acts_of x
  acts (other x) = []

  abbrev Startless : Request → Type 0
  Startless x = acts x ≡ []

  startless : (q.a7 ≡ HSM → q.a6 ≡ 0 → ⊥) → Startless (request q)
  unfolding request hart_request
  startless n =
      if-both Startless _ (λ _. refl)
      (λ _. if-both Startless _ (λ _. refl)
      (λ _. if-both Startless _ (λ _. refl)
      (λ _. if-both Startless _
      (λ hsm. if-both Startless _ (λ z. absurd (n (eqb-true _ _ hsm) (eqb-true _ _ z)))
      (λ _. if-both Startless _ (λ _. refl)
      (λ _. if-both Startless _ (λ _. refl) (λ _. if-both Startless _ (λ _. refl) (λ _. refl)))))
      (λ _. if-both Startless _ (λ _. refl) (λ _. refl)))))

  -- ----- which parks its caller

  abbrev parks : Request → Bool
  parks (life x) = parks_on x
  parks (other x) = false

  abbrev Unparked : Request → Type 0
  Unparked x = parks x ≡ false

  elsewhere : eqb q.a7 HSM ≡ false → Unparked (request q)
  unfolding request
  elsewhere n =
      if-both Unparked _ (λ _. refl)
      (λ _. if-both Unparked _ (λ _. refl)
      (λ _. if-both Unparked _ (λ _. refl)
      (λ _. if-both Unparked _ (λ y. absurd (clash y n)) (λ _. if-both Unparked _ (λ _. refl) (λ _. refl)))))

  parking : parks (request q) ≡ (eqb q.a7 HSM && (eqb q.a6 1 || eqb q.a6 3))
  unfolding hart_request when◌then◌else◌
  parking =
      by_cases (eqb q.a7 HSM)
      (λ y.
      ap parks (request-hsm q (eqb-true _ _ y))
      ∙ by_cases (eqb q.a6 0)
      (λ z. rw (y, eqb-true q.a6 0 z) refl)
      (λ n0. by_cases (eqb q.a6 1)
      (λ z. rw (y, eqb-true q.a6 1 z) refl)
      (λ n1. by_cases (eqb q.a6 2)
      (λ z. rw (y, eqb-true q.a6 2 z) refl)
      (λ n2. by_cases (eqb q.a6 3)
      (λ z. rw (y, eqb-true q.a6 3 z) refl)
      (λ n3. rw (y, n0, n1, n2, n3) refl)))))
      (λ n. rw n (elsewhere n))

-- ----- the promises

request-parked : (p : Platform) (v : View) (h : ℕ) (q : Registers) (x : Request) (d : Done)
    → request_reply p v h x ≡ did d → d.parked ≡ parks q x
unfolding request_reply
request-parked p v h q (life x) d e = (quiet-did (life-quiet p v h x) d e).2
request-parked p v h q (other x) d e = plain-parked v (plain_reply p v x) d e

asked : (p : Platform) (t : Tables) (room h : ℕ) (q : Registers) (d : Done) → reply p t (call room h q) ≡ did d
    → request_reply p (view t h) h (request q) ≡ did d
unfolding enabled_reply
asked p t room h q d e = (if-did _ _ _ d (did-passed p t (call room h q) d e).replied).1

request-quiet : (p : Platform) (v : View) (h : ℕ) (q : Registers) (x : Request) → Silent q x
    → (k : Bool) × Quiet (acts q x) k (request_reply p v h x)
unfolding request_reply
request-quiet p v h q (life x) s = (parks_on x, life-quiet p v h x)
request-quiet p v h q (other x) s = (false, plain_quiet v (plain-deed p v x) s)

call-gives : (p : Platform) (t : Tables) (room h : ℕ) (q : Registers) (d : Done) → reply p t (call room h q) ≡ did d
    → CallGives q d
call-gives p t room h q d e =
    let r = asked p t room h q d e in
    record {
      start = λ a7 a6.
          let s = request-hsm q a7 ∙ hart-0 q a6 in
          (quiet-did (request-quiet p (view t h) h q (life (hart_start q.a0 q.a1 q.a2)) tt).1 d
          (ap (request_reply p (view t h) h) (sym s) ∙ r)).0;
      told = λ i f. (quiet-did (request-quiet p (view t h) h q (request q) (silent q i f)).1 d r).1;
      others = λ i f n.
          (quiet-did (request-quiet p (view t h) h q (request q) (silent q i f)).1 d r).0 ∙ startless q n;
    }

pub actions-exact : ActionsExact
unfolding enabled_reply done_reply wake_reply event_reply view
actions-exact p t (call room h q) d e = call-gives p t room h q d e
actions-exact p t (completion room h) d e =
    let r = quiet-did (goes_on-quiet (view t h) h [] (done_of (hart_at t.harts h))) d
    (did-passed p t (completion room h) d e).replied in
    record { actions = r.0; told = r.1 }
actions-exact p t (waking room h) d e =
    let r = quiet-did (goes_on-quiet (view t h) h (wake_actions h (hart_at t.harts h)) (wake_of (hart_at t.harts h))) d
    (did-passed p t (waking room h) d e).replied in
    record {
      retentive = λ y. r.0 ∙ (unfold wake_actions in if-true _ _ y);
      non_retentive = λ n. r.0 ∙ (unfold wake_actions in if-false _ _ n);
      told = r.1;
    }
actions-exact p t (event h c) d e =
    let r = quiet-did (plain_quiet (view t h) {s = false} p-gives refl) d
    (if-did _ _ _ d (did-passed p t (event h c) d e).replied).1 in
    record { actions = r.0; told = r.1 }

pub parked-exactly : ParkedExactly
unfolding enabled_reply done_reply wake_reply event_reply view
parked-exactly p t (call room h q) d e =
    request-parked p (view t h) h q (request q) d (asked p t room h q d e) ∙ parking q
parked-exactly p t (completion room h) d e =
    (quiet-did (goes_on-quiet (view t h) h [] (done_of (hart_at t.harts h))) d
    (did-passed p t (completion room h) d e).replied).2
parked-exactly p t (waking room h) d e =
    (quiet-did (goes_on-quiet (view t h) h (wake_actions h (hart_at t.harts h)) (wake_of (hart_at t.harts h))) d
    (did-passed p t (waking room h) d e).replied).2
parked-exactly p t (event h c) d e =
    plain-parked (view t h) _ d (if-did _ _ _ d (did-passed p t (event h c) d e).replied).1

bare-of : (r : Reply) → accepted r ≡ false → (parked_in (answer_of r) ≡ false) × (count_in (answer_of r) ≡ 0)
unfolding answer_of
bare-of (refused k) e = (refl, refl)
bare-of (failed x) e = (refl, refl)
bare-of (did d) e = cc

pub answers-exact : AnswersExact
unfolding answer_of pair_of
answers-exact p t op =
    record {
      refusal = λ k e. ap answer_of e;
      error = λ x e. ap answer_of e;
      done = λ d e. ap answer_of e;
      bare = bare-of (reply p t op);
      no_pair = λ k e. ap (λ r. pair_of (answer_of r)) e;
      error_pair = λ x e. ap (λ r. pair_of (answer_of r)) e;
      done_pair = λ d e. ap (λ r. pair_of (answer_of r)) e;
      no_paired = λ k e. ap (λ r. paired (answer_of r)) e;
      error_paired = λ x e. ap (λ r. paired (answer_of r)) e;
      done_paired = λ d e. ap (λ r. paired (answer_of r)) e;
    }

-- ----- they fit, and are laid at the front

words-length : (as' : List Action) → length (words_of as') ≡ 5 * length as'
unfolding words_of
words-length [] = refl
words-length (a ∷ as') = omega (arith, words-length as')

request-few : (p : Platform) (v : View) (h : ℕ) (x : Request) → Few (request_reply p v h x)
unfolding request_reply
request-few p v h (life x) = quiet-few (life-few x) (life-quiet p v h x)
request-few p v h (other x) = plain-few v (plain-deed p v x)

wake-few : (h : ℕ) (x : Hart) → length (wake_actions h x) ≤ harts
unfolding wake_actions
wake-few h x = if-both (λ (l : List Action). length l ≤ harts) x.retentive (λ _. omega arith) (λ _. omega arith)

enabled-few : (p : Platform) (v : View) (op : Operation) → Few (enabled_reply p v op)
unfolding enabled_reply done_reply wake_reply event_reply
enabled-few p v (call room h q) = if-both Few _ (λ _. few-refused) (λ _. request-few p v h (request q))
enabled-few p v (completion room h) = quiet-few zero-le (goes_on-quiet v h _ _)
enabled-few p v (waking room h) = quiet-few (wake-few h (hart_at v.harts h)) (goes_on-quiet v h _ _)
enabled-few p v (event h e) = if-both Few _ (λ _. few-refused) (λ _. plain-few v {s = false} p-gives)

reply-few : (p : Platform) (t : Tables) (op : Operation) → Few (reply p t op)
unfolding reply checked_reply
reply-few p t op = if-both Few _ (λ _. few-refused)
    (λ _. if-both Few _ (λ _. few-refused)
    (λ _. if-both Few _ (λ _. few-refused) (λ _. enabled-few p (view t (hart_of op)) op)))

few_words : {r : Reply} → Few r → length (words_of (actions_of r)) ≤ action_memory
unfolding actions_of words_of
few_words few-refused = zero-le
few_words few-failed = zero-le
few_words (few-did {d} l) = omega (arith, words-length d.actions)

pub actions-fit : ActionsFit
actions-fit p t op = few_words (reply-few p t op)

pub front-exact : FrontExact
unfolding front_of memory_after laid
front-exact r m = record {
  front = take-append_seam (words_of (actions_of r)) _;
  rest = drop-append_seam (words_of (actions_of r)) _;
}
