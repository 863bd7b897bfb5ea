-- Sleep notes: fresh ones, what an accepted suspend writes, and that nothing else alters one.
use mathlib.Core.Path.{subst, ◌≡◌, refl, sym, ap, ◌∙◌}
use mathlib.Core.List.{List, [], ◌∷◌}
use mathlib.Core.Bool.{Bool, false, true}
use Prim.Native.Nat.{◌≤◌, ◌%◌, ◌<◌, ◌^◌, ℕ}
use native.Mathlib.Omega.{arith}
use lib.Dec.{eqb}
use lib.Seq.{get_or-set_other, get_or-set_same}
use lib.ListN.{get_or-eq_default, get_or, get_or-replicate, length, length-replicate, replicate, set}
use Rattle.rules.specs.declared.answers.Error.{Error}
use Rattle.rules.specs.declared.answers.Refusal.{Refusal}
use borrow.Author.Tests.{eqb-false, eqb-true}
use Rattle.rules.specs.Names.{non_retentive_type, HSM, RESUME_PENDING, START_PENDING, STARTED, STOP_PENDING}
use Rattle.rules.specs.Names.{STOPPED, SUSPENDED, counters, harts, retentive_type}
use Rattle.rules.specs.Promises.{FreshExact, NoteWritten, NotesKept, SameNote, SuspendsNoted}
use Rattle.rules.specs.Rows.{InRow, ◌does◌, event_of, request_event}
use Rattle.rules.specs.Counters.{event_reply}
use Rattle.rules.specs.Choice.{when◌then◌else◌}
use Rattle.rules.specs.Replies.{Done, Plain, Reply, View, accepted, commit, did, failed, fails, gives, moves}
use Rattle.rules.specs.Replies.{plain, refused, sends, view}
use Rattle.rules.specs.Harts.{done_of, done_reply, goes_on, start_reply, stop_reply, suspend_of, suspend_reply, wake_of}
use Rattle.rules.specs.Harts.{wake_reply}
use Rattle.rules.specs.Platform.{valid_address}
use Rattle.rules.specs.Machine.{Operation, after, call, checked_reply, completion, enabled_reply, event, hart_of}
use Rattle.rules.specs.Machine.{life_reply, plain_reply, reply, request_reply, waking}
use Rattle.rules.specs.Tables.{Tables, blank, counter_at, fresh, hart_at, idle, in_state, own_at}
use Rattle.rules.specs.Requests.{Request, hart_start, hart_stop, hart_suspend, life, other, request}
use Rattle.rules.specs.Lives.{suspend}
use Rattle.std.specs.Prelude.{Option, None, Some}
use Rattle.rules.specs.declared.platform.Platform.{Platform}
use Rattle.rules.specs.declared.answers.Registers.{Registers}
use Rattle.rules.specs.declared.actions.Action.{Action}
use Rattle.rules.specs.declared.records.Counter.{Counter}
use Rattle.rules.specs.declared.records.Hart.{Hart}
use Rattle.rules.proofs.HartWays.{suspend-no-type, suspend-given, suspend-nowhere, suspend-retentive}
use Rattle.rules.proofs.Logic.{below_or, by_cases, if-both}
use Rattle.rules.proofs.Lists.{get_or-repeat, set-either}
use Rattle.rules.proofs.Passed.{Passed, accepted-did, did-passed, if-did}
use Rattle.rules.proofs.RequestWays.{hart-3, request-hsm}
use Rattle.rules.proofs.WellFormed.{enabled_under, platform-agrees}

-- ----- fresh tables

pub fresh-exact : FreshExact
unfolding fresh hart_at own_at counter_at
fresh-exact p ok =
    let some-hart : p.boot < length (replicate harts (idle STOPPED)) =
    rw (length-replicate harts (idle STOPPED)) (enabled_under p p.boot ((platform-agrees p).0 ok).boot) in
    record {
      boot = get_or-set_same (replicate harts (idle STOPPED)) p.boot (idle STARTED) (idle STOPPED) some-hart;
      others = λ h away.
          get_or-set_other (replicate harts (idle STOPPED)) p.boot h (idle STARTED) (idle STOPPED) away
          ∙ get_or-repeat harts h (idle STOPPED);
      counters = λ h i.
          below_or h harts
          (λ l. ap (λ (cs : List Counter). get_or cs i blank) (get_or-replicate harts h (replicate counters blank) [] l)
          ∙ get_or-repeat counters i blank)
          (λ g.
          let past : length (replicate harts (replicate counters blank)) ≤ h =
          rw (length-replicate harts (replicate counters blank)) g in
          ap (λ (cs : List Counter). get_or cs i blank)
          (get_or-eq_default (replicate harts (replicate counters blank)) [] past));
    }

-- ----- what leaves a note as it was

kept : (x : Hart) (s : ℕ) → SameNote x (in_state x s)
kept x s = record { retentive = refl; address = refl; opaque = refl }

same : (x : Hart) → SameNote x x
same x = record { retentive = refl; address = refl; opaque = refl }

-- a record's next one has the same note
data NextNote (x : Hart) : Option Hart → Type 0 where
  n-to : {y : Hart} → SameNote x y → NextNote x (Some y)
  n-forbidden : NextNote x None

step : {x : Hart} {b : Bool} {m n : Option Hart} → (b ≡ true → NextNote x m) → (b ≡ false → NextNote x n)
    → NextNote x (when b then m else n)
step {x} {b} f g = if-both (NextNote x) b f g

done-note : (x : Hart) → NextNote x (done_of x)
unfolding done_of
done-note x =
    step (λ _. n-to (kept x STARTED))
    (λ _. step (λ _. n-to (kept x STOPPED))
    (λ _. step (λ _. n-to (kept x SUSPENDED)) (λ _. step (λ _. n-to (kept x STARTED)) (λ _. n-forbidden))))

wake-note : (x : Hart) → NextNote x (wake_of x)
unfolding wake_of
wake-note x = step (λ _. n-to (kept x RESUME_PENDING)) (λ _. n-forbidden)

-- hart by hart: the notes of all harts but those that the events es let sleep
abbrev NotesSame : List Hart → List InRow → List Hart → Type 0
NotesSame hs es hs' = (k : ℕ) → (es ≡ k does suspend ∷ [] → ⊥) → SameNote (hart_at hs k) (hart_at hs' k)

set-note : (hs : List Hart) (es : List InRow) (h : ℕ) (x : Hart) → SameNote (hart_at hs h) x
    → NotesSame hs es (set hs h x)
unfolding hart_at
set-note hs es h x n k away =
    set-either (SameNote (hart_at hs k)) (idle STOPPED) hs h k x
    (λ e. subst (λ (j : ℕ). SameNote (hart_at hs j) x) (sym e) n) (same (hart_at hs k))

set-sleep : (hs : List Hart) (h : ℕ) (x : Hart) → NotesSame hs (h does suspend ∷ []) (set hs h x)
unfolding hart_at
set-sleep hs h x k away =
    set-either (SameNote (hart_at hs k)) (idle STOPPED) hs h k x
    (λ e. absurd (away (ap (λ (j : ℕ). j does suspend ∷ []) (sym e)))) (same (hart_at hs k))

-- ----- every reply

data NotesStay (hs : List Hart) (es : List InRow) : Reply → Type 0 where
  s-refused : {k : Refusal} → NotesStay hs es (refused k)
  s-failed : {e : Error} → NotesStay hs es (failed e)
  s-did : {d : Done} → NotesSame hs es d.harts → NotesStay hs es (did d)

walk : {hs : List Hart} {es : List InRow} {b : Bool} {x y : Reply} → (b ≡ true → NotesStay hs es x)
    → (b ≡ false → NotesStay hs es y) → NotesStay hs es (when b then x else y)
walk {hs} {es} {b} f g = if-both (NotesStay hs es) b f g

moves-stay : (v : View) (k : Bool) (acts : List Action) {es : List InRow} (hs : List Hart)
    → NotesSame v.harts es hs → NotesStay v.harts es (moves v k acts hs)
unfolding moves
moves-stay v k acts hs n = s-did n

plain-stay : (v : View) {es : List InRow} (q : Plain) → NotesStay v.harts es (plain v q)
unfolding plain
plain-stay v (fails e) = s-failed
plain-stay v (gives n cs) = s-did (λ k _. same (hart_at v.harts k))
plain-stay v (sends acts c ks) = s-did (λ k _. same (hart_at v.harts k))

request-stay : (p : Platform) (v : View) (h : ℕ) (q : Request)
    → NotesStay v.harts (request_event h q) (request_reply p v h q)
unfolding request_reply life_reply start_reply stop_reply suspend_reply
request-stay p v h (life (hart_start k a o)) =
    walk (λ _. s-failed) (λ _. walk (λ _. s-failed) (λ _. walk (λ _. s-failed)
    (λ _. moves-stay v _ _ _ (set-note v.harts _ k _ (kept (hart_at v.harts k) START_PENDING)))))
request-stay p v h (life hart_stop) =
    moves-stay v _ _ _ (set-note v.harts _ h _ (kept (hart_at v.harts h) STOP_PENDING))
request-stay p v h (life (hart_suspend y a o)) =
    walk (λ _. moves-stay v _ _ _ (set-sleep v.harts h _))
    (λ _. walk (λ _. s-failed)
    (λ _. walk (λ _. s-failed) (λ _. moves-stay v _ _ _ (set-sleep v.harts h _))))
request-stay p v h (other q) = plain-stay v (plain_reply p v q)

goes_on-stay : (v : View) (h : ℕ) (acts : List Action) {es : List InRow} (n : Option Hart)
    → NextNote (hart_at v.harts h) n → NotesStay v.harts es (goes_on v h acts n)
unfolding goes_on
goes_on-stay v h acts (Some x) (n-to s) = moves-stay v _ _ _ (set-note v.harts _ h x s)
goes_on-stay v h acts None n-forbidden = s-refused

enabled-stay : (p : Platform) (v : View) (op : Operation) → NotesStay v.harts (event_of op) (enabled_reply p v op)
unfolding enabled_reply done_reply wake_reply event_reply
enabled-stay p v (call room h r) = walk (λ _. s-refused) (λ _. request-stay p v h (request r))
enabled-stay p v (completion room h) = goes_on-stay v h _ _ (done-note (hart_at v.harts h))
enabled-stay p v (waking room h) = goes_on-stay v h _ _ (wake-note (hart_at v.harts h))
enabled-stay p v (event h e) = walk (λ _. s-refused) (λ _. plain-stay v _)

reply-stay : (p : Platform) (t : Tables) (op : Operation) → NotesStay t.harts (event_of op) (reply p t op)
unfolding reply checked_reply view
reply-stay p t op = walk (λ _. s-refused)
    (λ _. walk (λ _. s-refused) (λ _. walk (λ _. s-refused) (λ _. enabled-stay p (view t (hart_of op)) op)))

commit-stay : (t : Tables) (h k : ℕ) (es : List InRow) (r : Reply) → NotesStay t.harts es r
    → (accepted r ≡ true → es ≡ k does suspend ∷ [] → ⊥)
    → SameNote (hart_at t.harts k) (hart_at (commit t h r).harts k)
unfolding commit
commit-stay t h k es (refused j) s n = same (hart_at t.harts k)
commit-stay t h k es (failed j) s n = same (hart_at t.harts k)
commit-stay t h k es (did d) (s-did f) n = f k (n refl)

pub notes-kept : NotesKept
unfolding after
notes-kept p t op k n = commit-stay t (hart_of op) k (event_of op) (reply p t op) (reply-stay p t op) n

-- ----- an accepted suspend

module _ (p : Platform) (t : Tables) (room h : ℕ) (q : Registers) (a7 : q.a7 ≡ HSM) (a6 : q.a6 ≡ 3)
    (yes' : accepted (reply p t (call room h q)) ≡ true) where
  abbrev type : ℕ
  type = q.a0 % 2 ^ 32

  deed : (d : Done) × (reply p t (call room h q) ≡ did d)
  deed = accepted-did (reply p t (call room h q)) yes'

  passed : Passed p t (call room h q) deed.0
  passed = did-passed p t (call room h q) deed.0 deed.1

  suspended : suspend_reply p (view t h) h type q.a1 q.a2 ≡ did deed.0
  unfolding enabled_reply request_reply life_reply
  suspended =
      ap (request_reply p (view t h) h) (sym (request-hsm q a7 ∙ hart-3 q a6))
      ∙ (if-did _ _ _ deed.0 passed.replied).1

  -- the record that the reply stores
  stored : (x : Hart) → suspend_reply p (view t h) h type q.a1 q.a2
      ≡ moves (view t h) true [] (set t.harts h x)
      → hart_at (after p t (call room h q)).harts h ≡ x
  unfolding after commit moves hart_at
  stored x e =
      let done : did deed.0 ≡ moves (view t h) true [] (set t.harts h x) = sym suspended ∙ e in
      let records : deed.0.harts ≡ set t.harts h x = cc in
      ap (λ (r : Reply). get_or (commit t h r).harts h (idle STOPPED)) deed.1
      ∙ ap (λ (hs : List Hart). get_or hs h (idle STOPPED)) records
      ∙ get_or-set_same t.harts h x (idle STOPPED)
      (rw passed.fine.records (enabled_under p h passed.on))

  noted : NoteWritten q (hart_at (after p t (call room h q)).harts h)
  unfolding suspend_of when◌then◌else◌ view
  noted = record {
    type = λ n.
        by_cases (eqb type non_retentive_type) (λ y. eqb-true _ _ y)
        (λ m.
        let e = sym suspended ∙ suspend-no-type p (view t h) h type q.a1 q.a2 n (eqb-false _ _ m) in
        let z : ◌≡◌ {A = ℕ} 0 1 = cc in absurd (omega arith));
    retentive = λ y. stored _ (suspend-retentive p (view t h) h type q.a1 q.a2 y);
    non_retentive = λ y.
        let n : type ≡ retentive_type → ⊥ = λ z. omega arith in
        by_cases (valid_address p q.a1)
        (λ a. stored _ (suspend-given p (view t h) h type q.a1 q.a2 n y a))
        (λ a.
        let e = sym suspended ∙ suspend-nowhere p (view t h) h type q.a1 q.a2 n y a in
        let z : ◌≡◌ {A = ℕ} 0 1 = cc in absurd (omega arith));
  }

pub suspends-noted : SuspendsNoted
suspends-noted p t room h q a7 a6 yes' = noted p t room h q a7 a6 yes'
