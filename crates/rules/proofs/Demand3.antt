-- Demand 3: rows, statuses as a status call reports them, and what is accepted and refused.
use mathlib.Core.Path.{◌≡◌, refl, ap, sym, ◌∙◌, subst}
use mathlib.Core.Bool.{true, false}
use mathlib.Core.List.{List, [], ◌∷◌, ◌++◌}
use Prim.Native.Nat.{ℕ}
use lib.Dec.{leb, eqb}
use borrow.Author.Tests.{eqb-true, eq-eqb, le-ltb, leb-true}
use Rattle.std.proofs.lemmas.Bool.{false_from_ne_true}
use Rattle.std.specs.Cmp.{first_so, second_so}
use Rattle.rules.specs.Choice.{when◌then◌else◌}
use Rattle.rules.specs.Names.{STARTED, STOPPED, HSM, action_memory}
use Rattle.rules.specs.Platform.{enabled, platform_accepted}
use Rattle.rules.specs.Tables.{Tables, state_of, fresh, TablesWellFormed}
use Rattle.rules.specs.Replies.{view, accepted, plain, answer_of}
use Rattle.rules.specs.Harts.{status_reply}
use Rattle.rules.specs.Requests.{hart_status, other, request}
use Rattle.rules.specs.Machine.{plain_reply, request_reply, Operation, call, checked_reply, reply}
use Rattle.rules.specs.Lives.{Event, last, Reading, placed}
use Rattle.rules.specs.Rows.{◌does◌, event_of, adds, prior, tables_now, row_now, ready}
use Rattle.rules.specs.Promises.{LivesHold}
use Rattle.rules.specs.declared.platform.Platform.{Platform}
use Rattle.rules.specs.declared.answers.Registers.{Registers}
use Rattle.rules.specs.Answers.{done}
use Rattle.std.specs.Prelude.{Ok}
use Rattle.rules.proofs.WellFormed.{platform-agrees, tables_agree}
use Rattle.rules.proofs.Readings.{run-read, read-run, run-one, run-last, run-next}
use Rattle.rules.proofs.Kept.{all-kept, fresh-fine}
use Rattle.rules.proofs.Tracks.{Tracks, track, track-all, track-fresh}
use Rattle.rules.proofs.HostWays.{reply-checked, checked-enabled, call-started}
use Rattle.rules.proofs.RequestWays.{request-hsm, hart-2}
use Rattle.rules.proofs.HartWays.{status-given}
use Rattle.rules.proofs.Accepts.{is-accepted, checked-accepts, running-enabled}

module _ (p : Platform) (ok : platform_accepted p ≡ true) (ops : List Operation) where
  boot-on : enabled p p.boot ≡ true
  boot-on = ((platform-agrees p).0 ok).boot

  fine : TablesWellFormed p (tables_now p ops)
  fine = all-kept p (fresh p) ops (fresh-fine p boot-on)

  tracked : (h : ℕ) → Tracks h (tables_now p ops).harts (row_now p ops h)
  tracked h = track-all p h (fresh p) (fresh-fine p boot-on) (prior p h) (track-fresh p h boot-on) ops

  statuses : (h : ℕ) (r : Reading (row_now p ops h)) → state_of (tables_now p ops).harts h ≡ placed r
  statuses h r =
      let T = tracked h in
      T.stands.state ∙ sym (run-last T.run)
      ∙ ap (last STOPPED) (run-one T.run (read-run r).1 (T.said ∙ sym r.said)).0

  -- what is accepted fits
  sound : (h : ℕ) (e : Event) (op : Operation) → event_of op ≡ h does e ∷ []
      → accepted (reply p (tables_now p ops) op) ≡ true → Reading (row_now p ops h ++ (e ∷ []))
  unfolding adds when◌then◌else◌
  sound h e op ev yes' =
      let T = track p h (tables_now p ops) fine (row_now p ops h) (tracked h) op in
      let added : adds p h (tables_now p ops) op ≡ e ∷ [] = rw (yes', ev, eq-eqb h h refl) refl in
      subst (λ (l : List Event). Reading (row_now p ops h ++ l)) added (subst Reading T.said (run-read T.run))

  -- what fits and is ready is accepted
  complete : (h : ℕ) (e : Event) (op : Operation) → enabled p h ≡ true → event_of op ≡ h does e ∷ []
      → ready p (tables_now p ops) op ≡ true
      → Reading (row_now p ops h ++ (e ∷ [])) → accepted (reply p (tables_now p ops) op) ≡ true
  complete h e op on ev r fit =
      let T = tracked h in
      let g = run-next T.run (read-run fit).1 (fit.said ∙ ap (λ (l : List Event). l ++ (e ∷ [])) (sym T.said))
      in
      ap accepted (reply-checked p (tables_now p ops) op ok ((tables_agree p (tables_now p ops)).1 fine))
      ∙ is-accepted (checked-accepts p (tables_now p ops) fine h e on T.place g.0 T.stands g.1 op ev r)

-- a ready status call, answered
status-checked : (p : Platform) (t : Tables) (room k : ℕ) (q : Registers) → TablesWellFormed p t
    → request q ≡ other (hart_status q.a0) → ready p t (call room k q) ≡ true
    → checked_reply p t (call room k q) ≡ plain (view t k) (status_reply p (view t k) q.a0)
unfolding ready request_reply plain_reply
status-checked p t room k q w asked r =
    let m = second_so (leb action_memory room) _ r in
    let s : state_of t.harts k ≡ STARTED = eqb-true _ _ (first_so (eqb (state_of t.harts k) STARTED) _ m) in
    checked-enabled p t (call room k q) (le-ltb room action_memory (leb-true action_memory room (first_so _ _ r)))
    (running-enabled p t w k s)
    ∙ call-started p t room k q s
    ∙ ap (request_reply p (view t k) k) asked

status-shown : (p : Platform) (t : Tables) (h k : ℕ) → enabled p h ≡ true
    → answer_of (plain (view t k) (status_reply p (view t k) h)) ≡ Ok (done (state_of t.harts h) false 0)
unfolding plain answer_of view
status-shown p t h k on = rw (status-given p (view t k) h on) refl

status-call : (p : Platform) (t : Tables) (h room k : ℕ) (q : Registers) → platform_accepted p ≡ true
    → TablesWellFormed p t → enabled p h ≡ true
    → q.a7 ≡ HSM → q.a6 ≡ 2 → q.a0 ≡ h → ready p t (call room k q) ≡ true
    → answer_of (reply p t (call room k q)) ≡ Ok (done (state_of t.harts h) false 0)
status-call p t h room k q ok w on a7 a6 a0 r =
    ap answer_of
    (reply-checked p t (call room k q) ok ((tables_agree p t).1 w)
    ∙ status-checked p t room k q w (request-hsm q a7 ∙ hart-2 q a6) r
    ∙ ap (λ (j : ℕ). plain (view t k) (status_reply p (view t k) j)) a0)
    ∙ status-shown p t h k on

pub lives-hold : LivesHold
lives-hold p ok ops h on = record {
  reads = let T = tracked p ok ops h in subst Reading T.said (run-read T.run);
  status = statuses p ok ops h;
  reported = λ r room k q a7 a6 a0 w.
      status-call p (tables_now p ops) h room k q ok (fine p ok ops) on a7 a6 a0 w
      ∙ ap (λ (s : ℕ). Ok (done s false 0)) (statuses p ok ops h r);
  accepts = λ e op ev w fit. complete p ok ops h e op on ev w fit;
  refuses = λ e op ev no-fit. false_from_ne_true (accepted (reply p (tables_now p ops) op))
      (λ y. no-fit (sound p ok ops h e op ev y));
}
