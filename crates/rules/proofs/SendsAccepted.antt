-- Which interrupts, fences and reported events are accepted, and how the others are answered.
use mathlib.Core.Path.{refl, ◌≡◌, ap, ◌∙◌}
use mathlib.Core.List.{List}
use mathlib.Core.Bool.{false, true}
use Prim.Native.Nat.{ℕ}
use Rattle.rules.specs.declared.answers.Error.{Error}
use borrow.Author.Tests.{le-ltb}
use Rattle.rules.specs.Platform.{width}
use Rattle.rules.specs.Tables.{Tables}
use Rattle.rules.specs.Counters.{event_reply}
use Rattle.rules.specs.Masks.{selected, selection_fits, send_to}
use Rattle.rules.specs.Machine.{call, event, plain_reply, reply, request_reply}
use Rattle.rules.specs.Names.{IPI, RFENCE, action_memory, last_reported}
use Rattle.rules.specs.Deliveries.{CanCall, EventsAccepted, FenceAnswered, FencesAccepted, InterruptAnswered}
use Rattle.rules.specs.Deliveries.{InterruptsAccepted}
use Rattle.rules.specs.Events.{id_in, operands_of, size_in, start_in}
use Rattle.rules.specs.declared.actions.Fence.{Fence}
use Rattle.rules.specs.Fences.{function_of, hypervisors_fit, id_valid, range_valid}
use Rattle.rules.specs.Requests.{PlainRequest, interrupt, other, request}
use Rattle.rules.specs.Replies.{Plain, accepted, failed, fails, plain, view}
use Rattle.rules.specs.declared.answers.Registers.{Registers}
use Rattle.rules.specs.declared.platform.Platform.{Platform}
use Rattle.rules.proofs.HostOrder.{reply-enabled}
use Rattle.rules.proofs.HostWays.{call-started, event-reply}
use Rattle.rules.proofs.Reach.{fence-asked}
use Rattle.rules.proofs.CounterWays.{event-given, event-not-reportable}
use Rattle.rules.proofs.Logic.{below_or, by_cases, clash}
use Rattle.rules.proofs.RequestWays.{interrupt-0, request-ipi}
use Rattle.rules.proofs.ReachWays.{fence-no-hypervisor, fence-no-id, fence-no-range, fence-sent, fence-unfit}
use Rattle.rules.proofs.ReachWays.{interrupt-sent, interrupt-unfit}
use Rattle.rules.specs.declared.answers.Error.TheVariants.{InvalidAddress, InvalidParam}
use Rattle.rules.specs.declared.answers.Error.TheVariants.{NotSupported}

module _ (p : Platform) (t : Tables) (room h : ℕ) (q : Registers) (can : CanCall p t room h) where
  -- past every host refusal
  pub call-reply : reply p t (call room h q) ≡ request_reply p (view t h) h (request q)
  call-reply =
      reply-enabled p t (call room h q) can.well (le-ltb room action_memory can.long) can.on
      ∙ call-started p t room h q can.started

  -- the reply to a request that alters no hart record
  answered : {x : PlainRequest} {y : Plain} → request q ≡ other x → plain_reply p (view t h) x ≡ y
      → reply p t (call room h q) ≡ plain (view t h) y
  unfolding request_reply
  answered e f = call-reply ∙ ap (request_reply p (view t h) h) e ∙ ap (plain (view t h)) f

  failing : {x : PlainRequest} {e : Error} → request q ≡ other x → plain_reply p (view t h) x ≡ fails e
      → reply p t (call room h q) ≡ failed e
  unfolding plain
  failing e f = answered e f

  sending : {x : PlainRequest} (k s n i c : ℕ) (hs : List ℕ) → request q ≡ other x
      → plain_reply p (view t h) x ≡ send_to k s n i c hs → accepted (reply p t (call room h q)) ≡ true
  unfolding plain send_to
  sending k s n i c hs e f = ap accepted (answered e f)

  -- what failed was not accepted
  failed-not : {e : Error} → reply p t (call room h q) ≡ failed e → accepted (reply p t (call room h q)) ≡ true → ⊥
  failed-not e y = clash y (ap accepted e)

  interrupts : q.a7 ≡ IPI → q.a6 ≡ 0 → InterruptAnswered p (reply p t (call room h q)) q
  unfolding plain_reply view
  interrupts a7 a6 =
      let asks : request q ≡ other (interrupt q.a0 q.a1) = request-ipi q a7 ∙ ap other (interrupt-0 q a6) in
      let none : selection_fits p q.a0 q.a1 ≡ false → reply p t (call room h q) ≡ failed InvalidParam =
      λ n. failing asks (interrupt-unfit p (view t h) q.a0 q.a1 n) in
      record {
        accepts = (
          λ y. by_cases (selection_fits p q.a0 q.a1) (λ f. f) (λ n. absurd (failed-not (none n) y)),
          λ f. sending _ _ _ _ _ _ asks (interrupt-sent p (view t h) q.a0 q.a1 f),
        );
        no_harts = none;
      }

  fences : (f : Fence) → q.a7 ≡ RFENCE → q.a6 ≡ function_of f → FenceAnswered p f (reply p t (call room h q)) q
  unfolding plain_reply view
  fences f a7 a6 =
      let v = view t h in
      let s = start_in (operands_of f) q in
      let n = size_in (operands_of f) q in
      let i = id_in (operands_of f) q in
      let k = function_of f in
      let asks = fence-asked q f a7 a6 in
      let no1 : selection_fits p q.a0 q.a1 ≡ false → reply p t (call room h q) ≡ failed InvalidParam =
      λ e. failing asks (fence-unfit p v q.a0 q.a1 k s n i e) in
      let no2 : selection_fits p q.a0 q.a1 ≡ true → id_valid p k i ≡ false
      → reply p t (call room h q) ≡ failed InvalidParam =
      λ a e. failing asks (fence-no-id p v q.a0 q.a1 k s n i a e) in
      let no3 : selection_fits p q.a0 q.a1 ≡ true → id_valid p k i ≡ true
      → hypervisors_fit p k (selected p q.a0 q.a1) ≡ false
      → reply p t (call room h q) ≡ failed NotSupported =
      λ a b e. failing asks (fence-no-hypervisor p v q.a0 q.a1 k s n i a b e) in
      let no4 : selection_fits p q.a0 q.a1 ≡ true → id_valid p k i ≡ true
      → hypervisors_fit p k (selected p q.a0 q.a1) ≡ true → range_valid (width p) s n ≡ false
      → reply p t (call room h q) ≡ failed InvalidAddress =
      λ a b c e. failing asks (fence-no-range p v q.a0 q.a1 k s n i a b c e) in
      record {
        accepts = (
          λ y.
              by_cases (selection_fits p q.a0 q.a1)
              (λ a. by_cases (id_valid p k i)
              (λ b. by_cases (hypervisors_fit p k (selected p q.a0 q.a1))
              (λ c. by_cases (range_valid (width p) s n)
              (λ d. record { selection = a; id = b; hypervisors = c; range = d })
              (λ e. absurd (failed-not (no4 a b c e) y)))
              (λ e. absurd (failed-not (no3 a b e) y)))
              (λ e. absurd (failed-not (no2 a e) y)))
              (λ e. absurd (failed-not (no1 e) y)),
          λ g. sending _ _ _ _ _ _ asks
              (fence-sent p v q.a0 q.a1 k s n i g.selection g.id g.hypervisors g.range),
        );
        no_harts = no1;
        no_id = no2;
        no_hypervisor = no3;
        no_range = no4;
      }

pub interrupts-accepted : InterruptsAccepted
interrupts-accepted p t room h q can = interrupts p t room h q can

pub fences-accepted : FencesAccepted
fences-accepted p t room h f q can = fences p t room h q can f

pub events-accepted : EventsAccepted
unfolding plain
events-accepted p t h e w on =
    let replied : reply p t (event h e) ≡ event_reply (view t h) e =
    reply-enabled p t (event h e) w refl on ∙ event-reply p t h e in (
      λ y. below_or last_reported e
          (λ l. absurd (clash y (ap accepted (replied ∙ event-not-reportable (view t h) e l)))) (λ l. l),
      λ l. ap accepted (replied ∙ event-given (view t h) e l),
    )
