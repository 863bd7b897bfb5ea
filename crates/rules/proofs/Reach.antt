-- Interrupts and fences: whom an accepted one reaches, with which actions, and as which event.
use mathlib.Core.Path.{◌≡◌, refl, ap, sym, ◌∙◌, subst}
use mathlib.Core.Bool.{Bool, true, false}
use mathlib.Core.List.{map}
use Prim.Native.Nat.{ℕ, ◌+◌}
use native.Mathlib.Omega.{arith}
use lib.Dec.{eqb}
use Rattle.rules.specs.declared.answers.Error.{Error}
use Rattle.rules.specs.Names.{IPI, RFENCE, interrupt_kind, fence_kind, interrupt_sent}
use Rattle.rules.specs.Choice.{when◌then◌else◌}
use Rattle.rules.specs.Tables.{Tables}
use Rattle.rules.specs.Replies.{View, view, Done, did, Plain, fails, plain}
use Rattle.rules.specs.Masks.{reached, action_for, send_to}
use Rattle.rules.specs.declared.actions.Fence.{Fence}
use Rattle.rules.specs.declared.actions.Fence.TheVariants.{FenceI, SfenceVma, SfenceVmaAsid}
use Rattle.rules.specs.declared.actions.Fence.TheVariants.{HfenceGvmaVmid, HfenceGvma}
use Rattle.rules.specs.declared.actions.Fence.TheVariants.{HfenceVvmaAsid, HfenceVvma}
use Rattle.rules.specs.Fences.{function_of, sent_code, interrupt_reply, fence_reply}
use Rattle.rules.specs.Requests.{PlainRequest, other, fence, unknown, interrupt_request, fence_request, request}
use Rattle.rules.specs.Machine.{plain_reply, request_reply, call, enabled_reply, reply}
use Rattle.rules.specs.Events.{sent_event, operands_of, start_in, size_in, id_in}
use Rattle.rules.specs.Deliveries.{Sends, CallsReachExactly}
use Rattle.rules.specs.declared.platform.Platform.{Platform}
use Rattle.rules.specs.declared.answers.Registers.{Registers}
use Rattle.rules.proofs.Logic.{by_cases, if-true, if-false}
use Rattle.rules.proofs.Passed.{if-did, did-passed}

-- the table's rule, by the standard's names
pub sent-code : (f : Fence) → sent_code (function_of f) ≡ sent_event f
unfolding sent_code
sent-code FenceI = refl
sent-code SfenceVma = refl
sent-code SfenceVmaAsid = refl
sent-code HfenceGvmaVmid = refl
sent-code HfenceGvma = refl
sent-code HfenceVvmaAsid = refl
sent-code HfenceVvma = refl

-- what a fence by name asks for
pub fence-asked : (q : Registers) (f : Fence) → q.a7 ≡ RFENCE → q.a6 ≡ function_of f
    → request q ≡ other
    (fence (function_of f) q.a0 q.a1 (start_in (operands_of f) q) (size_in (operands_of f) q)
    (id_in (operands_of f) q))
unfolding request fence_request when◌then◌else◌
fence-asked q FenceI a7 a6 = rw (a7, a6) refl
fence-asked q SfenceVma a7 a6 = rw (a7, a6) refl
fence-asked q SfenceVmaAsid a7 a6 = rw (a7, a6) refl
fence-asked q HfenceGvmaVmid a7 a6 = rw (a7, a6) refl
fence-asked q HfenceGvma a7 a6 = rw (a7, a6) refl
fence-asked q HfenceVvmaAsid a7 a6 = rw (a7, a6) refl
fence-asked q HfenceVvma a7 a6 = rw (a7, a6) refl

-- a reply that is done did not fail
if-sent : (v : View) (b : Bool) (e : Error) (q : Plain) (d : Done) → plain v (when b then fails e else q) ≡ did d
    → plain v q ≡ did d
unfolding plain when◌then◌else◌
if-sent v true e q d i = let z : ◌≡◌ {A = ℕ} 0 1 = cc in absurd (omega arith)
if-sent v false e q d i = i

module _ (p : Platform) (t : Tables) (room h : ℕ) (q : Registers) (d : Done)
    (done : reply p t (call room h q) ≡ did d) where
  sent : (k s n i c : ℕ) → plain (view t h) (send_to k s n i c (reached p t.harts q.a0 q.a1)) ≡ did d
      → Sends p t h q d k s n i c
  unfolding plain send_to view
  sent k s n i c e =
      let told : d.told ≡ reached p t.harts q.a0 q.a1 = cc in
      let acts : d.actions ≡ map (action_for k s n i) (reached p t.harts q.a0 q.a1) = cc in
      record {
        told = told;
        actions = acts ∙ ap (map (action_for k s n i)) (sym told);
        code = cc;
        harts = cc;
        own = cc;
        value = cc;
        parked = cc;
      }

  asked : request_reply p (view t h) h (request q) ≡ did d
  unfolding enabled_reply
  asked = (if-did _ _ _ d (did-passed p t (call room h q) d done).replied).1

  interrupts : q.a7 ≡ IPI → Sends p t h q d interrupt_kind 0 0 0 interrupt_sent
  unfolding request_reply plain_reply interrupt_reply interrupt_request view
  interrupts a7 =
      let e : plain (view t h) (plain_reply p (view t h) (interrupt_request q)) ≡ did d =
      ap (request_reply p (view t h) h) (sym (ipi a7)) ∙ asked in
      by_cases (eqb q.a6 0)
      (λ y. sent _ _ _ _ _
      (if-sent (view t h) _ _ _ d
      (ap (λ (r : PlainRequest). plain (view t h) (plain_reply p (view t h) r)) (sym (if-true _ _ y)) ∙ e)))
      (λ n. absurd
      (unknown-fails
      (ap (λ (r : PlainRequest). plain (view t h) (plain_reply p (view t h) r)) (sym (if-false _ _ n)) ∙ e)))
    where
      ipi : q.a7 ≡ IPI → request q ≡ other (interrupt_request q)
      ipi a7 = unfold request when◌then◌else◌ in rw a7 refl

      unknown-fails : plain (view t h) (plain_reply p (view t h) unknown) ≡ did d → ⊥
      unknown-fails e = unfold plain plain_reply in (let z : ◌≡◌ {A = ℕ} 0 1 = cc in omega arith)

  fences : (f : Fence) → q.a7 ≡ RFENCE → q.a6 ≡ function_of f
      → Sends p t h q d (fence_kind + function_of f) (start_in (operands_of f) q) (size_in (operands_of f) q)
      (id_in (operands_of f) q) (sent_event f)
  unfolding request_reply plain_reply fence_reply view
  fences f a7 a6 =
      let e = ap (request_reply p (view t h) h) (sym (fence-asked q f a7 a6)) ∙ asked in
      let last = if-sent (view t h) _ _ _ d
      (if-sent (view t h) _ _ _ d (if-sent (view t h) _ _ _ d (if-sent (view t h) _ _ _ d e))) in
      subst (Sends p t h q d _ _ _ _) (sent-code f) (sent _ _ _ _ _ last)

pub calls-reach-exactly : CallsReachExactly
calls-reach-exactly p t room h q d done =
    record { interrupts = interrupts p t room h q d done; fences = fences p t room h q d done }
