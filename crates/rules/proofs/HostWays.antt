-- The host's refusals by the tests that lead to them, and which request a call's registers make.
use mathlib.Core.Path.{◌≡◌, refl, ap, ◌∙◌}
use mathlib.Core.Bool.{true, false, not}
use Prim.Native.Nat.{ℕ}
use borrow.Author.Tests.{eq-eqb, ne_eqb}
use Rattle.std.specs.Cmp.Derive.{both_true}
use Rattle.std.proofs.lemmas.Bool.{not_from_true}
use Rattle.rules.specs.Names.{STARTED}
use Rattle.rules.specs.Platform.{enabled, platform_accepted}
use Rattle.rules.specs.Tables.{Tables, state_of, tables_well_formed, well_formed}
use Rattle.rules.specs.Replies.{view, refused}
use Rattle.rules.specs.Harts.{done_reply, wake_reply}
use Rattle.rules.specs.Counters.{event_reply}
use Rattle.rules.specs.Requests.{request}
use Rattle.rules.specs.Machine.{request_reply, Operation, call, completion, waking, event, hart_of, is_short}
use Rattle.rules.specs.Machine.{enabled_reply, checked_reply, reply}
use Rattle.rules.specs.declared.platform.Platform.{Platform}
use Rattle.rules.specs.declared.answers.Registers.{Registers}
use Rattle.rules.proofs.Logic.{if-true, if-false}
use Rattle.rules.specs.declared.answers.Refusal.TheVariants.{NotWellFormed, NotEnabled, NotStarted}
use Rattle.rules.specs.declared.answers.Refusal.TheVariants.{ShortMemory}

module _ (p : Platform) (t : Tables) where
  module _ (op : Operation) where
    -- ----- H1

    pub reply-ill : well_formed p t ≡ false → reply p t op ≡ refused NotWellFormed
    unfolding reply
    reply-ill e = if-true _ _ (ap not e)

    pub reply-well : well_formed p t ≡ true → reply p t op ≡ checked_reply p t op
    unfolding reply
    reply-well e = if-false _ _ (ap not e)

    pub reply-checked : platform_accepted p ≡ true → tables_well_formed p t ≡ true → reply p t op ≡ checked_reply p t op
    unfolding reply well_formed
    reply-checked ok e = if-false _ _ (not_from_true _ (both_true ok e))

    -- ----- H4, H2

    pub checked-short : is_short op ≡ true → checked_reply p t op ≡ refused ShortMemory
    unfolding checked_reply
    checked-short e = if-true _ _ e

    module _ (long : is_short op ≡ false) where
      pub checked-not-enabled : enabled p (hart_of op) ≡ false → checked_reply p t op ≡ refused NotEnabled
      unfolding checked_reply
      checked-not-enabled e = if-false _ _ long ∙ if-true _ _ (ap not e)

      pub checked-enabled : enabled p (hart_of op) ≡ true → checked_reply p t op ≡ enabled_reply p (view t (hart_of op)) op
      unfolding checked_reply
      checked-enabled e = if-false _ _ long ∙ if-false _ _ (ap not e)

  -- ----- H3, then the request

  module _ (room h : ℕ) (q : Registers) where
    pub call-not-started : (state_of t.harts h ≡ STARTED → ⊥)
        → enabled_reply p (view t h) (call room h q) ≡ refused NotStarted
    unfolding enabled_reply view
    call-not-started n = if-true _ _ (ap not (ne_eqb _ _ n))

    pub call-started : state_of t.harts h ≡ STARTED
        → enabled_reply p (view t h) (call room h q) ≡ request_reply p (view t h) h (request q)
    unfolding enabled_reply view
    call-started s = if-false _ _ (ap not (eq-eqb _ _ s))

  pub completion-reply : (room h : ℕ) → enabled_reply p (view t h) (completion room h) ≡ done_reply (view t h) h
  unfolding enabled_reply
  completion-reply room h = refl

  pub waking-reply : (room h : ℕ) → enabled_reply p (view t h) (waking room h) ≡ wake_reply (view t h) h
  unfolding enabled_reply
  waking-reply room h = refl

  pub event-reply : (h e : ℕ) → enabled_reply p (view t h) (event h e) ≡ event_reply (view t h) e
  unfolding enabled_reply
  event-reply h e = refl
