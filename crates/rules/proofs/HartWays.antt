-- Each reply on hart states by the tests that lead to it, so that no proof of code opens a definition of the rules.
use mathlib.Core.Path.{◌≡◌, refl, ap, ◌∙◌}
use mathlib.Core.Bool.{true, false, not}
use mathlib.Core.List.{[], ◌∷◌}
use Prim.Native.Nat.{ℕ}
use lib.ListN.{set}
use borrow.Author.Tests.{eq-eqb, ne_eqb}
use Rattle.rules.specs.Names.{STOPPED, START_PENDING, STOP_PENDING, retentive_type, non_retentive_type}
use Rattle.rules.specs.Platform.{enabled, valid_address}
use Rattle.rules.specs.Tables.{in_state, hart_at, state_of}
use Rattle.rules.specs.Replies.{View, refused, failed, moves, fails, gives, enter}
use Rattle.rules.specs.Harts.{done_of, wake_of, suspend_of, start_reply, stop_reply, status_reply, suspend_reply, goes_on}
use Rattle.rules.specs.Harts.{wake_actions, done_reply, wake_reply}
use Rattle.rules.specs.declared.platform.Platform.{Platform}
use Rattle.rules.specs.declared.records.Hart.{Hart}
use Rattle.std.specs.Prelude.{Some, None}
use Rattle.rules.proofs.Logic.{if-true, if-false}
use Rattle.rules.specs.declared.answers.Error.TheVariants.{InvalidParam, InvalidAddress}
use Rattle.rules.specs.declared.answers.Error.TheVariants.{AlreadyAvailable}
use Rattle.rules.specs.declared.answers.Refusal.TheVariants.{StateForbids}

module _ (p : Platform) (v : View) (k : ℕ) where
  -- ----- status

  pub status-not-enabled : enabled p k ≡ false → status_reply p v k ≡ fails InvalidParam
  unfolding status_reply
  status-not-enabled e = if-true _ _ (ap not e)

  pub status-given : enabled p k ≡ true → status_reply p v k ≡ gives (state_of v.harts k) v.own
  unfolding status_reply
  status-given e = if-false _ _ (ap not e)

  -- ----- start

  module _ (a o : ℕ) where
    pub start-not-enabled : enabled p k ≡ false → start_reply p v k a o ≡ failed InvalidParam
    unfolding start_reply
    start-not-enabled e = if-true _ _ (ap not e)

    module _ (on : enabled p k ≡ true) where
      pub start-not-stopped : (state_of v.harts k ≡ STOPPED → ⊥) → start_reply p v k a o ≡ failed AlreadyAvailable
      unfolding start_reply
      start-not-stopped n = if-false _ _ (ap not on) ∙ if-true _ _ (ap not (ne_eqb _ _ n))

      module _ (s : state_of v.harts k ≡ STOPPED) where
        pub start-nowhere : valid_address p a ≡ false → start_reply p v k a o ≡ failed InvalidAddress
        unfolding start_reply
        start-nowhere e = if-false _ _ (ap not on) ∙ if-false _ _ (ap not (eq-eqb _ _ s)) ∙ if-true _ _ (ap not e)

        pub start-given : valid_address p a ≡ true
            → start_reply p v k a o
            ≡ moves v false (enter k a o ∷ []) (set v.harts k (in_state (hart_at v.harts k) START_PENDING))
        unfolding start_reply
        start-given e = if-false _ _ (ap not on) ∙ if-false _ _ (ap not (eq-eqb _ _ s)) ∙ if-false _ _ (ap not e)

-- ----- stop and suspend

pub stop-given : (v : View) (h : ℕ)
    → stop_reply v h ≡ moves v true [] (set v.harts h (in_state (hart_at v.harts h) STOP_PENDING))
unfolding stop_reply
stop-given v h = refl

module _ (p : Platform) (v : View) (h : ℕ) where
  module _ (y a o : ℕ) where
    pub suspend-retentive : y ≡ retentive_type
        → suspend_reply p v h y a o ≡ moves v true [] (set v.harts h (suspend_of true a o))
    unfolding suspend_reply
    suspend-retentive e = if-true _ _ (eq-eqb _ _ e)

    module _ (n : y ≡ retentive_type → ⊥) where
      pub suspend-no-type : (y ≡ non_retentive_type → ⊥) → suspend_reply p v h y a o ≡ failed InvalidParam
      unfolding suspend_reply
      suspend-no-type e = if-false _ _ (ne_eqb _ _ n) ∙ if-true _ _ (ap not (ne_eqb _ _ e))

      module _ (e : y ≡ non_retentive_type) where
        pub suspend-nowhere : valid_address p a ≡ false → suspend_reply p v h y a o ≡ failed InvalidAddress
        unfolding suspend_reply
        suspend-nowhere f = if-false _ _ (ne_eqb _ _ n) ∙ if-false _ _ (ap not (eq-eqb _ _ e)) ∙ if-true _ _ (ap not f)

        pub suspend-given : valid_address p a ≡ true
            → suspend_reply p v h y a o ≡ moves v true [] (set v.harts h (suspend_of false a o))
        unfolding suspend_reply
        suspend-given f = if-false _ _ (ne_eqb _ _ n) ∙ if-false _ _ (ap not (eq-eqb _ _ e)) ∙ if-false _ _ (ap not f)

-- ----- completions and wakes

module _ (v : View) (h : ℕ) where
  pub done-forbidden : done_of (hart_at v.harts h) ≡ None → done_reply v h ≡ refused StateForbids
  unfolding done_reply goes_on
  done-forbidden e = ap (goes_on v h []) e

  pub done-given : (x : Hart) → done_of (hart_at v.harts h) ≡ Some x
      → done_reply v h ≡ moves v false [] (set v.harts h x)
  unfolding done_reply goes_on
  done-given x e = ap (goes_on v h []) e

  pub wake-forbidden : wake_of (hart_at v.harts h) ≡ None → wake_reply v h ≡ refused StateForbids
  unfolding wake_reply goes_on
  wake-forbidden e = ap (goes_on v h (wake_actions h (hart_at v.harts h))) e

  pub wake-given : (x : Hart) → wake_of (hart_at v.harts h) ≡ Some x
      → wake_reply v h ≡ moves v false (wake_actions h (hart_at v.harts h)) (set v.harts h x)
  unfolding wake_reply goes_on
  wake-given x e = ap (goes_on v h (wake_actions h (hart_at v.harts h))) e
