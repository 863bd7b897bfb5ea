-- The host's refusals come in document 01's order.
use mathlib.Core.Path.{ap, ◌≡◌, ◌∙◌}
use mathlib.Core.Bool.{false, not, true}
use Rattle.rules.specs.Platform.{enabled}
use Rattle.rules.specs.Replies.{refused, view}
use Rattle.rules.specs.Tables.{Tables, well_formed}
use Rattle.rules.specs.Machine.{checked_reply, enabled_reply, Operation, call, completion, waking, event, hart_of}
use Rattle.rules.specs.Machine.{is_short, reply}
use Rattle.rules.specs.Refusals.{LastRefusal, HostRefusalsInOrder}
use Rattle.rules.specs.declared.platform.Platform.{Platform}
use Rattle.rules.proofs.CounterWays.{event-not-reportable}
use Rattle.rules.proofs.Logic.{if-false, if-true}
use Rattle.rules.proofs.HostWays.{call-not-started, checked-enabled, checked-not-enabled, checked-short}
use Rattle.rules.proofs.HostWays.{completion-reply, event-reply, waking-reply}
use Rattle.rules.proofs.HartWays.{done-forbidden, wake-forbidden}
use Rattle.rules.specs.declared.answers.Refusal.TheVariants.{NotWellFormed}

module _ (p : Platform) (t : Tables) (op : Operation) where
  -- H1
  pub reply-ill : well_formed p t ≡ false → reply p t op ≡ refused NotWellFormed
  unfolding reply
  reply-ill w = if-true _ _ (ap not w)

  pub reply-well : well_formed p t ≡ true → reply p t op ≡ checked_reply p t op
  unfolding reply
  reply-well w = if-false _ _ (ap not w)

  -- past H1, H4 and H2
  pub reply-enabled : well_formed p t ≡ true → is_short op ≡ false → enabled p (hart_of op) ≡ true
      → reply p t op ≡ enabled_reply p (view t (hart_of op)) op
  reply-enabled w long on = reply-well w ∙ checked-enabled p t op long on

-- H3, H5, H6
last-refusal : (p : Platform) (t : Tables) (op : Operation) → well_formed p t ≡ true → is_short op ≡ false
    → enabled p (hart_of op) ≡ true → LastRefusal p t op
unfolding view
last-refusal p t (call room h q) w long on =
    λ n. reply-enabled p t (call room h q) w long on ∙ call-not-started p t room h q n
last-refusal p t (completion room h) w long on =
    λ f. reply-enabled p t (completion room h) w long on ∙ completion-reply p t room h ∙ done-forbidden (view t h) h f
last-refusal p t (waking room h) w long on =
    λ f. reply-enabled p t (waking room h) w long on ∙ waking-reply p t room h ∙ wake-forbidden (view t h) h f
last-refusal p t (event h e) w long on =
    λ over. reply-enabled p t (event h e) w long on ∙ event-reply p t h e ∙ event-not-reportable (view t h) e over

pub host-refusals-in-order : HostRefusalsInOrder
host-refusals-in-order p t op = record {
  h1 = reply-ill p t op;
  h4 = λ w short. reply-well p t op w ∙ checked-short p t op short;
  h2 = λ w long off. reply-well p t op w ∙ checked-not-enabled p t op long off;
  last = last-refusal p t op;
}
