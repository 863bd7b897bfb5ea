-- `base` chooses by the function.
use mathlib.Core.Path.{◌≡◌, refl, ap, ◌∙◌}
use Prim.Native.Nat.{ℕ}
use borrow.Author.Rules.{rules}
use Rattle.std.specs.Prelude.{Ok}
use Rattle.rules.specs.Machine.{plain_reply}
use Rattle.rules.specs.Replies.{View, gives, view}
use Rattle.rules.specs.Requests.{PlainRequest, base_request}
use Rattle.rules.specs.declared.platform.Platform.{Platform}
use Rattle.tables.specs.Keeping.{seen}
use Rattle.rules.specs.declared.answers.Error.TheVariants.{NotSupported}
use Rattle.rules.proofs.RequestWays.{base-0, base-1, base-2, base-3, base-4, base-5, base-6, base-unknown}
use Rattle.dispatch.proofs.MeetsLaws.{plain-failing, plain-giving}
use Rattle.dispatch.proofs.base.base.Goals.{in-0, in-1, in-2, in-3, in-4, in-5, in-6}
use Rattle.dispatch.proofs.base.base.Goals as goal

-- the reply to a request that is q, where the value k is q's
given : (p : Platform) (v : View) {q' q : PlainRequest} {n k : ℕ} → q' ≡ q → plain_reply p v q ≡ gives n v.own → k ≡ n
    → plain_reply p v q' ≡ gives k v.own
given p v e g z = rw (e, z) g

pub returns-in_default : goal.returns-in_default
unfolding plain_reply
returns-in_default c = λ t h s. plain-failing t h s _ _ _ NotSupported
    (ap (plain_reply c.args.p.now (view (seen t) h)) (base-unknown c.args.r (search rules)))
    (search rules)

pub returns : goal.returns
unfolding plain_reply view
returns c =
    let a = c.args in
    let gives-it : (v : View) → plain_reply a.p.now v (base_request a.r) ≡ gives c.match-r.value v.own = λ v.
    elim c.match-r.branch [
      | in-0 w ↦ given _ v (base-0 a.r w.in-0.is) refl w.value-is
      | in-1 w ↦ given _ v (base-1 a.r w.in-1.is) refl w.value-is
      | in-2 w ↦ given _ v (base-2 a.r w.in-2.is) refl w.value-is
      | in-3 w ↦ given _ v (base-3 a.r w.in-3.is) refl (w.value-is ∙ w.probe-value.ensures)
      | in-4 w ↦ given _ v (base-4 a.r w.in-4.is) refl w.value-is
      | in-5 w ↦ given _ v (base-5 a.r w.in-5.is) refl w.value-is
      | in-6 w ↦ given _ v (base-6 a.r w.in-6.is) refl w.value-is
    ] in
    λ t h s. plain-giving t h s _ _ _ (gives-it (view (seen t) h)) (ap Ok c.value.ensures)
