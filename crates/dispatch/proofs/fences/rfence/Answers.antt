-- `rfence` chooses by the function.
use mathlib.Core.Path.{◌≡◌, ap}
use native.Mathlib.Omega.{arith}
use Rattle.rules.specs.Fences.{function_of}
use Rattle.rules.specs.Machine.{plain_reply}
use Rattle.rules.specs.Replies.{view, plain}
use Rattle.rules.specs.Requests.{PlainRequest, fence, unknown, fence_request}
use Rattle.rules.specs.declared.answers.Error.TheVariants.{NotSupported}
use Rattle.rules.proofs.Logic.{choice}
use Rattle.tables.specs.Keeping.{seen}
use Rattle.dispatch.proofs.MeetsLaws.{plain-handing, by}
use Rattle.dispatch.proofs.fences.rfence.Goals as goal
use Rattle.dispatch.proofs.fences.rfence.Goals.{in-FenceI, in-SfenceVmaAsid, in-SfenceVma}

pub returns-in_err-fence : goal.returns-in_err-fence
unfolding plain_reply fence_request
returns-in_err-fence c =
    let a = c.args in
    let other : fence_request a.r ≡ unknown = grind (arith, choice, c.in_err-fence.ensures) in
    plain-handing _ _ c.requires.shaped _ _ NotSupported c.from_residual.ensures c.in_err-fence.ensures.0
    (ap (plain_reply a.p.now (view (seen a.t.now) a.h.number)) other) _

pub returns : goal.returns
unfolding plain_reply fence_request
returns c =
    let a = c.args in
    let f = c.in_ok-fence.fence in
    let like = c.fence.result in
    let words = c.match-fence.start in
    let number : function_of f ≡ a.r.a6 = c.in_ok-fence.ensures in
    let read : fence_request a.r ≡ fence (function_of f) a.r.a0 a.r.a1 words.0 words.1 words.2 =
    elim c.match-fence.branch [
      | in-FenceI w ↦ grind (arith, choice, w.start-is)
      | in-SfenceVmaAsid w ↦ grind (arith, choice, w.start-is)
      | in-SfenceVma w ↦ grind (arith, choice, w.start-is)
    ] in
    let asked : fence_request a.r ≡ fence (function_of f) a.r.a0 a.r.a1 like.start like.size like.id =
    rw c.fence.ensures read in
    by _ _ _ _ _ _ _ _
    (ap (λ (q : PlainRequest). plain (view (seen a.t.now) a.h.number)
    (plain_reply a.p.now (view (seen a.t.now) a.h.number) q)) asked)
    c.send.ensures
