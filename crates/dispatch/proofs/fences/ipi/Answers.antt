-- `ipi` chooses by the function.
use mathlib.Core.Path.{ap}
use borrow.Author.Tests.{eqb-true, eqb-false}
use Rattle.rules.specs.Machine.{plain_reply}
use Rattle.rules.specs.Replies.{view, plain}
use Rattle.rules.specs.Requests.{PlainRequest}
use Rattle.tables.specs.Keeping.{seen}
use Rattle.dispatch.proofs.MeetsLaws.{passed, plain-stopping, by}
use Rattle.rules.proofs.RequestWays.{interrupt-0, interrupt-unknown}
use Rattle.dispatch.proofs.fences.ipi.Goals as goal

pub returns-in_err-ensure : goal.returns-in_err-ensure
unfolding plain_reply
returns-in_err-ensure c = let a = c.args in
    plain-stopping _ _ c.requires.shaped _ _ _ _ c.ensure.ensures c.in_err-ensure.was c.from_residual.ensures
    (λ n. ap (plain_reply a.p.now (view (seen a.t.now) a.h.number)) (interrupt-unknown a.r (eqb-false _ _ n))) _

pub returns : goal.returns
unfolding plain_reply
returns c = let a = c.args in
    by _ _ _ _ _ _ _ _
    (ap (λ (q : PlainRequest). plain (view (seen a.t.now) a.h.number)
    (plain_reply a.p.now (view (seen a.t.now) a.h.number) q))
    (interrupt-0 a.r (eqb-true _ _ (passed _ _ c.ensure.ensures c.in_ok-ensure.was))))
    c.interrupt.ensures
