-- `hsm` chooses by the function.
use mathlib.Core.Path.{refl, ap}
use borrow.Author.Rules.{rules}
use Rattle.rules.specs.Machine.{request_reply, life_reply, plain_reply}
use Rattle.rules.specs.Replies.{view}
use Rattle.tables.specs.Keeping.{seen}
use Rattle.rules.specs.declared.answers.Error.TheVariants.{NotSupported}
use Rattle.rules.proofs.RequestWays.{hart-0, hart-1, hart-2, hart-3, hart-unknown}
use Rattle.dispatch.proofs.MeetsLaws.{plain-failing, by}
use Rattle.dispatch.proofs.hsm.hsm.Goals as goal

pub returns-in-0 : goal.returns-in-0
unfolding request_reply life_reply
returns-in-0 c =
    let a = c.args in
    let h = a.h.number in
    by _ _ _ _ _ _ _ _ (ap (request_reply a.p.now (view (seen a.t.now) h) h) (hart-0 a.r c.in-0.is)) c.start.ensures

pub returns-in-1 : goal.returns-in-1
unfolding request_reply life_reply
returns-in-1 c =
    let a = c.args in
    let h = a.h.number in
    by _ _ _ _ _ _ _ _ (ap (request_reply a.p.now (view (seen a.t.now) h) h) (hart-1 a.r c.in-1.is)) (c.stop.ensures _)

pub returns-in-2 : goal.returns-in-2
unfolding request_reply plain_reply
returns-in-2 c =
    let a = c.args in
    let h = a.h.number in
    by _ _ _ _ _ _ _ _ (ap (request_reply a.p.now (view (seen a.t.now) h) h) (hart-2 a.r c.in-2.is))
    (c.status.ensures _)

pub returns-in-3 : goal.returns-in-3
unfolding request_reply life_reply
returns-in-3 c =
    let a = c.args in
    let h = a.h.number in
    by _ _ _ _ _ _ _ _ (ap (request_reply a.p.now (view (seen a.t.now) h) h) (hart-3 a.r c.in-3.is))
    (c.suspend.ensures _)

pub returns-in_default : goal.returns-in_default
unfolding request_reply plain_reply
returns-in_default c =
    let a = c.args in
    let h = a.h.number in
    by _ _ _ _ _ _ _ _ (ap (request_reply a.p.now (view (seen a.t.now) h) h) (hart-unknown a.r (search rules)))
    (plain-failing _ _ c.requires.shaped _ _ _ NotSupported refl (search rules) _)
