-- `answer` chooses by the extension.
use mathlib.Core.Path.{refl, sym, ap, ◌∙◌}
use Rattle.rules.specs.Machine.{request_reply, plain_reply}
use Rattle.rules.specs.Replies.{view}
use Rattle.tables.specs.Keeping.{seen}
use Rattle.rules.specs.declared.answers.Error.TheVariants.{NotSupported}
use Rattle.rules.proofs.RequestWays.{request-base, request-ipi, request-rfence, request-hsm, request-pmu}
use Rattle.dispatch.specs.Extensions.{eid_of}
use Rattle.dispatch.proofs.ExtensionLaws.{asks-nothing}
use Rattle.dispatch.proofs.MeetsLaws.{plain-failing, by, failed-by}
use Rattle.dispatch.proofs.running.answer.Goals as goal

pub returns-in-Base : goal.returns-in-Base
unfolding request_reply
returns-in-Base c =
    let a = c.args in
    let h = a.h.number in
    by _ _ _ _ _ _ _ _ (ap (request_reply a.p.now (view (seen a.t.now) h) h) (request-base a.r (sym c.in_ok-try_from.ensures ∙ ap eid_of c.in-Base.is)))
    (c.base.ensures _ _ c.requires.shaped _)

pub returns-in-Ipi : goal.returns-in-Ipi
unfolding request_reply
returns-in-Ipi c =
    let a = c.args in
    let h = a.h.number in
    by _ _ _ _ _ _ _ _ (ap (request_reply a.p.now (view (seen a.t.now) h) h) (request-ipi a.r (sym c.in_ok-try_from.ensures ∙ ap eid_of c.in-Ipi.is)))
    c.ipi.ensures

pub returns-in-Rfence : goal.returns-in-Rfence
unfolding request_reply
returns-in-Rfence c =
    let a = c.args in
    let h = a.h.number in
    by _ _ _ _ _ _ _ _ (ap (request_reply a.p.now (view (seen a.t.now) h) h) (request-rfence a.r (sym c.in_ok-try_from.ensures ∙ ap eid_of c.in-Rfence.is)))
    c.rfence.ensures

pub returns-in-Hsm : goal.returns-in-Hsm
unfolding request_reply
returns-in-Hsm c =
    let a = c.args in
    let h = a.h.number in
    by _ _ _ _ _ _ _ _ (ap (request_reply a.p.now (view (seen a.t.now) h) h) (request-hsm a.r (sym c.in_ok-try_from.ensures ∙ ap eid_of c.in-Hsm.is)))
    c.hsm.ensures

pub returns-in-Pmu : goal.returns-in-Pmu
unfolding request_reply
returns-in-Pmu c =
    let a = c.args in
    let h = a.h.number in
    by _ _ _ _ _ _ _ _ (ap (request_reply a.p.now (view (seen a.t.now) h) h) (request-pmu a.r (sym c.in_ok-try_from.ensures ∙ ap eid_of c.in-Pmu.is)))
    (c.pmu.ensures _)

pub returns-in_err-try_from : goal.returns-in_err-try_from
unfolding request_reply plain_reply
returns-in_err-try_from c =
    let a = c.args in
    let h = a.h.number in
    let none = c.in_err-try_from.ensures in
    by _ _ _ _ _ _ _ _ (ap (request_reply a.p.now (view (seen a.t.now) h) h) (asks-nothing a.r none.0))
    (plain-failing _ _ c.requires.shaped _ _ _ NotSupported refl (failed-by _ none.1 c.from_residual.ensures) _)
