-- `send` tests in the order of the rules, then delivers.
use mathlib.Core.Path.{sym, ◌∙◌}
use Rattle.rules.proofs.ReachWays.{fence-unfit, fence-no-id, fence-no-hypervisor, fence-no-range, fence-sent}
use Rattle.dispatch.proofs.MeetsLaws.{passed, plain-as, plain-stopping}
use Rattle.dispatch.proofs.fences.send.Goals as goal

pub returns-in_err-ensure : goal.returns-in_err-ensure
returns-in_err-ensure c =
    plain-stopping _ _ c.requires.shaped _ _ _ _ c.ensure.ensures c.in_err-ensure.was c.from_residual.ensures
    (λ n. fence-unfit _ _ _ _ _ _ _ _ (sym c.fits.ensures ∙ n)) _

pub returns-in_err-ensure-2 : goal.returns-in_err-ensure-2
returns-in_err-ensure-2 c =
    let fit = sym c.fits.ensures ∙ passed _ _ c.ensure.ensures c.in_ok-ensure.was in
    plain-stopping _ _ c.requires.shaped _ _ _ _ c.ensure-2.ensures c.in_err-ensure-2.was
    c.from_residual-in_err-ensure-2.ensures
    (λ n. fence-no-id _ _ _ _ _ _ _ _ fit (sym c.id_valid.ensures ∙ n)) _

pub returns-in_err-ensure-3 : goal.returns-in_err-ensure-3
returns-in_err-ensure-3 c =
    let fit = sym c.fits.ensures ∙ passed _ _ c.ensure.ensures c.in_ok-ensure.was in
    let id = sym c.id_valid.ensures ∙ passed _ _ c.ensure-2.ensures c.in_ok-ensure-2.was in
    plain-stopping _ _ c.requires.shaped _ _ _ _ c.ensure-3.ensures c.in_err-ensure-3.was
    c.from_residual-in_err-ensure-3.ensures
    (λ n. fence-no-hypervisor _ _ _ _ _ _ _ _ fit id (sym c.hypervisors_fit.ensures ∙ n)) _

pub returns-in_err-ensure-4 : goal.returns-in_err-ensure-4
returns-in_err-ensure-4 c =
    let fit = sym c.fits.ensures ∙ passed _ _ c.ensure.ensures c.in_ok-ensure.was in
    let id = sym c.id_valid.ensures ∙ passed _ _ c.ensure-2.ensures c.in_ok-ensure-2.was in
    let hyp = sym c.hypervisors_fit.ensures ∙ passed _ _ c.ensure-3.ensures c.in_ok-ensure-3.was in
    plain-stopping _ _ c.requires.shaped _ _ _ _ c.ensure-4.ensures c.in_err-ensure-4.was
    c.from_residual-in_err-ensure-4.ensures
    (λ n. fence-no-range _ _ _ _ _ _ _ _ fit id hyp (sym c.range_valid.ensures ∙ n)) _

pub returns : goal.returns
returns c =
    let fit = sym c.fits.ensures ∙ passed _ _ c.ensure.ensures c.in_ok-ensure.was in
    let id = sym c.id_valid.ensures ∙ passed _ _ c.ensure-2.ensures c.in_ok-ensure-2.was in
    let hyp = sym c.hypervisors_fit.ensures ∙ passed _ _ c.ensure-3.ensures c.in_ok-ensure-3.was in
    let range = sym c.range_valid.ensures ∙ passed _ _ c.ensure-4.ensures c.in_ok-ensure-4.was in
    plain-as _ _ _ _ _ _
    (rw (c.requires.kind, c.sent.ensures) (fence-sent _ _ _ _ _ _ _ _ fit id hyp range)) c.deliver.ensures
