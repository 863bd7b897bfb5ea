-- `interrupt` delivers where its mask fits.
use mathlib.Core.Path.{sym, ◌∙◌}
use Rattle.rules.proofs.ReachWays.{interrupt-unfit, interrupt-sent}
use Rattle.dispatch.proofs.MeetsLaws.{passed, plain-as, plain-stopping}
use Rattle.dispatch.proofs.fences.interrupt.Goals as goal

pub returns-in_err-ensure : goal.returns-in_err-ensure
returns-in_err-ensure c =
    plain-stopping _ _ c.requires.shaped _ _ _ _ c.ensure.ensures c.in_err-ensure.was c.from_residual.ensures
    (λ n. interrupt-unfit _ _ _ _ (sym c.fits.ensures ∙ n)) _

pub returns : goal.returns
returns c =
    let fit = sym c.fits.ensures ∙ passed _ _ c.ensure.ensures c.in_ok-ensure.was in
    plain-as _ _ _ _ _ _ (rw c.interrupt.ensures (interrupt-sent _ _ _ _ fit)) c.deliver.ensures
