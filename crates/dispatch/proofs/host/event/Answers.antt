-- `event`: H1, then what is left on well-formed tables.
use Rattle.rules.specs.Machine.{event}
use Rattle.tables.specs.Keeping.{seen}
use Rattle.rules.specs.declared.answers.Refusal.TheVariants.{NotWellFormed}
use Rattle.rules.proofs.HostWays.{reply-ill, reply-well}
use Rattle.dispatch.proofs.AdmissionLaws.{vouched}
use Rattle.dispatch.proofs.MeetsLaws.{refusing, refused-by, by, passed, stopped}
use Rattle.dispatch.proofs.host.event.Goals as goal

pub returns-in_err-vouch : goal.returns-in_err-vouch
returns-in_err-vouch c =
    let a = c.args in
    let stop = stopped _ NotWellFormed c.vouch.ensures.answer c.in_err-vouch.was in
    refusing _ _ c.vouch.ensures.shape _ NotWellFormed (reply-ill a.p.now (seen a.t.now) (event a.h a.code) stop.0)
    (refused-by _ stop.1 c.from_residual.ensures)

pub event-requires : goal.event-requires
event-requires c =
    vouched _ _ c.vouch.ensures.shape (passed _ NotWellFormed c.vouch.ensures.answer c.in_ok-vouch.was)

pub returns : goal.returns
returns c =
    let a = c.args in
    λ m. by _ _ _ _ _ _ _ _
    (reply-well a.p.now (seen a.t.now) (event a.h a.code) (passed _ NotWellFormed c.vouch.ensures.answer c.in_ok-vouch.was))
    (c.event.ensures m)
