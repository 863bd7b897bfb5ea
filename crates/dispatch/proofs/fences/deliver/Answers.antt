-- `deliver` lays one action for each reached hart and tells it.
use mathlib.Core.Path.{refl, ap}
use Rattle.std.specs.Prelude.{Ok}
use Rattle.dispatch.proofs.SendingLaws.{sending-by-hart}
use Rattle.dispatch.proofs.fences.deliver.Goals as goal

pub returns : goal.returns
returns c =
    sending-by-hart _ _ _ _ _ _ _ _ c.requires.fit _ _ c.args.like _ _ refl (ap Ok c.actions.ensures)
    c.lay-n.ensures.number c.tell.ensures c.lay-n.ensures.words
