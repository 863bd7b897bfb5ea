-- `controls` tests the eight control bytes at once.
use Rattle.store.proofs.ControlLaws.{controls-at-once}
use Rattle.store.proofs.wholes.controls.Goals as goal

pub returns : goal.returns
returns c = controls-at-once _
