-- `running_in` looks at the control bytes.
use Rattle.store.proofs.KindLaws.{running-mask}
use Rattle.std.proofs.Common.{◌∙◌}
use Rattle.store.proofs.sets.running_in.Goals as goal

pub returns : goal.returns
returns c = c.at_least.ensures ∙ running-mask _
