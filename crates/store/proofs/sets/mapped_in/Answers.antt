-- `mapped_in` looks at the control bytes.
use Rattle.store.proofs.KindLaws.{mapped-mask}
use Rattle.std.proofs.Common.{◌∙◌}
use Rattle.store.proofs.sets.mapped_in.Goals as goal

pub returns : goal.returns
returns c = c.at_least.ensures ∙ mapped-mask _
