-- `Extension::try_from`: a number that is none of the five.
use mathlib.Core.Path.{refl}
use borrow.Author.Rules.{rules}
use Rattle.dispatch.proofs.ExtensionLaws.{probe_misses}
use Rattle.dispatch.proofs.extensions.ExtensionTryFromU64.try_from.Goals as goal

pub returns-in_default : goal.returns-in_default
returns-in_default c = (probe_misses c.args.eid (search rules) (search rules) (search rules) (search rules) (search rules), refl)
