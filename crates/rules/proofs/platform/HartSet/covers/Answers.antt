-- `HartSet::covers` tests the two words.
use native.Mathlib.Omega.{arith}
use Rattle.std.proofs.lemmas.Bool.Decides.{nat_tests}
use Rattle.rules.proofs.platform.HalfLaws.{subset_words}
use Rattle.rules.proofs.platform.HartSet.covers.Goals as goal

pub returns-then-other-self : goal.returns-then-other-self
returns-then-other-self c = grind (arith, nat_tests, subset_words c.args.other c.args.self)

pub returns-else-other-self : goal.returns-else-other-self
returns-else-other-self c = grind (arith, nat_tests, subset_words c.args.other c.args.self)
