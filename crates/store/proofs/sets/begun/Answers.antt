-- `begun` is the rule, with and without bit 0.
use Rattle.rules.specs.Choice.{when◌then◌else◌}
use Rattle.rules.specs.Counters.{begun}
use Rattle.std.proofs.Common.{sym, ◌∙◌}
use Rattle.store.proofs.sets.begun.Goals as goal

pub returns-then-bit_of : goal.returns-then-bit_of
unfolding begun when◌then◌else◌
returns-then-bit_of c = rw (sym c.bit_of.ensures ∙ c.if-bit_of.true)

pub returns-else-bit_of : goal.returns-else-bit_of
unfolding begun when◌then◌else◌
returns-else-bit_of c = rw (sym c.bit_of.ensures ∙ c.if-bit_of.false)
