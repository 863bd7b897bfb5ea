-- `control_of` gives each kind of counter its control byte.
use Rattle.rules.specs.Choice.{when◌then◌else◌}
use Rattle.store.proofs.counters.control_of.Goals as goal

pub returns-in-Some : goal.returns-in-Some
unfolding when◌then◌else◌
returns-in-Some c = rw (c.in-Some.is, c.if-c.true)

pub returns-in-Some-2 : goal.returns-in-Some-2
unfolding when◌then◌else◌
returns-in-Some-2 c = rw (c.in-Some-2.is, c.if-c.false)
