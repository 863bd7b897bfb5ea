-- `half_well_formed` tests one row after the other.
use Rattle.store.specs.Tests.{Half}
use Rattle.store.proofs.wholes.half_well_formed.Given as goal

abbrev pub invariant-loop-i : goal.invariant-loop-i
invariant-loop-i l = Half l.enabled l.half l.i l.fine
