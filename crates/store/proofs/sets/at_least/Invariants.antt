-- `at_least` looks at one byte after the other.
use Rattle.store.proofs.KindLaws.{marked}
use Rattle.std.proofs.Common.{◌≡◌}
use Rattle.store.proofs.sets.at_least.Given as goal

abbrev pub invariant-loop-i : goal.invariant-loop-i
invariant-loop-i l = l.m ≡ marked l.w l.b l.i
