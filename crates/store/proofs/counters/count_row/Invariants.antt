-- `count_row` counts one counter after the other.
use Rattle.store.proofs.CountLaws.{counted_to}
use Rattle.std.proofs.Common.{◌≡◌}
use Rattle.store.proofs.counters.count_row.Given as goal

abbrev pub invariant-loop-i : goal.invariant-loop-i
invariant-loop-i l = l.r ≡ counted_to l.i l.fn.r l.fn.code.number
