-- `change_row` goes through the counters.
use Rattle.store.specs.Sets.{Changed}
use Rattle.std.proofs.Common.{◌≤◌}
use Rattle.store.proofs.sets.change_row.Given as goal

abbrev pub invariant-loop-i : goal.invariant-loop-i
invariant-loop-i g l = (l.i ≤ 8) × Changed (λ c x. goal.F-post g l.change c x) l.s l.i l.fn.r l.r
