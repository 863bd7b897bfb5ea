-- `lowest` counts the zeros below the lowest counter.
use Rattle.store.proofs.SetLaws.{lowest-under, lowest-first, none-first}
use Rattle.std.proofs.Common.{sym, arith}
use Rattle.store.proofs.sets.lowest.Goals as goal

pub returns-then-s-eq0 : goal.returns-then-s-eq0
returns-then-s-eq0 c = rw c.if-s-eq0.true (sym none-first)

pub invariant_of-result : goal.invariant_of-result
invariant_of-result c = record { in_range = rw c.from.ensures (lowest-under c.args.s (omega arith) c.requires) }

pub returns : goal.returns
returns c = rw c.from.ensures (sym (lowest-first c.args.s (omega arith) c.requires))
