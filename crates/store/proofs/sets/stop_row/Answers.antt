-- `stop_row` changes each counter of the set.
use Rattle.store.proofs.EachLaws.{changed-each}
use Rattle.rules.specs.Counters.{ended}
use Rattle.std.proofs.Common.{rules}
use Rattle.store.proofs.sets.stop_row.Goals as goal

pub returns : goal.returns
returns c = changed-each _ c.args.s (ended c.args.flags) (λ y x k. search rules) _ _ c.change_row.ensures
