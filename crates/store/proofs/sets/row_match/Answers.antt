-- `row_match` takes the lowest counter of the set that may be taken.
use Rattle.store.proofs.KindLaws.{taken-small, match_is}
use Rattle.store.specs.Rows.{counters_in}
use Rattle.std.proofs.Common.{◌∙◌}
use Rattle.store.proofs.sets.row_match.Goals as goal

pub lowest-requires : goal.lowest-requires
lowest-requires c = rw c.free_in.ensures (taken-small c.args.flags c.args.s (counters_in c.args.r.now))

pub returns : goal.returns
returns c =
    c.lowest.ensures ∙ (rw c.free_in.ensures (match_is c.args.flags c.args.s (counters_in c.args.r.now)))
