-- `count` writes the hart's row.
use Rattle.store.proofs.ViewLaws.{own-altered}
use Rattle.rules.specs.Tables.{own_at}
use Rattle.rules.specs.Replies.{counted, count_at}
use Rattle.std.proofs.Common.{map, rules}
use Rattle.store.proofs.keeping.count.Goals as goal

pub returns : goal.returns
unfolding count_at own_at
returns c =
    own-altered _ c.requires _ (search rules) _ c.index.ensures (map (counted c.args.code.number)) _ c.count_row.ensures
