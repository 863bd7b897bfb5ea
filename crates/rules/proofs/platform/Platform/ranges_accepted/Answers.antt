-- `Platform::ranges_accepted` asks each used range.
use mathlib.Core.Path.{◌∙◌}
use Rattle.std.proofs.Common.{rules, tests}
use Rattle.std.proofs.lemmas.Iterator.{YieldsList-from_slice}
use Rattle.std.proofs.lemmas.Iterator.Search.{all_from_yields_List}
use Rattle.rules.specs.Platform.{used_ranges, range_accepted}
use Rattle.rules.proofs.SetLaws.{all-list}
use Rattle.rules.proofs.platform.Platform.ranges_accepted.Goals as goal

pub returns : goal.returns
returns c =
    let ranges = used_ranges c.args.self.now in
    all_from_yields_List (range_accepted 64) _ _ c.all.result c.all.ensures.ran (YieldsList-from_slice ranges cc)
    (λ x b q k. search (rules, tests))
    ∙ all-list (range_accepted 64) ranges
