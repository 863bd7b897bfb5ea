-- `Platform::valid_address` tests that the address is even, then asks each used range.
use mathlib.Core.Path.{◌∙◌}
use borrow.Author.Tests.{eq-eqb}
use Rattle.std.proofs.Common.{rules, tests}
use Rattle.std.proofs.lemmas.Iterator.{YieldsList-from_slice}
use Rattle.std.proofs.lemmas.Iterator.Search.{any_from_yields_List}
use Rattle.rules.specs.Platform.{valid_address, used_ranges, lies_in}
use Rattle.rules.proofs.SetLaws.{any-list}
use Rattle.rules.proofs.platform.Platform.valid_address.Goals as goal

pub returns-then-a-eq0 : goal.returns-then-a-eq0
unfolding valid_address
returns-then-a-eq0 c =
    let ranges = used_ranges c.args.self.now in
    let test = lies_in c.args.a in
    rw (eq-eqb _ _ c.if-a-eq0.true)
    (any_from_yields_List test _ _ c.any.result c.any.ensures.ran (YieldsList-from_slice ranges cc)
    (λ x b q k. search (rules, tests))
    ∙ any-list test ranges)
