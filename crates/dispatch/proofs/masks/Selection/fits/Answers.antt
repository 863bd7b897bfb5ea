-- `Selection::fits` asks each bit; the base that means all selects enabled harts alone.
use mathlib.Core.Path.{refl, sym, ◌∙◌}
use borrow.Author.Tests.{eq-eqb}
use Rattle.std.proofs.Common.{rules, tests}
use Rattle.std.proofs.lemmas.Iterator.{YieldsList-from_range}
use Rattle.std.proofs.lemmas.Iterator.Search.{all_from_yields_List}
use Rattle.rules.specs.Masks.{bit_fits}
use Rattle.rules.proofs.ReachWays.{fits-everyone, fits-every}
use Rattle.dispatch.proofs.Tests.{every-list}
use Rattle.dispatch.proofs.masks.Selection.fits.Goals as goal

pub returns-then-self : goal.returns-then-self
returns-then-self c = eq-eqb _ _ c.if-self.true ∙ sym (fits-everyone _ _ _ c.if-self.true)

pub returns-else-self : goal.returns-else-self
returns-else-self c =
    let s = c.args.self in
    let f = bit_fits c.args.p.now s.mask s.base in
    all_from_yields_List f _ _ c.all.result c.all.ensures.ran (YieldsList-from_range 0 64 64 refl refl)
    (λ x b q k. search (rules, tests))
    ∙ every-list f 64 ∙ sym (fits-every _ _ _ c.if-self.false)
