-- `Selection::all_hypervisors` asks each hart, or, where all are selected, the words of the sets.
use mathlib.Core.Bool.{Bool, not, ◌||◌}
use mathlib.Core.Path.{◌≡◌, refl, sym, subst, ◌∙◌}
use Prim.Native.Nat.{ℕ}
use borrow.Author.Tests.{eq-eqb}
use Rattle.std.proofs.Common.{rules, tests}
use Rattle.std.proofs.lemmas.Iterator.{YieldsList-from_range}
use Rattle.std.proofs.lemmas.Iterator.Search.{all_from_yields_List}
use Rattle.rules.specs.Masks.{selects}
use Rattle.rules.specs.Choice.{when◌then◌else◌}
use Rattle.rules.specs.Platform.{enabled, hypervisor}
use Rattle.rules.specs.Sets.{every, names}
use Rattle.dispatch.proofs.Tests.{every-list}
use Rattle.dispatch.proofs.masks.Selection.all_hypervisors.Goals as goal

pub returns-then-self : goal.returns-then-self
unfolding selects enabled hypervisor when◌then◌else◌
returns-then-self c =
    let p = c.args.p.now in
    let s = c.args.self in
    let asked = λ (b : Bool) (h : ℕ). not (when b then enabled p h else names 64 s.base s.mask h) || hypervisor p h in
    c.covers.ensures
    ∙ subst (λ (b : Bool). every 128 (λ h. not (enabled p h) || hypervisor p h) ≡ every 128 (asked b))
    (sym (eq-eqb s.base _ c.if-self.true)) refl

pub returns : goal.returns
returns c =
    let p = c.args.p.now in
    let s = c.args.self in
    let f = λ (h : ℕ). not (selects p s.mask s.base h) || hypervisor p h in
    all_from_yields_List f _ _ c.all.result c.all.ensures.ran (YieldsList-from_range 0 128 128 refl refl)
    (λ x b q k. search (rules, tests))
    ∙ every-list f 128
