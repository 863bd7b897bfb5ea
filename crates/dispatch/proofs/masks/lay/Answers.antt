-- `lay`: at the head of the loop the actions for the harts below the next number are laid.
use mathlib.Core.Path.{◌≡◌, sym, ◌∙◌}
use native.Mathlib.Omega.{arith}
use Rattle.rules.specs.Masks.{reaches}
use Rattle.tables.specs.Keeping.{seen}
use Rattle.dispatch.proofs.LayingLaws.{laying-starts, laying-hit, laying-miss}
use Rattle.dispatch.proofs.masks.lay.Goals as goal
use Rattle.dispatch.proofs.masks.lay.Goals.{then-reaches, else-reaches}

pub loop-number-init : goal.loop-number-init
loop-number-init c = laying-starts _ _ _ _ _ _

pub loop-number-preserved : goal.loop-number-preserved
loop-number-preserved c =
    let a = c.args in
    let l = c.loop-number in
    let f = reaches a.p.now (seen a.t.now).harts a.whom.mask a.whom.base in
    let told : f l.number ≡ c.reaches.result = sym c.reaches.ensures in
    elim c.if-reaches.branch [
      | then-reaches w ↦ rw (w.out-is ∙ w.put_action.ensures, w.n-is)
          (laying-hit _ _ _ _ f _ l.out l.n l.number l.invariant (told ∙ w.if-reaches.true) (omega arith))
      | else-reaches w ↦ rw (w.out-is, w.n-is)
          (laying-miss _ _ _ _ f _ l.out l.n l.number l.invariant (told ∙ w.if-reaches.false))
    ]
