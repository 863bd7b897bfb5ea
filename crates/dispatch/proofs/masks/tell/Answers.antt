-- `tell`: at the head of the loop the harts below the next number are told.
use mathlib.Core.Path.{◌≡◌, sym, ap, ◌∙◌}
use Rattle.rules.specs.Masks.{reaches}
use Rattle.rules.specs.Tables.{Tables}
use Rattle.tables.specs.Keeping.{seen}
use Rattle.dispatch.proofs.TellingLaws.{telling-starts, telling-hit, telling-miss}
use Rattle.dispatch.proofs.masks.tell.Goals as goal
use Rattle.dispatch.proofs.masks.tell.Goals.{then-reaches, else-reaches}

pub loop-number-init : goal.loop-number-init
loop-number-init c = telling-starts _ _ _ _ c.requires

pub loop-number-preserved : goal.loop-number-preserved
loop-number-preserved c =
    let a = c.args in
    let l = c.loop-number in
    let s = seen a.t.now in
    let f = reaches a.p.now s.harts a.whom.mask a.whom.base in
    let told : f l.number ≡ c.reaches.result =
    sym (c.reaches.ensures ∙ ap (λ (z : Tables). reaches a.p.now z.harts a.whom.mask a.whom.base l.number)
    l.invariant.is) in
    elim c.if-reaches.branch [
      | then-reaches w ↦ rw w.t-is
          (telling-hit s a.caller.number a.code.number f l.t l.number l.invariant _ (told ∙ w.if-reaches.true)
          w.tell_one.ensures)
      | else-reaches w ↦ rw w.t-is
          (telling-miss s a.caller.number a.code.number f l.t l.number l.invariant (told ∙ w.if-reaches.false))
    ]
