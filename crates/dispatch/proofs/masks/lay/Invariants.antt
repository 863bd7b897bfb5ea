-- `lay`: at the head of the loop the actions for the harts below the next number are laid.
use Rattle.rules.specs.Masks.{reaches}
use Rattle.tables.specs.Keeping.{seen}
use Rattle.dispatch.proofs.LayingLaws.{Laying}
use Rattle.dispatch.proofs.masks.lay.Given as goal

abbrev pub invariant-loop-number : goal.invariant-loop-number
invariant-loop-number l =
    Laying l.like.kind l.like.start l.like.size l.like.id
    (reaches l.p (seen l.t).harts l.whom.mask l.whom.base) l.initial.out l.out l.n l.number
