-- `tell`: at the head of the loop the harts below the next number are told.
use Rattle.rules.specs.Masks.{reaches}
use Rattle.rules.specs.Sets.{those}
use Rattle.tables.specs.Keeping.{seen, Holds}
use Rattle.dispatch.specs.Meets.{told}
use Rattle.dispatch.proofs.masks.tell.Given as goal

abbrev pub invariant-loop-number : goal.invariant-loop-number
invariant-loop-number l =
    Holds l.t (told (seen l.initial.t) l.caller.number l.code.number
    (those l.number (reaches l.p (seen l.initial.t).harts l.whom.mask l.whom.base)))
