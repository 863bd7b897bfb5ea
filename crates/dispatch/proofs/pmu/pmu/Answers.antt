-- `pmu` chooses by the function.
use mathlib.Core.Path.{refl, ap}
use Prim.Native.Nat.{◌<◌}
use native.Mathlib.Omega.{arith}
use Rattle.std.specs.Prelude.{Ok, Err}
use Rattle.rules.specs.Machine.{plain_reply}
use Rattle.rules.specs.declared.answers.Error.TheVariants.{NotSupported}
use Rattle.dispatch.proofs.MeetsLaws.{plain-failing, plain-giving}
use Rattle.rules.proofs.RequestWays.{counter-0, counter-1, counter-2, counter-3, counter-4, counter-5, counter-6}
use Rattle.rules.proofs.RequestWays.{counter-unknown}
use Rattle.rules.proofs.WellFormed.{tables_agree}
use Rattle.dispatch.proofs.pmu.pmu.Goals as goal

pub start_counters-requires-clause-fine : goal.start_counters-requires-clause-fine
start_counters-requires-clause-fine c =
    (((tables_agree _ _).0 c.requires.fine).own _ c.args.h.in_range).fine

pub stop_counters-requires-clause-fine : goal.stop_counters-requires-clause-fine
stop_counters-requires-clause-fine c =
    (((tables_agree _ _).0 c.requires.fine).own _ c.args.h.in_range).fine

pub returns-in-0 : goal.returns-in-0
unfolding plain_reply
returns-in-0 c =
    rw (counter-0 c.args.r c.in-0.is) (plain-giving _ _ c.requires.shaped _ _ _ refl (ap Ok c.value.ensures))

pub returns-in-1 : goal.returns-in-1
unfolding plain_reply
returns-in-1 c = rw (counter-1 c.args.r c.in-1.is) (c.details.ensures _ _ c.requires.shaped)

pub returns-in-2 : goal.returns-in-2
unfolding plain_reply
returns-in-2 c = rw (counter-2 c.args.r c.in-2.is) (c.configure.ensures _)

pub returns-in-3 : goal.returns-in-3
unfolding plain_reply
returns-in-3 c = rw (counter-3 c.args.r c.in-3.is) (c.start_counters.ensures _)

pub returns-in-4 : goal.returns-in-4
unfolding plain_reply
returns-in-4 c = rw (counter-4 c.args.r c.in-4.is) (c.stop_counters.ensures _)

pub returns-in-5 : goal.returns-in-5
unfolding plain_reply
returns-in-5 c = rw (counter-5 c.args.r c.in-5.is) c.read.ensures

pub returns-in-6 : goal.returns-in-6
unfolding plain_reply
returns-in-6 c = rw (counter-6 c.args.r c.in-6.is) c.read_high.ensures

pub returns-in_default : goal.returns-in_default
unfolding plain_reply
returns-in_default c =
    let over : 6 < c.args.r.a6 = omega arith in
    rw (counter-unknown c.args.r over)
    (plain-failing _ _ c.requires.shaped _ _ _ NotSupported refl (ap Err c.into.ensures))
