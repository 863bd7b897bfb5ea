-- `state_in` gives a cleared word no state.
use Rattle.rules.proofs.Logic.{if-true, if-false}
use Rattle.store.specs.Rows.{state_in}
use Rattle.std.proofs.Common.{sym, le-ltb, lt-ltb}
use Rattle.store.proofs.records.state_in.Goals as goal

pub returns-then-w-lt2 : goal.returns-then-w-lt2
unfolding state_in
returns-then-w-lt2 c = sym (if-true _ _ (lt-ltb _ _ c.if-w-lt2.true))

pub returns : goal.returns
unfolding state_in
returns c = sym (if-false _ _ (le-ltb _ _ c.if-w-lt2.false))
