-- `free_in` names all eight, or those that do not run.
use Rattle.store.proofs.KindLaws.{free-all}
use Rattle.store.specs.Rows.{counters_in}
use Rattle.std.proofs.Common.{sym, ◌∙◌}
use Rattle.store.proofs.sets.free_in.Goals as goal

pub returns-then-bit_of : goal.returns-then-bit_of
returns-then-bit_of c = free-all c.args.flags 0 (counters_in c.args.r.now) (sym c.bit_of.ensures ∙ c.if-bit_of.true)
