-- `read_counter` reads a control byte and a value.
use Rattle.store.proofs.RowLaws.{counter_at_lem}
use Rattle.store.proofs.ByteLaws.{le-byte}
use Rattle.store.specs.Rows.{counter_in}
use Rattle.std.proofs.Common.{get_or, sym, ◌∙◌}
use Rattle.store.proofs.counters.read_counter.Goals as goal

pub returns : goal.returns
unfolding counter_in
returns c =
    let a = c.args in
    c.counter_of.ensures
    ∙ (rw (c.to_le_bytes.ensures, le-byte (get_or a.r.now 3 0) a.i c.requires)
    (sym (counter_at_lem a.r.now a.i c.requires)))
