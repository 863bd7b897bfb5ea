-- `change_row` goes through the counters.
use Rattle.store.proofs.EachLaws.{changed-hit, changed-miss}
use Rattle.std.proofs.Common.{sym, ◌∙◌, arith}
use Rattle.store.proofs.sets.change_row.Goals.{then-bit_of, else-bit_of}
use Rattle.store.proofs.sets.change_row.Goals as goal

pub loop-i-preserved : goal.loop-i-preserved
loop-i-preserved g c =
    let l = c.loop-i in
    let m = c.loop-i-test.true in (
      omega arith,
      elim c.if-bit_of.branch [
        | then-bit_of w ↦ rw w.r-is
            (changed-hit _ c.args.s l.i _ _ l.invariant.1 m (sym c.bit_of.ensures ∙ w.if-bit_of.true) _
            (rw w.read_counter.ensures at w.change.ensures) _ w.write_counter.ensures)
        | else-bit_of w ↦ rw w.r-is
            (changed-miss _ c.args.s l.i _ _ l.invariant.1 m (sym c.bit_of.ensures ∙ w.if-bit_of.false))
      ],
    )
