-- `well_formed` tests the two halves, and so each row.
use Rattle.store.proofs.WholeLaws.{halves-shaped}
use Rattle.store.proofs.wholes.well_formed.Goals as goal

pub returns-clause-shape : goal.returns-clause-shape
returns-clause-shape c =
    let low = rw c.split_at.ensures.front at c.half_well_formed.ensures in
    let high = rw c.split_at.ensures.back at c.half_well_formed-2.ensures in
    halves-shaped c.args.p.now c.args.t.now _ _ c.told-t low high
