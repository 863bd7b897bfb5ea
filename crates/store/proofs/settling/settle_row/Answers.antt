-- `settle_row` unpacks the record, lends it to `settle`, and packs it.
use Rattle.store.proofs.SettlingLaws.{completed-state}
use Rattle.store.proofs.settling.settle_row.Goals as goal

pub pack-requires : goal.pack-requires
pack-requires c = rw (c.settle.ensures, c.unpack-hart.ensures) (completed-state _ c.requires)
