-- `write_counter` puts a control byte and a value.
use Rattle.store.proofs.ByteLaws.{from-bytes}
use Rattle.store.proofs.CounterLaws.{control-small, with_counter, hart-same, counters-put}
use Rattle.store.proofs.RowLaws.{fit-set}
use Rattle.store.specs.Rows.{control_of}
use Rattle.std.proofs.Common.{◌<◌, get_or, arith, rules}
use Rattle.store.proofs.counters.write_counter.Goals as goal

pub returns : goal.returns
unfolding with_counter
returns c =
    let a = c.args in
    let k = c.requires in
    let b : control_of a.c < 256 = omega (arith, control-small a.c k.1) in
    let e = from-bytes (get_or a.r.now 3 0) a.i (control_of a.c) c.from_le_bytes.result (c.fits-r 3)
    c.from_le_bytes.type_inv k.0 b
    (rw (c.to_le_bytes-control.ensures, c.control_of.ensures) at c.from_le_bytes.ensures) in
    record {
      hart = rw e (hart-same a.r.now a.i a.c k.0 c.told-r k.1);
      own = rw e (counters-put a.r.now a.i a.c k.0 c.told-r k.1);
      fit = fit-set _ _ _ (search rules) (fit-set _ _ _ c.from_le_bytes.type_inv
          (record { size = c.told-r; small = c.fits-r }));
    }
