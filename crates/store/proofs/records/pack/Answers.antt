-- `pack` writes the three words of a record.
use mir.Val.{bool_byte}
use Rattle.store.specs.Rows.{note_of}
use Rattle.store.proofs.RowLaws.{with_hart, hart-back, counters-with}
use Rattle.std.proofs.Common.{◌≡◌, Bool, true, false, not, refl, ◌∙◌, rules}
use Rattle.store.proofs.records.pack.Goals as goal

note : (b : Bool) → bool_byte (not b) ≡ note_of b
note true = refl
note false = refl

pub returns : goal.returns
unfolding with_hart
returns c =
    let a = c.args in
    rw (c.from.ensures ∙ note a.x.retentive)
    (record {
      hart = hart-back a.r.now a.x c.told-r;
      own = counters-with a.r.now a.x;
      fit = record { size = search rules; small = search rules };
    })
