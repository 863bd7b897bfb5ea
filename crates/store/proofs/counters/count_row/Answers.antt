-- `count_row` counts one counter after the other.
use Rattle.store.proofs.ByteLaws.{le-byte}
use Rattle.store.proofs.CountLaws.{to-fit, hart-counted, own-counted, none-mapped, start, turn-hit, turn-miss}
use Rattle.store.specs.Rows.{byte, Fit}
use Rattle.std.proofs.Common.{◌≡◌, ℕ, List, get_or, sym, refl, ap, ◌∙◌, add-one, arith}
use Rattle.store.proofs.counters.count_row.Goals.{then-b-want, else-b-want}
use Rattle.store.proofs.counters.count_row.Goals as goal

pub returns-then-r-eq0 : goal.returns-then-r-eq0
returns-then-r-eq0 c = record {
  hart = refl;
  own = none-mapped _ _ c.if-r-eq0.true;
  fit = record { size = c.told-r; small = c.fits-r };
}

pub loop-i-init : goal.loop-i-init
loop-i-init c = start _ _

pub loop-i-preserved : goal.loop-i-preserved
loop-i-preserved c =
    let a = c.args in
    let l = c.loop-i in
    let w = get_or a.r.now 3 0 in
    let b : get_or c.to_le_bytes.result l.i 0 ≡ byte w l.i =
    ap (λ (bs : List ℕ). get_or bs l.i 0) c.to_le_bytes.ensures ∙ le-byte w l.i c.loop-i-test.true in
    rw add-one
    (elim c.if-b-want.branch [
      | then-b-want w ↦ cc (turn-hit a.r.now l.i a.code.number (sym b ∙ w.if-b-want.true))
      | else-b-want w ↦ cc (turn-miss a.r.now l.i a.code.number (λ z. w.if-b-want.false (b ∙ z)))
    ])

pub returns : goal.returns
returns c =
    let a = c.args in
    let e : c.loop-i.i ≡ 8 = omega arith in
    let r = rw e at c.loop-i.invariant in
    let k : Fit a.r.now = record { size = c.told-r; small = c.fits-r } in
    record {
      hart = rw r (hart-counted a.r.now a.code.number);
      own = rw r (own-counted a.r.now a.code.number k);
      fit = rw r (to-fit a.r.now a.code.number 8 k);
    }
