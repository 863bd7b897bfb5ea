-- `at_least` looks at one byte after the other.
use Rattle.store.proofs.ByteLaws.{le-byte}
use Rattle.store.proofs.KindLaws.{marked_more}
use Rattle.std.proofs.Common.{ℕ, List, leb, get_or, ◌∙◌, ap}
use Rattle.store.proofs.sets.at_least.Goals as goal

pub loop-i-preserved : goal.loop-i-preserved
loop-i-preserved c =
    let a = c.args in
    let l = c.loop-i in
    let e = ap (λ (bs : List ℕ). leb a.b (get_or bs l.i 0)) c.to_le_bytes.ensures
    ∙ ap (leb a.b) (le-byte a.w l.i c.loop-i-test.true) in
    rw l.invariant (marked_more a.w a.b l.i _ _ c.loop-i-test.true e (rw c.from.ensures))
