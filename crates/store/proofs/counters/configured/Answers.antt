-- `configured` is the rule, with and without bits 1 and 2.
use Rattle.rules.specs.Choice.{when◌then◌else◌}
use Rattle.rules.specs.Sets.{bit}
use Rattle.rules.specs.Counters.{configured}
use Rattle.std.proofs.Common.{◌≡◌, Bool, true, false, ◌||◌, sym, ◌∙◌}
use Rattle.store.proofs.counters.configured.Goals.{then-bit_of, else-bit_of}
use Rattle.store.proofs.counters.configured.Goals as goal

yes : (a b v : Bool) → a ≡ true → v ≡ a → v ≡ (a || b)
yes a b v e q = rw (q, e)

no : (a b v : Bool) → a ≡ false → v ≡ b → v ≡ (a || b)
no a b v e q = rw (q, e)

pub returns-then-bit_of-2 : goal.returns-then-bit_of-2
unfolding configured when◌then◌else◌
returns-then-bit_of-2 c =
    let e = sym c.bit_of.ensures in
    let runs : c.if-bit_of.result ≡ (bit c.args.flags 2 || c.args.c.running) =
    elim c.if-bit_of.branch [
      | then-bit_of w ↦ yes _ _ _ (e ∙ w.if-bit_of.true) (w.result-is ∙ c.bit_of.ensures)
      | else-bit_of w ↦ no _ _ _ (e ∙ w.if-bit_of.false) w.result-is
    ] in
    rw (sym c.bit_of-2.ensures ∙ c.if-bit_of-2.true, runs)

pub returns-else-bit_of-2 : goal.returns-else-bit_of-2
unfolding configured when◌then◌else◌
returns-else-bit_of-2 c =
    let e = sym c.bit_of.ensures in
    let runs : c.if-bit_of.result ≡ (bit c.args.flags 2 || c.args.c.running) =
    elim c.if-bit_of.branch [
      | then-bit_of w ↦ yes _ _ _ (e ∙ w.if-bit_of.true) (w.result-is ∙ c.bit_of.ensures)
      | else-bit_of w ↦ no _ _ _ (e ∙ w.if-bit_of.false) w.result-is
    ] in
    rw (sym c.bit_of-2.ensures ∙ c.if-bit_of-2.false, runs)
