-- `CounterSet::word` takes a mask if nothing of it lies past the counters, and shifts it by its base.
use borrow.Author.Rules.{rules}
use Rattle.dispatch.proofs.CounterSetLaws.{word-shifted, word-empty, word-past, word-nowhere}
use Rattle.dispatch.proofs.pmu.CounterSet.word.Goals as goal
use Rattle.dispatch.proofs.pmu.CounterSet.word.Goals.{else-base-lt-COUNTERS-via-else-base-lt-COUNTERS}
use Rattle.dispatch.proofs.pmu.CounterSet.word.Goals.{else-base-lt-COUNTERS-via-then-base-lt-COUNTERS+else-mask-base-eq0}

pub returns-then-mask-eq0 : goal.returns-then-mask-eq0
returns-then-mask-eq0 c = λ p. word-empty _ _ p (search rules) c.if-mask-eq0.true

pub returns-then-mask-base-eq0 : goal.returns-then-mask-base-eq0
returns-then-mask-base-eq0 c =
    λ p. word-shifted _ _ p (search rules) c.if-base-lt-COUNTERS.true c.if-mask-base-eq0.true

pub returns : goal.returns
returns c =
    λ p. elim c.else-base-lt-COUNTERS.branch [
      | else-base-lt-COUNTERS-via-then-base-lt-COUNTERS+else-mask-base-eq0 w ↦
          word-past _ _ p (search rules) w.if-mask-base-eq0.false
      | else-base-lt-COUNTERS-via-else-base-lt-COUNTERS w ↦
          word-nowhere _ _ p (search rules) c.if-mask-eq0.false w.if-base-lt-COUNTERS.false
    ]
