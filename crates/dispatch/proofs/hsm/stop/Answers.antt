-- `stop` moves the caller.
use mathlib.Core.Bool.{true}
use mathlib.Core.List.{[]}
use mathlib.Core.Path.{refl, ap, ◌∙◌}
use Rattle.std.specs.Prelude.{Ok}
use Rattle.rules.specs.Names.{STOP_PENDING}
use Rattle.rules.specs.Tables.{hart_at, in_state}
use Rattle.rules.specs.Replies.{view, laid, words_of}
use Rattle.tables.specs.Keeping.{seen, put_hart}
use Rattle.rules.specs.declared.records.Hart.{Hart}
use Rattle.rules.proofs.HartWays.{stop-given}
use Rattle.dispatch.proofs.MeetsLaws.{moving}
use Rattle.dispatch.proofs.hsm.stop.Goals as goal

pub returns : goal.returns
unfolding view laid words_of
returns c =
    let h = c.args.h.number in
    let t = seen c.args.t.now in
    let put = c.put_hart.ensures in
    λ m. moving _ _ _ m m _ true [] h (in_state (hart_at t.harts h) STOP_PENDING) (stop-given _ _)
    (ap Ok c.parked.ensures)
    (record {
      is = put.is ∙ ap (put_hart t h)
          (c.in_state.ensures ∙ ap (λ (y : Hart). in_state y STOP_PENDING) c.get_hart-x.ensures);
      shaped = put.shaped;
    })
    refl
