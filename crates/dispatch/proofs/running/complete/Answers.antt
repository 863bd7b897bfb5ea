-- `complete` tests H5, then settles the one record.
use mathlib.Core.Bool.{false}
use mathlib.Core.List.{[]}
use mathlib.Core.Path.{◌≡◌, refl, sym, ap, ◌∙◌}
use Rattle.std.proofs.Common.{arith}
use Rattle.std.specs.Prelude.{Some, None, Ok}
use Rattle.rules.specs.Harts.{done_of}
use Rattle.rules.specs.Replies.{view, laid, words_of}
use Rattle.tables.specs.Keeping.{seen, put_hart}
use Rattle.rules.specs.declared.answers.Refusal.TheVariants.{StateForbids}
use Rattle.rules.proofs.HartWays.{done-forbidden, done-given}
use Rattle.rules.proofs.WellFormed.{tables_agree}
use Rattle.tables.proofs.Laws.{completed-to}
use Rattle.dispatch.proofs.MeetsLaws.{refusing, moving, refused-by}
use Rattle.dispatch.proofs.running.complete.Goals as goal

pub returns-in_err-ok_or : goal.returns-in_err-ok_or
unfolding view
returns-in_err-ok_or c =
    let none : c.done.result ≡ None = grind arith in
    let e : c.in_err-ok_or.field-0.0 ≡ StateForbids = grind arith in
    refusing _ _ c.requires.shaped _ StateForbids
    (done-forbidden _ _ (ap done_of (sym c.get_hart-x.ensures) ∙ sym c.done.ensures ∙ none))
    (refused-by _ e c.from_residual.ensures)

pub complete-requires : goal.complete-requires
complete-requires c =
    let a = c.args in
    ((((tables_agree a.p.now (seen a.t.now)).0 c.requires.fine).hart a.h.number a.h.in_range).state, c.requires.shaped)

pub returns : goal.returns
unfolding view laid words_of
returns c =
    let h = c.args.h.number in
    let t = seen c.args.t.now in
    let y = c.in_ok-ok_or.field-0 in
    let some : c.done.result ≡ Some y = grind arith in
    let step = ap done_of (sym c.get_hart-x.ensures) ∙ sym c.done.ensures ∙ some in
    let put = c.complete.ensures in
    λ m. moving _ _ _ m m _ false [] h y (done-given _ _ y step) (ap Ok c.value.ensures)
    (record { is = put.is ∙ ap (put_hart t h) (completed-to _ y step); shaped = put.shaped })
    refl
