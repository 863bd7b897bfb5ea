-- `completion` on well-formed tables: H4, H2, then done.
use mathlib.Core.Path.{refl}
use lib.ListN.{length}
use Rattle.rules.specs.Machine.{completion}
use Rattle.tables.specs.Keeping.{seen}
use Rattle.rules.proofs.HostWays.{completion-reply}
use Rattle.dispatch.proofs.AdmissionLaws.{not-admitted, admitted}
use Rattle.dispatch.proofs.MeetsLaws.{refusing, refused-by}
use Rattle.dispatch.proofs.checked.completion.Goals as goal

pub returns-in_err-h : goal.returns-in_err-h
returns-in_err-h c =
    let a = c.args in
    let room = length a.actions.now in
    refusing _ _ c.requires.shaped _ _
    (not-admitted a.p.now (seen a.t.now) (completion room a.h) room refl c.in_err-h.ensures)
    (refused-by _ refl c.from_residual.ensures)

pub returns : goal.returns
returns c =
    let a = c.args in
    let room = length a.actions.now in
    let in' = c.in_ok-h.ensures in
    λ m. admitted a.p.now a.t.now _ m m (completion room) _ in'.0 in'.1 refl (completion-reply _ _ room _)
    (c.complete.ensures m)
