-- `cleared` folds the words by or.
use Rattle.store.proofs.TestLaws.{fold-more, fold-all, is_zero}
use Rattle.std.specs.List.{list_all}
use Rattle.std.proofs.lemmas.Fn.{fold_over, slice_gives, fronts}
use Rattle.std.proofs.Common.{◌≡◌, ℕ, Bor, List, eqb, bit_or, refl, ap, ◌∙◌, rules}
use Rattle.store.proofs.wholes.cleared.Goals as goal

pub returns : goal.returns
returns c =
    fold_over fronts (λ (y : Bor ℕ). y.now) _ (λ (ws : List ℕ) (a : ℕ). eqb a 0 ≡ list_all is_zero ws) _
    (λ ws a w b f' j k. let e : b ≡ bit_or a w.now = search rules in
    (ap (λ (n : ℕ). eqb n 0) e ∙ fold-more ws a w.now j, refl))
    c.iter.result c.iter.result.rest.now 0 c.fold.result (slice_gives c.iter.result) refl c.fold.ensures.ran
    ∙ ap (list_all is_zero) c.iter.ensures.rest ∙ fold-all c.args.r.now c.told-r
