-- Words added one by one, modulo 2^64, come to their sum modulo 2^64.
use Rattle.std.proofs.Common.{◌≡◌, ℕ, ◌+◌, ◌%◌, ◌^◌, List, fold, sum, refl, sym, ap, ◌∙◌}
use Rattle.std.proofs.lemmas.List.Folds.{fold_along}
use native.Mathlib.Nat.{mod-add-mod}

pub sum_wraps : (ws : List ℕ) → sum ws % 2 ^ 64 ≡ fold (λ total word. (total + word) % 2 ^ 64) 0 ws
sum_wraps ws =
    sym (fold_along (λ a w. (a + w) % 2 ^ 64) (λ a w. a + w) (λ a b. a ≡ b % 2 ^ 64) (λ a b w e. ap (λ n. (n + w) % 2 ^ 64) e ∙ mod-add-mod b (2 ^ 64) w) 0 0 ws refl)
