-- `read`: each word is that of its place.
use Rattle.std.proofs.Common.{◌≡◌, ℕ, zero, suc, ◌+◌, ◌*◌, ◌<◌, ◌≤◌, List, [], ◌∷◌, ◌++◌, get_or, map, sym, refl, ap, subst, ◌∙◌, ⊎_elim, add-one, arith, rules}
use Rattle.std.specs.Array.{IsFromFnResult, IsFromFnResultFrom}
use Rattle.std.specs.Fn.{Called}
use Rattle.std.specs.List.{range_with_len}
use Rattle.std.proofs.lemmas.Bool.{cases_eq}
use Rattle.std.proofs.lemmas.List.FromFn.{fill_by_all, map-range_with_len_more}
use denote.Param.Members.{Mut}
use Rattle.blocks.specs.Blocks.{word_at, words_at}
use Rattle.blocks.proofs.read.Goals as goal

-- the array of a closure that stays as it is and gives h
module _ {F B : Type 0} {g : Mut F (ℕ × Unit {0}) B} (h : ℕ → B) {f : F} (gives : (i : ℕ) (y : B) (q : F) → Called g f (i, tt) y q → (q ≡ f) × (y ≡ h i)) where
  made_from : (ys : List B) (i n : ℕ) → IsFromFnResultFrom g f ys i n → (j : ℕ) (d : B) → i ≤ j → j < i + n → get_or ys j d ≡ h j
  made_from ys i zero m j d a b = absurd (omega arith)
  made_from ys i (suc n) m j d a b =
      ⊎_elim
      (λ e. ap (λ k. get_or ys k d) e ∙ m.2.1 d ∙ (gives _ _ _ m.3).1 ∙ ap h (sym e))
      (λ ne. made_from ys (i + 1) n (subst (λ q. IsFromFnResultFrom g q ys (i + 1) n) (gives _ _ _ m.3).0 m.4) j d (omega arith) (omega arith))
      (cases_eq j i)

  made_by : (ys : List B) (n : ℕ) (d : B) → IsFromFnResult g f ys n → ys ≡ map h (range_with_len 0 n)
  made_by ys n d m = fill_by_all h ys n d m.long (λ k l. made_from ys 0 n m.each k d (omega arith) (omega arith))

words_at-map : (n : ℕ) (bs : List ℕ) (at : ℕ) → words_at n bs at ≡ map (λ i. word_at bs (at + 8 * i)) (range_with_len 0 n)
unfolding words_at
words_at-map zero bs at = refl
words_at-map (suc n) bs at =
    let f : ℕ → ℕ = λ i. word_at bs (at + 8 * i) in
    ap (λ ws. ws ++ f n ∷ []) (words_at-map n bs at)
    ∙ sym (map-range_with_len_more f 0 n n (omega arith))
    ∙ ap (λ k. map f (range_with_len 0 k)) (add-one n)

pub returns : goal.returns
returns c =
    let bs = c.args.bytes.now in
    let at = c.args.at in
    made_by (λ i. word_at bs (at + 8 * i)) (λ i y q k. search rules) c.from_fn.result 64 0 c.from_fn.ensures.items ∙ sym (words_at-map 64 bs at)
