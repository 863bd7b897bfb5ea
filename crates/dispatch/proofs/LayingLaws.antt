-- Actions laid into memory, one hart after the other: what holds at the head of the loop, and a turn of each kind.
use mathlib.Core.Path.{◌≡◌, refl, sym, ap, ap₂, ◌∙◌}
use mathlib.Core.Bool.{Bool, true, false}
use mathlib.Core.List.{List, [], ◌∷◌, ◌++◌, map, append_assoc}
use Prim.Native.Nat.{ℕ, suc, ◌+◌, ◌*◌, ◌≤◌}
use native.Mathlib.Numerals.{add-one}
use native.Mathlib.Omega.{arith}
use lib.ListN.{length-map, length, take, drop, set, length-append, length-drop}
use lib.Seq.{sets-eq, take-append_seam, drop-append-add, drop-drop}
use Rattle.rules.specs.Sets.{those}
use Rattle.rules.specs.Masks.{action_for}
use Rattle.rules.specs.Replies.{words_of, laid}
use Rattle.rules.specs.declared.actions.Action.{Action}
use Rattle.rules.proofs.SetLaws.{those-hit, those-miss}
use Rattle.dispatch.specs.Meets.{put_action}

-- five stores are one action
pub stores : (m : List ℕ) (at a b c d e : ℕ) → at + 5 ≤ length m
    → set (set (set (set (set m at a) (at + 1) b) (at + 2) c) (at + 3) d) (at + 4) e
    ≡ put_action m at (record { target = a; kind = b; start = c; size = d; id = e })
stores m at a b c d e h =
    let two : at + 2 ≡ suc (suc at) = omega arith in
    let three : at + 3 ≡ suc (suc (suc at)) = omega arith in
    let four : at + 4 ≡ suc (suc (suc (suc at))) = omega arith in
    rw (add-one at, two, three, four)
    (sets-eq (a ∷ b ∷ c ∷ d ∷ e ∷ []) m at h ∙ append_assoc (take at m) (a ∷ b ∷ c ∷ d ∷ e ∷ []) (drop (at + 5) m))

-- one action after the words that are laid already
lay-more : (ws m : List ℕ) (a : Action) → put_action (laid ws m) (length ws) a ≡ laid (ws ++ words_of (a ∷ [])) m
unfolding laid words_of
lay-more ws m a =
    let five : List ℕ = a.target ∷ a.kind ∷ a.start ∷ a.size ∷ a.id ∷ [] in
    ap₂ (λ (x y : List ℕ). x ++ (five ++ y)) (take-append_seam ws (drop (length ws) m))
    (drop-append-add ws (drop (length ws) m) 5 ∙ drop-drop 5 (length ws) m
    ∙ ap (λ (n : ℕ). drop n m) (sym (length-append ws five)))
    ∙ sym (append_assoc ws five (drop (length (ws ++ five)) m))

pub words-length : (l : List Action) → length (words_of l) ≡ 5 * length l
unfolding words_of
words-length [] = refl
words-length (a ∷ l) = let e = words-length l in omega arith

-- the first action at the front of memory
pub lay-first : (m : List ℕ) (a : Action) → put_action m 0 a ≡ laid (words_of (a ∷ [])) m
unfolding laid words_of
lay-first m a = refl

module _ (k s n i : ℕ) where
  abbrev words : List ℕ → List ℕ
  words hs = words_of (map (action_for k s n i) hs)

  words_more : (hs : List ℕ) (h : ℕ) → words (hs ++ (h ∷ [])) ≡ words hs ++ words_of (action_for k s n i h ∷ [])
  unfolding words_of
  words_more [] h = refl
  words_more (j ∷ hs) h = ap (λ (l : List ℕ). j ∷ k ∷ s ∷ n ∷ i ∷ l) (words_more hs h)

  words-five : (hs : List ℕ) → length (words hs) ≡ 5 * length hs
  words-five hs = words-length (map (action_for k s n i) hs) ∙ ap (λ (l : ℕ). 5 * l) (length-map hs (action_for k s n i))

  laid-length : (hs m : List ℕ) → 5 * length hs ≤ length m → length (laid (words hs) m) ≡ length m
  unfolding laid
  laid-length hs m l =
      let e = words-five hs in
      let d = length-drop (length (words hs)) m in
      length-append (words hs) (drop (length (words hs)) m) ∙ omega arith

  -- out is the memory `was` with one action for each hart below h at which f holds; l of them
  pub record Laying (f : ℕ → Bool) (was out : List ℕ) (l h : ℕ) : Type 0 where
    pub few : l ≤ h
    pub long : length out ≡ length was
    pub count : l ≡ length (those h f)
    pub is : out ≡ laid (words (those h f)) was

  module _ (f : ℕ → Bool) (was : List ℕ) where
    pub laying-starts : Laying f was was 0 0
    unfolding laid words_of those
    laying-starts = record { few = omega arith; long = refl; count = refl; is = refl }

    module _ (out : List ℕ) (l h : ℕ) (w : Laying f was out l h) where
      pub laying-hit : f h ≡ true → 5 * h + 5 ≤ length was
          → Laying f was (put_action out (5 * l) (action_for k s n i h)) (l + 1) (h + 1)
      laying-hit e room =
          let here : 5 * l ≡ length (words (those h f)) = ap (λ (j : ℕ). 5 * j) w.count
          ∙ sym (words-five (those h f)) in
          let is' : put_action out (5 * l) (action_for k s n i h) ≡ laid (words (those (h + 1) f)) was =
          ap₂ (λ (o : List ℕ) (j : ℕ). put_action o j (action_for k s n i h)) w.is here
          ∙ lay-more (words (those h f)) was (action_for k s n i h)
          ∙ ap (λ (x : List ℕ). laid x was) (sym (words_more (those h f) h))
          ∙ ap (λ (x : List ℕ). laid (words x) was) (sym (those-hit f h e)) in
          let count' : l + 1 ≡ length (those (h + 1) f) =
          ap (λ (j : ℕ). j + 1) w.count ∙ sym (length-append (those h f) (h ∷ []))
          ∙ ap length (sym (those-hit f h e)) in
          let few' = w.few in
          record {
            few = omega arith;
            long = ap length is' ∙ laid-length (those (h + 1) f) was (omega arith);
            count = count';
            is = is';
          }

      pub laying-miss : f h ≡ false → Laying f was out l (h + 1)
      laying-miss e = record {
        few = omega (arith, w.few);
        long = w.long;
        count = w.count ∙ ap length (sym (those-miss f h e));
        is = w.is ∙ ap (λ (x : List ℕ). laid (words x) was) (sym (those-miss f h e));
      }
