-- Laws of a change of each counter of a set, one after the other: what it leaves at each, and that it keeps counters
-- well formed.
use Rattle.std.proofs.Common.{◌≡◌, ℕ, zero, suc, ◌+◌, ◌<◌, ◌≤◌, Bool, true, false, not, ◌||◌, List, [], ◌∷◌, ◌++◌, length, get_or, set, sym, refl, ap, ◌∙◌, subst, add-one, arith, length-set, get_or-set_other, get_or-set_same, ext_get_or}
use native.Mathlib.Decide.{ℕ_discrete}
use Rattle.std.specs.Prelude.{Option, Some}
use Rattle.std.proofs.lemmas.Option.{none-some}
use Rattle.std.proofs.lemmas.Bool.{false≢true}
use Rattle.rules.specs.Sets.{bit, those, all}
use Rattle.rules.specs.Tables.{blank, counter_at}
use Rattle.rules.specs.Counters.{each, begun, ended, is_mapped}
use Rattle.rules.specs.declared.records.Counter.{Counter}
use Rattle.rules.proofs.Logic.{if-both, by_cases, below_or, clash, not-or-inv}
use Rattle.rules.proofs.SetLaws.{every-at, those-hit, those-miss}
use Rattle.store.specs.Rows.{counters_in, Alters}
use Rattle.store.specs.Sets.{Kept, Fine, set_of, Changed}
use Rattle.store.proofs.RowLaws.{eight}
use Rattle.store.proofs.SetLaws.{all-those}

each_append : (f : Counter → Counter) (a b : List ℕ) (cs : List Counter) → each f (a ++ b) cs ≡ each f b (each f a cs)
unfolding each
each_append f [] b cs = refl
each_append f (i ∷ a) b cs = each_append f a b (set cs i (f (counter_at cs i)))

length-each : (f : Counter → Counter) (is : List ℕ) (cs : List Counter) → length (each f is cs) ≡ length cs
unfolding each
length-each f [] cs = refl
length-each f (i ∷ is) cs = length-each f is (set cs i (f (counter_at cs i))) ∙ length-set cs i _

module _ (f : Counter → Counter) (g : ℕ → Bool) (cs : List Counter) where
  -- the counters after f at the first n of the set
  abbrev pub up_to : ℕ → List Counter
  up_to n = each f (those n g) cs

  -- one counter more
  more : (n : ℕ) → g n ≡ true → up_to (suc n) ≡ set (up_to n) n (f (counter_at (up_to n) n))
  unfolding each
  more n e =
      ap (λ (l : List ℕ). each f l cs) (ap (λ (k : ℕ). those k g) (sym (add-one n)) ∙ those-hit g n e)
      ∙ each_append f (those n g) (n ∷ []) cs

  same : (n : ℕ) → g n ≡ false → up_to (suc n) ≡ up_to n
  same n e = ap (λ (l : List ℕ). each f l cs) (ap (λ (k : ℕ). those k g) (sym (add-one n)) ∙ those-miss g n e)

  each-off : (n j : ℕ) → (j < n → g j ≡ false) → counter_at (up_to n) j ≡ counter_at cs j
  unfolding counter_at each those
  each-off zero j h = refl
  each-off (suc n) j h =
      by_cases (g n)
      (λ e. ap (λ (l : List Counter). get_or l j blank) (more n e)
      ∙ get_or-set_other (up_to n) n j (f (counter_at (up_to n) n)) blank
      (λ q. clash e (subst (λ (k : ℕ). g k ≡ false) q (h (omega arith))))
      ∙ each-off n j (λ l. h (omega arith)))
      (λ e. ap (λ (l : List Counter). get_or l j blank) (same n e) ∙ each-off n j (λ l. h (omega arith)))

  each-on : (n j : ℕ) → j < n → j < length cs → g j ≡ true → counter_at (up_to n) j ≡ f (counter_at cs j)
  unfolding counter_at
  each-on zero j l m e = absurd (omega arith)
  each-on (suc n) j l m e =
      elim (ℕ_discrete j n) [
        | yes z ↦ subst (λ (k : ℕ). counter_at (up_to (suc k)) j ≡ f (counter_at cs j)) z
            (ap (λ (l : List Counter). get_or l j blank) (more j e)
            ∙ get_or-set_same (up_to j) j (f (counter_at (up_to j) j)) blank
            (omega (arith, length-each f (those j g) cs))
            ∙ ap f (each-off j j (λ l. absurd (omega arith))))
        | no z ↦ by_cases (g n)
            (λ q. ap (λ (l : List Counter). get_or l j blank) (more n q)
            ∙ get_or-set_other (up_to n) n j (f (counter_at (up_to n) n)) blank z
            ∙ each-on n j (omega arith) m e)
            (λ q. ap (λ (l : List Counter). get_or l j blank) (same n q) ∙ each-on n j (omega arith) m e)
      ]

-- ----- the loop over the counters of a row

module _ (R : Counter → Counter → Type 0) (s : ℕ) where
  module _ (n : ℕ) (r₀ r : List ℕ) (a : Changed R s n r₀ r) where
    pub changed-miss : n < 8 → bit s n ≡ false → Changed R s (n + 1) r₀ r
    changed-miss m e = record {
      hart = a.hart;
      made = λ i l t. below_or i n (λ q. a.made i q t)
          (λ q. absurd (clash t (subst (λ (k : ℕ). bit s k ≡ false) (let z : n ≡ i = omega arith in z) e)));
      left = λ i l t. below_or i n (λ q. a.left i q t) (λ q. a.ahead i q (omega arith));
      ahead = λ i l m. a.ahead i (omega arith) m;
      fit = a.fit;
    }

    pub changed-hit : n < 8 → bit s n ≡ true → (x : Counter) → R (counter_at (counters_in r) n) x
        → (r' : List ℕ) → Alters r r' (λ cs. set cs n x) → Changed R s (n + 1) r₀ r'
    unfolding counter_at
    changed-hit l e x p r' b = record {
      hart = b.hart ∙ a.hart;
      made = λ i m t. below_or i n
          (λ q. subst (R (counter_at (counters_in r₀) i)) (sym (other i (omega arith))) (a.made i q t))
          (λ q. subst (λ (k : ℕ). R (counter_at (counters_in r₀) k) (counter_at (counters_in r') k))
          (let z : n ≡ i = omega arith in z)
          (rw (here) (subst (λ (c : Counter). R c x) (a.ahead n (omega arith) l) p)));
      left = λ i m t. below_or i n (λ q. other i (omega arith) ∙ a.left i q t)
          (λ q. absurd (clash (subst (λ (k : ℕ). bit s k ≡ true) (let z : n ≡ i = omega arith in z) e) t));
      ahead = λ i m k. other i (omega arith) ∙ a.ahead i (omega arith) k;
      fit = b.fit;
    }
      where
        here : counter_at (counters_in r') n ≡ x
        here = ap (λ (cs : List Counter). get_or cs n blank) b.own
            ∙ get_or-set_same (counters_in r) n x blank (omega (arith, eight r))

        other : (i : ℕ) → (i ≡ n → ⊥) → counter_at (counters_in r') i ≡ counter_at (counters_in r) i
        other i q = ap (λ (cs : List Counter). get_or cs i blank) b.own ∙ get_or-set_other (counters_in r) n i x blank q

  -- where R is a function
  pub changed-each : (f : Counter → Counter) → ((c x : Counter) → R c x → x ≡ f c) → (r r' : List ℕ)
      → Changed R s 8 r r' → Alters r r' (each f (set_of s))
  unfolding counter_at
  changed-each f d r r' a = record {
    hart = a.hart;
    own = ext_get_or blank (counters_in r') (each f (set_of s) (counters_in r)) (eight r'
        ∙ sym (length-each f (set_of s) (counters_in r) ∙ eight r)) at-each;
    fit = a.fit;
  }
    where
      at-each : (i : ℕ) → i < length (counters_in r')
          → get_or (counters_in r') i blank ≡ get_or (each f (set_of s) (counters_in r)) i blank
      at-each i l =
          let m : i < 8 = omega (arith, eight r') in
          by_cases (bit s i)
          (λ e. d (counter_at (counters_in r) i) (counter_at (counters_in r') i) (a.made i m e)
          ∙ sym (each-on f (bit s) (counters_in r) 8 i m (omega (arith, eight r)) e))
          (λ e. a.left i m e ∙ sym (each-off f (bit s) (counters_in r) 8 i (λ _. e)))

-- ----- start and stop keep counters well formed

module _ (cs : List Counter) (fine : Fine cs) (s : ℕ) where
  pub begun_kept : (flags initial : ℕ) → all (is_mapped cs) (set_of s) ≡ true → Kept (begun flags initial) s cs
  unfolding begun is_mapped
  begun_kept flags initial e i l q =
      let k = fine i in
      let m = not-or-inv (bit s i) (is_mapped cs i)
      (every-at (λ i. not (bit s i) || is_mapped cs i) 8 i l (sym (all-those 8 (is_mapped cs) (bit s)) ∙ e)) q in
      record { codes = k.codes; runs = λ _. m }

  pub ended-kept : (flags : ℕ) → Kept (ended flags) s cs
  unfolding ended
  ended-kept flags i l q =
      let c = counter_at cs i in
      let k = fine i in
      record {
        codes = λ e. if-both (λ (o : Option ℕ). o ≡ Some e → e ≤ 21) (bit flags 0) (λ _ n. absurd (none-some e n))
            (λ _. k.codes e);
        runs = λ e. absurd (false≢true e);
      }
