-- What events do to the counters: the one that the host reports, and those of interrupts and fences.
use mathlib.Core.Path.{◌≡◌, refl, ap, sym, ◌∙◌}
use mathlib.Core.Bool.{Bool, true}
use mathlib.Core.List.{List, [], ◌∷◌, map}
use Prim.Native.Nat.{ℕ, ◌+◌}
use lib.Dec.{eqb}
use lib.ListN.{get_or, set, length, get_or-eq_default}
use lib.Seq.{get_or-set_same, get_or-set_other, set_out}
use borrow.Author.Tests.{eqb-true, eqb-false, eq-eqb, ne_eqb}
use Rattle.std.proofs.lemmas.Bool.{false_from_ne_true, false≢true}
use Rattle.std.specs.Cmp.Derive.{both_true}
use Rattle.std.specs.Cmp.{second_so, both_ways}
use Rattle.rules.specs.Choice.{when◌then◌else◌}
use Rattle.rules.specs.Tables.{counter_at}
use Rattle.std.specs.Prelude.{Option, Some, None}
use Rattle.std.proofs.lemmas.Option.{none-some}
use Rattle.rules.specs.Replies.{is_mapped_to, counted, count_at, tell_one, tell}
use Rattle.rules.specs.Events.{times, others, occurs}
use Rattle.rules.specs.Counting.{EventsAddOne}
use Rattle.rules.specs.declared.records.Counter.{Counter}
use Rattle.rules.proofs.Logic.{if-true, if-false, by_cases, below_or}
use Rattle.rules.proofs.Own.{counted-at}

-- ----- one event on one counter

mapped-to : (e : ℕ) (o : Option ℕ) → is_mapped_to e o ≡ true → o ≡ Some e
mapped-to e None y = absurd (false≢true y)
mapped-to e (Some k) y = ap Some (eqb-true k e y)

pub events-add-one : EventsAddOne
unfolding counted
events-add-one e c = record {
  adds = λ r m. if-true _ _ (both_true r (rw m (eq-eqb e e refl)));
  stopped = λ r. if-false _ _ (rw r refl);
  unmapped = λ m.
      if-false _ _
      (false_from_ne_true _ (λ y. none-some e (sym m ∙ mapped-to e c.event (second_so c.running _ y))));
  elsewhere = λ n. if-false _ _ (false_from_ne_true _ (λ y. n (mapped-to e c.event (second_so c.running _ y))));
}

-- ----- one event in one hart

module _ (h e : ℕ) (t : List (List Counter)) where
  -- counter i of hart k after it
  pub count_at_lem : (k i : ℕ) → counter_at (get_or (count_at h e t) k []) i ≡ when eqb k h then counted e
      (counter_at (get_or t k []) i) else counter_at (get_or t k []) i
  unfolding count_at
  count_at_lem k i =
      by_cases (eqb k h)
      (λ y.
      let kh : k ≡ h = eqb-true k h y in
      ap (λ (cs : List Counter). counter_at cs i)
      (ap (λ (j : ℕ). get_or (set t h (map (counted e) (get_or t h []))) j []) kh)
      ∙ here i ∙ ap (λ (j : ℕ). counted e (counter_at (get_or t j []) i)) (sym kh) ∙ sym (if-true _ _ y))
      (λ n. ap (λ (cs : List Counter). counter_at cs i) (get_or-set_other t h k _ [] (eqb-false k h n))
      ∙ sym (if-false _ _ n))
    where
      here : (i : ℕ) → counter_at (get_or (set t h (map (counted e) (get_or t h []))) h []) i ≡ counted e
          (counter_at (get_or t h []) i)
      here i =
          below_or h (length t)
          (λ l. ap (λ (cs : List Counter). counter_at cs i) (get_or-set_same t h (map (counted e) (get_or t h [])) [] l)
          ∙ counted-at e (get_or t h []) i)
          (λ g.
          let out : get_or t h [] ≡ [] = get_or-eq_default t [] g in
          ap (λ (u : List (List Counter)). counter_at (get_or u h []) i) (set_out t h _ g)
          ∙ ap (λ (cs : List Counter). counter_at cs i) out
          ∙ sym (ap (λ (cs : List Counter). counted e (counter_at cs i)) out ∙ sym (counted-at e [] i)))

-- ----- the events of an interrupt or a fence of hart h with this code

module _ (h e : ℕ) where
  tell_one-caller : (k : ℕ) (t : List (List Counter)) (i : ℕ)
      → counter_at (get_or (tell_one h e k t) h []) i ≡ when eqb k h then counter_at (get_or t h []) i
      else counted e (counter_at (get_or t h []) i)
  unfolding tell_one
  tell_one-caller k t i =
      by_cases (eqb k h)
      (λ y. ap (λ (u : List (List Counter)). counter_at (get_or u h []) i) (if-true _ _ y) ∙ sym (if-true _ _ y))
      (λ n.
      ap (λ (u : List (List Counter)). counter_at (get_or u h []) i) (if-false _ _ n)
      ∙ count_at_lem k (e + 1) (count_at h e t) h i
      ∙ if-false _ _ (ne_eqb h k (λ hk. eqb-false k h n (sym hk)))
      ∙ count_at_lem h e t h i ∙ if-true _ _ (eq-eqb h h refl) ∙ sym (if-false _ _ n))

  tell_one-other : (k j : ℕ) (t : List (List Counter)) (i : ℕ) → (j ≡ h → ⊥)
      → counter_at (get_or (tell_one h e k t) j []) i ≡ when eqb k j then counted (e + 1) (counter_at (get_or t j []) i)
      else counter_at (get_or t j []) i
  unfolding tell_one
  tell_one-other k j t i away =
      by_cases (eqb k h)
      (λ y.
      ap (λ (u : List (List Counter)). counter_at (get_or u j []) i) (if-true _ _ y)
      ∙ sym (if-false _ _ (ne_eqb k j (λ kj. away (sym kj ∙ eqb-true k h y)))))
      (λ n.
      ap (λ (u : List (List Counter)). counter_at (get_or u j []) i) (if-false _ _ n)
      ∙ count_at_lem k (e + 1) (count_at h e t) j i
      ∙ ap (λ (b : Bool). when b then counted (e + 1) (counter_at (get_or (count_at h e t) j []) i)
      else counter_at (get_or (count_at h e t) j []) i) (turn j k)
      ∙ ap (λ (c : Counter). when eqb k j then counted (e + 1) c else c)
      (count_at_lem h e t j i ∙ if-false _ _ (ne_eqb j h away)))
    where
      turn : (a b : ℕ) → eqb a b ≡ eqb b a
      turn a b = both_ways (eqb a b) (eqb b a) (λ y. eq-eqb b a (sym (eqb-true a b y)))
          (λ y. eq-eqb a b (sym (eqb-true b a y)))

  -- the caller's counters: one sent event for each other hart
  pub tell-caller : (ks : List ℕ) (t : List (List Counter)) (i : ℕ)
      → counter_at (get_or (tell h e ks t) h []) i ≡ times (others h ks) (counted e) (counter_at (get_or t h []) i)
  unfolding tell times others
  tell-caller [] t i = refl
  tell-caller (k ∷ ks) t i =
      tell-caller ks (tell_one h e k t) i
      ∙ ap (times (others h ks) (counted e)) (tell_one-caller k t i)
      ∙ by_cases (eqb k h)
      (λ y. ap (times (others h ks) (counted e)) (if-true _ _ y)
      ∙ ap (λ (n : ℕ). times n (counted e) (counter_at (get_or t h []) i)) (sym (if-true _ _ y)))
      (λ n. ap (times (others h ks) (counted e)) (if-false _ _ n)
      ∙ ap (λ (n : ℕ). times n (counted e) (counter_at (get_or t h []) i)) (sym (if-false _ _ n)))

  -- another hart's counters: one received event each time that it is told
  pub tell-other : (ks : List ℕ) (t : List (List Counter)) (j i : ℕ) → (j ≡ h → ⊥)
      → counter_at (get_or (tell h e ks t) j []) i ≡ times (occurs j ks) (counted (e + 1)) (counter_at (get_or t j []) i)
  unfolding tell times occurs
  tell-other [] t j i away = refl
  tell-other (k ∷ ks) t j i away =
      tell-other ks (tell_one h e k t) j i away
      ∙ ap (times (occurs j ks) (counted (e + 1))) (tell_one-other k j t i away)
      ∙ by_cases (eqb k j)
      (λ y. ap (times (occurs j ks) (counted (e + 1))) (if-true _ _ y)
      ∙ ap (λ (n : ℕ). times n (counted (e + 1)) (counter_at (get_or t j []) i)) (sym (if-true _ _ y)))
      (λ n. ap (times (occurs j ks) (counted (e + 1))) (if-false _ _ n)
      ∙ ap (λ (n : ℕ). times n (counted (e + 1)) (counter_at (get_or t j []) i)) (sym (if-false _ _ n)))
