-- Laws of an event in a row, counter by counter: the way the loop goes.
--   counted_one r i e     the row with counter i counted, if it runs and has the code e
--   counted_to n r e      the row with its first n counters counted
use Rattle.std.proofs.Common.{◌≡◌, ℕ, zero, suc, ◌+◌, ◌-◌, ◌%◌, ◌^◌, ◌<◌, ◌≤◌, false, ◌&&◌, eqb, List, map, length, get_or, set, sym, refl, ap, ◌∙◌, subst, ap₂, ⊎_elim, le_of_suc-le-suc, not-suc-le-zero, mod-lt, eq-or-lt_of_le, arith, lit<, get_or-set_other, get_or-set_same, eq-eqb, ne_eqb, eqb-true}
use borrow.Author.Tests.{eqb-false}
use Rattle.std.specs.Prelude.{Some, None}
use Rattle.rules.specs.Choice.{when◌then◌else◌}
use Rattle.rules.specs.Tables.{blank, counter_at}
use Rattle.rules.specs.Replies.{is_mapped_to, counted}
use Rattle.rules.specs.declared.records.Counter.{Counter}
use Rattle.rules.proofs.Logic.{if-true, if-false, if-both, by_cases}
use Rattle.store.specs.Rows.{byte, hart_in, counter_of, counter_in, counters_in, Fit}
use lib.ListN.{length-map}
use Rattle.std.proofs.lemmas.List.{get_or-map}
use Rattle.store.proofs.ByteLaws.{byte-none}
use Rattle.store.proofs.RowLaws.{fit-set, counter_at_lem, counters-are, eight, of_none, of-stopped, of-running, kinds}

unfoldable pub counted_one : List ℕ → ℕ → ℕ → List ℕ
counted_one r i e =
    when eqb (byte (get_or r 3 0) i) (e + 23) then set r (4 + i) ((get_or r (4 + i) 0 + 1) % 2 ^ 64) else r

unfoldable pub counted_to : ℕ → List ℕ → ℕ → List ℕ
counted_to zero r e = r
counted_to (suc n) r e = counted_one (counted_to n r e) n e

-- ----- one counter

module _ (b e : ℕ) where
  next : ℕ → ℕ
  next v = when eqb b (e + 23) then (v + 1) % 2 ^ 64 else v

  miss : (v : ℕ) → b < 23 → next v ≡ v
  unfolding next
  miss v l = if-false _ _ (ne_eqb b (e + 23) (λ q. omega arith))

  stays : (c : Counter) → (c.running && is_mapped_to e c.event) ≡ false → counted e c ≡ c
  unfolding counted
  stays c q = if-false _ _ q

  hit : (v : ℕ) → 23 ≤ b → counted e (counter_of b v) ≡ counter_of b (next v)
  unfolding counted next
  hit v l =
      by_cases (eqb b (e + 23))
      (λ q.
      let z : b - 23 ≡ e = omega (arith, eqb-true b (e + 23) q) in
      ap (counted e) (of-running b v l) ∙ if-true _ _ (eq-eqb (b - 23) e z)
      ∙ sym (of-running b ((v + 1) % 2 ^ 64) l) ∙ ap (counter_of b) (sym (if-true _ _ q)))
      (λ q.
      let n = eqb-false b (e + 23) q in
      ap (counted e) (of-running b v l) ∙ if-false _ _ (ne_eqb (b - 23) e (λ z. n (omega arith)))
      ∙ sym (of-running b v l) ∙ ap (counter_of b) (sym (if-false _ _ q)))

  counted_of : (v : ℕ) → counted e (counter_of b v) ≡ counter_of b (next v)
  counted_of v =
      kinds b (counted e (counter_of b v) ≡ counter_of b (next v))
      (λ q. let o = of_none b v q in
      ap (counted e) o ∙ stays (record { event = None; running = false; value = v }) refl ∙ sym o
      ∙ ap (counter_of b) (sym (miss v (omega arith))))
      (λ l m. let o = of-stopped b v l m in
      ap (counted e) o ∙ stays (record { event = Some (b - 1); running = false; value = v }) refl ∙ sym o
      ∙ ap (counter_of b) (sym (miss v m)))
      (λ l. hit v l)

module _ (r : List ℕ) (e : ℕ) where
  one-fit : (i : ℕ) → Fit r → Fit (counted_one r i e)
  unfolding counted_one
  one-fit i k =
      if-both Fit (eqb (byte (get_or r 3 0) i) (e + 23)) (λ q. fit-set r (4 + i) _ (mod-lt _ (lit< tt)) k) (λ q. k)

  one-other : (i k : ℕ) → (k ≡ 4 + i → ⊥) → get_or (counted_one r i e) k 0 ≡ get_or r k 0
  unfolding counted_one
  one-other i k n =
      if-both (λ (l : List ℕ). get_or l k 0 ≡ get_or r k 0) (eqb (byte (get_or r 3 0) i) (e + 23))
      (λ q. get_or-set_other r (4 + i) k _ 0 n) (λ q. refl)

  one_same : (i : ℕ) → 4 + i < length r
      → get_or (counted_one r i e) (4 + i) 0 ≡ next (byte (get_or r 3 0) i) e (get_or r (4 + i) 0)
  unfolding counted_one next
  one_same i l =
      by_cases (eqb (byte (get_or r 3 0) i) (e + 23))
      (λ q. ap (λ (l : List ℕ). get_or l (4 + i) 0) (if-true _ _ q) ∙ get_or-set_same r (4 + i) _ 0 l
      ∙ sym (if-true _ _ q))
      (λ q. ap (λ (l : List ℕ). get_or l (4 + i) 0) (if-false _ _ q) ∙ sym (if-false _ _ q))

-- ----- the first n counters

module _ (r : List ℕ) (e : ℕ) where
  pub to-fit : (n : ℕ) → Fit r → Fit (counted_to n r e)
  unfolding counted_to
  to-fit zero k = k
  to-fit (suc n) k = one-fit (counted_to n r e) e n (to-fit n k)

  to-other : (n k : ℕ) → ((i : ℕ) → i < n → k ≡ 4 + i → ⊥) → get_or (counted_to n r e) k 0 ≡ get_or r k 0
  unfolding counted_to
  to-other zero k f = refl
  to-other (suc n) k f =
      one-other (counted_to n r e) e n k (f n (omega arith)) ∙ to-other n k (λ i l. f i (omega arith))

  to-value : (n i : ℕ) → i < n → 4 + i < length r → Fit r
      → get_or (counted_to n r e) (4 + i) 0 ≡ next (byte (get_or r 3 0) i) e (get_or r (4 + i) 0)
  unfolding counted_to
  to-value zero i l m k = absurd (not-suc-le-zero l)
  to-value (suc n) i l m k =
      ⊎_elim
      (λ q. subst
      (λ (j : ℕ). get_or (counted_one (counted_to n r e) j e) (4 + i) 0 ≡ next (byte (get_or r 3 0) i) e
      (get_or r (4 + i) 0)) q
      (one_same (counted_to n r e) e i (omega (arith, (to-fit n k).size, k.size))
      ∙ ap₂ (λ (a b : ℕ). next (byte a i) e b) (to-other n 3 (λ j p z. omega arith))
      (to-other n (4 + i) (λ j p z. omega arith))))
      (λ p. one-other (counted_to n r e) e n (4 + i) (λ q. omega arith) ∙ to-value n i p m k)
      (eq-or-lt_of_le (le_of_suc-le-suc l))

  pub hart-counted : hart_in (counted_to 8 r e) ≡ hart_in r
  unfolding hart_in
  hart-counted =
      rw (
        to-other 8 0 (λ j l q. omega arith),
        to-other 8 1 (λ j l q. omega arith),
        to-other 8 2 (λ j l q. omega arith),
      )

  pub own-counted : Fit r → counters_in (counted_to 8 r e) ≡ map (counted e) (counters_in r)
  unfolding counter_at counter_in counter_of
  own-counted k =
      sym (counters-are (counted_to 8 r e) (map (counted e) (counters_in r)) (length-map (counters_in r) (counted e)
      ∙ eight r)
      (λ i l. get_or-map (counted e) (counters_in r) i blank blank (rw (eight r) l)
      ∙ ap (counted e) (counter_at_lem r i l)
      ∙ counted_of (byte (get_or r 3 0) i) e (get_or r (4 + i) 0)
      ∙ sym (ap₂ counter_of (ap (λ (w : ℕ). byte w i) (to-other 8 3 (λ j p q. omega arith)))
      (to-value 8 i l (omega (arith, k.size)) k))))

-- ----- one turn of the loop, over the bytes of the control word

pub start : (r : List ℕ) (e : ℕ) → r ≡ counted_to 0 r e
unfolding counted_to
start r e = refl

module _ (r : List ℕ) (i e : ℕ) where
  byte-now : byte (get_or (counted_to i r e) 3 0) i ≡ byte (get_or r 3 0) i
  byte-now = ap (λ (v : ℕ). byte v i) (to-other r e i 3 (λ j p z. omega arith))

  pub turn-hit : byte (get_or r 3 0) i ≡ e + 23
      → counted_to (suc i) r e ≡ set (counted_to i r e) (4 + i) ((get_or (counted_to i r e) (4 + i) 0 + 1) % 2 ^ 64)
  unfolding counted_to counted_one
  turn-hit z = if-true _ _ (eq-eqb _ _ (byte-now ∙ z))

  pub turn-miss : (byte (get_or r 3 0) i ≡ e + 23 → ⊥) → counted_to (suc i) r e ≡ counted_to i r e
  unfolding counted_to counted_one
  turn-miss z = if-false _ _ (ne_eqb _ _ (λ y. z (sym byte-now ∙ y)))

-- ----- where no counter is mapped, none counts

pub none-mapped : (r : List ℕ) (e : ℕ) → get_or r 3 0 ≡ 0 → counters_in r ≡ map (counted e) (counters_in r)
unfolding counter_at counter_in
none-mapped r e z =
    sym (counters-are r (map (counted e) (counters_in r)) (length-map (counters_in r) (counted e) ∙ eight r)
    (λ i l. get_or-map (counted e) (counters_in r) i blank blank (rw (eight r) l)
    ∙ ap (counted e) (counter_at_lem r i l)
    ∙ unmapped i))
  where
    unmapped : (i : ℕ) → counted e (counter_in r i) ≡ counter_in r i
    unmapped i =
        let b = byte (get_or r 3 0) i in
        let v = get_or r (4 + i) 0 in
        let q : b ≡ 0 = ap (λ (w : ℕ). byte w i) z ∙ byte-none i in
        counted_of b e v ∙ ap (counter_of b) (miss b e v (omega arith))
