-- The view forgets nothing: rows that hold the same tables are the same rows.
use Rattle.std.proofs.Common.{◌≡◌, ℕ, zero, suc, ◌+◌, ◌%◌, ◌^◌, ◌<◌, eqb, List, [], get_or, sym, refl, ap, ◌∙◌, subst, mod-lt, arith, lit<, ext_get_or, le-ltb, lt-ltb}
use Rattle.std.proofs.lemmas.Option.{same_Some, none-some}
use Rattle.std.proofs.lemmas.Bool.{false≢true}
use Rattle.rules.specs.Tables.{Tables, hart_at, own_at, counter_at}
use Rattle.rules.specs.declared.records.Hart.{Hart}
use Rattle.rules.specs.declared.records.Counter.{Counter}
use Rattle.rules.proofs.Logic.{if-true, if-false, below_or}
use Rattle.store.specs.Rows.{byte, state_in, hart_in, counter_of, counter_in, counters_in, Fit}
use Rattle.store.specs.Seen.{seen, Shaped, size_of, row_of, Holds}
use Rattle.store.proofs.ByteLaws.{past_all, bytes_one}
use Rattle.store.proofs.RowLaws.{counter_at_lem, of_none, of-stopped, of-running, kinds}
use Rattle.store.proofs.ViewLaws.{hart-seen, own-seen}

digit-0 : (n m : ℕ) → n < 2 → m < 2 → eqb n 0 ≡ eqb m 0 → n ≡ m
digit-0 zero zero h l e = refl
digit-0 zero (suc zero) h l e = absurd (false≢true (sym e))
digit-0 (suc zero) zero h l e = absurd (false≢true e)
digit-0 (suc zero) (suc zero) h l e = refl
digit-0 (suc (suc n)) m h l e = absurd (omega arith)
digit-0 zero (suc (suc m)) h l e = absurd (omega arith)
digit-0 (suc zero) (suc (suc m)) h l e = absurd (omega arith)

state-one : (w v : ℕ) → w < 2 ^ 64 → v < 2 ^ 64 → state_in w ≡ state_in v → eqb (w % 2) 0 ≡ eqb (v % 2) 0 → w ≡ v
unfolding state_in
state-one w v h l e q =
    let p : w % 2 ≡ v % 2 = digit-0 (w % 2) (v % 2) (mod-lt w (lit< tt)) (mod-lt v (lit< tt)) q in
    below_or w 2
    (λ a. below_or v 2
    (λ b. omega arith)
    (λ b. let z = sym (if-true _ _ (lt-ltb w 2 a)) ∙ e ∙ if-false _ _ (le-ltb v 2 b) in absurd (omega (arith, z))))
    (λ a. below_or v 2
    (λ b. let z = sym (if-false _ _ (le-ltb w 2 a)) ∙ e ∙ if-true _ _ (lt-ltb v 2 b) in absurd (omega (arith, z)))
    (λ b. let z = sym (if-false _ _ (le-ltb w 2 a)) ∙ e ∙ if-false _ _ (le-ltb v 2 b) in omega (arith, z)))

-- two counters that are the same have the same control byte and value
module _ (b v b' v' : ℕ) (e : counter_of b v ≡ counter_of b' v') where
  abbrev Same : Type 0
  Same = (b ≡ b') × (v ≡ v')

  event : {x y : Counter} → x ≡ y → x.event ≡ y.event
  event z = ap (λ (c : Counter). c.event) z

  running : {x y : Counter} → x ≡ y → x.running ≡ y.running
  running z = ap (λ (c : Counter). c.running) z

  value : {x y : Counter} → x ≡ y → x.value ≡ y.value
  value z = ap (λ (c : Counter). c.value) z

  counter-one : Same
  counter-one =
      kinds b Same
      (λ q. let x = sym (of_none b v q) ∙ e in
      kinds b' Same (λ q'. (q ∙ sym q', value (x ∙ of_none b' v' q')))
      (λ l m. absurd (none-some _ (event (x ∙ of-stopped b' v' l m))))
      (λ l. absurd (none-some _ (event (x ∙ of-running b' v' l)))))
      (λ a d. let x = sym (of-stopped b v a d) ∙ e in
      kinds b' Same (λ q'. absurd (none-some _ (sym (event (x ∙ of_none b' v' q')))))
      (λ l m. let y = x ∙ of-stopped b' v' l m in (omega (arith, same_Some _ _ (event y)), value y))
      (λ l. absurd (false≢true (running (x ∙ of-running b' v' l)))))
      (λ a. let x = sym (of-running b v a) ∙ e in
      kinds b' Same (λ q'. absurd (none-some _ (sym (event (x ∙ of_none b' v' q')))))
      (λ l m. absurd (false≢true (sym (running (x ∙ of-stopped b' v' l m)))))
      (λ l. let y = x ∙ of-running b' v' l in (omega (arith, same_Some _ _ (event y)), value y)))

module _ (a b : List ℕ) (s : Fit a) (t : Fit b) (e : hart_in a ≡ hart_in b) (f : counters_in a ≡ counters_in b) where
  pair : (k : ℕ) → k < 8 → (byte (get_or a 3 0) k ≡ byte (get_or b 3 0) k) × (get_or a (4 + k) 0 ≡ get_or b (4 + k) 0)
  unfolding counter_in
  pair k l =
      let g : counter_in a k ≡ counter_in b k = sym (counter_at_lem a k l)
      ∙ ap (λ (cs : List Counter). counter_at cs k) f
      ∙ counter_at_lem b k l in
      counter-one (byte (get_or a 3 0) k) (get_or a (4 + k) 0) (byte (get_or b 3 0) k) (get_or b (4 + k) 0) g

  word : (i : ℕ) → i < 12 → get_or a i 0 ≡ get_or b i 0
  unfolding hart_in
  word zero l =
      state-one (get_or a 0 0) (get_or b 0 0) (s.small 0) (t.small 0) (ap (λ (x : Hart). x.state) e)
      (ap (λ (x : Hart). x.retentive) e)
  word (suc zero) l = ap (λ (x : Hart). x.address) e
  word (suc (suc zero)) l = ap (λ (x : Hart). x.opaque) e
  word (suc (suc (suc zero))) l =
      bytes_one 8 (get_or a 3 0) (get_or b 3 0) (past_all (get_or a 3 0) (s.small 3)
      ∙ sym (past_all (get_or b 3 0) (t.small 3))) (λ i m. (pair i m).0)
  word (suc (suc (suc (suc j)))) l =
      subst (λ (i : ℕ). get_or a i 0 ≡ get_or b i 0) (let z : 4 + j ≡ suc (suc (suc (suc j))) = omega arith in
      z) (pair j (omega arith)).1

pub only_one : (a b : List (List ℕ)) → Shaped a → Shaped b → seen a ≡ seen b → a ≡ b
only_one a b s t e =
    ext_get_or [] a b (size_of a s ∙ sym (size_of b t))
    (λ h l.
    let m : h < 128 = omega (arith, size_of a s) in
    let x = row_of a s h m in
    let y = row_of b t h m in
    ext_get_or 0 (get_or a h []) (get_or b h []) (x.size ∙ sym y.size)
    (λ i k. word (get_or a h []) (get_or b h []) x y
    (sym (hart-seen a (size_of a s) h m) ∙ ap (λ (z : Tables). hart_at z.harts h) e ∙ hart-seen b (size_of b t) h m)
    (sym (own-seen a (size_of a s) h m) ∙ ap (λ (z : Tables). own_at z h) e ∙ own-seen b (size_of b t) h m)
    i (omega (arith, x.size))))

-- rows that hold the same tables are the same rows
pub held-once : (a b : List (List ℕ)) (s : Tables) → Holds a s → Holds b s → a ≡ b
held-once a b s p q = only_one a b p.shaped q.shaped (p.is ∙ sym q.is)
