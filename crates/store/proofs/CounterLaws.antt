-- Laws of one counter put into a row.
--   with_counter r i c    the row r with counter i put anew
use Rattle.std.proofs.Common.{◌≡◌, ℕ, ◌+◌, ◌-◌, ◌<◌, ◌≤◌, Bool, true, false, List, length, get_or, set, sym, refl, ap, ◌∙◌, subst, ap₂, arith, length-set, get_or-set_other, get_or-set_same}
use native.Mathlib.Decide.{ℕ_discrete}
use Rattle.std.specs.Prelude.{Option, Some, None, is_some}
use Rattle.std.proofs.lemmas.Bool.{false≢true}
use Rattle.rules.specs.Choice.{when◌then◌else◌}
use Rattle.rules.specs.Tables.{blank, counter_at, CounterFine}
use Rattle.rules.specs.declared.records.Counter.{Counter}
use Rattle.store.specs.Rows.{byte, with_byte, control_of, hart_in, counter_of, counter_in, counters_in}
use Rattle.store.proofs.ByteLaws.{byte-with, byte-else}
use Rattle.store.proofs.RowLaws.{counter_at_lem, counters-are, eight, of_none, of-stopped, of-running}

module _ (c : Counter) (k : CounterFine c) where
  pub control-back : counter_of (control_of c) c.value ≡ c
  unfolding when◌then◌else◌
  control-back = go c.event c.running refl refl
    where
      go : (o : Option ℕ) (r : Bool) → c.event ≡ o → c.running ≡ r → counter_of (control_of c) c.value ≡ c
      go (Some e) true p q =
          rw (p, q) (of-running (e + 23) c.value (omega arith)
          ∙ ap (λ (n : ℕ). record { event = Some n; running = true; value = c.value })
          (let z : e + 23 - 23 ≡ e = omega arith in z))
      go (Some e) false p q =
          let l = k.codes e p in
          rw (p, q) (of-stopped (e + 1) c.value (omega arith) (omega arith)
          ∙ ap (λ (n : ℕ). record { event = Some n; running = false; value = c.value })
          (let z : e + 1 - 1 ≡ e = omega arith in z))
      go None true p q = absurd (false≢true (sym (ap is_some p) ∙ k.runs q))
      go None false p q = rw (p, q) (of_none 0 c.value refl)

  pub control-small : control_of c ≤ 44
  unfolding when◌then◌else◌
  control-small = go c.event c.running refl refl
    where
      go : (o : Option ℕ) (r : Bool) → c.event ≡ o → c.running ≡ r → control_of c ≤ 44
      go (Some e) true p q = let l = k.codes e p in rw (p, q) (omega arith)
      go (Some e) false p q = let l = k.codes e p in rw (p, q) (omega arith)
      go None r p q = rw p (omega arith)

unfoldable pub with_counter : List ℕ → ℕ → Counter → List ℕ
with_counter r i c = set (set r 3 (with_byte (get_or r 3 0) i (control_of c))) (4 + i) c.value

module _ (r : List ℕ) (i : ℕ) (c : Counter) (l : i < 8) (n : length r ≡ 12) (k : CounterFine c) where
  abbrev w : ℕ
  w = get_or r 3 0

  abbrev w' : ℕ
  w' = with_byte w i (control_of c)

  abbrev r' : List ℕ
  r' = with_counter r i c

  fits : control_of c < 256
  fits = omega (arith, control-small c k)

  elsewhere : (j : ℕ) → (j ≡ 3 → ⊥) → (j ≡ 4 + i → ⊥) → get_or r' j 0 ≡ get_or r j 0
  unfolding with_counter
  elsewhere j a b = get_or-set_other (set r 3 w') (4 + i) j c.value 0 b ∙ get_or-set_other r 3 j w' 0 a

  control : get_or r' 3 0 ≡ w'
  unfolding with_counter
  control =
      get_or-set_other (set r 3 w') (4 + i) 3 c.value 0 (λ e. omega arith)
      ∙ get_or-set_same r 3 w' 0 (omega (arith, n))

  value : get_or r' (4 + i) 0 ≡ c.value
  unfolding with_counter
  value = get_or-set_same (set r 3 w') (4 + i) c.value 0 (omega (arith, length-set r 3 w', n))

  pub hart-same : hart_in r' ≡ hart_in r
  unfolding hart_in
  hart-same =
      rw (
        elsewhere 0 (λ e. omega arith) (λ e. omega arith),
        elsewhere 1 (λ e. omega arith) (λ e. omega arith),
        elsewhere 2 (λ e. omega arith) (λ e. omega arith),
      )

  counter-new : counter_in r' i ≡ c
  unfolding counter_in
  counter-new =
      ap₂ counter_of (ap (λ (a : ℕ). byte a i) control ∙ byte-with (control_of c) fits i w) value ∙ control-back c k

  counter-old : (j : ℕ) → (j ≡ i → ⊥) → counter_in r' j ≡ counter_in r j
  unfolding counter_in
  counter-old j d =
      ap₂ counter_of (ap (λ (a : ℕ). byte a j) control ∙ byte-else (control_of c) fits i j w (λ e. d (sym e)))
      (elsewhere (4 + j) (λ e. omega arith) (λ e. d (omega arith)))

  pub counters-put : counters_in r' ≡ set (counters_in r) i c
  unfolding counter_at counter_in
  counters-put =
      sym (counters-are r' (set (counters_in r) i c) (length-set (counters_in r) i c ∙ eight r)
      (λ j m.
      elim (ℕ_discrete j i) [
        | yes z ↦ subst (λ (a : ℕ). get_or (set (counters_in r) i c) a blank ≡ counter_in r' a) (sym z)
            (get_or-set_same (counters_in r) i c blank (omega (arith, eight r)) ∙ sym counter-new)
        | no z ↦ get_or-set_other (counters_in r) i j c blank z ∙ counter_at_lem r j m ∙ sym (counter-old j z)
      ]))
