-- Laws of a row: a record put into it, a counter put into it, and the three kinds of control byte.
use Rattle.std.proofs.Common.{◌≡◌, ℕ, zero, suc, ◌+◌, ◌-◌, ◌*◌, ◌%◌, ◌^◌, ◌<◌, ◌≤◌, Bool, true, false, eqb, ltb, List, [], ◌∷◌, length, get_or, set, ap, ◌∙◌, ap₂, arith, length-set, get_or-set_other, ltb-false, ltb-true, le-ltb, lt-ltb, eq-eqb, ne_eqb, eqb-true}
use borrow.Author.Tests.{eqb-false}
use Rattle.std.specs.Prelude.{Some, None}
use Rattle.rules.specs.Tables.{blank, counter_at}
use Rattle.rules.specs.declared.records.Hart.{Hart}
use Rattle.rules.specs.declared.records.Counter.{Counter}
use Rattle.rules.proofs.Logic.{if-true, if-false, by_cases}
use Rattle.store.specs.Rows.{byte, state_in, note_of, hart_in, counter_of, counter_in, counters_in, Fit}
use Rattle.std.proofs.lemmas.List.FromFn.{length-map-range_with_len, get_or-map-range_with_len, fill_by_all}

-- ----- words stay words

pub small-set : (r : List ℕ) (i v : ℕ) → v < 2 ^ 64 → ((j : ℕ) → get_or r j 0 < 2 ^ 64)
    → (j : ℕ) → get_or (set r i v) j 0 < 2 ^ 64
small-set [] i v h s j = s j
small-set (x ∷ r) zero v h s zero = h
small-set (x ∷ r) zero v h s (suc j) = s (suc j)
small-set (x ∷ r) (suc i) v h s zero = s zero
small-set (x ∷ r) (suc i) v h s (suc j) = small-set r i v h (λ k. s (suc k)) j

pub fit-set : (r : List ℕ) (i v : ℕ) → v < 2 ^ 64 → Fit r → Fit (set r i v)
fit-set r i v h k = record { size = length-set r i v ∙ k.size; small = small-set r i v h k.small }

-- ----- a row's counters, one by one

pub counter_at_lem : (r : List ℕ) (i : ℕ) → i < 8 → counter_at (counters_in r) i ≡ counter_in r i
unfolding counter_at counters_in
counter_at_lem r i l = get_or-map-range_with_len (counter_in r) 0 8 i i blank l (omega arith)

pub eight : (r : List ℕ) → length (counters_in r) ≡ 8
unfolding counters_in
eight r = length-map-range_with_len (counter_in r) 0 8

-- eight counters that are one by one the row's are the row's
pub counters-are : (r : List ℕ) (cs : List Counter) → length cs ≡ 8
    → ((i : ℕ) → i < 8 → get_or cs i blank ≡ counter_in r i) → cs ≡ counters_in r
unfolding counters_in
counters-are r cs l h = fill_by_all (counter_in r) cs 8 blank l h

-- ----- a hart record put into a row

note-even : (b : Bool) (n : ℕ) → eqb ((2 * (n + 1) + note_of b) % 2) 0 ≡ b
note-even true n = eq-eqb _ 0 (let z : (2 * (n + 1) + 0) % 2 ≡ 0 = omega arith in z)
note-even false n = ne_eqb ((2 * (n + 1) + 1) % 2) 0 (λ e. omega arith)

note-state : (b : Bool) (n : ℕ) → state_in (2 * (n + 1) + note_of b) ≡ n
unfolding state_in
note-state true n = if-false _ _ (le-ltb (2 * (n + 1) + 0) 2 (omega arith)) ∙ omega arith
note-state false n = if-false _ _ (le-ltb (2 * (n + 1) + 1) 2 (omega arith)) ∙ omega arith

unfoldable pub with_hart : List ℕ → Hart → List ℕ
with_hart r x = set (set (set r 0 (2 * (x.state + 1) + note_of x.retentive)) 1 x.address) 2 x.opaque

pub hart-back : (r : List ℕ) (x : Hart) → length r ≡ 12 → hart_in (with_hart r x) ≡ x
unfolding hart_in with_hart
hart-back [] x l = absurd (omega arith)
hart-back (a ∷ []) x l = absurd (omega arith)
hart-back (a ∷ b ∷ []) x l = absurd (omega arith)
hart-back (a ∷ b ∷ c ∷ r) x l = rw (note-even x.retentive x.state, note-state x.retentive x.state)

far : (l : List ℕ) (i v j d : ℕ) → i < j → get_or (set l i v) j d ≡ get_or l j d
far l i v j d h = get_or-set_other l i j v d (λ e. omega arith)

with_rest : (r : List ℕ) (x : Hart) (k : ℕ) → 2 < k → get_or (with_hart r x) k 0 ≡ get_or r k 0
unfolding with_hart
with_rest r x k c =
    let a : 0 < k = omega arith in
    let b : 1 < k = omega arith in
    rw (far, far, far)

pub counters-with : (r : List ℕ) (x : Hart) → counters_in (with_hart r x) ≡ counters_in r
unfolding counter_in counter_at
counters-with r x =
    counters-are r (counters_in (with_hart r x)) (eight (with_hart r x))
    (λ i h. counter_at_lem (with_hart r x) i h
    ∙ ap₂ counter_of (ap (λ (w : ℕ). byte w i) (with_rest r x 3 (omega arith)))
    (with_rest r x (4 + i) (omega arith)))

-- ----- the three kinds of control byte

module _ (b : ℕ) where
  pub of_none : (v : ℕ) → b ≡ 0 → counter_of b v ≡ record { event = None; running = false; value = v }
  unfolding counter_of
  of_none v e = if-true _ _ (eq-eqb b 0 e)

  pub of-stopped : (v : ℕ) → 0 < b → b < 23
      → counter_of b v ≡ record { event = Some (b - 1); running = false; value = v }
  unfolding counter_of
  of-stopped v l m = if-false _ _ (ne_eqb b 0 (λ e. omega arith)) ∙ if-true _ _ (lt-ltb b 23 m)

  pub of-running : (v : ℕ) → 23 ≤ b
      → counter_of b v ≡ record { event = Some (b - 23); running = true; value = v }
  unfolding counter_of
  of-running v l = if-false _ _ (ne_eqb b 0 (λ e. omega arith)) ∙ if-false _ _ (le-ltb b 23 l)

  -- to prove P of a control byte is to prove it of the three kinds
  pub kinds : (P : Type 0) → (b ≡ 0 → P) → (0 < b → b < 23 → P) → (23 ≤ b → P) → P
  kinds P f g h =
      by_cases (eqb b 0) (λ e. f (eqb-true b 0 e))
      (λ e.
      let n : (b ≡ 0) → ⊥ = eqb-false b 0 e in
      let l : 0 < b = omega (arith, n) in
      by_cases (ltb b 23) (λ q. g l (ltb-true b 23 q)) (λ q. h (ltb-false b 23 q)))

pub ruleset kind_laws = (of_none, of-stopped, of-running)
