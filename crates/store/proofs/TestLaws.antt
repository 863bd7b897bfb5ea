-- Laws of the tests: what they ask of a row's words, and the two halves of the rows.
use Rattle.std.proofs.Common.{◌≡◌, ℕ, zero, suc, ◌+◌, ◌-◌, ◌/◌, ◌%◌, ◌^◌, ◌<◌, Bool, true, false, ◌&&◌, eqb, leb, List, [], ◌∷◌, ◌++◌, length, take, drop, get_or, sym, refl, ap, ◌∙◌, subst, ap₂, arith, le-ltb, lt-ltb, eq-eqb, ne_eqb, eqb-true, le-leb, leb-true, length-take, length-drop}
use mathlib.Core.Bool.{and-true, and_comm}
use Rattle.std.specs.List.{list_all}
use Rattle.std.proofs.lemmas.List.Folds.{list_all-append}
use Rattle.std.proofs.lemmas.List.{get_or-take, get_or-drop}
use Rattle.std.specs.Cmp.Derive.{both_true}
use Rattle.std.specs.Cmp.{first_so, second_so, both_ways}
use Rattle.store.proofs.ControlLaws.{every_front}
use lib.Bits.{bit_or, or_add_and, and_le_l, and_le_r}
use borrow.Author.Tests.{lt-leb}
use Rattle.rules.specs.Choice.{when◌then◌else◌}
use Rattle.rules.specs.Sets.{every}
use Rattle.rules.specs.Tables.{is_idle, is_blank, hart_well_formed, event_well_formed}
use Rattle.rules.specs.Tables.{counter_well_formed}
use Rattle.rules.proofs.Logic.{if-true, if-false, below_or}
use Rattle.rules.proofs.SetLaws.{every-at, every_of, every-ext}
use Rattle.store.specs.Rows.{byte, state_in, hart_in, counter_of, counter_in}
use Rattle.store.specs.Tests.{row_well_formed}
use Rattle.store.proofs.ByteLaws.{past_all, bytes_one, byte-none}
use Rattle.store.proofs.RowLaws.{of_none, of-stopped, of-running, kinds}

-- ----- words that are 0, folded by or

pub or-none : (a b : ℕ) → eqb (bit_or a b) 0 ≡ (eqb a 0 && eqb b 0)
or-none a b =
    both_ways (eqb (bit_or a b) 0) (eqb a 0 && eqb b 0)
    (λ e.
    let z = eqb-true (bit_or a b) 0 e in
    let s = or_add_and a b in
    let l = and_le_l a b in
    let r = and_le_r a b in
    both_true (eq-eqb a 0 (omega arith)) (eq-eqb b 0 (omega arith)))
    (λ e.
    let za = eqb-true a 0 (first_so (eqb a 0) (eqb b 0) e) in
    let zb = eqb-true b 0 (second_so (eqb a 0) (eqb b 0) e) in
    eq-eqb (bit_or a b) 0 (let s = or_add_and a b in omega arith))

abbrev pub is_zero : ℕ → Bool
is_zero w = eqb w 0

-- one word more
pub fold-more : (ws : List ℕ) (a w : ℕ) → eqb a 0 ≡ list_all is_zero ws
    → eqb (bit_or a w) 0 ≡ list_all is_zero (ws ++ (w ∷ []))
fold-more ws a w e =
    or-none a w ∙ ap₂ ◌&&◌ e (sym (and-true (eqb w 0))) ∙ sym (list_all-append is_zero ws (w ∷ []))

every-list : (ws : List ℕ) → list_all is_zero ws ≡ every (length ws) (λ i. eqb (get_or ws i 0) 0)
unfolding every
every-list [] = refl
every-list (w ∷ ws) =
    ap (λ (b : Bool). eqb w 0 && b) (every-list ws)
    ∙ and_comm (eqb w 0) (every (length ws) (λ i. eqb (get_or ws i 0) 0))
    ∙ sym (every_front (length ws) (λ i. eqb (get_or (w ∷ ws) i 0) 0))

pub fold-all : (r : List ℕ) → length r ≡ 12
    → list_all is_zero (take 11 (drop 1 r)) ≡ every 11 (λ i. eqb (get_or r (1 + i) 0) 0)
fold-all r l =
    every-list (take 11 (drop 1 r))
    ∙ ap (λ (n : ℕ). every n (λ i. eqb (get_or (take 11 (drop 1 r)) i 0) 0))
    (let z : length (take 11 (drop 1 r)) ≡ 11 = rw (length-take, length-drop) (omega arith) in z)
    ∙ every-ext _ _ 11 (λ i m. ap is_zero (get_or-take 11 (drop 1 r) i 0 m ∙ get_or-drop 1 r i 0))

-- ----- the first word, and one control byte with its value

module _ (w : ℕ) where
  state-fits : leb (state_in w) 6 ≡ (leb 2 w && leb w 15)
  unfolding state_in
  state-fits =
      below_or w 2
      (λ l. ap (λ (n : ℕ). leb n 6) (if-true _ _ (lt-ltb w 2 l)) ∙ sym (rw (lt-leb 2 w l) refl))
      (λ l. ap (λ (n : ℕ). leb n 6) (if-false _ _ (le-ltb w 2 l)) ∙ (rw (le-leb 2 w l)
      (both_ways (leb (w / 2 - 1) 6) (leb w 15) (λ q. le-leb w 15 (omega (arith, leb-true (w / 2 - 1) 6 q)))
      (λ q. le-leb (w / 2 - 1) 6 (omega (arith, leb-true w 15 q))))))

  state-idle : (eqb (state_in w) 1 && eqb (w % 2) 0) ≡ eqb w 4
  unfolding state_in
  state-idle =
      below_or w 2
      (λ l. ap (λ (n : ℕ). eqb n 1 && eqb (w % 2) 0) (if-true _ _ (lt-ltb w 2 l))
      ∙ sym (ne_eqb w 4 (λ q. omega arith)))
      (λ l. ap (λ (n : ℕ). eqb n 1 && eqb (w % 2) 0) (if-false _ _ (le-ltb w 2 l)) ∙
      both_ways (eqb (w / 2 - 1) 1 && eqb (w % 2) 0) (eqb w 4)
      (λ q. eq-eqb w 4
      (omega (arith, eqb-true (w / 2 - 1) 1 (first_so _ _ q), eqb-true (w % 2) 0 (second_so (eqb (w / 2 - 1) 1) _ q))))
      (λ q.
      let z = eqb-true w 4 q in
      both_true (eq-eqb (w / 2 - 1) 1 (omega arith)) (eq-eqb (w % 2) 0 (omega arith))))

module _ (b v : ℕ) where
  counter-on : counter_well_formed true (counter_of b v) ≡ leb b 44
  unfolding counter_well_formed event_well_formed when◌then◌else◌
  counter-on =
      kinds b (counter_well_formed true (counter_of b v) ≡ leb b 44)
      (λ e. ap (counter_well_formed true) (of_none b v e) ∙ sym (le-leb b 44 (omega arith)))
      (λ l m. ap (counter_well_formed true) (of-stopped b v l m) ∙ le-leb (b - 1) 21 (omega arith)
      ∙ sym (le-leb b 44 (omega arith)))
      (λ l. ap (counter_well_formed true) (of-running b v l)
      ∙ both_ways (leb (b - 23) 21) (leb b 44) (λ q. le-leb b 44 (omega (arith, leb-true (b - 23) 21 q)))
      (λ q. le-leb (b - 23) 21 (omega (arith, leb-true b 44 q))))

  counter-off : counter_well_formed false (counter_of b v) ≡ (eqb b 0 && eqb v 0)
  unfolding counter_well_formed is_blank when◌then◌else◌
  counter-off =
      kinds b (counter_well_formed false (counter_of b v) ≡ (eqb b 0 && eqb v 0))
      (λ e. ap (counter_well_formed false) (of_none b v e) ∙ sym (rw (eq-eqb b 0 e) refl))
      (λ l m. ap (counter_well_formed false) (of-stopped b v l m) ∙ sym (rw (ne_eqb b 0 (λ e. omega arith)) refl))
      (λ l. ap (counter_well_formed false) (of-running b v l) ∙ sym (rw (ne_eqb b 0 (λ e. omega arith)) refl))

-- ----- the row of an enabled hart

pub row_on : (r : List ℕ)
    → row_well_formed true r ≡
    ((leb 2 (get_or r 0 0) && leb (get_or r 0 0) 15) && every 8 (λ i. leb (byte (get_or r 3 0) i) 44))
unfolding row_well_formed hart_well_formed hart_in counter_in when◌then◌else◌
row_on r =
    ap₂ (λ (a b : Bool). a && b) (state-fits (get_or r 0 0))
    (every-ext _ _ 8 (λ i h. counter-on (byte (get_or r 3 0) i) (get_or r (4 + i) 0)))

-- ----- the row of a hart that is not enabled

module _ (r : List ℕ) where
  abbrev first : ℕ
  first = get_or r 0 0

  abbrev stopped : Bool
  stopped = eqb (state_in first) 1

  abbrev retentive : Bool
  retentive = eqb (first % 2) 0

  abbrev address : Bool
  address = eqb (get_or r 1 0) 0

  abbrev opaque : Bool
  opaque = eqb (get_or r 2 0) 0

  abbrev zeroed : ℕ → Bool
  zeroed k = eqb (get_or r (1 + k) 0) 0

  abbrev control : ℕ → Bool
  control i = eqb (byte (get_or r 3 0) i) 0

  abbrev value : ℕ → Bool
  value i = eqb (get_or r (4 + i) 0) 0

  abbrev blank : ℕ → Bool
  blank i = control i && value i

  at-k : (k i : ℕ) → k ≡ i → eqb (get_or r k 0) 0 ≡ true → eqb (get_or r i 0) 0 ≡ true
  at-k k i q e = subst (λ (i : ℕ). eqb (get_or r i 0) 0 ≡ true) q e

  off-split : row_well_formed false r ≡ ((stopped && (retentive && (address && opaque))) && every 8 blank)
  unfolding row_well_formed hart_well_formed is_idle hart_in counter_in when◌then◌else◌
  off-split =
      ap (λ (b : Bool). (stopped && (retentive && (address && opaque))) && b)
      (every-ext _ _ 8 (λ i h. counter-off (byte (get_or r 3 0) i) (get_or r (4 + i) 0)))

  there : get_or r 3 0 < 2 ^ 64 → ((stopped && (retentive && (address && opaque))) && every 8 blank) ≡ true
      → (eqb first 4 && every 11 zeroed) ≡ true
  there small e =
      both_true (sym (state-idle first)
      ∙ both_true (first_so stopped (retentive && (address && opaque)) h) (first_so retentive (address && opaque) n))
      (every_of zeroed 11 word)
    where
      h : (stopped && (retentive && (address && opaque))) ≡ true
      h = first_so (stopped && (retentive && (address && opaque))) (every 8 blank) e

      n : (retentive && (address && opaque)) ≡ true
      n = second_so stopped (retentive && (address && opaque)) h

      o : (i : ℕ) → i < 8 → blank i ≡ true
      o i l = every-at blank 8 i l (second_so (stopped && (retentive && (address && opaque))) (every 8 blank) e)

      word : (k : ℕ) → k < 11 → zeroed k ≡ true
      word zero l = first_so address opaque (second_so retentive (address && opaque) n)
      word (suc zero) l = second_so address opaque (second_so retentive (address && opaque) n)
      word (suc (suc zero)) l =
          eq-eqb (get_or r 3 0) 0
          (bytes_one 8 (get_or r 3 0) 0 (past_all (get_or r 3 0) small ∙ sym (past_all 0 (omega arith)))
          (λ i m. eqb-true (byte (get_or r 3 0) i) 0 (first_so (control i) (value i) (o i m)) ∙ sym (byte-none i)))
      word (suc (suc (suc j))) l =
          at-k (4 + j) (1 + suc (suc (suc j))) (omega arith) (second_so (control j) (value j) (o j (omega arith)))

  back : (eqb first 4 && every 11 zeroed) ≡ true
      → ((stopped && (retentive && (address && opaque))) && every 8 blank) ≡ true
  back e =
      both_true (both_true (first_so stopped retentive s)
      (both_true (second_so stopped retentive s) (both_true (word 0 (omega arith)) (word 1 (omega arith)))))
      (every_of blank 8
      (λ i l. both_true
      (eq-eqb (byte (get_or r 3 0) i) 0 (ap (λ (w : ℕ). byte w i) (eqb-true (get_or r 3 0) 0 (word 2 (omega arith)))
      ∙ byte-none i))
      (at-k (1 + (3 + i)) (4 + i) (omega arith) (word (3 + i) (omega arith)))))
    where
      s : (stopped && retentive) ≡ true
      s = state-idle first ∙ first_so (eqb first 4) (every 11 zeroed) e

      word : (k : ℕ) → k < 11 → zeroed k ≡ true
      word k l = every-at zeroed 11 k l (second_so (eqb first 4) (every 11 zeroed) e)

  pub row-off : get_or r 3 0 < 2 ^ 64
      → row_well_formed false r ≡ (eqb (get_or r 0 0) 4 && every 11 (λ k. eqb (get_or r (1 + k) 0) 0))
  row-off small =
      off-split
      ∙ both_ways ((stopped && (retentive && (address && opaque))) && every 8 blank) (eqb first 4 && every 11 zeroed)
      (there small) back
