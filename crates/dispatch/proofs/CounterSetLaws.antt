-- Laws of sets of counters: a mask shifted by its base is the word of the set that the two name. And of one counter:
-- when it can be read. And what `?` hands back where a counter call is denied.
use mathlib.Core.Path.{◌≡◌, refl, sym, ap, ◌∙◌, subst}
use mathlib.Core.Bool.{Bool, true, false, ◌&&◌}
use mathlib.Core.List.{List, Memᴰ}
use Prim.Native.Nat.{ℕ, suc, ◌+◌, ◌*◌, ◌-◌, ◌/◌, ◌%◌, ◌^◌, ◌<◌, ◌≤◌}
use native.Mathlib.Nat.{div-eq_of_lt, div-lt_iff_lt-mul, mul_assoc, zero-mul}
use native.Mathlib.Omega.{arith}
use lib.Bits.{shifted_even}
use lib.Dec.{eqb, ltb, lit<}
use lib.Pow.{pow_pos, pow_mono, pow-add, shl_exact, shl-shr, shr-shr, shr_le}
use borrow.Author.Tests.{ltb-true, eqb-true, lt-ltb, lt-leb, le-leb, eq-eqb, ne_eqb}
use Rattle.std.specs.Prelude.{Result, Ok, Err, is_some}
use Rattle.std.specs.Result.{IsErr, IsErrAnd}
use Rattle.std.proofs.lemmas.Result.{err_from_is_err_and}
use Rattle.std.proofs.lemmas.Bool.{false_from_ne_true}
use Rattle.std.specs.Cmp.{both_ways}
use Rattle.rules.specs.Names.{counters}
use Rattle.rules.specs.Sets.{bit, numbers, names, all}
use Rattle.rules.specs.Counters.{counter_set, is_counter, is_mapped, can_read}
use Rattle.rules.specs.Replies.{view, Plain, fails, plain}
use Rattle.rules.specs.Tables.{counter_at}
use Rattle.rules.specs.Answers.{Answer}
use Rattle.tables.specs.Keeping.{seen, Shaped, set_of}
use Rattle.rules.specs.declared.answers.Denial.TheVariants.{Failed}
use Rattle.rules.specs.declared.answers.Error.{Error}
use Rattle.rules.specs.declared.answers.Error.TheVariants.{InvalidParam}
use Rattle.rules.specs.declared.platform.Platform.{Platform}
use Rattle.rules.specs.declared.records.Counter.{Counter}
use Rattle.rules.proofs.Logic.{clash, below_or}
use Rattle.rules.proofs.SetLaws.{those-ext}
use Rattle.rules.proofs.Ascending.{all_in, all_of, numbers-in, numbers-only, numbers-those}
use Rattle.rules.proofs.platform.BitLaws.{bits-one}
use Rattle.dispatch.specs.Meets.{Keeps}
use Rattle.dispatch.specs.Sets.{SetGiven, ReadGiven}
use Rattle.dispatch.proofs.MeetsLaws.{plain-handing}

-- ----- bits of a word shifted

-- no bit is set above the width of a word
bit-over : (w m i : ℕ) → m < 2 ^ w → w ≤ i → bit m i ≡ false
unfolding bit
bit-over w m i l k =
    let p : 2 ^ w ≤ 2 ^ i = pow_mono k in
    ap (λ (x : ℕ). eqb (x % 2) 1) (div-eq_of_lt (let z : m < 2 ^ i = omega arith in z))

bit-shr : (m k i : ℕ) → bit (m / 2 ^ k) i ≡ bit m (k + i)
unfolding bit
bit-shr m k i = ap (λ (x : ℕ). eqb (x % 2) 1) (shr-shr m k i)

bit-shl : (m b i : ℕ) → bit (m * 2 ^ b) (b + i) ≡ bit m i
bit-shl m b i = sym (bit-shr (m * 2 ^ b) b i) ∙ ap (λ (x : ℕ). bit x i) (shl-shr m b)

-- nothing is shifted in
bit-shl-even : (m d j : ℕ) → bit (m * 2 ^ (suc d + j)) j ≡ false
unfolding bit
bit-shl-even m d j =
    let e : m * 2 ^ (suc d + j) ≡ m * 2 ^ suc d * 2 ^ j =
    ap (λ (x : ℕ). m * x) (pow-add 2 (suc d) j) ∙ sym (mul_assoc m (2 ^ suc d) (2 ^ j)) in
    ap (λ (x : ℕ). eqb (x % 2) 1) (ap (λ (x : ℕ). x / 2 ^ j) e ∙ shl-shr (m * 2 ^ suc d) j)
    ∙ ap (λ (x : ℕ). eqb x 1) (shifted_even m d)

bit-shl-low : (m b j : ℕ) → j < b → bit (m * 2 ^ b) j ≡ false
bit-shl-low m b j l =
    let e : suc (b - suc j) + j ≡ b = omega arith in
    subst (λ (x : ℕ). bit (m * 2 ^ x) j ≡ false) e (bit-shl-even m (b - suc j) j)

-- ----- a set of counters

module _ (b m : ℕ) where
  -- where the counters fit, nothing of the mask lies past them
  nothing-past : m < 2 ^ 64 → all is_counter (numbers 64 b m) ≡ true → m / 2 ^ (counters - b) ≡ 0
  unfolding is_counter
  nothing-past s a =
      bits-one 64 (m / 2 ^ (counters - b)) 0 (omega (arith, shr_le m (counters - b))) (lit< tt)
      (λ i l. bit-shr m (counters - b) i ∙ unset i ∙ sym (bit-over 0 0 i (lit< tt) (omega arith)))
    where
      unset : (i : ℕ) → bit m (counters - b + i) ≡ false
      unset i =
          below_or (counters - b + i) 64
          (λ l. false_from_ne_true (bit m (counters - b + i))
          (λ e.
          let t = numbers-in 64 b m (counters - b + i) l e in
          let k : b + (counters - b + i) < counters = ltb-true _ _ (all_in is_counter (numbers 64 b m) a t) in
          omega arith))
          (λ g. bit-over 64 m (counters - b + i) s g)

  under : m / 2 ^ (counters - b) ≡ 0 → m < 2 ^ (counters - b)
  under e =
      let h : m / 2 ^ (counters - b) < 1 = omega arith in
      omega (arith, (div-lt_iff_lt-mul (pow_pos (counters - b))).0 h)

  small : m / 2 ^ (counters - b) ≡ 0 → (h : ℕ) → Memᴰ h (numbers 64 b m) → h < counters
  small e h t =
      let r = numbers-only 64 b m h t in
      below_or r.0 (counters - b)
      (λ l. omega (arith, r.3))
      (λ g. absurd (clash r.2 (bit-over (counters - b) m r.0 (under e) g)))

  named : (h : ℕ) → h < counters → names 64 b m h ≡ bit (m * 2 ^ b) h
  unfolding names
  named h l =
      below_or h b
      (λ k. ap (λ (x : Bool). x && (ltb (h - b) 64 && bit m (h - b))) (lt-leb b h k) ∙ sym (bit-shl-low m b h k))
      (λ k.
      let e : b + (h - b) ≡ h = omega arith in
      ap (λ (x : Bool). x && (ltb (h - b) 64 && bit m (h - b))) (le-leb b h k)
      ∙ ap (λ (x : Bool). x && bit m (h - b)) (lt-ltb (h - b) 64 (omega arith))
      ∙ sym (bit-shl m b (h - b)) ∙ ap (bit (m * 2 ^ b)) e)

  shifted : m / 2 ^ (counters - b) ≡ 0 → set_of (m * 2 ^ b) ≡ numbers 64 b m
  shifted e =
      sym (numbers-those 64 b m counters (small e) ∙ those-ext counters (names 64 b m) (bit (m * 2 ^ b)) named)

  none-past : counters ≤ b → m / 2 ^ (counters - b) ≡ 0 → m ≡ 0
  none-past l e =
      let z : counters - b ≡ 0 = omega arith in
      let u : m < 2 ^ 0 = subst (λ (k : ℕ). m < 2 ^ k) z (under e) in
      omega arith

  module _ (p : Platform) (s : m < 2 ^ 64) where
    -- the counters fit just where nothing of the mask lies past them
    pub fits_word : all is_counter (counter_set p b m) ≡ eqb (m / 2 ^ (counters - b)) 0
    unfolding is_counter counter_set
    fits_word =
        both_ways _ _
        (λ a. eq-eqb _ _ (nothing-past s a))
        (λ e. all_of is_counter (numbers 64 b m) (λ h t. lt-ltb h counters (small (eqb-true _ _ e) h t)))

    -- the word of a set that fits
    pub word-shifted : b < counters → m / 2 ^ (counters - b) ≡ 0 → SetGiven p b m (Ok (m * 2 ^ b % 2 ^ 64))
    unfolding counter_set
    word-shifted l e = (
      fits_word ∙ eq-eqb _ _ e,
      ap (λ (x : ℕ). set_of x) (shl_exact (counters - b) b 64 (under e) (omega arith)) ∙ shifted e,
    )

    -- an empty mask names nothing
    pub word-empty : m ≡ 0 → SetGiven p b m (Ok 0)
    unfolding counter_set
    word-empty z =
        let l : m < 2 ^ (counters - b) = omega (arith, pow_pos (counters - b)) in
        let e = div-eq_of_lt l in (
          fits_word ∙ eq-eqb _ _ e,
          ap (λ (x : ℕ). set_of x) (sym (ap (λ (x : ℕ). x * 2 ^ b) z ∙ zero-mul (2 ^ b))) ∙ shifted e,
        )

    -- a set of which something lies past the counters has none
    pub word-past : (m / 2 ^ (counters - b) ≡ 0 → ⊥) → SetGiven p b m (Err InvalidParam)
    word-past n = (fits_word ∙ ne_eqb _ _ n, refl)

    pub word-nowhere : (m ≡ 0 → ⊥) → counters ≤ b → SetGiven p b m (Err InvalidParam)
    word-nowhere n l = word-past (λ e. n (none-past l e))

-- a test of each counter of a set, by another name of the set
pub all-by : (f : ℕ → Bool) {l k : List ℕ} {b v : Bool} → l ≡ k → b ≡ all f l → b ≡ v → all f k ≡ v
all-by f e a q = ap (all f) (sym e) ∙ sym a ∙ q

-- ----- one counter that is read

module _ (cs : List Counter) (i : ℕ) where
  pub over-unread : is_counter i ≡ false → can_read cs i ≡ is_counter i
  unfolding can_read
  over-unread e = ap (λ (b : Bool). b && is_mapped cs i) e ∙ sym e

  -- a counter that is one of the eight can be read if it is mapped
  pub mapped-read : {n : ℕ} (c : Counter) {v : Bool} → (is_counter i ≡ true) × (n ≡ i) → c ≡ counter_at cs n
      → v ≡ is_some c.event → can_read cs i ≡ v
  unfolding can_read is_mapped
  mapped-read c g e m =
      ap (λ (b : Bool). b && is_mapped cs i) g.0
      ∙ ap (λ (x : Counter). is_some x.event) (sym (e ∙ ap (counter_at cs) g.1)) ∙ sym m

  -- the error that `?` hands on
  pub unread : {b : Bool} (r : Result Counter Error) {x : Error} → (b ≡ false) × (x ≡ InvalidParam)
      → can_read cs i ≡ b → IsErr r × IsErrAnd r (λ y. y ≡ x) → ReadGiven cs i r
  unread r q k g = let p = err_from_is_err_and r g.1 in rw p.1 (k ∙ q.0, p.2 ∙ q.1)

-- ----- what `?` answers in a call that alters no hart record

module _ (t : List (List ℕ)) (h : ℕ) (s : Shaped t) where
  pub plain-denied : {b : Bool} {w : Plain} {r : Answer} {e x : Error} → (b ≡ false) × (x ≡ e)
      → (b ≡ false → w ≡ fails e) → IsErr r × IsErrAnd r (λ y. y ≡ Failed x)
      → Keeps t h (plain (view (seen t) h) w) r
  plain-denied q f g =
      plain-handing t h s _ _ _ g q.1 (f q.0)
