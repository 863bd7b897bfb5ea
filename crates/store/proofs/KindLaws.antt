-- Laws of a row's sets of counters: which control bytes the mapped and the running counters have, and the match.
use Rattle.std.proofs.Common.{◌≡◌, ℕ, zero, suc, ◌+◌, ◌-◌, ◌*◌, ◌%◌, ◌^◌, ◌<◌, ◌≤◌, Bool, true, false, ◌&&◌, ◌||◌, leb, List, get_or, sym, refl, ap, ◌∙◌, ap₂, add-one, arith, pow_mono, le-leb}
use lib.Bits.{bit_and, and_le_r}
use borrow.Author.Tests.{lt-leb}
use Rattle.std.specs.Prelude.{is_some}
use Rattle.std.proofs.lemmas.Bool.{or_left}
use Rattle.rules.specs.Choice.{when◌then◌else◌}
use Rattle.rules.specs.Sets.{bit, those, first}
use Rattle.rules.specs.Counters.{is_mapped, is_running, not_running, chosen}
use Rattle.rules.specs.declared.records.Counter.{Counter}
use Rattle.rules.proofs.Ascending.{keep-those}
use Rattle.rules.proofs.SetLaws.{those-ext}
use Rattle.rules.proofs.platform.BitLaws.{bit-and}
use Rattle.store.specs.Rows.{byte, counter_of, counter_in, counters_in}
use Rattle.store.specs.Sets.{mask_of}
use mir.Val.{bool_byte}
use Rattle.store.proofs.RowLaws.{counter_at_lem, of_none, of-stopped, of-running, kinds}
use Rattle.store.proofs.SetLaws.{within-is, mask-small, mask-bit, mask-more, mask-not}

-- ----- control bytes

module _ (b v : ℕ) where
  mapped-of : leb 1 b ≡ is_some (counter_of b v).event
  mapped-of =
      kinds b (leb 1 b ≡ is_some (counter_of b v).event)
      (λ e. lt-leb 1 b (omega arith) ∙ sym (ap (λ (c : Counter). is_some c.event) (of_none b v e)))
      (λ l m. le-leb 1 b l ∙ sym (ap (λ (c : Counter). is_some c.event) (of-stopped b v l m)))
      (λ l. le-leb 1 b (omega arith) ∙ sym (ap (λ (c : Counter). is_some c.event) (of-running b v l)))

  running-of : leb 23 b ≡ (counter_of b v).running
  running-of =
      kinds b (leb 23 b ≡ (counter_of b v).running)
      (λ e. lt-leb 23 b (omega arith) ∙ sym (ap (λ (c : Counter). c.running) (of_none b v e)))
      (λ l m. lt-leb 23 b m ∙ sym (ap (λ (c : Counter). c.running) (of-stopped b v l m)))
      (λ l. le-leb 23 b l ∙ sym (ap (λ (c : Counter). c.running) (of-running b v l)))

mask-ext : (n : ℕ) (f g : ℕ → Bool) → ((i : ℕ) → i < n → f i ≡ g i) → mask_of n f ≡ mask_of n g
unfolding mask_of
mask-ext zero f g e = refl
mask-ext (suc n) f g e =
    ap₂ (λ (b : Bool) (m : ℕ). (when b then 1 else 0) + 2 * m) (e 0 (omega arith))
    (mask-ext n (λ i. f (suc i)) (λ i. g (suc i)) (λ i l. e (suc i) (omega arith)))

module _ (r : List ℕ) where
  abbrev control : ℕ
  control = get_or r 3 0

  pub mapped-mask : mask_of 8 (λ i. leb 1 (byte control i)) ≡ mask_of 8 (is_mapped (counters_in r))
  unfolding is_mapped counter_in
  mapped-mask =
      mask-ext 8 _ _
      (λ i l. mapped-of (byte control i) (get_or r (4 + i) 0)
      ∙ sym (ap (λ (c : Counter). is_some c.event) (counter_at_lem r i l)))

  pub running-mask : mask_of 8 (λ i. leb 23 (byte control i)) ≡ mask_of 8 (is_running (counters_in r))
  unfolding is_running counter_in
  running-mask =
      mask-ext 8 _ _
      (λ i l. running-of (byte control i) (get_or r (4 + i) 0)
      ∙ sym (ap (λ (c : Counter). c.running) (counter_at_lem r i l)))

  pub idle-mask : 255 - mask_of 8 (is_running (counters_in r)) ≡ mask_of 8 (not_running (counters_in r))
  unfolding not_running
  idle-mask = mask-not 8 (is_running (counters_in r))

-- ----- the loop over the bytes: the first n are looked at

module _ (w b : ℕ) where
  abbrev pub marked : ℕ → ℕ
  marked n = mask_of n (λ i. leb b (byte w i))

  -- the bit of a byte, as the code shifts it
  module _ (n v : ℕ) (t : Bool) (l : n < 8) (e : t ≡ leb b (byte w n)) (q : v ≡ bool_byte t * 2 ^ n % 2 ^ 64) where
    marked-bit : (t : Bool) → bool_byte t * 2 ^ n % 2 ^ 64 ≡ when t then 2 ^ n else 0
    unfolding when◌then◌else◌
    marked-bit true =
        let m : 2 ^ n ≤ 2 ^ 7 = pow_mono (let z : n ≤ 7 = omega arith in z) in
        omega arith
    marked-bit false = omega arith

    pub marked_more : marked n + v ≡ marked (n + 1)
    marked_more =
        rw (add-one n, q, marked-bit t, e) (sym (mask-more n (λ i. leb b (byte w i))))

-- ----- the match

module _ (flags s : ℕ) (cs : List Counter) where
  -- the counters that may be taken
  abbrev free : ℕ → Bool
  free i = bit flags 0 || not_running cs i

  pub free-all : bit flags 0 ≡ true → 255 ≡ mask_of 8 free
  unfolding mask_of when◌then◌else◌
  free-all e = mask-ext 8 (λ _. true) free (λ i l. sym (or_left (bit flags 0) (not_running cs i) e))

  pub taken-small : bit_and s (mask_of 8 free) ≤ 255
  taken-small = omega (arith, and_le_r s (mask_of 8 free), mask-small 8 free)

  pub match_is : first (those 8 (bit (bit_and s (mask_of 8 free)))) ≡ chosen flags cs (those 8 (bit s))
  unfolding chosen
  match_is =
      ap first
      (those-ext 8 _ _ (λ i l. bit-and s (mask_of 8 free) i ∙ ap (λ (b : Bool). bit s i && b) (mask-bit 8 free i l))
      ∙ sym (keep-those free (bit s) 8))

pub ruleset set_laws = (idle-mask, mask-small, within-is)
