-- Laws of a word's bytes: a byte put anew, that the bytes are the word, and the bytes as the library lists them.
--   past w i          what is left of a word past its first i bytes
use Rattle.std.proofs.Common.{◌≡◌, ℕ, zero, suc, ◌+◌, ◌*◌, ◌/◌, ◌%◌, ◌^◌, ◌<◌, List, length, get_or, set, sym, refl, ap, ◌∙◌, subst, mod-lt, arith, lit<, length-set, get_or-set_other, get_or-set_same}
use native.Mathlib.Decide.{ℕ_discrete}
use Rattle.std.specs.Int.{to_le_bytes, from_le_bytes, w64}
use Rattle.std.proofs.lemmas.Nat.{le_bytes_8}
use Rattle.std.proofs.lemmas.List.{get_or_past}
use Rattle.rules.proofs.Logic.{below_or}
use Rattle.store.specs.Rows.{byte, with_byte}

unfoldable pub past : ℕ → ℕ → ℕ
past w zero = w
past w (suc i) = past (w / 256) i

pub byte_past : (w i : ℕ) → byte w i ≡ past w i % 256
unfolding byte past
byte_past w zero = refl
byte_past w (suc i) = byte_past (w / 256) i

pub past_all : (w : ℕ) → w < 2 ^ 64 → past w 8 ≡ 0
unfolding past
past_all w l = omega arith

-- the bytes are the word
pub bytes_one : (n w v : ℕ) → past w n ≡ past v n → ((i : ℕ) → i < n → byte w i ≡ byte v i) → w ≡ v
unfolding byte past
bytes_one zero w v e f = e
bytes_one (suc n) w v e f =
    let q = bytes_one n (w / 256) (v / 256) e (λ i l. f (suc i) (omega arith)) in
    let d : w % 256 ≡ v % 256 = f 0 (omega arith) in
    omega arith

pub byte-none : (i : ℕ) → byte 0 i ≡ 0
unfolding byte
byte-none zero = refl
byte-none (suc i) = byte-none i

pub byte_small : (w i : ℕ) → byte w i < 256
byte_small w i = rw (byte_past w i) (mod-lt (past w i) (lit< tt))

-- ----- a byte put anew

digit-up : (x d : ℕ) → d < 256 → (x * 256 + d) / 256 ≡ x
digit-up x d l = omega arith

digit_low : (x d : ℕ) → d < 256 → (x * 256 + d) % 256 ≡ d
digit_low x d l = omega arith

rest : (w : ℕ) → w % 256 < 256
rest w = mod-lt w (lit< tt)

module _ (b : ℕ) (l : b < 256) where
  pub byte-with : (i w : ℕ) → byte (with_byte w i b) i ≡ b
  unfolding byte with_byte
  byte-with zero w = digit_low (w / 256) b l
  byte-with (suc i) w =
      ap (λ (n : ℕ). byte n i) (digit-up (with_byte (w / 256) i b) (w % 256) (rest w)) ∙ byte-with i (w / 256)

  pub byte-else : (i j w : ℕ) → (i ≡ j → ⊥) → byte (with_byte w i b) j ≡ byte w j
  unfolding byte with_byte
  byte-else zero zero w n = absurd (n refl)
  byte-else zero (suc j) w n = ap (λ (x : ℕ). byte x j) (digit-up (w / 256) b l)
  byte-else (suc i) zero w n = digit_low (with_byte (w / 256) i b) (w % 256) (rest w)
  byte-else (suc i) (suc j) w n =
      ap (λ (x : ℕ). byte x j) (digit-up (with_byte (w / 256) i b) (w % 256) (rest w))
      ∙ byte-else i j (w / 256) (λ e. n (ap suc e))

  -- what lies above the byte stays, so a word stays a word
  past-with : (n i w : ℕ) → i < n → past (with_byte w i b) n ≡ past w n
  unfolding past with_byte
  past-with zero i w m = absurd (omega arith)
  past-with (suc n) zero w m = ap (λ (x : ℕ). past x n) (digit-up (w / 256) b l)
  past-with (suc n) (suc i) w m =
      ap (λ (x : ℕ). past x n) (digit-up (with_byte (w / 256) i b) (w % 256) (rest w))
      ∙ past-with n i (w / 256) (omega arith)

-- ----- the bytes as the library's list

pub le-byte : (w i : ℕ) → i < 8 → get_or (to_le_bytes w64 w) i 0 ≡ byte w i
unfolding byte
le-byte w zero l = refl
le-byte w (suc zero) l = omega arith
le-byte w (suc (suc zero)) l = omega arith
le-byte w (suc (suc (suc zero))) l = omega arith
le-byte w (suc (suc (suc (suc zero)))) l = omega arith
le-byte w (suc (suc (suc (suc (suc zero))))) l = omega arith
le-byte w (suc (suc (suc (suc (suc (suc zero)))))) l = omega arith
le-byte w (suc (suc (suc (suc (suc (suc (suc zero))))))) l = omega arith
le-byte w (suc (suc (suc (suc (suc (suc (suc (suc i)))))))) l = absurd (omega arith)

-- the word read from the bytes with byte i put anew
module _ (w i b n : ℕ) (s : w < 2 ^ 64) (t : n < 2 ^ 64) (l : i < 8) (m : b < 256) where
  abbrev put : List ℕ
  put = set (to_le_bytes w64 w) i b

  put-long : length put ≡ 8
  put-long = length-set (to_le_bytes w64 w) i b

  put-at : (j : ℕ) → j < 8 → get_or put j 0 ≡ byte (with_byte w i b) j
  put-at j k =
      elim (ℕ_discrete j i) [
        | yes z ↦ subst (λ (a : ℕ). get_or put a 0 ≡ byte (with_byte w i b) a) (sym z)
            (get_or-set_same (to_le_bytes w64 w) i b 0 l ∙ sym (byte-with b m i w))
        | no z ↦ get_or-set_other (to_le_bytes w64 w) i j b 0 z ∙ le-byte w j k
            ∙ sym (byte-else b m i j w (λ q. z (sym q)))
      ]

  put-small : (j : ℕ) → get_or put j 0 < 256
  put-small j =
      below_or j 8
      (λ k. subst (λ (x : ℕ). x < 256) (sym (put-at j k)) (byte_small (with_byte w i b) j))
      (λ k. subst (λ (x : ℕ). x < 256) (sym (get_or_past put j 0 (rw put-long k))) (lit< tt))

  pub from-bytes : n ≡ from_le_bytes w64 put → n ≡ with_byte w i b
  from-bytes e =
      bytes_one 8 n (with_byte w i b) (past_all n t ∙ sym (past-with b m 8 i w l ∙ past_all w s))
      (λ j k. sym (le-byte n j k) ∙ ap (λ (bs : List ℕ). get_or bs j 0) (le_bytes_8 put n put-long put-small e)
      ∙ put-at j k)
