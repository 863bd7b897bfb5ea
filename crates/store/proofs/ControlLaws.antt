-- Eight control bytes tested at once: 83 more than a byte's low seven bits sets its top bit just where the byte is over
-- 44, and carries nowhere.
use Rattle.std.proofs.Common.{◌≡◌, ℕ, zero, suc, ◌+◌, ◌*◌, ◌/◌, ◌%◌, ◌^◌, ◌<◌, Bool, true, false, not, ◌&&◌, eqb, leb, sym, refl, ap, ◌∙◌, ap₂, mod-lt, arith, lit<, eq-eqb, eqb-true}
use lib.Bits.{bit_and, bit_or, and_block, or_block, or_lt, and_le_r, and_zero_r}
use Rattle.std.specs.Cmp.Derive.{both_true}
use Rattle.std.specs.Cmp.{first_so, second_so, both_ways}
use Rattle.rules.specs.Sets.{every}
use Rattle.rules.proofs.SetLaws.{every-at}
use Rattle.store.specs.Rows.{byte}

-- n bytes, each b
unfoldable rep : ℕ → ℕ → ℕ
rep b zero = 0
rep b (suc n) = rep b n * 256 + b

-- the top bits that are set in the word or in the sum
abbrev over : (low carry top w : ℕ) → ℕ
over low carry top w = bit_and (bit_or w (bit_and w low + carry)) top

abbrev overs : ℕ → ℕ → ℕ
overs n w = over (rep 127 n) (rep 83 n) (rep 128 n) w

abbrev over-1 : ℕ → ℕ
over-1 b = over 127 83 128 b

-- ----- one byte: each of the 256 is computed

same : Bool → Bool → Bool
same true b = b
same false b = not b

same-is : (a b : Bool) → same a b ≡ true → a ≡ b
unfolding same
same-is true b e = sym e
same-is false false e = refl
same-is false true e = e

all-256 : every 256 (λ b. same (eqb (over-1 b) 0) (leb b 44)) ≡ true
unfolding every same
all-256 = refl

one : (b : ℕ) → b < 256 → eqb (over-1 b) 0 ≡ leb b 44
one b l =
    same-is (eqb (over-1 b) 0) (leb b 44) (every-at (λ b. same (eqb (over-1 b) 0) (leb b 44)) 256 b l all-256)

-- ----- one byte more

sum : (x y z : ℕ) → (x * 256 + y) + (z * 256 + 83) ≡ (x + z) * 256 + (y + 83)
sum x y z = omega arith

step : (n q b : ℕ) → b < 256 → overs (suc n) (q * 256 + b) ≡ overs n q * 256 + over-1 b
unfolding rep
step n q b l =
    let m = and_le_r b 127 in
    let X = bit_and q (rep 127 n) + rep 83 n in
    let Y = bit_and b 127 + 83 in
    let y : Y < 2 ^ 8 = omega arith in
    ap (λ (s : ℕ). bit_and (bit_or (q * 256 + b) s) (rep 128 n * 256 + 128))
    (ap (λ (s : ℕ). s + (rep 83 n * 256 + 83)) (and_block 8 q (rep 127 n) b 127 l (lit< tt))
    ∙ sum (bit_and q (rep 127 n)) (bit_and b 127) (rep 83 n))
    ∙ ap (λ (s : ℕ). bit_and s (rep 128 n * 256 + 128)) (or_block 8 q X b Y l y)
    ∙ and_block 8 (bit_or q X) (rep 128 n) (bit_or b Y) 128 (or_lt 8 b Y l y) (lit< tt)

parts : (x y : ℕ) → eqb (x * 256 + y) 0 ≡ (eqb x 0 && eqb y 0)
parts x y =
    both_ways (eqb (x * 256 + y) 0) (eqb x 0 && eqb y 0)
    (λ e. let z = eqb-true (x * 256 + y) 0 e in both_true (eq-eqb x 0 (omega arith)) (eq-eqb y 0 (omega arith)))
    (λ e.
    let a = eqb-true x 0 (first_so (eqb x 0) (eqb y 0) e) in
    let b = eqb-true y 0 (second_so (eqb x 0) (eqb y 0) e) in
    eq-eqb (x * 256 + y) 0 (omega arith))

swap : (a b c : Bool) → ((a && b) && c) ≡ ((a && c) && b)
swap true true true = refl
swap true true false = refl
swap true false true = refl
swap true false false = refl
swap false b c = refl

pub every_front : (n : ℕ) (f : ℕ → Bool) → every (suc n) f ≡ (every n (λ i. f (suc i)) && f 0)
unfolding every
every_front zero f = refl
every_front (suc n) f =
    ap (λ (b : Bool). b && f (suc n)) (every_front n f) ∙ swap (every n (λ i. f (suc i))) (f 0) (f (suc n))

all-over : (n w : ℕ) → eqb (overs n w) 0 ≡ every n (λ i. leb (byte w i) 44)
unfolding rep every byte
all-over zero w = ap (λ (x : ℕ). eqb x 0) (and_zero_r (bit_or w (bit_and w 0 + 0)))
all-over (suc n) w =
    let q = w / 256 in
    let b = w % 256 in
    let l : b < 256 = mod-lt w (lit< tt) in
    let d : w ≡ q * 256 + b = omega arith in
    ap (λ (x : ℕ). eqb (overs (suc n) x) 0) d
    ∙ ap (λ (x : ℕ). eqb x 0) (step n q b l)
    ∙ parts (overs n q) (over-1 b)
    ∙ ap₂ (λ (x y : Bool). x && y) (all-over n q) (one b l)
    ∙ sym (every_front n (λ i. leb (byte w i) 44))

pub controls-at-once : (w : ℕ)
    → eqb (bit_and (bit_or w (bit_and w 0x7f7f7f7f7f7f7f7f + 0x5353535353535353)) 0x8080808080808080) 0
    ≡ every 8 (λ i. leb (byte w i) 44)
unfolding rep
controls-at-once w = all-over 8 w
