-- A record of a block is one of its chunks of nine words.
use Rattle.std.proofs.Common.{◌≡◌, ℕ, zero, suc, ◌+◌, ◌*◌, ◌<◌, List, get_or, take, drop, ap, ◌∙◌, add-zero, arith}
use Rattle.std.specs.Simd.{first_chunks}
use Rattle.std.proofs.lemmas.List.{drop-drop}
use Rattle.std.proofs.lemmas.Simd.{get_or-chunk}
use Rattle.blocks.specs.Blocks.{record_at}

get_or-first_chunks : {X : Type 0} (n k i : ℕ) (xs : List X) (d : List X) → i < k → get_or (first_chunks n k xs) i d ≡ take n (drop (n * i) xs)
get_or-first_chunks n zero i xs d l = absurd (omega arith)
get_or-first_chunks n (suc k) zero xs d l = let e : 0 ≡ n * 0 = omega arith in ap (λ j. take n (drop j xs)) e
get_or-first_chunks n (suc k) (suc i) xs d l =
    let e : n + n * i ≡ n * suc i = omega arith in
    get_or-first_chunks n k i (drop n xs) d (omega arith) ∙ ap (take n) (drop-drop (n * i) n xs ∙ ap (λ j. drop j xs) e)

record_at-take : (ws : List ℕ) (i : ℕ) → record_at (take 9 (drop (9 * i) ws)) 0 ≡ record_at ws i
unfolding record_at
record_at-take ws i =
    let w : (k : ℕ) → k < 9 → get_or (take 9 (drop (9 * i) ws)) k 0 ≡ get_or ws (9 * i + k) 0 = λ k l. get_or-chunk (9 * i) 9 ws k 0 l in
    let z : 9 * i + 0 ≡ 9 * i = add-zero _ in
    cc (w 0 (omega arith), w 1 (omega arith), w 2 (omega arith), w 3 (omega arith), w 4 (omega arith), w 5 (omega arith), w 6 (omega arith), w 7 (omega arith), w 8 (omega arith))

pub record_of_chunk : (ws : List ℕ) (k i : ℕ) (d : List ℕ) → i < k → record_at (get_or (first_chunks 9 k ws) i d) 0 ≡ record_at ws i
record_of_chunk ws k i d l = ap (λ words. record_at words 0) (get_or-first_chunks 9 k i ws d l) ∙ record_at-take ws i
