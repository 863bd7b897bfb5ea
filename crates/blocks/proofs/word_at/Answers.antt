-- `word_at`: the bytes of the chunk are those from the place on.
use Rattle.std.proofs.Common.{◌≡◌, ℕ, ◌+◌, ◌-◌, ◌<◌, List, length, get_or, take, drop, ap, ◌∙◌, add-zero, arith}
use Rattle.std.specs.Array.{IsFirstChunk}
use Rattle.std.specs.Int.{from_le_bytes, w64}
use Rattle.std.proofs.lemmas.List.{take_rest}
use Rattle.std.proofs.lemmas.Simd.{get_or-chunk}
use Rattle.blocks.specs.Blocks.{word_at}
use Rattle.blocks.proofs.word_at.Goals as goal

from_le_bytes-chunk : (bs ws : List ℕ) (at : ℕ) → IsFirstChunk (take (length bs - at) (drop at bs)) ws 8 → from_le_bytes w64 ws ≡ word_at bs at
from_le_bytes-chunk bs ws at m =
    let b : (k : ℕ) → k < 8 → get_or ws k 0 ≡ get_or bs (at + k) 0 =
    λ k l. ap (λ z. get_or z k 0) (m.same ∙ ap (take 8) (take_rest bs at)) ∙ get_or-chunk at 8 bs k 0 l in
    let z = ap (λ j. get_or bs j 0) (add-zero at) in
    omega (arith, b 0 (omega arith), b 1 (omega arith), b 2 (omega arith), b 3 (omega arith), b 4 (omega arith), b 5 (omega arith), b 6 (omega arith), b 7 (omega arith))

pub returns : goal.returns
returns c =
    c.from_le_bytes.ensures ∙ from_le_bytes-chunk c.args.bytes.now c.unwrap.result.now c.args.at (rw c.unwrap.ensures at c.first_chunk.ensures.cases)
