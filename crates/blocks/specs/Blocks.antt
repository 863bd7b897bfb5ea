-- "It reads 512-byte blocks on standard input: 64 little-endian words, summing to 1 modulo 2^64.
-- Words 0 to 62 are seven records of nine: kind and hart h, EID, FID, a0 to a5."
--   word_at bs at      the little-endian word of the eight bytes from a place on
--   words_at n bs at   n of them, one after the other
--   passes ws          the words sum to 1 modulo 2^64
--   record_at ws i     record i of seven
use Rattle.std.specs.Prelude.{ℕ, zero, suc, ◌+◌, ◌-◌, ◌*◌, ◌%◌, ◌^◌, Bool, ◌&&◌, List, [], ◌∷◌}
use Rattle.std.specs.Prelude.{◌++◌, ◌==◌, nat_le, nat_lt, slice_index, sum}
use Rattle.rules.specs.Choice.{when◌then◌else◌}
use Rattle.blocks.specs.declared.Record.{Record}
use Rattle.blocks.specs.declared.Record.TheVariants.{Unused, Call, Done, Wake, Event, Unknown}

abbrev pub word_at : List ℕ → (at : ℕ) → ℕ
word_at bs at =
    slice_index bs at + 256 * slice_index bs (at + 1) + 65536 * slice_index bs (at + 2)
    + 16777216 * slice_index bs (at + 3) + 4294967296 * slice_index bs (at + 4)
    + 1099511627776 * slice_index bs (at + 5) + 281474976710656 * slice_index bs (at + 6)
    + 72057594037927936 * slice_index bs (at + 7)

unfoldable pub words_at : (n : ℕ) → List ℕ → (at : ℕ) → List ℕ
words_at zero bs at = []
words_at (suc n) bs at = words_at n bs at ++ (word_at bs (at + 8 * n) ∷ [])

unfoldable pub passes : List ℕ → Bool
passes ws = sum ws % 2 ^ 64 == 1

-- "First word: 0 unused, 256 + h call, 512 + h done, 768 + h wake, 1024 + h event with its code
-- next; h is at most 127, all others H7."
abbrev pub is : (kind first : ℕ) → Bool
is k w = nat_le k w && nat_lt w (k + 128)

unfoldable pub record_of : (first second third a0 a1 a2 a3 a4 a5 : ℕ) → Record
record_of w eid fid a b c d e f =
    when w == 0 then Unused
    else when is 256 w then
    Call (w - 256) (record { a0 = a; a1 = b; a2 = c; a3 = d; a4 = e; a5 = f; a6 = fid; a7 = eid })
    else when is 512 w then Done (w - 512)
    else when is 768 w then Wake (w - 768)
    else when is 1024 w then Event (w - 1024) eid
    else Unknown

unfoldable pub record_at : List ℕ → (i : ℕ) → Record
record_at ws i =
    record_of (slice_index ws (9 * i)) (slice_index ws (9 * i + 1)) (slice_index ws (9 * i + 2))
    (slice_index ws (9 * i + 3)) (slice_index ws (9 * i + 4)) (slice_index ws (9 * i + 5))
    (slice_index ws (9 * i + 6)) (slice_index ws (9 * i + 7)) (slice_index ws (9 * i + 8))
