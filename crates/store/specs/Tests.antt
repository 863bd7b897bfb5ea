-- When a row is well formed, and half of the rows.
--   row_well_formed on r   what a row holds is well formed, of a hart that is enabled or not
--   Half m t n b           b tells whether the first n rows of t are well formed, with the bits m
--                          of the enabled harts among them; and each has its shape
use Rattle.std.specs.Prelude.{◌≡◌, ℕ, ◌<◌, Bool, ◌&&◌, List, [], slice_index_or}
use Rattle.rules.specs.Names.{counters}
use Rattle.rules.specs.Sets.{bit, every}
use Rattle.rules.specs.Tables.{hart_well_formed, counter_well_formed}
use Rattle.store.specs.Rows.{hart_in, counter_in, Fit}

unfoldable pub row_well_formed : Bool → List ℕ → Bool
row_well_formed on r =
    hart_well_formed on (hart_in r) && every counters (λ i. counter_well_formed on (counter_in r i))

pub record Half (m : ℕ) (t : List (List ℕ)) (n : ℕ) (b : Bool) : Type 0 where
  pub test : b ≡ every n (λ k. row_well_formed (bit m k) (slice_index_or t k []))
  pub rows : (k : ℕ) → k < n → Fit (slice_index_or t k [])
