-- Sets of numbers: the bits of a mask, the numbers that it selects, and lists of numbers in
-- ascending order. The width w of a mask is a parameter. Nothing here wraps: sums are over all
-- natural numbers.
--   bit m i            bit i of m is set
--   ones w             2^w - 1: all ones of w bits
--   every n f          f holds at each number below n
--   those n f          the numbers below n at which f holds, ascending
--   numbers w base m   the numbers base + i for each set bit i of a mask of w bits, ascending
--   names w base m k   whether k is one of these numbers, asked of k alone
--   Ascending l        each number of l is greater than the one before it
--   keep f l, all f l, any f l, first l   of a list: those where f holds; whether all or any do;
-- the first, if any
use Rattle.std.specs.Prelude.{Bool, true, false, ◌&&◌, ◌||◌, List, [], ◌∷◌, ◌++◌, map, ℕ, zero, suc}
use Rattle.std.specs.Prelude.{◌+◌, ◌-◌, ◌^◌, ◌/◌, ◌%◌, ◌≤◌, eqb, ltb, leb}
use Rattle.std.specs.Prelude.{Option, Some, None}
use Rattle.rules.specs.Choice.{when◌then◌else◌}

-- bit i of m is set
unfoldable pub bit : ℕ → ℕ → Bool
bit m i = eqb (m / 2 ^ i % 2) 1

-- all ones of w bits
abbrev pub ones : ℕ → ℕ
ones w = 2 ^ w - 1

-- f holds at each number below n
unfoldable pub every : ℕ → (ℕ → Bool) → Bool
every zero f = true
every (suc n) f = every n f && f n

-- the numbers below n at which f holds, ascending
unfoldable pub those : ℕ → (ℕ → Bool) → List ℕ
those zero f = []
those (suc n) f = those n f ++ (when f n then n ∷ [] else [])

-- "bit i selects hart base + i, summed without wrapping"; "bit i is counter base + i without
-- wrapping"
unfoldable pub numbers : (w base m : ℕ) → List ℕ
numbers w base m = map (λ (i : ℕ). base + i) (those w (bit m))

-- k is one of these numbers, asked of k alone
unfoldable pub names : (w base m k : ℕ) → Bool
names w base m k = leb base k && (ltb (k - base) w && bit m (k - base))

-- each number is at least b, and greater than the one before it: so none comes twice
abbrev pub Above : ℕ → List ℕ → Type 0
Above b [] = Unit
Above b (x ∷ l) = (b ≤ x) × Above (suc x) l

-- each number is greater than the one before it
abbrev pub Ascending : List ℕ → Type 0
Ascending = Above 0

-- the first of a list, if any
unfoldable pub first : List ℕ → Option ℕ
first [] = None
first (x ∷ xs) = Some x

module _ {A : Type 0} where
  unfoldable pub keep : (A → Bool) → List A → List A
  keep f [] = []
  keep f (x ∷ xs) = when f x then x ∷ keep f xs else keep f xs

  unfoldable pub all : (A → Bool) → List A → Bool
  all f [] = true
  all f (x ∷ xs) = f x && all f xs

  unfoldable pub any : (A → Bool) → List A → Bool
  any f [] = false
  any f (x ∷ xs) = f x || any f xs
