-- The platform record, the addresses that it has, and when it is accepted.
--   has s h               hart h is in the set s
--   enabled, hypervisor   hart h is enabled; has the hypervisor extension
--   width p               how many bits a register has
--   used_ranges p         its memory ranges
--   valid_address p a     an address that a hart may be sent to
--   platform_accepted p   no ground of H1 holds against it; `PlatformAccepted` says the same
use Rattle.std.specs.Prelude.{◌≡◌, Bool, true, false, not, ◌&&◌, ◌||◌, ℕ, ◌+◌, ◌-◌, ◌^◌, ◌%◌, ◌<◌}
use Rattle.std.specs.Prelude.{◌≤◌, ltb, leb, eqb, take, Option, Some, None}
use mathlib.Core.List.{List, Memᴰ}
use Rattle.rules.specs.Choice.{when◌then◌else◌}
use Rattle.rules.specs.Sets.{bit, every, all, any}
use Rattle.rules.specs.Names.{harts, max_ranges, max_asid_width, max_vmid_width}
use Rattle.rules.specs.Numbers.{HartId}
use Rattle.rules.specs.declared.platform.HartSet.{HartSet}
use Rattle.rules.specs.declared.platform.Range.{Range}
use Rattle.rules.specs.declared.platform.Platform.{Platform}

-- "Hart numbers 0 to 127": bit h of the low word, bit h - 64 of the high one
unfoldable pub has : HartSet → ℕ → Bool
has s h = when ltb h 64 then bit s.low h else when ltb h harts then bit s.high (h - 64) else false

-- hart h is enabled
unfoldable pub enabled : Platform → ℕ → Bool
enabled p h = has p.enabled h

-- hart h, if it is enabled
abbrev pub HartGiven : Platform → (h : ℕ) → Option HartId → Type 0
HartGiven p h (Some x) = (enabled p h ≡ true) × (x.number ≡ h)
HartGiven p h None = enabled p h ≡ false

-- hart h has the hypervisor extension
unfoldable pub hypervisor : Platform → ℕ → Bool
hypervisor p h = has p.hypervisor h

-- "RV64 only"
abbrev pub width : Platform → ℕ
width p = 64

-- "0 to 8 memory ranges": those past the count are never looked at
unfoldable pub used_ranges : Platform → List Range
used_ranges p = take p.used p.ranges

-- "An address is valid if it is even and lies in a range: base ≤ address < base + length (house)."
unfoldable pub lies_in : ℕ → Range → Bool
lies_in a r = leb r.base a && ltb a (r.base + r.length)

-- a hart may be sent to the address a
unfoldable pub valid_address : Platform → ℕ → Bool
valid_address p a = eqb (a % 2) 0 && any (lies_in a) (used_ranges p)

-- ----- "A platform is refused (H1) if ..": one line for each ground, in document 01's order

-- a used range that does not have "length zero or runs past 2^64"
unfoldable pub range_accepted : ℕ → Range → Bool
range_accepted w r = ltb 0 r.length && leb (r.base + r.length) (2 ^ w)

-- no "count or width is over its limit"
abbrev pub within_limits : Platform → Bool
within_limits p = leb p.used max_ranges && (leb p.asid max_asid_width && leb p.vmid max_vmid_width)

-- none of the grounds holds
unfoldable pub platform_accepted : Platform → Bool
platform_accepted p =
    enabled p p.boot
    && (every harts (λ h. not (hypervisor p h) || enabled p h)
    && (within_limits p
    && all (range_accepted (width p)) (used_ranges p)))

-- the same as a statement
pub record PlatformAccepted (p : Platform) : Type 0 where
  -- the boot hart is enabled
  pub boot : enabled p p.boot ≡ true
  -- a hart with the hypervisor extension is enabled
  pub hypervisors : (h : ℕ) → hypervisor p h ≡ true → enabled p h ≡ true
  -- no count and no width is over its limit
  pub ranges : p.used ≤ max_ranges
  pub asid : p.asid ≤ max_asid_width
  pub vmid : p.vmid ≤ max_vmid_width
  -- a used range is not empty and ends at 2^64 at most
  pub used : (r : Range) → Memᴰ r (used_ranges p)
      → (0 < r.length) × (r.base + r.length ≤ 2 ^ width p)
