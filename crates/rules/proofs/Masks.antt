-- A mask reaches exactly the harts that the rules name.
use mathlib.Core.Path.{refl, ◌≡◌, sym, ◌∙◌, subst}
use mathlib.Core.Bool.{true, false}
use mathlib.Core.List.{List, Memᴰ}
use mathlib.Core.Logic.{◌↔◌}
use Prim.Native.Nat.{ℕ, ◌+◌, ◌<◌, ◌≤◌}
use lib.Dec.{eqb}
use borrow.Author.Tests.{not-true, eq-eqb, ne_eqb, le-ltb}
use Rattle.std.proofs.lemmas.Bool.{or_left, false_from_ne_true}
use Rattle.rules.specs.Tables.{state_of}
use Rattle.rules.specs.Names.{STOP_PENDING, STOPPED, harts, counters}
use Rattle.rules.specs.Sets.{bit, ones, those, numbers, names, Ascending, all}
use Rattle.rules.specs.Platform.{width, enabled}
use Rattle.rules.specs.Masks.{selected, selection_fits, is_reached, reached}
use Rattle.rules.specs.Counters.{counter_set, is_counter}
use Rattle.rules.specs.Deliveries.{MasksExact}
use Rattle.rules.specs.Counting.{CounterSetsExact}
use Rattle.rules.specs.declared.platform.Platform.{Platform}
use Rattle.rules.specs.declared.records.Hart.{Hart}
use Rattle.rules.proofs.Logic.{or-of, if-true, if-false, if-both, clash}
use Rattle.rules.proofs.SetLaws.{those-in, those-only}
use Rattle.rules.proofs.Ascending.{those-ascending, numbers-ascending, keep-ascending, keep-in, keep-only}
use Rattle.rules.proofs.Ascending.{all_in, all_of, numbers-in, numbers-only, numbers-those}
use Rattle.rules.proofs.WellFormed.{enabled_under, enabled-over}

-- the test of a hart's state says what its sentence says
reached-states : (hs : List Hart) (h : ℕ)
    → is_reached hs h ≡ true ↔ ((state_of hs h ≡ STOPPED → ⊥) × (state_of hs h ≡ STOP_PENDING → ⊥))
unfolding is_reached
reached-states hs h = (
  λ e. (
    λ s. clash (or_left _ (eqb (state_of hs h) STOP_PENDING) (eq-eqb _ _ s)) (not-true _ e),
    λ s. clash (or-of (eqb (state_of hs h) STOPPED) _ (λ _. eq-eqb _ _ s)) (not-true _ e),
  ),
  λ n. rw (ne_eqb _ _ n.0, ne_eqb _ _ n.1) refl,
)

module _ (p : Platform) (m base : ℕ) where
  -- ----- the two kinds of base

  pub selected-everyone : base ≡ ones (width p) → selected p m base ≡ those harts (enabled p)
  unfolding selected
  selected-everyone e = if-true _ _ (eq-eqb _ _ e)

  pub selected-named : (base ≡ ones (width p) → ⊥) → selected p m base ≡ numbers (width p) base m
  unfolding selected
  selected-named n = if-false _ _ (ne_eqb _ _ n)

  -- ----- a selection that fits, hart by hart: the way that a loop over the harts goes

  pub fits_in : (h : ℕ) → selection_fits p m base ≡ true → Memᴰ h (selected p m base) → enabled p h ≡ true
  unfolding selection_fits
  fits_in h f t = all_in (enabled p) (selected p m base) f t

  pub selected-those : (base ≡ ones (width p) → ⊥) → selection_fits p m base ≡ true
      → selected p m base ≡ those harts (names (width p) base m)
  selected-those n f =
      selected-named n
      ∙ numbers-those (width p) base m harts
      (λ h t. enabled_under p h (fits_in h f (subst (Memᴰ h) (sym (selected-named n)) t)))

  -- ----- the promise

  everyone : base ≡ ones (width p) → (h : ℕ) → Memᴰ h (selected p m base) ↔ (enabled p h ≡ true)
  everyone e h = (
    λ t. (those-only (enabled p) harts h (subst (Memᴰ h) (selected-everyone e) t)).1,
    λ on. subst (Memᴰ h) (sym (selected-everyone e)) (those-in (enabled p) harts h (enabled_under p h on) on),
  )

  named : (base ≡ ones (width p) → ⊥) → (h : ℕ) → Memᴰ h (selected p m base)
      ↔ ((i : ℕ) × (i < width p) × (bit m i ≡ true) × (h ≡ base + i))
  named n h = (
    λ t. numbers-only (width p) base m h (subst (Memᴰ h) (selected-named n) t),
    λ r. subst (Memᴰ h) (sym (selected-named n))
        (subst (λ (k : ℕ). Memᴰ k (numbers (width p) base m)) (sym r.3)
        (numbers-in (width p) base m r.0 r.1 r.2)),
  )

  fits : selection_fits p m base ≡ true ↔ ((h : ℕ) → Memᴰ h (selected p m base) → enabled p h ≡ true)
  unfolding selection_fits
  fits = (λ f h t. fits_in h f t, λ f. all_of (enabled p) (selected p m base) f)

  never_wraps : (base ≡ ones (width p) → ⊥) → (i : ℕ) → i < width p → bit m i ≡ true → harts ≤ base + i
      → selection_fits p m base ≡ false
  never_wraps n i l b over =
      false_from_ne_true (selection_fits p m base)
      (λ f. clash
      (fits_in (base + i) f (subst (Memᴰ (base + i)) (sym (selected-named n)) (numbers-in (width p) base m i l b)))
      (enabled-over p (base + i) over))

  ascending : Ascending (selected p m base)
  unfolding selected
  ascending = if-both Ascending _ (λ _. those-ascending harts (enabled p)) (λ _. numbers-ascending (width p) base m)

  reaches : (hs : List Hart) (h : ℕ) → Memᴰ h (reached p hs m base)
      ↔ (Memᴰ h (selected p m base) × (state_of hs h ≡ STOPPED → ⊥) × (state_of hs h ≡ STOP_PENDING → ⊥))
  unfolding reached
  reaches hs h = (
    λ t.
        let r = keep-only (is_reached hs) (selected p m base) t in
        let s = (reached-states hs h).0 r.1 in
        (r.0, s.0, s.1),
    λ r. keep-in (is_reached hs) (selected p m base) r.0 ((reached-states hs h).1 (r.1, r.2)),
  )

  reached_ascending : (hs : List Hart) → Ascending (reached p hs m base)
  unfolding reached
  reached_ascending hs = keep-ascending (is_reached hs) 0 (selected p m base) ascending

pub masks-exact : MasksExact
masks-exact p m base = record {
  everyone = everyone p m base;
  named = named p m base;
  fits = fits p m base;
  never_wraps = never_wraps p m base;
  ascending = ascending p m base;
  reaches = reaches p m base;
  reached_ascending = reached_ascending p m base;
}

-- ----- sets of counters: the same numbers, with no base that means all

pub counter-sets-exact : CounterSetsExact
unfolding counter_set is_counter
counter-sets-exact p base m = record {
  members = λ k. (
    λ t. numbers-only (width p) base m k t,
    λ r. subst (λ (j : ℕ). Memᴰ j (numbers (width p) base m)) (sym r.3)
        (numbers-in (width p) base m r.0 r.1 r.2),
  );
  never_wraps = λ i l b over.
      false_from_ne_true (all is_counter (numbers (width p) base m))
      (λ f.
      clash (all_in is_counter (numbers (width p) base m) f (numbers-in (width p) base m i l b))
      (le-ltb (base + i) counters over));
  ascending = numbers-ascending (width p) base m;
}
