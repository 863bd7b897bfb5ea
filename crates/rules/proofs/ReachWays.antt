-- Interrupts and fences by the tests that lead to each reply, and a selection asked hart by hart, the way a loop goes.
use mathlib.Core.Path.{◌≡◌, sym, ap, ◌∙◌, subst}
use mathlib.Core.Bool.{Bool, true, false, not, ◌||◌}
use mathlib.Core.List.{List, Memᴰ}
use Prim.Native.Nat.{ℕ, ◌+◌}
use lib.Dec.{leb, eqb}
use borrow.Author.Tests.{eqb-false, eqb-true}
use Rattle.std.specs.Cmp.{both_ways}
use Rattle.rules.specs.Sets.{all, bit, ones, every, those, names, keep}
use Rattle.rules.specs.Platform.{hypervisor, width, enabled}
use Rattle.rules.specs.Choice.{when◌then◌else◌}
use Rattle.rules.specs.Names.{harts, interrupt_kind, fence_kind, interrupt_sent}
use Rattle.rules.specs.Masks.{selected, selection_fits, is_reached, reached, send_to, selects, bit_fits, reaches}
use Rattle.rules.specs.Fences.{sent_code, id_valid, hypervisors_fit, range_valid, interrupt_reply, fence_reply}
use Rattle.rules.specs.Replies.{View, fails}
use Rattle.rules.specs.declared.platform.Platform.{Platform}
use Rattle.rules.specs.declared.records.Hart.{Hart}
use Rattle.rules.proofs.Logic.{if-true, if-false, by_cases, not-or, not-or-inv}
use Rattle.rules.proofs.SetLaws.{every-at, every_of, those-only, those-ext}
use Rattle.rules.proofs.Ascending.{all_of, keep-those, all-those, numbers-in, numbers-only}
use Rattle.rules.proofs.Masks.{selected-everyone, selected-named, selected-those, fits_in}
use Rattle.rules.specs.declared.answers.Error.TheVariants.{NotSupported, InvalidParam}
use Rattle.rules.specs.declared.answers.Error.TheVariants.{InvalidAddress}

-- ----- hart by hart

module _ (p : Platform) (m base : ℕ) where
  pub fits-everyone : base ≡ ones (width p) → selection_fits p m base ≡ true
  unfolding selection_fits
  fits-everyone e =
      all_of (enabled p) (selected p m base)
      (λ h t. (those-only (enabled p) harts h (subst (Memᴰ h) (selected-everyone p m base e) t)).1)

  pub fits-every : (base ≡ ones (width p) → ⊥) → selection_fits p m base ≡ every (width p) (bit_fits p m base)
  unfolding selection_fits bit_fits
  fits-every n =
      both_ways (selection_fits p m base) (every (width p) (bit_fits p m base))
      (λ f. every_of (bit_fits p m base) (width p)
      (λ i l. not-or (bit m i) (enabled p (base + i))
      (λ b. fits_in p m base (base + i) f
      (subst (Memᴰ (base + i)) (sym (selected-named p m base n)) (numbers-in (width p) base m i l b)))))
      (λ f. all_of (enabled p) (selected p m base)
      (λ h t.
      let r = numbers-only (width p) base m h (subst (Memᴰ h) (selected-named p m base n) t) in
      subst (λ (k : ℕ). enabled p k ≡ true) (sym r.3)
      (not-or-inv (bit m r.0) (enabled p (base + r.0)) (every-at (bit_fits p m base) (width p) r.0 r.1 f) r.2)))

  -- the harts that a mask that fits selects, and those of them that it reaches
  pub selected-by-hart : selection_fits p m base ≡ true → selected p m base ≡ those harts (selects p m base)
  unfolding selects
  selected-by-hart f =
      by_cases (eqb base (ones (width p)))
      (λ y.
      selected-everyone p m base (eqb-true _ _ y)
      ∙ those-ext harts (enabled p) (selects p m base) (λ h l. sym (if-true _ _ y)))
      (λ n.
      selected-those p m base (eqb-false _ _ n) f
      ∙ those-ext harts (names (width p) base m) (selects p m base) (λ h l. sym (if-false _ _ n)))

  pub reached-by-hart : (hs : List Hart) → selection_fits p m base ≡ true
      → reached p hs m base ≡ those harts (reaches p hs m base)
  unfolding reached reaches
  reached-by-hart hs f =
      ap (keep (is_reached hs)) (selected-by-hart f) ∙ keep-those (is_reached hs) (selects p m base) harts

  pub hypervisors-by-hart : (f : ℕ) → selection_fits p m base ≡ true
      → hypervisors_fit p f (selected p m base)
      ≡ when leb 3 f then every harts (λ h. not (selects p m base h) || hypervisor p h) else true
  unfolding hypervisors_fit
  hypervisors-by-hart f fit =
      ap (λ (b : Bool). when leb 3 f then b else true)
      (ap (all (hypervisor p)) (selected-by-hart fit) ∙ all-those (hypervisor p) (selects p m base) harts)

-- ----- the replies

module _ (p : Platform) (v : View) (m base : ℕ) where
  pub interrupt-unfit : selection_fits p m base ≡ false → interrupt_reply p v m base ≡ fails InvalidParam
  unfolding interrupt_reply
  interrupt-unfit e = if-true _ _ (ap not e)

  pub interrupt-sent : selection_fits p m base ≡ true
      → interrupt_reply p v m base ≡ send_to interrupt_kind 0 0 0 interrupt_sent (reached p v.harts m base)
  unfolding interrupt_reply
  interrupt-sent e = if-false _ _ (ap not e)

  module _ (f s n i : ℕ) where
    pub fence-unfit : selection_fits p m base ≡ false → fence_reply p v f m base s n i ≡ fails InvalidParam
    unfolding fence_reply
    fence-unfit e = if-true _ _ (ap not e)

    module _ (fit : selection_fits p m base ≡ true) where
      pub fence-no-id : id_valid p f i ≡ false → fence_reply p v f m base s n i ≡ fails InvalidParam
      unfolding fence_reply
      fence-no-id e = if-false _ _ (ap not fit) ∙ if-true _ _ (ap not e)

      module _ (id : id_valid p f i ≡ true) where
        pub fence-no-hypervisor : hypervisors_fit p f (selected p m base) ≡ false
            → fence_reply p v f m base s n i ≡ fails NotSupported
        unfolding fence_reply
        fence-no-hypervisor e = if-false _ _ (ap not fit) ∙ if-false _ _ (ap not id) ∙ if-true _ _ (ap not e)

        module _ (hyp : hypervisors_fit p f (selected p m base) ≡ true) where
          pub fence-no-range : range_valid (width p) s n ≡ false → fence_reply p v f m base s n i ≡ fails InvalidAddress
          unfolding fence_reply
          fence-no-range e =
              if-false _ _ (ap not fit) ∙ if-false _ _ (ap not id) ∙ if-false _ _ (ap not hyp) ∙ if-true _ _ (ap not e)

          pub fence-sent : range_valid (width p) s n ≡ true
              → fence_reply p v f m base s n i ≡ send_to (fence_kind + f) s n i (sent_code f) (reached p v.harts m base)
          unfolding fence_reply
          fence-sent e =
              if-false _ _ (ap not fit) ∙ if-false _ _ (ap not id) ∙ if-false _ _ (ap not hyp) ∙ if-false _ _ (ap not e)
