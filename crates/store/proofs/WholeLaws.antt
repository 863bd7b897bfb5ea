-- Laws of the two halves of the rows: together they are the test of the tables, and the shape.
use Rattle.std.proofs.Common.{◌≡◌, ℕ, ◌+◌, ◌-◌, ◌<◌, Bool, true, ◌&&◌, List, [], length, get_or, take, drop, sym, refl, ap, ◌∙◌, subst, ap₂, add-one, arith, eq-eqb}
use lib.ListN.{length-map}
use Rattle.std.proofs.lemmas.List.{get_or-take, get_or-drop}
use Rattle.std.specs.Cmp.Derive.{both_true}
use Rattle.rules.specs.Sets.{bit, every}
use Rattle.rules.specs.Platform.{enabled}
use Rattle.rules.specs.Tables.{counter_at, hart_well_formed, counter_well_formed}
use Rattle.rules.specs.Tables.{shaped, hart_row_well_formed, tables_well_formed}
use Rattle.rules.specs.declared.platform.Platform.{Platform}
use Rattle.rules.specs.declared.records.Hart.{Hart}
use Rattle.rules.specs.declared.records.Counter.{Counter}
use Rattle.rules.proofs.Logic.{below_or}
use Rattle.rules.proofs.SetLaws.{every_of, every-ext}
use Rattle.rules.proofs.platform.HalfLaws.{has-low, has-high, every-halves}
use Rattle.store.specs.Rows.{hart_in, counters_in, Fit}
use Rattle.store.specs.Tests.{row_well_formed, Half}
use Rattle.store.specs.Seen.{seen, Shaped, make_shaped, size_of}
use Rattle.store.proofs.RowLaws.{counter_at_lem, eight}
use Rattle.store.proofs.ViewLaws.{hart-seen, own-seen}

-- ----- one row more

module _ (m : ℕ) (t : List (List ℕ)) where
  pub half-none : Half m t 0 true
  unfolding every
  half-none = record { test = refl; rows = λ k l. absurd (omega arith) }

  pub half-more : (n : ℕ) (b c : Bool) → Half m t n b → c ≡ row_well_formed (bit m n) (get_or t n [])
      → Fit (get_or t n []) → Half m t (n + 1) (b && c)
  unfolding every
  half-more n b c h e f = record {
    test = rw (add-one n) (ap₂ (λ (x y : Bool). x && y) h.test e);
    rows =
        λ k l. below_or k n (λ q. h.rows k q)
        (λ q. subst (λ (j : ℕ). Fit (get_or t j [])) (let z : n ≡ k = omega arith in z) f);
  }

-- ----- the tables seen

module _ (p : Platform) (t : List (List ℕ)) (k : Shaped t) where
  shaped-seen : shaped (seen t) ≡ true
  unfolding shaped seen
  shaped-seen =
      both_true (eq-eqb _ _ (length-map t hart_in ∙ size_of t k))
      (both_true (eq-eqb _ _ (length-map t counters_in ∙ size_of t k))
      (every_of _ 128 (λ h l. eq-eqb _ _ (ap length (own-seen t (size_of t k) h l) ∙ eight (get_or t h [])))))

  row_seen : (h : ℕ) → h < 128 → hart_row_well_formed p (seen t) h ≡ row_well_formed (enabled p h) (get_or t h [])
  unfolding hart_row_well_formed row_well_formed
  row_seen h l =
      ap₂ (λ (x : Hart) (cs : List Counter). hart_well_formed (enabled p h) x && every 8
      (λ i. counter_well_formed (enabled p h) (counter_at cs i)))
      (hart-seen t (size_of t k) h l) (own-seen t (size_of t k) h l)
      ∙ ap (λ (b : Bool). hart_well_formed (enabled p h) (hart_in (get_or t h [])) && b)
      (every-ext _ _ 8 (λ i m. ap (counter_well_formed (enabled p h)) (counter_at_lem (get_or t h []) i m)))

  all_seen : tables_well_formed p (seen t) ≡ every 128 (λ h. row_well_formed (enabled p h) (get_or t h []))
  unfolding tables_well_formed
  all_seen = rw shaped-seen (every-ext _ _ 128 row_seen)

module _ (p : Platform) (t : List (List ℕ)) where
  low : (k : ℕ) → k < 64
      → row_well_formed (enabled p k) (get_or t k []) ≡ row_well_formed (bit p.enabled.low k) (get_or (take 64 t) k [])
  unfolding enabled
  low k l = ap₂ row_well_formed (has-low p.enabled k l) (sym (get_or-take 64 t k [] l))

  high : (k : ℕ) → k < 64
      → row_well_formed (enabled p (64 + k)) (get_or t (64 + k) []) ≡ row_well_formed (bit p.enabled.high k)
      (get_or (drop 64 t) k [])
  unfolding enabled
  high k l = ap₂ row_well_formed (has-high p.enabled k l) (sym (get_or-drop 64 t k []))

  module _ (a b : Bool) (e : length t ≡ 128) (x : Half p.enabled.low (take 64 t) 64 a)
      (y : Half p.enabled.high (drop 64 t) 64 b) where
    pub halves-shaped : Shaped t
    halves-shaped =
        make_shaped t e
        (λ h m. below_or h 64
        (λ l. subst Fit (get_or-take 64 t h [] l) (x.rows h l))
        (λ l. subst Fit (get_or-drop 64 t (h - 64) [] ∙ ap (λ (j : ℕ). get_or t j [])
        (let z : 64 + (h - 64) ≡ h = omega arith in z)) (y.rows (h - 64) (omega arith))))

    pub halves-test : (a && b) ≡ tables_well_formed p (seen t)
    halves-test =
        ap₂ (λ (a b : Bool). a && b) (x.test ∙ sym (every-ext _ _ 64 low)) (y.test ∙ sym (every-ext _ _ 64 high))
        ∙ sym (every-halves (λ h. row_well_formed (enabled p h) (get_or t h [])))
        ∙ sym (all_seen p t halves-shaped)

pub ruleset whole_laws = (half-none, half-more, halves-test)
