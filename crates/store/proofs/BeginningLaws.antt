-- What fresh rows hold.
use Rattle.std.proofs.Common.{◌≡◌, ℕ, zero, suc, ◌^◌, ◌<◌, [], ◌∷◌, map, get_or, set, replicate, sym, refl, ap, ◌∙◌, subst, ap₂, lit<}
use lib.ListN.{length-replicate, get_or-replicate}
use Rattle.rules.specs.Names.{STARTED, STOPPED}
use Rattle.rules.specs.Choice.{when◌then◌else◌}
use Rattle.rules.specs.Tables.{idle, blank, fresh}
use Rattle.rules.specs.declared.platform.Platform.{Platform}
use Rattle.store.specs.Rows.{byte, state_in, hart_in, counter_of, counter_in, counters_in, Fit}
use Rattle.store.specs.Seen.{seen, Shaped, make_shaped, Holds, fresh_row, fresh_rows}
use Rattle.std.proofs.lemmas.List.{map-set}
use Rattle.store.proofs.ViewLaws.{tables, shaped-set}

map-replicate : {A B : Type 0} (f : A → B) (n : ℕ) (x : A) → map f (replicate n x) ≡ replicate n (f x)
map-replicate f zero x = refl
map-replicate f (suc n) x = ap (λ l. f x ∷ l) (map-replicate f n x)

set-there : {A : Type 0} (n i : ℕ) (x : A) → set (replicate n x) i x ≡ replicate n x
set-there zero i x = refl
set-there (suc n) zero x = refl
set-there (suc n) (suc i) x = ap (λ l. x ∷ l) (set-there n i x)

small : (w : ℕ) → w < 2 ^ 64 → (n i : ℕ) → get_or (w ∷ replicate n 0) i 0 < 2 ^ 64
small w l n zero = l
small w l zero (suc i) = lit< tt
small w l (suc n) (suc i) = small 0 (lit< tt) n i

stopped-rows : Shaped (replicate 128 (fresh_row STOPPED))
stopped-rows =
    make_shaped (replicate 128 (fresh_row STOPPED)) (length-replicate 128 (fresh_row STOPPED))
    (λ h l. subst Fit (sym (get_or-replicate 128 h (fresh_row STOPPED) [] l))
    (record { size = refl; small = small 4 (lit< tt) 11 }))

pub fresh_holds : (p : Platform) → Holds (fresh_rows p.boot) (fresh p)
unfolding seen fresh hart_in state_in counters_in counter_in byte counter_of when◌then◌else◌
fresh_holds p = record {
  is = ap₂ tables (map-set hart_in (replicate 128 (fresh_row STOPPED)) p.boot (fresh_row STARTED)
      ∙ ap (λ l. set l p.boot (idle STARTED)) (map-replicate hart_in 128 (fresh_row STOPPED)))
      (map-set counters_in (replicate 128 (fresh_row STOPPED)) p.boot (fresh_row STARTED)
      ∙ ap (λ l. set l p.boot (replicate 8 blank)) (map-replicate counters_in 128 (fresh_row STOPPED))
      ∙ set-there 128 p.boot (replicate 8 blank));
  shaped = shaped-set (replicate 128 (fresh_row STOPPED)) p.boot (fresh_row STARTED) stopped-rows
      (record { size = refl; small = small 2 (lit< tt) 11 });
}
