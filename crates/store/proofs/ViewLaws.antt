-- Laws of the view: what a row of it is, what a row put anew is in it, and that rows with the same view are the same.
use Rattle.std.proofs.Common.{◌≡◌, ℕ, ◌<◌, List, [], map, length, get_or, set, sym, ap, ◌∙◌, subst, ap₂, arith, length-set, get_or-set_other, get_or-set_same}
use native.Mathlib.Decide.{ℕ_discrete}
use lib.Seq.{set-get_or}
use Rattle.rules.specs.Names.{harts, STOPPED}
use Rattle.rules.specs.Tables.{Tables, idle, hart_at, own_at}
use Rattle.rules.specs.declared.records.Hart.{Hart}
use Rattle.rules.specs.declared.records.Counter.{Counter}
use Rattle.store.specs.Rows.{hart_in, counters_in, Fit, Held}
use Rattle.store.specs.Seen.{seen, put_hart, put_own, alter_own, Shaped, make_shaped, size_of, row_of, Holds}
use Rattle.std.proofs.lemmas.List.{map-set, get_or-map}

abbrev pub tables : List Hart → List (List Counter) → Tables
tables a b = record { harts = a; counters = b }

pub shaped-set : (t : List (List ℕ)) (h : ℕ) (r : List ℕ) → Shaped t → Fit r → Shaped (set t h r)
shaped-set t h r k f =
    make_shaped (set t h r) (length-set t h r ∙ size_of t k)
    (λ j m.
    elim (ℕ_discrete j h) [
      | yes z ↦ subst (λ (i : ℕ). Fit (get_or (set t h r) i [])) (sym z)
          (subst Fit (sym (get_or-set_same t h r [] (omega (arith, size_of t k)))) f)
      | no z ↦ subst Fit (sym (get_or-set_other t h j r [] z)) (row_of t k j m)
    ])

module _ (t : List (List ℕ)) (k : length t ≡ harts) (h : ℕ) (l : h < harts) where
  inside : h < length t
  inside = omega arith

  pub hart-seen : hart_at (seen t).harts h ≡ hart_in (get_or t h [])
  unfolding seen hart_at
  hart-seen = get_or-map hart_in t h [] (idle STOPPED) inside

  pub own-seen : own_at (seen t) h ≡ counters_in (get_or t h [])
  unfolding seen own_at
  own-seen = get_or-map counters_in t h [] [] inside

pub ruleset seen_laws = (hart-seen, own-seen)

module _ (t : List (List ℕ)) (k : Shaped t) (h : ℕ) (l : h < harts) where
  -- a row put anew
  row-holds : (r : List ℕ) (x : Hart) (cs : List Counter) → Held r x cs
      → Holds (set t h r) (tables (set (seen t).harts h x) (set (seen t).counters h cs))
  unfolding seen
  row-holds r x cs q = record {
    is =
        ap₂ tables (map-set hart_in t h r ∙ ap (set (map hart_in t) h) q.hart) (map-set counters_in t h r
        ∙ ap (set (map counters_in t) h) q.own);
    shaped = shaped-set t h r k q.fit;
  }

  pub put-hart-holds : (r : List ℕ) (x : Hart) → Held r x (counters_in (get_or t h []))
      → Holds (set t h r) (put_hart (seen t) h x)
  unfolding own_at
  put-hart-holds r x q =
      subst (λ (cs : List (List Counter)). Holds (set t h r) (tables (set (seen t).harts h x) cs))
      (ap (set (seen t).counters h) (sym (own-seen t (size_of t k) h l)) ∙ set-get_or (seen t).counters h [])
      (row-holds r x (counters_in (get_or t h [])) q)

  pub put-own-holds : (r : List ℕ) (cs : List Counter) → Held r (hart_in (get_or t h [])) cs
      → Holds (set t h r) (put_own (seen t) h cs)
  unfolding hart_at
  put-own-holds r cs q =
      subst (λ (xs : List Hart). Holds (set t h r) (tables xs (set (seen t).counters h cs)))
      (ap (set (seen t).harts h) (sym (hart-seen t (size_of t k) h l)) ∙ set-get_or (seen t).harts h (idle STOPPED))
      (row-holds r (hart_in (get_or t h [])) cs q)

  -- the row at hart h's place, its record altered by f
  pub hart-altered : (i : ℕ) → i ≡ h → (f : Hart → Hart) (r : List ℕ)
      → Held r (f (hart_in (get_or t i []))) (counters_in (get_or t i []))
      → Holds (set t i r) (put_hart (seen t) h (f (hart_at (seen t).harts h)))
  hart-altered i e f r q =
      rw (e, hart-seen t (size_of t k) h l) (put-hart-holds r (f (hart_in (get_or t h []))) (rw e at q))

  -- its counters
  pub own-altered : (i : ℕ) → i ≡ h → (f : List Counter → List Counter) (r : List ℕ)
      → Held r (hart_in (get_or t i [])) (f (counters_in (get_or t i [])))
      → Holds (set t i r) (alter_own (seen t) h f)
  own-altered i e f r q =
      rw (e, own-seen t (size_of t k) h l) (put-own-holds r (f (counters_in (get_or t h []))) (rw e at q))
