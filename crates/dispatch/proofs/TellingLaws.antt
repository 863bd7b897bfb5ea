-- Harts told of an event, one after the other: what holds at the head of the loop, and a turn of each kind.
use mathlib.Core.Path.{◌≡◌, refl, sym, ap, ◌∙◌}
use mathlib.Core.Bool.{Bool, true, false}
use mathlib.Core.List.{List, [], ◌∷◌, ◌++◌}
use Prim.Native.Nat.{ℕ, ◌+◌}
use Rattle.rules.specs.Sets.{those}
use Rattle.rules.specs.Tables.{Tables}
use Rattle.rules.specs.Replies.{tell_one, tell}
use Rattle.tables.specs.Keeping.{seen, Shaped, Holds}
use Rattle.rules.specs.declared.records.Counter.{Counter}
use Rattle.rules.proofs.SetLaws.{those-hit, those-miss}
use Rattle.dispatch.specs.Meets.{told_one, told}

tell-more : (h e k : ℕ) (ks : List ℕ) (cs : List (List Counter))
    → tell h e (ks ++ (k ∷ [])) cs ≡ tell_one h e k (tell h e ks cs)
unfolding tell
tell-more h e k [] cs = refl
tell-more h e k (j ∷ ks) cs = tell-more h e k ks (tell_one h e j cs)

pub telling-starts : (t : List (List ℕ)) (h e : ℕ) (f : ℕ → Bool) → Shaped t → Holds t (told (seen t) h e (those 0 f))
unfolding tell those
telling-starts t h e f s = record { is = refl; shaped = s }

module _ (s : Tables) (h e : ℕ) (f : ℕ → Bool) (a : List (List ℕ)) (k : ℕ) (w : Holds a (told s h e (those k f))) where
  pub telling-hit : (b : List (List ℕ)) → f k ≡ true → Holds b (told_one (seen a) h e k)
      → Holds b (told s h e (those (k + 1) f))
  telling-hit b y g = rw (those-hit f k y) (record {
    is = g.is ∙ ap (λ (z : Tables). told_one z h e k) w.is
        ∙ ap (λ (cs : List (List Counter)). record { harts = s.harts; counters = cs })
        (sym (tell-more h e k (those k f) s.counters));
    shaped = g.shaped;
  })

  pub telling-miss : f k ≡ false → Holds a (told s h e (those (k + 1) f))
  telling-miss n = rw (those-miss f k n) w
