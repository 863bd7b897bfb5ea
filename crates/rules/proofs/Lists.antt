-- Lists as tables: what stands at a place after a store.
use mathlib.Core.List.{Memᴰ, List, [], ◌∷◌}
use mathlib.Core.Path.{◌≡◌, refl, ap}
use Prim.Native.Nat.{ℕ, zero, suc}
use lib.ListN.{get_or, set, replicate, get_or-replicate, length-replicate, get_or-eq_default}
use Rattle.rules.proofs.Logic.{below_or}

module _ {A : Type 0} where
  -- after a store at i, what stands at j is what was stored, if j is i, or what stood there before
  pub set-either : (Q : A → Type 0) (d : A) (l : List A) (i j : ℕ) (a : A) → (j ≡ i → Q a) → Q (get_or l j d)
      → Q (get_or (set l i a) j d)
  set-either Q d [] i j a f q = q
  set-either Q d (y ∷ l) zero zero a f q = f refl
  set-either Q d (y ∷ l) zero (suc j) a f q = q
  set-either Q d (y ∷ l) (suc i) zero a f q = q
  set-either Q d (y ∷ l) (suc i) (suc j) a f q = set-either Q d l i j a (λ e. f (ap suc e)) q

  -- a repeated element stands at every place, its default past the end included
  pub get_or-repeat : (n j : ℕ) (a : A) → get_or (replicate n a) j a ≡ a
  get_or-repeat n j a = below_or j n (get_or-replicate n j a a)
      (λ g. get_or-eq_default (replicate n a) a (rw (length-replicate n a) g))

  -- the first four of a list stand in it
  pub first-in : {a : A} {l : List A} → Memᴰ a (a ∷ l)
  first-in = Memᴰ.head refl

  pub second-in : {a b : A} {l : List A} → Memᴰ a (b ∷ a ∷ l)
  second-in = Memᴰ.tail first-in

  pub third-in : {a b c : A} {l : List A} → Memᴰ a (b ∷ c ∷ a ∷ l)
  third-in = Memᴰ.tail second-in

  pub fourth-in : {a b c d : A} {l : List A} → Memᴰ a (b ∷ c ∷ d ∷ a ∷ l)
  fourth-in = Memᴰ.tail third-in
