-- Ascending lists of numbers: the sets of `Sets` are ascending, and two ascending lists with the same members are
-- equal.
-- So a set that a loop makes hart by hart is the set that document 01 names bit by bit.
use mathlib.Core.Bool.{◌||◌, not, Bool, true, ◌&&◌}
use mathlib.Core.Path.{◌≡◌, refl, sym, ap₂, subst}
use mathlib.Core.List.{List, [], ◌∷◌, ◌++◌, map, append-nil, Memᴰ}
use mathlib.Core.Logic.{⊎_elim}
use Prim.Native.Nat.{ℕ, zero, suc, ◌+◌, ◌-◌, ◌<◌, ◌≤◌, zero-le}
use native.Mathlib.Omega.{arith}
use lib.Dec.{ltb, leb}
use borrow.Author.Tests.{leb-true, ltb-true, le-leb, lt-ltb}
use Rattle.std.specs.Cmp.Derive.{both_true}
use Rattle.std.specs.Cmp.{first_so, second_so, both_ways}
use Rattle.rules.specs.Sets.{every, bit, those, numbers, names, Above, Ascending, keep, all}
use Rattle.rules.proofs.SetLaws.{every-at, every_of, those-in, those-only}
use Rattle.rules.proofs.Logic.{not-or-inv, not-or, if-true, if-false, if-both, by_cases}

-- ----- ascending lists

pub above-weaken : {a b : ℕ} (l : List ℕ) → a ≤ b → Above b l → Above a l
above-weaken [] h u = tt
above-weaken (x ∷ l) h u = (omega (arith, u.0), u.1)

pub above-le : {b i : ℕ} (l : List ℕ) → Above b l → Memᴰ i l → b ≤ i
above-le [] u m = absurd (mathlib.Core.List.Memᴰ.not-nil m)
above-le (x ∷ l) u m =
    ⊎_elim (λ q. omega (arith, u.0, q)) (λ t. omega (arith, u.0, above-le l u.1 t)) (mathlib.Core.List.Memᴰ.cases_cons m)

pub above-snoc : {b : ℕ} (l : List ℕ) (n : ℕ) → Above b l → ((i : ℕ) → Memᴰ i l → i < n) → b ≤ n
    → Above b (l ++ (n ∷ []))
above-snoc [] n u f h = (h, tt)
above-snoc (x ∷ l) n u f h =
    (u.0, above-snoc l n u.1 (λ i m. f i (mathlib.Core.List.Memᴰ.tail m)) (f x (mathlib.Core.List.Memᴰ.head refl)))

-- two ascending lists with the same members are equal
pub ascending-same : (b : ℕ) (l m : List ℕ) → Above b l → Above b m
    → ((i : ℕ) → Memᴰ i l → Memᴰ i m) → ((i : ℕ) → Memᴰ i m → Memᴰ i l) → l ≡ m
ascending-same b [] [] u v f g = refl
ascending-same b [] (y ∷ m) u v f g = absurd (mathlib.Core.List.Memᴰ.not-nil (g y (mathlib.Core.List.Memᴰ.head refl)))
ascending-same b (x ∷ l) [] u v f g = absurd (mathlib.Core.List.Memᴰ.not-nil (f x (mathlib.Core.List.Memᴰ.head refl)))
ascending-same b (x ∷ l) (y ∷ m) u v f g =
    let low : y ≤ x =
    ⊎_elim (λ (q : x ≡ y). omega arith) (λ t. omega (arith, above-le m v.1 t))
    (mathlib.Core.List.Memᴰ.cases_cons (f x (mathlib.Core.List.Memᴰ.head refl))) in
    let high : x ≤ y =
    ⊎_elim (λ (q : y ≡ x). omega arith) (λ t. omega (arith, above-le l u.1 t))
    (mathlib.Core.List.Memᴰ.cases_cons (g y (mathlib.Core.List.Memᴰ.head refl))) in
    let xy : x ≡ y = omega arith in
    ap₂ (λ (a : ℕ) (r : List ℕ). a ∷ r) xy
    (ascending-same (suc x) l m u.1 (subst (λ (k : ℕ). Above (suc k) m) (sym xy) v.1)
    (λ i t. ⊎_elim (λ (q : i ≡ y). absurd (omega (arith, above-le l u.1 t))) (λ r. r)
    (mathlib.Core.List.Memᴰ.cases_cons (f i (mathlib.Core.List.Memᴰ.tail t))))
    (λ i t. ⊎_elim (λ (q : i ≡ x). absurd (omega (arith, above-le m v.1 t))) (λ r. r)
    (mathlib.Core.List.Memᴰ.cases_cons (g i (mathlib.Core.List.Memᴰ.tail t)))))

-- ----- the sets are ascending

pub those-ascending : (n : ℕ) (f : ℕ → Bool) → Ascending (those n f)
unfolding those
those-ascending zero f = tt
those-ascending (suc n) f =
    if-both (λ (l : List ℕ). Ascending (those n f ++ l)) (f n)
    (λ e. above-snoc (those n f) n (those-ascending n f) (λ i m. (those-only f n i m).0) zero-le)
    (λ e. rw append-nil (those-ascending n f))

shift-ascending : (base b : ℕ) (l : List ℕ) → Above b l → Above (base + b) (map (λ (i : ℕ). base + i) l)
shift-ascending base b [] u = tt
shift-ascending base b (x ∷ l) u = (
  omega (arith, u.0),
  subst (λ (k : ℕ). Above k (map (λ (i : ℕ). base + i) l)) (omega arith)
      (shift-ascending base (suc x) l u.1),
)

pub numbers-ascending : (w base m : ℕ) → Ascending (numbers w base m)
unfolding numbers
numbers-ascending w base m = above-weaken (numbers w base m) zero-le
    (shift-ascending base 0 (those w (bit m)) (those-ascending w (bit m)))

pub keep-ascending : (f : ℕ → Bool) (b : ℕ) (l : List ℕ) → Above b l → Above b (keep f l)
unfolding keep
keep-ascending f b [] u = tt
keep-ascending f b (x ∷ l) u =
    if-both (Above b) (f x)
    (λ e. (u.0, keep-ascending f (suc x) l u.1))
    (λ e. above-weaken (keep f l) (omega (arith, u.0)) (keep-ascending f (suc x) l u.1))

-- ----- their members

pub keep-in : {A : Type 0} (f : A → Bool) {i : A} (l : List A) → Memᴰ i l → f i ≡ true → Memᴰ i (keep f l)
unfolding keep
keep-in f [] m e = absurd (mathlib.Core.List.Memᴰ.not-nil m)
keep-in {A} f {i} (x ∷ l) m e =
    ⊎_elim
    (λ q. rw (if-true _ _ (subst (λ (k : A). f k ≡ true) q e)) (mathlib.Core.List.Memᴰ.head q))
    (λ t. if-both (Memᴰ i) (f x) (λ _. mathlib.Core.List.Memᴰ.tail (keep-in f l t e)) (λ _. keep-in f l t e))
    (mathlib.Core.List.Memᴰ.cases_cons m)

pub keep-only : {A : Type 0} (f : A → Bool) {i : A} (l : List A) → Memᴰ i (keep f l) → Memᴰ i l × (f i ≡ true)
unfolding keep
keep-only f [] m = absurd (mathlib.Core.List.Memᴰ.not-nil m)
keep-only {A} f {i} (x ∷ l) m =
    let later : Memᴰ i (keep f l) → Memᴰ i (x ∷ l) × (f i ≡ true) =
    λ t. let r = keep-only f l t in (mathlib.Core.List.Memᴰ.tail r.0, r.1) in
    by_cases (f x)
    (λ e. ⊎_elim (λ q. (mathlib.Core.List.Memᴰ.head q, subst (λ (k : A). f k ≡ true) (sym q) e)) later
    (mathlib.Core.List.Memᴰ.cases_cons (rw (if-true _ _ e) at m)))
    (λ e. later (rw (if-false _ _ e) at m))

pub all_in : {A : Type 0} (f : A → Bool) {i : A} (l : List A) → all f l ≡ true → Memᴰ i l → f i ≡ true
unfolding all
all_in f [] a m = absurd (mathlib.Core.List.Memᴰ.not-nil m)
all_in {A} f (x ∷ l) a m =
    ⊎_elim (λ q. subst (λ (k : A). f k ≡ true) (sym q) (first_so (f x) _ a)) (λ t. all_in f l (second_so (f x) _ a) t)
    (mathlib.Core.List.Memᴰ.cases_cons m)

pub all_of : {A : Type 0} (f : A → Bool) (l : List A) → ((i : A) → Memᴰ i l → f i ≡ true) → all f l ≡ true
unfolding all
all_of f [] h = refl
all_of f (x ∷ l) h =
    both_true (h x (mathlib.Core.List.Memᴰ.head refl)) (all_of f l (λ i m. h i (mathlib.Core.List.Memᴰ.tail m)))

-- a number that a mask selects is base + i for a set bit i, summed without wrapping
pub numbers-in : (w base m i : ℕ) → i < w → bit m i ≡ true → Memᴰ (base + i) (numbers w base m)
unfolding numbers
numbers-in w base m i l e = mathlib.Core.List.Memᴰ.map (λ (k : ℕ). base + k) (those-in (bit m) w i l e)

pub numbers-only : (w base m h : ℕ) → Memᴰ h (numbers w base m)
    → (i : ℕ) × (i < w) × (bit m i ≡ true) × (h ≡ base + i)
unfolding numbers
numbers-only w base m h t =
    let r = mathlib.Core.List.Memᴰ.of_map (λ (k : ℕ). base + k) (those w (bit m)) t in
    let s = those-only (bit m) w r.0 r.1 in
    (r.0, s.0, s.1, sym r.2)

-- ----- number by number

pub names_of : (w base m i : ℕ) → i < w → bit m i ≡ true → names w base m (base + i) ≡ true
unfolding names
names_of w base m i l e =
    let back : base + i - base ≡ i = omega arith in
    both_true (le-leb base (base + i) (omega arith)) (rw back (both_true (lt-ltb i w l) e))

pub names-inv : (w base m h : ℕ) → names w base m h ≡ true → Memᴰ h (numbers w base m)
unfolding names
names-inv w base m h e =
    let low : base ≤ h = leb-true base h (first_so _ _ e) in
    let r = second_so (leb base h) (ltb (h - base) w && bit m (h - base)) e in
    let sum : base + (h - base) ≡ h = omega arith in
    subst (λ (k : ℕ). Memᴰ k (numbers w base m)) sum
    (numbers-in w base m (h - base) (ltb-true (h - base) w (first_so _ _ r)) (second_so (ltb (h - base) w) _ r))

-- where each number of a mask is below n, the mask's numbers are those below n that it names
pub numbers-those : (w base m n : ℕ) → ((h : ℕ) → Memᴰ h (numbers w base m) → h < n)
    → numbers w base m ≡ those n (names w base m)
numbers-those w base m n small =
    ascending-same 0 (numbers w base m) (those n (names w base m)) (numbers-ascending w base m)
    (those-ascending n (names w base m))
    (λ h t.
    let r = numbers-only w base m h t in
    those-in (names w base m) n h (small h t)
    (subst (λ (k : ℕ). names w base m k ≡ true) (sym r.3) (names_of w base m r.0 r.1 r.2)))
    (λ h t. names-inv w base m h (those-only (names w base m) n h t).1)

-- to keep some of those is to ask both tests at once
pub keep-those : (f g : ℕ → Bool) (n : ℕ) → keep f (those n g) ≡ those n (λ h. g h && f h)
keep-those f g n =
    ascending-same 0 (keep f (those n g)) (those n (λ h. g h && f h))
    (keep-ascending f 0 (those n g) (those-ascending n g)) (those-ascending n _)
    (λ h t.
    let r = keep-only f (those n g) t in
    let s = those-only g n h r.0 in
    those-in (λ k. g k && f k) n h s.0 (both_true s.1 r.1))
    (λ h t.
    let r = those-only (λ k. g k && f k) n h t in
    keep-in f (those n g) (those-in g n h r.0 (first_so _ _ r.1)) (second_so (g h) (f h) r.1))

-- to ask all of those is to ask every number that is one of them
pub all-those : (f g : ℕ → Bool) (n : ℕ) → all f (those n g) ≡ every n (λ h. not (g h) || f h)
all-those f g n =
    both_ways (all f (those n g)) (every n (λ h. not (g h) || f h))
    (λ a. every_of (λ h. not (g h) || f h) n
    (λ h l. not-or (g h) (f h) (λ y. all_in f (those n g) a (those-in g n h l y))))
    (λ a. all_of f (those n g)
    (λ h t.
    let r = those-only g n h t in
    not-or-inv (g h) (f h) (every-at (λ k. not (g k) || f k) n h r.0 a) r.1))
