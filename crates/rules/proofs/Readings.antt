-- What follows of the rows of `Lives`: the events so far settle how they are read, and which events fit next.
-- The places below serve the proofs alone: no statement of demand 3 names them.
use mathlib.Core.Path.{◌≡◌, refl, ap, ap₂, sym, ◌∙◌, subst}
use mathlib.Core.List.{List, [], ◌∷◌, ◌++◌}
use Prim.Native.Nat.{ℕ, zero, suc, ◌≤◌}
use native.Mathlib.Omega.{arith}
use Rattle.rules.specs.Lives.{Event, start, stop, suspend, done, wake, Mark, ◌named◌, Round, sleep, rounds}
use Rattle.rules.specs.Lives.{Life, row, events, last, Reading, placed}
use Rattle.rules.specs.Names.{STARTED, STOPPED, START_PENDING, STOP_PENDING, SUSPENDED, SUSPEND_PENDING}
use Rattle.rules.specs.Names.{RESUME_PENDING}

pub data Place : Type 0 where
  off starting up falling asleep waking stopping : Place

abbrev pub name : Place → ℕ
name off = STOPPED
name starting = START_PENDING
name up = STARTED
name falling = SUSPEND_PENDING
name asleep = SUSPENDED
name waking = RESUME_PENDING
name stopping = STOP_PENDING

-- each number 0 to 6 names one place, and no other
abbrev place_of : ℕ → Place
place_of zero = up
place_of (suc zero) = off
place_of (suc (suc zero)) = starting
place_of (suc (suc (suc zero))) = stopping
place_of (suc (suc (suc (suc zero)))) = asleep
place_of (suc (suc (suc (suc (suc zero))))) = falling
place_of (suc (suc (suc (suc (suc (suc n)))))) = waking

place_of-name : (x : Place) → place_of (name x) ≡ x
place_of-name off = refl
place_of-name starting = refl
place_of-name up = refl
place_of-name falling = refl
place_of-name asleep = refl
place_of-name waking = refl
place_of-name stopping = refl

pub one_name : (x y : Place) → name x ≡ name y → x ≡ y
one_name x y e = sym (place_of-name x) ∙ ap place_of e ∙ place_of-name y

pub name-le : (x : Place) → name x ≤ RESUME_PENDING
name-le off = omega arith
name-le starting = omega arith
name-le up = omega arith
name-le falling = omega arith
name-le asleep = omega arith
name-le waking = omega arith
name-le stopping = omega arith

pub named-place : (n : ℕ) → n ≤ RESUME_PENDING → (x : Place) × (n ≡ name x)
named-place zero l = (up, refl)
named-place (suc zero) l = (off, refl)
named-place (suc (suc zero)) l = (starting, refl)
named-place (suc (suc (suc zero))) l = (stopping, refl)
named-place (suc (suc (suc (suc zero)))) l = (asleep, refl)
named-place (suc (suc (suc (suc (suc zero))))) l = (falling, refl)
named-place (suc (suc (suc (suc (suc (suc zero)))))) l = (waking, refl)
named-place (suc (suc (suc (suc (suc (suc (suc n))))))) l = absurd (omega arith)

pub data Goes : Place → Event → Place → Type 0 where
  g-start : Goes off start starting
  g-started : Goes starting done up
  g-suspend : Goes up suspend falling
  g-suspended : Goes falling done asleep
  g-wake : Goes asleep wake waking
  g-woken : Goes waking done up
  g-stop : Goes up stop stopping
  g-stopped : Goes stopping done off

pub data Run : Place → List Mark → Place → Type 0 where
  here : {p : Place} → Run p [] p
  next : {p q r : Place} {e : Event} {ms : List Mark} → Goes p e q → Run q ms r → Run p (e named name q ∷ ms) r

-- every row runs
rounds-run : (rs : List Round) {k : List Mark} {r : Place} → Run up k r → Run up (rounds rs k) r
rounds-run [] k = k
rounds-run (sleep ∷ rs) k = next g-suspend (next g-suspended (next g-wake (next g-woken (rounds-run rs k))))

row-run : (ls : List Life) → Run off (row ls) off
row-run [] = here
row-run (l ∷ ls) = next g-start (next g-started (rounds-run l (next g-stop (next g-stopped (row-run ls)))))

front-run : {p r : Place} (a b : List Mark) → Run p (a ++ b) r → (q : Place) × Run p a q
front-run {p} [] b u = (p, here)
front-run (m ∷ a) b (next g u) = let v = front-run a b u in (v.0, next g v.1)

-- a next is settled by the place and the event
goes_one : {p q q' : Place} {e : Event} → Goes p e q → Goes p e q' → q ≡ q'
goes_one g-start g-start = refl
goes_one g-started g-started = refl
goes_one g-suspend g-suspend = refl
goes_one g-suspended g-suspended = refl
goes_one g-wake g-wake = refl
goes_one g-woken g-woken = refl
goes_one g-stop g-stop = refl
goes_one g-stopped g-stopped = refl

-- so a run is settled by its place and its events
pub run-one : {p q q' : Place} {ms ms' : List Mark} → Run p ms q → Run p ms' q' → events ms ≡ events ms'
    → (ms ≡ ms') × (q ≡ q')
run-one here here e = (refl, refl)
run-one here (next g v) e = (cc, cc)
run-one (next g u) here e = (cc, cc)
run-one {p} {q'} (next {q = a} {e = x} {ms = us} g u) (next {q = b} {e = y} {ms = vs} h v) e =
    let xy : x ≡ y = cc in
    let tails : events us ≡ events vs = cc in
    let ab : a ≡ b = goes_one g (subst (λ (z : Event). Goes p z b) (sym xy) h) in
    let w = run-one u (subst (λ (z : Place). Run z vs q') (sym ab) v) tails in
    let same : us ≡ vs = w.0 in
    (cc, w.1)

-- the status that a run's end names
pub run-last : {p q : Place} {ms : List Mark} → Run p ms q → last (name p) ms ≡ name q
run-last here = refl
run-last (next g u) = run-last u

-- what may yet come at a place
data Rest : Place → List Mark → Type 0 where
  r-off : (ls : List Life) → Rest off (row ls)
  r-up : (rs : List Round) (ls : List Life)
      → Rest up (rounds rs (stop named STOP_PENDING ∷ done named STOPPED ∷ row ls))
  r-starting : {k : List Mark} → Rest up k → Rest starting (done named STARTED ∷ k)
  r-falling : {k : List Mark} → Rest up k
      → Rest falling (done named SUSPENDED ∷ wake named RESUME_PENDING ∷ done named STARTED ∷ k)
  r-asleep : {k : List Mark} → Rest up k → Rest asleep (wake named RESUME_PENDING ∷ done named STARTED ∷ k)
  r-waking : {k : List Mark} → Rest up k → Rest waking (done named STARTED ∷ k)
  r-stopping : (ls : List Life) → Rest stopping (done named STOPPED ∷ row ls)

goes-rest : {p q : Place} {e : Event} {k : List Mark} → Goes p e q → Rest q k → Rest p (e named name q ∷ k)
goes-rest g-start (r-starting (r-up rs ls)) = r-off (rs ∷ ls)
goes-rest g-started (r-up rs ls) = r-starting (r-up rs ls)
goes-rest g-suspend (r-falling (r-up rs ls)) = r-up (sleep ∷ rs) ls
goes-rest g-suspended (r-asleep u) = r-falling u
goes-rest g-wake (r-waking u) = r-asleep u
goes-rest g-woken (r-up rs ls) = r-waking (r-up rs ls)
goes-rest g-stop (r-stopping ls) = r-up [] ls
goes-rest g-stopped (r-off ls) = r-stopping ls

some-rest : (p : Place) → (k : List Mark) × Rest p k
some-rest off = (_, r-off [])
some-rest starting = (_, r-starting (r-up [] []))
some-rest up = (_, r-up [] [])
some-rest falling = (_, r-falling (r-up [] []))
some-rest asleep = (_, r-asleep (r-up [] []))
some-rest waking = (_, r-waking (r-up [] []))
some-rest stopping = (_, r-stopping [])

-- every run is the front of what may come
run-front : {p q : Place} {ms : List Mark} → Run p ms q → (back : List Mark) × Rest p (ms ++ back)
run-front {p} here = some-rest p
run-front (next g u) = let v = run-front u in (v.0, goes-rest g v.1)

off-row : {k : List Mark} → Rest off k → (ls : List Life) × (k ≡ row ls)
off-row (r-off ls) = (ls, refl)

-- a reading, told by a run; and back
pub read-run : {es : List Event} (r : Reading es) → (p : Place) × Run off r.front p × (placed r ≡ name p)
read-run r =
    let v = front-run r.front r.back
    (subst (λ (z : List Mark). Run off z off) (sym r.whole) (row-run r.lives)) in
    (v.0, v.1, run-last v.1)

pub run-read : {p : Place} {ms : List Mark} → Run off ms p → Reading (events ms)
run-read {ms} u = let v = run-front u in let w = off-row v.1 in
    record { lives = w.0; front = ms; back = v.0; whole = w.1; said = refl }

-- No row can be read in two ways: the events settle the whole front, statuses and all.
pub one-reading : {es : List Event} (r s : Reading es) → r.front ≡ s.front
one-reading r s = (run-one (read-run r).1 (read-run s).1 (r.said ∙ sym s.said)).0

-- Nor can a whole row: its events settle its lives and their rounds.
rounds-one : (rs rs' : List Round) (k k' : List Mark)
    → events (rounds rs (stop named STOP_PENDING ∷ done named STOPPED ∷ k)) ≡ events
    (rounds rs' (stop named STOP_PENDING ∷ done named STOPPED ∷ k'))
    → (rs ≡ rs') × (events k ≡ events k')
rounds-one [] [] k k' e = (refl, cc)
rounds-one [] (sleep ∷ rs') k k' e = (cc, cc)
rounds-one (sleep ∷ rs) [] k k' e = (cc, cc)
rounds-one (sleep ∷ rs) (sleep ∷ rs') k k' e = let v = rounds-one rs rs' k k' cc in
    (ap (λ (r : List Round). sleep ∷ r) v.0, v.1)

pub one-row : (ls ls' : List Life) → events (row ls) ≡ events (row ls') → ls ≡ ls'
one-row [] [] e = refl
one-row [] (l ∷ ls') e = cc
one-row (l ∷ ls) [] e = cc
one-row (l ∷ ls) (l' ∷ ls') e =
    let v = rounds-one l l' (row ls) (row ls') cc in
    ap₂ {C = List Life} (λ a b. a ∷ b) v.0 (one-row ls ls' v.1)

-- an event fits after a run where the place lets it go
pub run-next : {p q q' : Place} {ms ms' : List Mark} {e : Event} → Run p ms q → Run p ms' q'
    → events ms' ≡ events ms ++ (e ∷ []) → (r : Place) × Goes q e r
run-next here here i = let z : ◌≡◌ {A = ℕ} 0 1 = cc in absurd (omega arith)
run-next {p} {e} here (next {q = r} {e = x} g u) i = let xe : x ≡ e = cc in (r, subst (λ (z : Event). Goes p z r) xe g)
run-next (next g u) here i = let z : ◌≡◌ {A = ℕ} 0 1 = cc in absurd (omega arith)
run-next {p} {q'} {e} (next {q = a} {e = x} {ms = us} g u) (next {q = b} {e = y} {ms = vs} h v) i =
    let xy : x ≡ y = cc in
    let tails : events vs ≡ events us ++ (e ∷ []) = cc in
    let ab : a ≡ b = goes_one g (subst (λ (z : Event). Goes p z b) (sym xy) h) in
    run-next u (subst (λ (z : Place). Run z vs q') (sym ab) v) tails

-- that the grammar is neither empty nor everything
some-reading : Reading (start ∷ done ∷ suspend ∷ [])
some-reading = run-read (next g-start (next g-started (next g-suspend here)))

no-reading : ¬ Reading (done ∷ [])
no-reading r = let v = read-run r in go v.1 r.said
  where
    go : {ms : List Mark} {p : Place} → Run off ms p → events ms ≡ done ∷ [] → ⊥
    go here e = let z : ◌≡◌ {A = ℕ} 0 1 = cc in omega arith
    go (next g-start u) e = let z : ◌≡◌ {A = ℕ} 0 1 = cc in omega arith
