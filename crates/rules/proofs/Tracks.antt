-- The row of one hart after any history, told by a run of its events, and that its record stands where the run ends.
use mathlib.Core.Path.{◌≡◌, refl, ap, sym, ◌∙◌, subst}
use mathlib.Core.Bool.{true, false}
use mathlib.Core.List.{List, [], ◌∷◌, ◌++◌, append_assoc, append-nil}
use Prim.Native.Nat.{ℕ, ◌<◌}
use lib.Dec.{eqb}
use lib.ListN.{set, length, replicate, length-replicate}
use lib.Seq.{get_or-set_same, get_or-set_other}
use borrow.Author.Tests.{eqb-true, eqb-false}
use Rattle.rules.specs.Choice.{when◌then◌else◌}
use Rattle.rules.specs.Names.{STARTED, STOPPED, harts}
use Rattle.rules.specs.Platform.{enabled}
use Rattle.rules.specs.Tables.{Tables, idle, hart_at, fresh, TablesWellFormed}
use Rattle.rules.specs.Replies.{Reply, accepted, commit}
use Rattle.rules.specs.Machine.{Operation, hart_of, after, after_all}
use Rattle.rules.specs.Lives.{Event, Mark, ◌named◌, events}
use Rattle.rules.specs.Rows.{InRow, of_hart, adds, row_of, prior}
use Rattle.rules.specs.declared.platform.Platform.{Platform}
use Rattle.rules.specs.declared.records.Hart.{Hart}
use Rattle.rules.proofs.Logic.{if-both}
use Rattle.rules.proofs.Lists.{get_or-repeat}
use Rattle.rules.proofs.WellFormed.{enabled_under}
use Rattle.rules.proofs.Readings.{Place, off, up, name, Goes, g-start, g-started, Run, here, next}
use Rattle.rules.proofs.Effects.{Stands, Effect, still, moved, Lawful, l-refused, l-failed, l-did}
use Rattle.rules.proofs.Effects.{reply-lawful}
use Rattle.rules.proofs.Kept.{after_kept}

-- after some events es of hart h, its record in hs stands where a run of these events ends
pub record Tracks (h : ℕ) (hs : List Hart) (es : List Event) : Type 0 where
  pub place : Place
  pub marks : List Mark
  pub run : Run off marks place
  pub said : events marks ≡ es
  pub stands : Stands place (hart_at hs h)

run-snoc : {a b c : Place} {ms : List Mark} {e : Event} → Run a ms b → Goes b e c
    → Run a (ms ++ (e named name c ∷ [])) c
run-snoc here g = next g here
run-snoc (next f u) g = next f (run-snoc u g)

events-append : (a b : List Mark) → events (a ++ b) ≡ events a ++ events b
events-append [] b = refl
events-append (m ∷ a) b = ap (λ (r : List Event). m.event ∷ r) (events-append a b)

hart-put-same : (hs : List Hart) (h : ℕ) (x : Hart) → h < length hs → hart_at (set hs h x) h ≡ x
unfolding hart_at
hart-put-same hs h x l = get_or-set_same hs h x (idle STOPPED) l

hart-put-other : (hs : List Hart) (h k : ℕ) (x : Hart) → (k ≡ h → ⊥) → hart_at (set hs h x) k ≡ hart_at hs k
unfolding hart_at
hart-put-other hs h k x n = get_or-set_other hs h k x (idle STOPPED) n

module _ (p : Platform) (h : ℕ) where
  track-effect : (hs : List Hart) → length hs ≡ harts → (es : List Event) → Tracks h hs es
      → {rs : List InRow} {after : List Hart} → Effect p hs rs after → Tracks h after (es ++ of_hart h rs)
  track-effect hs long es T still = rw append-nil T
  track-effect hs long es T (moved {k} {e} x on lead) =
      if-both (λ (l : List Event). Tracks h (set hs k x) (es ++ l)) (eqb h k) hit miss
    where
      hit : eqb h k ≡ true → Tracks h (set hs k x) (es ++ (e ∷ []))
      hit i =
          let hk : h ≡ k = eqb-true h k i in
          let to = lead T.place (subst (λ (j : ℕ). Stands T.place (hart_at hs j)) hk T.stands) in
          record {
            place = to.0;
            marks = T.marks ++ (e named name to.0 ∷ []);
            run = run-snoc T.run to.1;
            said = events-append T.marks _ ∙ ap (λ (l : List Event). l ++ (e ∷ [])) T.said;
            stands = subst (Stands to.0)
                (sym (ap (hart_at (set hs k x)) hk ∙ hart-put-same hs k x (rw long (enabled_under p k on)))) to.2;
          }

      miss : eqb h k ≡ false → Tracks h (set hs k x) (es ++ [])
      miss i = rw append-nil (record {
        place = T.place;
        marks = T.marks;
        run = T.run;
        said = T.said;
        stands = subst (Stands T.place) (sym (hart-put-other hs k h x (eqb-false h k i))) T.stands;
      })

  track-lawful : (t : Tables) (j : ℕ) → length t.harts ≡ harts → (es : List Event) → Tracks h t.harts es
      → {rs : List InRow} {r : Reply} → Lawful p t.harts rs r
      → Tracks h (commit t j r).harts (es ++ (when accepted r then of_hart h rs else []))
  unfolding when◌then◌else◌ commit
  track-lawful t j long es T l-refused = rw append-nil T
  track-lawful t j long es T l-failed = rw append-nil T
  track-lawful t j long es T (l-did e) = track-effect t.harts long es T e

  pub track : (t : Tables) → TablesWellFormed p t → (es : List Event) → Tracks h t.harts es → (op : Operation)
      → Tracks h (after p t op).harts (es ++ adds p h t op)
  unfolding after adds
  track t w es T op = track-lawful t (hart_of op) w.records es T (reply-lawful p t op)

  pub track-all : (t : Tables) → TablesWellFormed p t → (es : List Event) → Tracks h t.harts es
      → (ops : List Operation)
      → Tracks h (after_all p t ops).harts (es ++ row_of p h t ops)
  track-all t w es T [] = rw append-nil T
  track-all t w es T (op ∷ ops) =
      rw (← append_assoc es (adds p h t op) (row_of p h (after p t op) ops))
      (track-all (after p t op) (after_kept p t op w) (es ++ adds p h t op) (track t w es T op) ops)

  pub track-fresh : enabled p p.boot ≡ true → Tracks h (fresh p).harts (prior p h)
  unfolding fresh prior
  track-fresh on =
      if-both (Tracks h (set (replicate harts (idle STOPPED)) p.boot (idle STARTED))) (eqb h p.boot)
      (λ e. record {
        place = up;
        marks = _;
        run = next g-start (next g-started here);
        said = refl;
        stands = subst (Stands up)
            (sym (ap (hart_at (fresh p).harts) (eqb-true h p.boot e)
            ∙ hart-put-same (replicate harts (idle STOPPED)) p.boot (idle STARTED)
            (rw length-replicate (enabled_under p p.boot on)))) (record { state = refl });
      })
      (λ e. record {
        place = off;
        marks = [];
        run = here;
        said = refl;
        stands = subst (Stands off) (sym (hart-put-other _ _ _ _ (eqb-false h p.boot e) ∙ idle-repeat h))
            (record { state = refl });
      })
    where
      idle-repeat : (h : ℕ) → hart_at (replicate harts (idle STOPPED)) h ≡ idle STOPPED
      idle-repeat h = unfold hart_at in get_or-repeat harts h (idle STOPPED)
