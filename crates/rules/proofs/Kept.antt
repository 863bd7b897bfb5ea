-- Fresh tables are well formed, and every operation keeps tables well formed.
use mathlib.Core.Path.{◌≡◌, refl, ap, sym, ◌∙◌, subst}
use mathlib.Core.Bool.{true, false}
use mathlib.Core.List.{List, [], ◌∷◌, map}
use Prim.Native.Nat.{ℕ, ◌+◌, ◌<◌, zero-le}
use native.Mathlib.Omega.{arith}
use Rattle.rules.specs.declared.answers.Error.{Error}
use Rattle.rules.specs.declared.answers.Refusal.{Refusal}
use lib.Dec.{eqb}
use lib.ListN.{get_or, set, length, length-set, replicate, length-replicate, get_or-replicate}
use borrow.Author.Tests.{not-false}
use Rattle.rules.specs.Names.{harts, counters, STARTED, STOPPED}
use Rattle.rules.specs.Platform.{enabled}
use Rattle.rules.specs.Tables.{Tables, idle, blank, hart_at, own_at, counter_at, fresh, HartFine, OwnFine}
use Rattle.rules.specs.Tables.{TablesWellFormed}
use Rattle.rules.specs.Replies.{view, Reply, refused, failed, did, counted, count_at, tell_one, tell, commit}
use Rattle.rules.specs.Machine.{Operation, hart_of, enabled_reply, checked_reply, reply, after, after_all}
use Rattle.rules.specs.Rows.{InRow, event_of}
use Rattle.rules.specs.declared.platform.Platform.{Platform}
use Rattle.rules.specs.declared.records.Hart.{Hart}
use Rattle.rules.specs.declared.records.Counter.{Counter}
use Rattle.rules.proofs.Logic.{if-both, clash}
use Rattle.rules.proofs.Lists.{set-either, get_or-repeat}
use Rattle.rules.proofs.WellFormed.{enabled_under, blank-fine}
use Rattle.rules.proofs.Readings.{name-le, named-place}
use Rattle.rules.proofs.Effects.{Effect, still, moved, Lawful, l-did, reply-lawful}
use Rattle.rules.proofs.Own.{counted-blank, counted-at, event-fine, ReplyFine, r-did, enabled-fine}

module _ (p : Platform) where
  abbrev Rows : List (List Counter) → Type 0
  Rows t = (length t ≡ harts) × ((h : ℕ) → h < harts → OwnFine p h (get_or t h []))

  set-rows : (t : List (List Counter)) (h : ℕ) (cs : List Counter) → (h < harts → OwnFine p h cs) → Rows t
      → Rows (set t h cs)
  set-rows t h cs ok r = (
    length-set t h cs ∙ r.0,
    λ j l. set-either (OwnFine p j) [] t h j cs
        (λ e. subst (λ (k : ℕ). OwnFine p k cs) (sym e) (ok (subst (λ (k : ℕ). k < harts) e l))) (r.1 j l),
  )

  counted-own : (h e : ℕ) (cs : List Counter) → OwnFine p h cs → OwnFine p h (map (counted e) cs)
  counted-own h e cs f =
      let g = event-fine e cs (f.eight, f.fine) in
      record {
        eight = g.0;
        fine = g.1;
        unused = λ off i. counted-at e cs i ∙ ap (counted e) (f.unused off i)
            ∙ counted-blank e;
      }

  count-rows : (h e : ℕ) (t : List (List Counter)) → Rows t → Rows (count_at h e t)
  unfolding count_at
  count-rows h e t r = set-rows t h (map (counted e) (get_or t h [])) (λ l. counted-own h e (get_or t h []) (r.1 h l)) r

  tell-rows : (h e : ℕ) (ks : List ℕ) (t : List (List Counter)) → Rows t → Rows (tell h e ks t)
  unfolding tell tell_one
  tell-rows h e [] t r = r
  tell-rows h e (k ∷ ks) t r = tell-rows h e ks (tell_one h e k t)
      (if-both Rows (eqb k h) (λ _. r) (λ _. count-rows k (e + 1) (count_at h e t) (count-rows h e t r)))

  effect-fine : (hs : List Hart) → length hs ≡ harts → ((h : ℕ) → h < harts → HartFine p h (hart_at hs h))
      → {es : List InRow} {after : List Hart} → Effect p hs es after
      → (length after ≡ harts) × ((h : ℕ) → h < harts → HartFine p h (hart_at after h))
  unfolding hart_at
  effect-fine hs long f still = (long, f)
  effect-fine hs long f (moved {k} x on lead) =
      let from = named-place (hart_at hs k).state (f k (enabled_under p k on)).state in
      let to = lead from.0 (record { state = from.1 }) in
      let ok : HartFine p k x = record
      { state = rw to.2.state (name-le to.0); unused = λ off. absurd (clash on off) } in (
        length-set hs k x ∙ long,
        λ j l. set-either (HartFine p j) (idle STOPPED) hs k j x
            (λ e. subst (λ (i : ℕ). HartFine p i x) (sym e) ok) (f j l),
      )

  commit-kept : (t : Tables) (h : ℕ) → enabled p h ≡ true → TablesWellFormed p t
      → {es : List InRow} {ks : List Refusal} {xs : List Error} (r : Reply)
      → Lawful p t.harts es r → ReplyFine ks xs r → TablesWellFormed p (commit t h r)
  unfolding commit own_at
  commit-kept t h on w (refused k) e f = w
  commit-kept t h on w (failed k) e f = w
  commit-kept t h on w (did d) (l-did e) (r-did f) =
      let hs = effect-fine t.harts w.records w.hart e in
      let own : OwnFine p h d.own = record { eight = f.0; fine = f.1; unused = λ off. absurd (clash on off) } in
      let cs = tell-rows h d.code d.told (set t.counters h d.own)
      (set-rows t.counters h d.own (λ _. own) (w.rows, w.own)) in
      record { records = hs.0; rows = cs.0; hart = hs.1; own = cs.1 }

  pub after_kept : (t : Tables) (op : Operation) → TablesWellFormed p t → TablesWellFormed p (after p t op)
  unfolding after reply checked_reply view commit
  after_kept t op w =
      let P : Reply → Type 0 = λ r. Lawful p t.harts (event_of op) r → TablesWellFormed p (commit t (hart_of op) r) in
      if-both P _ (λ _ _. w)
      (λ _. if-both P _ (λ _ _. w)
      (λ _. if-both P _ (λ _ _. w)
      (λ on e.
      let o = not-false _ on in
      let f = w.own (hart_of op) (enabled_under p (hart_of op) o) in
      commit-kept t (hart_of op) o w (enabled_reply p (view t (hart_of op)) op) e
      (enabled-fine p (view t (hart_of op)) op (f.eight, f.fine)))))
      (reply-lawful p t op)

  pub all-kept : (t : Tables) (ops : List Operation) → TablesWellFormed p t → TablesWellFormed p (after_all p t ops)
  all-kept t [] w = w
  all-kept t (op ∷ ops) w = all-kept (after p t op) ops (after_kept t op w)

  -- ----- fresh tables

  pub fresh-fine : enabled p p.boot ≡ true → TablesWellFormed p (fresh p)
  unfolding fresh hart_at own_at counter_at
  fresh-fine on = record {
    records = simp (length-set, length-replicate);
    rows = length-replicate harts (replicate counters blank);
    hart = λ h l.
        set-either (HartFine p h) (idle STOPPED) (replicate harts (idle STOPPED)) p.boot h (idle STARTED)
        (λ e. record
        { state = zero-le; unused = λ off. absurd (clash on (subst (λ (k : ℕ). enabled p k ≡ false) e off)) })
        (rw (get_or-repeat harts h (idle STOPPED)) (record { state = omega arith; unused = λ _. refl }));
    own = λ h l.
        rw (get_or-replicate harts h (replicate counters blank) [] l)
        (record {
          eight = length-replicate counters blank;
          fine = λ i. rw (get_or-repeat counters i blank) blank-fine;
          unused = λ _ i. get_or-repeat counters i blank;
        });
  }
