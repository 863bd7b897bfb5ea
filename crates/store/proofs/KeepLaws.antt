-- What a change of the tables leaves: of the same hart, of another, and of a set's match.
use Rattle.std.proofs.Common.{◌≡◌, ℕ, ◌<◌, List, [], length, get_or, sym, ap, ◌∙◌, get_or-set_other, get_or-set_same}
use Rattle.std.specs.Prelude.{Option, Some, None}
use Rattle.std.specs.Option.{option_map}
use lib.ListN.{length-map}
use lib.Seq.{set-get_or}
use Rattle.rules.specs.Names.{harts, counters, STOPPED}
use Rattle.rules.specs.Tables.{Tables, idle, hart_at, own_at}
use Rattle.rules.specs.Counters.{chosen}
use Rattle.rules.specs.Numbers.{CounterId}
use Rattle.rules.specs.declared.records.Hart.{Hart}
use Rattle.rules.specs.declared.records.Counter.{Counter}
use Rattle.store.specs.Rows.{hart_in, counters_in}
use Rattle.store.specs.Sets.{set_of}
use Rattle.store.specs.Seen.{seen, Shaped, size_of, put_hart, put_own}
use Rattle.store.proofs.RowLaws.{eight}
use Rattle.store.proofs.ViewLaws.{own-seen}

-- ----- the shape of what is seen

module _ (t : List (List ℕ)) (k : Shaped t) where
  pub seen-harts : length (seen t).harts ≡ harts
  unfolding seen
  seen-harts = length-map t hart_in ∙ size_of t k

  pub seen-counters : length (seen t).counters ≡ harts
  unfolding seen
  seen-counters = length-map t counters_in ∙ size_of t k

  pub seen-own : (h : ℕ) → h < harts → length (own_at (seen t) h) ≡ counters
  seen-own h l = ap length (own-seen t (size_of t k) h l) ∙ eight (get_or t h [])

-- ----- one hart's record put anew, and its counters

module _ (s : Tables) (h : ℕ) where
  pub hart-put-same : (x : Hart) → h < length s.harts → hart_at (put_hart s h x).harts h ≡ x
  unfolding hart_at
  hart-put-same x l = get_or-set_same s.harts h x (idle STOPPED) l

  pub hart-put-other : (x : Hart) (j : ℕ) → (j ≡ h → ⊥) → hart_at (put_hart s h x).harts j ≡ hart_at s.harts j
  unfolding hart_at
  hart-put-other x j n = get_or-set_other s.harts h j x (idle STOPPED) n

  pub own-put-same : (cs : List Counter) → h < length s.counters → own_at (put_own s h cs) h ≡ cs
  unfolding own_at
  own-put-same cs l = get_or-set_same s.counters h cs [] l

  pub own-put-other : (cs : List Counter) (j : ℕ) → (j ≡ h → ⊥) → own_at (put_own s h cs) j ≡ own_at s j
  unfolding own_at
  own-put-other cs j n = get_or-set_other s.counters h j cs [] n

  -- what was there put back
  pub own-put-back : put_own s h (own_at s h) ≡ s
  unfolding own_at
  own-put-back =
      ap (λ (cs : List (List Counter)). record { harts = s.harts; counters = cs }) (set-get_or s.counters h [])

  pub hart-put-back : put_hart s h (hart_at s.harts h) ≡ s
  unfolding hart_at
  hart-put-back =
      ap (λ (xs : List Hart). record { harts = xs; counters = s.counters }) (set-get_or s.harts h (idle STOPPED))

-- ----- the match of a set: the counter chosen, if any

module _ (flags : ℕ) (cs : List Counter) (s : ℕ) (o : Option CounterId)
    (q : option_map (λ (c : CounterId). c.number) o ≡ chosen flags cs (set_of s)) where
  pub match-some : (i : CounterId) → o ≡ Some i → chosen flags cs (set_of s) ≡ Some i.number
  match-some i e = sym q ∙ ap (option_map (λ (c : CounterId). c.number)) e

  pub match_none : o ≡ None → chosen flags cs (set_of s) ≡ None
  match_none e = sym q ∙ ap (option_map (λ (c : CounterId). c.number)) e
