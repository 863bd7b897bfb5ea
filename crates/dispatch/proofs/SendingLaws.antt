-- What an interrupt or a fence that was sent has to meet, once the harts that its mask reaches were asked one by one.
use mathlib.Core.Path.{◌≡◌, sym}
use mathlib.Core.Bool.{true, false}
use mathlib.Core.List.{List, map}
use Prim.Native.Nat.{ℕ}
use lib.ListN.{length}
use Rattle.std.specs.Prelude.{Ok}
use Rattle.rules.specs.Answers.{Answer, done}
use Rattle.rules.specs.Masks.{selection_fits, reached, reaches, action_for, send_to}
use Rattle.rules.specs.Names.{harts}
use Rattle.rules.specs.Replies.{view, Plain, plain, words_of, laid}
use Rattle.rules.specs.Sets.{those}
use Rattle.rules.specs.declared.actions.Action.{Action}
use Rattle.rules.specs.declared.platform.Platform.{Platform}
use Rattle.rules.proofs.ReachWays.{reached-by-hart}
use Rattle.tables.specs.Keeping.{seen, Holds}
use Rattle.dispatch.specs.Meets.{Meets, told}
use Rattle.dispatch.proofs.MeetsLaws.{plain-sending}

module _ (p : Platform) (t t' : List (List ℕ)) (m m' : List ℕ) (h mask base : ℕ)
    (fit : selection_fits p mask base ≡ true) where
  abbrev reached_one_by_one : List ℕ
  reached_one_by_one = those harts (reaches p (seen t).harts mask base)

  pub sending-by-hart : (w : Plain) (r : Answer) (like : Action) (c l : ℕ)
      → w ≡ send_to like.kind like.start like.size like.id c (reached p (view (seen t) h).harts mask base)
      → r ≡ Ok (done 0 false l) → l ≡ length reached_one_by_one → Holds t' (told (seen t) h c reached_one_by_one)
      → m' ≡ laid (words_of (map (action_for like.kind like.start like.size like.id) reached_one_by_one)) m
      → Meets t t' m m' h (plain (view (seen t) h) w) r
  unfolding view
  sending-by-hart w r a c l e =
      plain-sending t t' h m m' w r a.kind a.start a.size a.id c l reached_one_by_one
      (rw (sym (reached-by-hart p mask base (seen t).harts fit)) e)
