-- One law for each kind of reply: from what a function did to what it has to meet.
use mathlib.Core.Path.{◌≡◌, refl, sym, ap, ◌∙◌, subst}
use mathlib.Core.Bool.{Bool, true, false}
use mathlib.Core.List.{List, [], map}
use Prim.Native.Nat.{ℕ}
use lib.ListN.{length, set, length-map}
use lib.Seq.{set-get_or}
use Rattle.rules.specs.Tables.{Tables, own_at}
use Rattle.rules.specs.Replies.{View, view, Reply, refused, failed, moves, Plain, fails, gives, plain, tell, commit}
use Rattle.rules.specs.Replies.{answer_of, actions_of, words_of, laid, memory_after}
use Rattle.rules.specs.Masks.{action_for, send_to}
use Rattle.tables.specs.Keeping.{seen, Shaped, Holds, put_hart, put_own}
use Rattle.rules.specs.declared.records.Hart.{Hart}
use Rattle.rules.specs.declared.records.Counter.{Counter}
use Rattle.rules.specs.declared.actions.Action.{Action}
use Rattle.rules.specs.Answers.{Answer, done}
use Rattle.rules.specs.declared.answers.Error.{Error}
use Rattle.rules.specs.declared.answers.Refusal.{Refusal}
use Rattle.rules.specs.declared.answers.Denial.{Denial}
use Rattle.rules.specs.declared.answers.Denial.TheVariants.{Refused, Failed}
use Rattle.std.specs.Prelude.{Result, Ok, Err, Option, Some, None}
use Rattle.rules.specs.Platform.{enabled, HartGiven}
use Rattle.rules.specs.declared.platform.Platform.{Platform}
use Rattle.rules.specs.Numbers.{HartId}
use Rattle.std.proofs.lemmas.Result.{err_from_is_err_and}
use Rattle.std.specs.Result.{IsErr, IsErrAnd}
use Rattle.dispatch.specs.Checks.{ensured}
use Rattle.dispatch.specs.Meets.{Meets, Keeps, told}

-- ----- nothing is altered

module _ (t : List (List ℕ)) (h : ℕ) (s : Shaped t) (r : Answer) where
  pub refusing : {q : Reply} (k : Refusal) → q ≡ refused k → r ≡ Err (Refused k) → Keeps t h q r
  unfolding answer_of commit actions_of words_of laid memory_after
  refusing k e a m = rw (e, a) (record { answer = refl; tables = record { is = refl; shaped = s }; memory = refl })

  pub failing : {q : Reply} (e : Error) → q ≡ failed e → r ≡ Err (Failed e) → Keeps t h q r
  unfolding answer_of commit actions_of words_of laid memory_after
  failing e i a m = rw (i, a) (record { answer = refl; tables = record { is = refl; shaped = s }; memory = refl })

  pub plain-failing : (v : View) (w : Plain) (e : Error) → w ≡ fails e → r ≡ Err (Failed e) → Keeps t h (plain v w) r
  unfolding plain
  plain-failing v w e i a m = failing e (ap (plain v) i) a m

-- ----- what `?` hands back

-- what a `From` makes of an error, as `?` tells it
pub handed : {r : Answer} (d : Denial) → IsErr r × IsErrAnd r (λ x. x ≡ d) → r ≡ Err d
handed {r} d e = let p = err_from_is_err_and r e.1 in p.1 ∙ ap Err p.2

-- the error, or the refusal, that `?` was handed
pub failed-by : {r : Answer} {x : Error} (e : Error) → x ≡ e → IsErr r × IsErrAnd r (λ d. d ≡ Failed x)
    → r ≡ Err (Failed e)
failed-by e q h = handed _ h ∙ ap (λ (y : Error). Err (Failed y)) q

pub refused-by : {r : Answer} {x : Refusal} (k : Refusal) → x ≡ k → IsErr r × IsErrAnd r (λ d. d ≡ Refused x)
    → r ≡ Err (Refused k)
refused-by k q h = handed _ h ∙ ap (λ (y : Refusal). Err (Refused y)) q

-- what a test that was ensured tells, passed or not
module _ {E : Type 0} where
  passed-of : (b : Bool) (e : E) {u : Unit {0}} → ensured b e ≡ Ok u → b ≡ true
  passed-of true e q = refl
  passed-of false e q = cc

  stopped-of : (b : Bool) (e x : E) → ensured b e ≡ Err x → (b ≡ false) × (x ≡ e)
  stopped-of true e x q = cc
  stopped-of false e x q = (refl, cc)

  pub passed : (b : Bool) (e : E) {o : Result (Unit {0}) E} {u : Unit {0}} → o ≡ ensured b e → o ≡ Ok u → b ≡ true
  passed b e is k = passed-of b e (sym is ∙ k)

  pub stopped : (b : Bool) (e : E) {x : E} {o : Result (Unit {0}) E} → o ≡ ensured b e → o ≡ Err x
      → (b ≡ false) × (x ≡ e)
  stopped b e {x} is k = stopped-of b e x (sym is ∙ k)

-- a hart number's hart, or none
pub hart-off : (p : Platform) (h : ℕ) {o : Option HartId} → HartGiven p h o → o ≡ None → enabled p h ≡ false
hart-off p h g e = subst (λ (o : Option HartId). HartGiven p h o) e g

pub hart-on : (p : Platform) (h : ℕ) {o : Option HartId} {x : HartId} → HartGiven p h o → o ≡ Some x
    → (enabled p h ≡ true) × (x.number ≡ h)
hart-on p h g e = subst (λ (o : Option HartId). HartGiven p h o) e g

-- where a `?` goes out, the reply is the error that it hands back
module _ (t : List (List ℕ)) (h : ℕ) (s : Shaped t) (v : View) (w : Plain) where
  pub plain-handing : {x : Error} {r : Answer} (e : Error) → IsErr r × IsErrAnd r (λ y. y ≡ Failed x) → x ≡ e
      → w ≡ fails e → Keeps t h (plain v w) r
  plain-handing {x} {r} e out same fail =
      plain-failing t h s r v w e fail (failed-by e same out)

  -- that of an `ensure(b, e)`, which did not hold
  pub plain-stopping : (b : Bool) (e : Error) {x : Error} {o : Result (Unit {0}) Error} {r : Answer} → o ≡ ensured b e
      → o ≡ Err x → IsErr r × IsErrAnd r (λ y. y ≡ Failed x) → (b ≡ false → w ≡ fails e) → Keeps t h (plain v w) r
  plain-stopping b e is was out fail =
      let (no', same) = stopped b e is was in plain-handing e out same (fail no')

-- the caller's own counters put back are the counters as they were
own_back : (s : Tables) (h : ℕ) → set s.counters h (own_at s h) ≡ s.counters
unfolding own_at
own_back s h = set-get_or s.counters h []

-- ----- something is altered

-- what meets one plain answer meets another that is it
module _ (t t' : List (List ℕ)) (m m' : List ℕ) (h : ℕ) (r : Answer) where
  pub plain-as : {w w' : Plain} → w ≡ w' → Meets t t' m m' h (plain (view (seen t) h) w') r
      → Meets t t' m m' h (plain (view (seen t) h) w) r
  plain-as e k = rw e k

module _ (t t' : List (List ℕ)) (h : ℕ) where
  -- the caller's counters, and a value
  pub plain-counting : (w : Plain) (r : Answer) (n : ℕ) (cs : List Counter) → w ≡ gives n cs
      → r ≡ Ok (done n false 0)
      → Holds t' (put_own (seen t) h cs) → (m : List ℕ) → Meets t t' m m h (plain (view (seen t) h) w) r
  unfolding plain view answer_of commit actions_of words_of laid memory_after tell
  plain-counting w r n cs e a g m = rw (e, a) (record { answer = refl; tables = g; memory = refl })

  module _ (m m' : List ℕ) where
    -- one hart's record
    pub moving : {q : Reply} (r : Answer) (parked : Bool) (acts : List Action) (j : ℕ) (x : Hart)
        → q ≡ moves (view (seen t) h) parked acts (set (seen t).harts j x) → r ≡ Ok (done 0 parked (length acts))
        → Holds t' (put_hart (seen t) j x) → m' ≡ laid (words_of acts) m → Meets t t' m m' h q r
    unfolding moves view answer_of commit actions_of memory_after tell
    moving r parked acts j x e a g w = rw (e, a) (record {
      answer = refl;
      tables = record {
        is = g.is
            ∙ ap (λ (cs : List (List Counter)). record { harts = set (seen t).harts j x; counters = cs })
            (sym (own_back (seen t) h));
        shaped = g.shaped;
      };
      memory = w;
    })

    -- actions for some harts, and an event for each
    pub plain-sending : (w : Plain) (r : Answer) (k s n i c l : ℕ) (hs : List ℕ) → w ≡ send_to k s n i c hs
        → r ≡ Ok (done 0 false l) → l ≡ length hs → Holds t' (told (seen t) h c hs)
        → m' ≡ laid (words_of (map (action_for k s n i) hs)) m → Meets t t' m m' h (plain (view (seen t) h) w) r
    unfolding plain send_to view answer_of commit actions_of memory_after
    plain-sending w r k s n i c l hs e a q g b = rw (e, a, q) (record {
      answer = ap (λ (x : ℕ). Ok (done 0 false x)) (sym (length-map hs (action_for k s n i)));
      tables = record {
        is = g.is
            ∙ ap (λ (cs : List (List Counter)). record { harts = (seen t).harts; counters = tell h c hs cs })
            (sym (own_back (seen t) h));
        shaped = g.shaped;
      };
      memory = b;
    })

-- a value alone
pub plain-giving : (t : List (List ℕ)) (h : ℕ) → Shaped t → (w : Plain) (r : Answer) (n : ℕ)
    → w ≡ gives n (view (seen t) h).own → r ≡ Ok (done n false 0) → Keeps t h (plain (view (seen t) h) w) r
unfolding view
plain-giving t h s w r n e a m =
    plain-counting t t h w r n (own_at (seen t) h) e a
    (record {
      is = ap (λ (cs : List (List Counter)). record { harts = (seen t).harts; counters = cs })
          (sym (own_back (seen t) h));
      shaped = s;
    }) m

-- ----- a reply by another name

pub by : (t t' : List (List ℕ)) (m m' : List ℕ) (h : ℕ) (q q' : Reply) (r : Answer) → q ≡ q'
    → Meets t t' m m' h q' r → Meets t t' m m' h q r
by t t' m m' h q q' r e w = rw e w
