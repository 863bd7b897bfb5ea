-- THE CONDITIONS of README.md, of every step of the host's functions, each under its sentence;
-- proofs/Conditions has a theorem for each. Rows are Shaped if they have the shape of their type:
-- `tables::well_formed` tells it of any rows, and every step leaves rows that have it.
use Rattle.std.specs.Prelude.{◌≡◌, true, false, ℕ, ◌*◌, length, take, drop, Ok, Err}
use mathlib.Core.List.{List, [], ◌∷◌, ◌++◌, Memᴰ}
use Rattle.rules.specs.Names.{HSM}
use Rattle.rules.specs.Platform.{enabled, platform_accepted}
use Rattle.rules.specs.Tables.{state_of, well_formed}
use Rattle.rules.specs.Replies.{accepted, answer_of, memory_after, front_of}
use Rattle.rules.specs.Machine.{Operation, call, hart_of, reply, after}
use Rattle.rules.specs.Lives.{Event, Reading, placed}
use Rattle.rules.specs.Rows.{◌does◌, event_of, row_now, ready}
use Rattle.rules.specs.Refusals.{errors_of, refusals_of}
use Rattle.rules.specs.Promises.{LivesOf, Alike}
use Rattle.tables.specs.Keeping.{seen, Shaped, Holds}
use Rattle.rules.specs.Answers.{done, Answer, count_in, paired}
use Rattle.rules.specs.declared.answers.Pair.{Pair}
use Rattle.rules.specs.declared.answers.Error.{Error}
use Rattle.rules.specs.declared.answers.Refusal.{Refusal}
use Rattle.rules.specs.declared.answers.Denial.TheVariants.{Refused, Failed}
use Rattle.rules.specs.declared.answers.Registers.{Registers}
use Rattle.rules.specs.declared.platform.Platform.{Platform}
use Rattle.std.specs.Borrow.{MutBor}
use Rattle.dispatch.specs.Steps.{Step, Run, Freshens, HandsBack, is_success}

-- ----- condition 1

-- "A refusal gives its listed number": Hk, or the error with 0, no mark and no actions
pub data ListedAnswer (op : Operation) : Answer → Type 0 where
  answers-refusal : {k : Refusal} → Memᴰ k (refusals_of op) → ListedAnswer op (Err (Refused k))
  answers-error : {e : Error} → Memᴰ e (errors_of op) → ListedAnswer op (Err (Failed e))

-- "Every refusal, error pairs included, leaves the tables and all action memory unaltered; the
-- front part handed back is then empty."
pub record Declined (op : Operation) (t t' : List (List ℕ)) (m m' : List ℕ) (a : Answer) : Type
    0 where
  pub listed : ListedAnswer op a
  pub tables : t' ≡ t
  pub memory : m' ≡ m
  pub front : take (5 * count_in a) m' ≡ []
  pub bare : (x : Pair) → paired a ≡ Ok x
      → (x.value ≡ 0) × ((x.parked ≡ false) × (x.actions ≡ 0))

-- of every step that the rules do not accept
abbrev pub Condition1 : Type 0
Condition1 = (p : Platform) (op : Operation) (t t' : List (List ℕ)) (m m' : List ℕ) (a : Answer)
    → Shaped t → Step p op t t' m m' a → accepted (reply p (seen t) op) ≡ false
    → Declined op t t' m m' a

-- the answer shows whether a step was accepted: a pair whose error is 0, or not
abbrev pub AnswersShow : Type 0
AnswersShow = (p : Platform) (op : Operation) (t t' : List (List ℕ)) (m m' : List ℕ) (a : Answer)
    → Step p op t t' m m' a → is_success a ≡ accepted (reply p (seen t) op)

-- ----- condition 2

-- "The return pair, the next tables and the actions for other harts are those of" the rules
pub record AsTheRules (p : Platform) (op : Operation) (t t' : List (List ℕ)) (m m' : List ℕ)
    (a : Answer) : Type 0 where
  pub answer : a ≡ answer_of (reply p (seen t) op)
  pub tables : Holds t' (after p (seen t) op)
  pub memory : m' ≡ memory_after m (reply p (seen t) op)
  -- "The host gets back the filled front part of its own action memory; words after it keep their
  -- contents."
  pub front : take (5 * count_in a) m' ≡ front_of (reply p (seen t) op)
  pub rest : drop (5 * count_in a) m' ≡ drop (5 * count_in a) m
  -- H1 is not met by tables that the functions left
  pub well_kept : well_formed p (seen t) ≡ true → well_formed p (seen t') ≡ true

-- of every step
abbrev pub Condition2 : Type 0
Condition2 = (p : Platform) (op : Operation) (t t' : List (List ℕ)) (m m' : List ℕ) (a : Answer)
    → Step p op t t' m m' a → AsTheRules p op t t' m m' a

-- the part that `front` hands back of the memory that a step left is the words of its actions
abbrev pub FrontIsActions : Type 0
FrontIsActions = (p : Platform) (op : Operation) (t t' : List (List ℕ)) (m : List ℕ) (a : Answer)
    (m' r : MutBor (List ℕ)) → Step p op t t' m m'.now a → HandsBack m' a r
    → r.now ≡ front_of (reply p (seen t) op)

-- ----- condition 3

-- of the enabled hart h, on the rows t that a history of functions left
pub record LivesOnRows (p : Platform) (ops : List Operation) (t : List (List ℕ)) (h : ℕ) : Type
    0 where
  -- the statement of the rules, for the operations that the functions did
  pub lives : LivesOf p ops h
  -- "The reported status is the one that this place in the row names": in the rows, and in what any
  -- status call of any hart k is answered
  pub status : (r : Reading (row_now p ops h)) → state_of (seen t).harts h ≡ placed r
  pub reported : (r : Reading (row_now p ops h)) (k v : ℕ) (q : Registers) (t' : List (List ℕ))
      (m m' : List ℕ) → q.a7 ≡ HSM → q.a6 ≡ 2 → q.a0 ≡ h
      → Step p (call (length m) k q) t t' m m' (Ok (done v false 0)) → v ≡ placed r
  -- "An event that fits is accepted if its action memory is long enough and, for a call, its caller
  -- is running and its type and address pass; one that does not fit is refused."
  pub accepts : (e : Event) (op : Operation) (t' : List (List ℕ)) (m m' : List ℕ) (a : Answer)
      → event_of op ≡ h does e ∷ [] → ready p (seen t) op ≡ true
      → Reading (row_now p ops h ++ (e ∷ [])) → Step p op t t' m m' a → is_success a ≡ true
  pub refuses : (e : Event) (op : Operation) (t' : List (List ℕ)) (m m' : List ℕ) (a : Answer)
      → event_of op ≡ h does e ∷ [] → ¬ Reading (row_now p ops h ++ (e ∷ []))
      → Step p op t t' m m' a → Declined op t t' m m' a

-- "For any sequence of calls, completions and wakes from a fresh accepted platform" (demand 3)
abbrev pub Condition3 : Type 0
Condition3 = (p : Platform) (lent t t' : List (List ℕ)) (a : Answer) (ops : List Operation)
    → platform_accepted p ≡ true → Freshens p lent t a → Run p t ops t' → (h : ℕ)
    → enabled p h ≡ true → LivesOnRows p ops t' h

-- ----- isolation

-- "For two well-formed states that differ only in other harts' counters, a call gives the same
-- pair, hart states and actions."
pub record SameSteps (t₁ t₂ : List (List ℕ)) (m₁ m₂ : List ℕ) (a₁ a₂ : Answer) : Type 0 where
  pub answer : a₁ ≡ a₂
  pub memory : m₁ ≡ m₂
  pub harts : (seen t₁).harts ≡ (seen t₂).harts

-- of two steps of one operation with the same memory lent
abbrev pub Isolation : Type 0
Isolation = (p : Platform) (op : Operation) (t u t' u' : List (List ℕ)) (m m₁ m₂ : List ℕ)
    (a₁ a₂ : Answer) → Alike p (hart_of op) (seen t) (seen u) → Step p op t t' m m₁ a₁
    → Step p op u u' m m₂ a₂ → SameSteps t' u' m₁ m₂ a₁ a₂
