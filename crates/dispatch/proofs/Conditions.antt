-- A theorem for each statement of specs/Conditions, under its name. Assumes nothing.
use mathlib.Core.Path.{◌≡◌, refl, sym, ap, ◌∙◌, subst}
use mathlib.Core.Bool.{true, false}
use mathlib.Core.List.{List}
use Prim.Native.Nat.{ℕ}
use lib.ListN.{length}
use Rattle.rules.specs.Tables.{Tables, state_of, well_formed}
use Rattle.rules.specs.Machine.{after, Operation, call, reply}
use Rattle.rules.specs.Replies.{front_of, words_of, memory_after, laid, accepted, answer_of}
use Rattle.rules.specs.Names.{HSM}
use Rattle.rules.specs.Lives.{Reading, placed}
use Rattle.rules.specs.Rows.{tables_now, row_now, ready}
use Rattle.rules.specs.Promises.{LivesOf}
use Rattle.tables.specs.Keeping.{Holds, seen}
use Rattle.rules.specs.declared.platform.Platform.{Platform}
use Rattle.rules.specs.declared.answers.Registers.{Registers}
use Rattle.rules.specs.Answers.{done, Answer, paired}
use Rattle.rules.specs.declared.answers.Pair.{Pair}
use Rattle.std.specs.Prelude.{Ok, Err}
use Rattle.rules.specs.declared.actions.Action.{Action}
use Rattle.tables.proofs.Laws.{held-once}
use Rattle.rules.proofs.Theorems.{refusals-alter-nothing, refusals-listed, well-formed-kept, lives-hold}
use Rattle.rules.proofs.Theorems.{counters-apart}
use Rattle.rules.proofs.RequestWays.{request-hsm, hart-2}
use Rattle.dispatch.proofs.AnswerLaws.{front-filled, rest-kept, answer-listed, success-shown, status-ready}
use Rattle.dispatch.specs.Steps.{Step, is_success}
use Rattle.dispatch.specs.Conditions.{AnswersShow, Condition1, Condition2, Condition3, FrontIsActions}
use Rattle.dispatch.specs.Conditions.{Isolation, ListedAnswer, answers-refusal, answers-error, LivesOnRows}
use Rattle.dispatch.proofs.Outcomes.{fresh-rows-follow}

-- ----- condition 1

-- the pair of an error has 0, no mark and no actions; a refusal has no pair
bare-pair : {op : Operation} {a : Answer} → ListedAnswer op a → (x : Pair) → paired a ≡ Ok x
    → (x.value ≡ 0) × ((x.parked ≡ false) × (x.actions ≡ 0))
bare-pair (answers-refusal m) x e = cc
bare-pair (answers-error m) x e = (cc, (cc, cc))

-- a refusal or an error is a listed one and leaves rows and memory as they were
pub condition-1 : Condition1
unfolding after front_of words_of
condition-1 p op t t' m m' a k x no' =
    let kept = refusals-alter-nothing p (seen t) op no' in
    let listed' = subst (ListedAnswer op) (sym x.meets.answer) (answer-listed (refusals-listed p (seen t) op) no') in
    record {
      listed = listed';
      bare = bare-pair listed';
      tables = held-once t' t (seen t) (subst (Holds t') kept.tables x.meets.tables)
          (record { is = refl; shaped = k });
      memory = x.meets.memory ∙ kept.memory m;
      front = front-filled _ a x.meets.answer m m' x.meets.memory ∙ ap words_of kept.actions;
    }

-- a pair with error 0 is answered exactly if the rules accept
pub answers-show : AnswersShow
answers-show p op t t' m m' a x = ap is_success x.meets.answer ∙ success-shown (refusals-listed p (seen t) op)

-- ----- condition 2

-- answer, rows and memory are those of the rules' reply, and tables stay well formed
pub condition-2 : Condition2
unfolding after
condition-2 p op t t' m m' a x = record {
  answer = x.meets.answer;
  tables = x.meets.tables;
  memory = x.meets.memory;
  front = front-filled _ a x.meets.answer m m' x.meets.memory;
  rest = rest-kept _ a x.meets.answer m m' x.meets.memory;
  well_kept = λ w. ap (well_formed p) x.meets.tables.is ∙ well-formed-kept p (seen t) op w;
}

-- the part handed back is the words of the actions
pub front-is-actions : FrontIsActions
front-is-actions p op t t' m a m' r x b = b.0 ∙ (condition-2 p op t t' m m'.now a x).front

-- ----- condition 3

-- the value in an answer
abbrev value_in : Answer → ℕ
value_in (Ok d) = d.value
value_in (Err d) = 0

-- on rows that hold the tables of the history
module _ (p : Platform) (ops : List Operation) (t : List (List ℕ)) (h : ℕ) (held : Holds t (tables_now p ops))
    (lives : LivesOf p ops h) where
  same-reply : (op : Operation) → reply p (seen t) op ≡ reply p (tables_now p ops) op
  same-reply op = ap (λ (s : Tables). reply p s op) held.is

  same-ready : (op : Operation) → ready p (seen t) op ≡ true → ready p (tables_now p ops) op ≡ true
  same-ready op e = ap (λ (s : Tables). ready p s op) (sym held.is) ∙ e

  status-placed : (r : Reading (row_now p ops h)) (k v : ℕ) (q : Registers) (t' : List (List ℕ)) (m m' : List ℕ)
      → q.a7 ≡ HSM → q.a6 ≡ 2 → q.a0 ≡ h → Step p (call (length m) k q) t t' m m' (Ok (done v false 0))
      → v ≡ placed r
  status-placed r k v q t' m m' a7 a6 a0 x =
      let op = call (length m) k q in
      let shown = sym (answers-show p op t t' m m' (Ok (done v false 0)) x) in
      let told = lives.reported r (length m) k q a7 a6 a0
      (same-ready op (status-ready p (seen t) (length m) k q (request-hsm q a7 ∙ hart-2 q a6) shown)) in
      ap value_in (x.meets.answer ∙ ap answer_of (same-reply op) ∙ told)

  lives-on-rows : LivesOnRows p ops t h
  lives-on-rows = record {
    lives = lives;
    status = λ r. ap (λ (s : Tables). state_of s.harts h) held.is ∙ lives.status r;
    reported = status-placed;
    accepts = λ e op t' m m' a ev w fit x.
        answers-show p op t t' m m' a x ∙ ap accepted (same-reply op) ∙ lives.accepts e op ev (same-ready op w) fit;
    refuses = λ e op t' m m' a ev no-fit x.
        condition-1 p op t t' m m' a held.shaped x (ap accepted (same-reply op) ∙ lives.refuses e op ev no-fit);
  }

-- after any run from fresh rows the lives of the rules hold, and a status call answers the status that they name
pub condition-3 : Condition3
condition-3 p lent t t' a ops ok f r h on =
    lives-on-rows p ops t' h (fresh-rows-follow p lent t t' a ops ok f r) (lives-hold p ok ops h on)

-- ----- isolation

-- a step shows nothing of other harts' counters
pub isolation : Isolation
unfolding after memory_after
isolation p op t u t' u' m m₁ m₂ a₁ a₂ alike x y =
    let same = counters-apart p op (seen t) (seen u) alike in
    record {
      answer = x.meets.answer ∙ same.answer ∙ sym y.meets.answer;
      memory = x.meets.memory ∙ ap (λ (l : List Action). laid (words_of l) m) same.actions
          ∙ sym y.meets.memory;
      harts = ap (λ (s : Tables). s.harts) x.meets.tables.is ∙ same.harts
          ∙ sym (ap (λ (s : Tables). s.harts) y.meets.tables.is);
    }
