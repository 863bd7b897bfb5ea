-- What an answer tells of a reply: whether it was accepted, how many words of actions there are, and that a status
-- call answered with a value was ready.
use mathlib.Core.Path.{◌≡◌, refl, sym, ap, ap₂, ◌∙◌}
use mathlib.Core.Bool.{true, false}
use mathlib.Core.List.{List}
use Prim.Native.Nat.{ℕ, ◌*◌}
use lib.Dec.{eqb}
use lib.ListN.{length, take, drop}
use borrow.Author.Tests.{not-false, ltb-false, le-leb}
use Rattle.std.proofs.lemmas.Bool.{false≢true}
use Rattle.std.specs.Cmp.Derive.{both_true}
use Rattle.rules.specs.Replies.{words_of, view, Reply, refused, failed, did, accepted, answer_of, actions_of, front_of}
use Rattle.rules.specs.Replies.{memory_after}
use Rattle.rules.specs.Names.{STARTED, action_memory}
use Rattle.rules.specs.Tables.{Tables, state_of}
use Rattle.rules.specs.Requests.{Request}
use Rattle.rules.specs.Requests.{hart_status}
use Rattle.rules.specs.Requests.{other, request}
use Rattle.rules.specs.Machine.{Operation, call, request_reply, enabled_reply, checked_reply}
use Rattle.rules.specs.Machine.{reply}
use Rattle.rules.specs.Rows.{passes, ready}
use Rattle.rules.specs.Refusals.{Listed, listed-refusal, listed-error, no-refusal}
use Rattle.rules.specs.Answers.{Answer, count_in, error_number}
use Rattle.rules.specs.declared.answers.Error.{Error}
use Rattle.rules.specs.declared.answers.Error.TheVariants.{NotSupported, InvalidParam, InvalidAddress}
use Rattle.rules.specs.declared.answers.Error.TheVariants.{AlreadyAvailable, AlreadyStarted, AlreadyStopped}
use Rattle.rules.specs.declared.answers.Error.TheVariants.{NoSharedMemory}
use Rattle.rules.specs.declared.answers.Registers.{Registers}
use Rattle.rules.specs.declared.platform.Platform.{Platform}
use Rattle.rules.proofs.Passed.{if-did, accepted-did}
use Rattle.rules.proofs.Theorems.{front-exact}
use Rattle.dispatch.specs.Steps.{is_zero, is_success}
use Rattle.dispatch.specs.Conditions.{ListedAnswer, answers-refusal, answers-error}
use Rattle.dispatch.proofs.LayingLaws.{words-length}

-- ----- the front part

-- an answer counts the words of its actions
counted_words : (q : Reply) → 5 * count_in (answer_of q) ≡ length (front_of q)
unfolding answer_of front_of actions_of words_of
counted_words (refused k) = refl
counted_words (failed e) = refl
counted_words (did d) = sym (words-length d.actions)

module _ (q : Reply) (a : Answer) (answered : a ≡ answer_of q) (m m' : List ℕ) (after : m' ≡ memory_after m q) where
  front-words : 5 * count_in a ≡ length (front_of q)
  front-words = ap (λ (x : Answer). 5 * count_in x) answered ∙ counted_words q

  pub front-filled : take (5 * count_in a) m' ≡ front_of q
  front-filled = ap₂ take front-words after ∙ (front-exact q m).front

  pub rest-kept : drop (5 * count_in a) m' ≡ drop (5 * count_in a) m
  rest-kept =
      ap₂ drop front-words after ∙ (front-exact q m).rest ∙ ap (λ (n : ℕ). drop n m) (sym front-words)

-- ----- no error is 0

no-zero : (e : Error) → is_zero (error_number e) ≡ false
no-zero NotSupported = refl
no-zero InvalidParam = refl
no-zero InvalidAddress = refl
no-zero AlreadyAvailable = refl
no-zero AlreadyStarted = refl
no-zero AlreadyStopped = refl
no-zero NoSharedMemory = refl

-- ----- accepted or not

pub success-shown : {op : Operation} {q : Reply} → Listed op q → is_success (answer_of q) ≡ accepted q
unfolding answer_of
success-shown (listed-refusal i) = refl
success-shown (listed-error {e} i) = no-zero e
success-shown no-refusal = refl

pub answer-listed : {op : Operation} {q : Reply} → Listed op q → accepted q ≡ false → ListedAnswer op (answer_of q)
unfolding answer_of
answer-listed (listed-refusal i) e = answers-refusal i
answer-listed (listed-error i) e = answers-error i
answer-listed no-refusal e = absurd (false≢true (sym e))

-- ----- a status call that is done was ready

status-passes : (p : Platform) (x : Request) (h : ℕ) → x ≡ other (hart_status h) → passes p x ≡ true
unfolding passes
status-passes p x h e = rw e refl

pub status-ready : (p : Platform) (t : Tables) (room k : ℕ) (q : Registers) → request q ≡ other (hart_status q.a0)
    → accepted (reply p t (call room k q)) ≡ true → ready p t (call room k q) ≡ true
unfolding reply checked_reply enabled_reply ready passes view
status-ready p t room k q asked yes' =
    let (d, e) = accepted-did _ yes' in
    let well = if-did _ _ (checked_reply p t (call room k q)) d e in
    let long = if-did _ _ _ d well.1 in
    let on = if-did _ _ (enabled_reply p (view t k) (call room k q)) d long.1 in
    let started = if-did _ _ (request_reply p (view t k) k (request q)) d on.1 in
    both_true (le-leb action_memory room (ltb-false room action_memory long.0))
    (both_true (not-false (eqb (state_of t.harts k) STARTED) started.0) (status-passes p (request q) q.a0 asked))
