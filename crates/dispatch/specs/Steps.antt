-- Histories of the host's functions: their contracts as steps, and steps one after another.
--   Lent op m               the room that the operation op names is the length of the memory m
--   Step p op t t' m m' a   op was done: rows t and memory m before, t' and m' after, answer a
--   Run p t ops t'          steps of the operations ops lead from the rows t to the rows t'
--   Freshens p t t' a       the contract of `fresh`: rows t before, t' after, answer a
--   HandsBack m a r         the contract of `front`: the part r of the memory m for the answer a
--   is_success a            a pair whose error is 0
use Rattle.std.specs.Prelude.{◌≡◌, List, [], ◌∷◌, Bool, false, ℕ, ◌*◌, eqb, ℤ, pos, negsuc, length}
use Rattle.std.specs.Prelude.{take, Ok, Err}
use Rattle.rules.specs.Names.{success}
use Rattle.rules.specs.Platform.{platform_accepted}
use Rattle.rules.specs.Machine.{Operation, call, completion, waking, event, hart_of, reply}
use Rattle.rules.specs.Machine.{fresh_answer}
use Rattle.tables.specs.Keeping.{seen, FreshOr}
use Rattle.rules.specs.Answers.{error_number, Answer, count_in}
use Rattle.rules.specs.declared.answers.Denial.TheVariants.{Refused, Failed}
use Rattle.rules.specs.declared.platform.Platform.{Platform}
use Rattle.std.specs.Borrow.{MutBor}
use Rattle.dispatch.specs.Meets.{Meets}

-- calls, completions and wakes lend action memory; an event lends none, so any memory stands by
abbrev pub Lent : Operation → List ℕ → Type 0
Lent (call room h q) m = room ≡ length m
Lent (completion room h) m = room ≡ length m
Lent (waking room h) m = room ≡ length m
Lent (event h e) m = Unit

-- a function did op and met its contract
pub record Step (p : Platform) (op : Operation) (t t' : List (List ℕ)) (m m' : List ℕ)
    (a : Answer) : Type 0 where
  pub lent : Lent op m
  pub meets : Meets t t' m m' (hart_of op) (reply p (seen t) op) a

-- each step may lend a memory of its own
pub data Run (p : Platform) : List (List ℕ) → List Operation → List (List ℕ) → Type 0 where
  no_step : {t : List (List ℕ)} → Run p t [] t
  first_step : {t t₁ t' : List (List ℕ)} {m m₁ : List ℕ} {op : Operation} {ops : List Operation}
      {a : Answer} → Step p op t t₁ m m₁ a → Run p t₁ ops t' → Run p t (op ∷ ops) t'

-- the contract of `fresh`
abbrev pub Freshens : Platform → (t t' : List (List ℕ)) → Answer → Type 0
Freshens p t t' a =
    (a ≡ fresh_answer p) × FreshOr (platform_accepted p) p t t'

-- the contract of `front`
abbrev pub HandsBack : (m : MutBor (List ℕ)) → Answer → (r : MutBor (List ℕ)) → Type 0
HandsBack m a r = (r.now ≡ take (5 * count_in a) m.now) × (r.ref_ptr ≡ m.ref_ptr)

-- the error 0
abbrev pub is_zero : ℤ → Bool
is_zero (pos n) = eqb n 0
is_zero (negsuc n) = false

-- neither Hk nor an error pair
abbrev pub is_success : Answer → Bool
is_success (Ok d) = is_zero success
is_success (Err (Failed e)) = is_zero (error_number e)
is_success (Err (Refused k)) = false
