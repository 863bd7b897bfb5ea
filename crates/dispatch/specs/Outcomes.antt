-- What the contracts of the dispatcher settle, each statement under the sentence it stands for.
-- specs/Conditions has what the host may rely on; proofs/Outcomes has a theorem for each.
use Rattle.std.specs.Prelude.{◌≡◌, true, List, ℕ, length}
use Rattle.rules.specs.Platform.{platform_accepted}
use Rattle.rules.specs.Tables.{Tables}
use Rattle.rules.specs.Replies.{Reply}
use Rattle.rules.specs.Machine.{Operation, call, completion, waking, event, hart_of, checked_reply}
use Rattle.rules.specs.Machine.{reply, after_all}
use Rattle.rules.specs.Rows.{tables_now}
use Rattle.tables.specs.Keeping.{seen, Holds}
use Rattle.rules.specs.Answers.{Answer}
use Rattle.rules.specs.declared.answers.Registers.{Registers}
use Rattle.rules.specs.declared.platform.Platform.{Platform}
use Rattle.std.specs.Borrow.{MutBor}
use Rattle.dispatch.specs.Meets.{Meets, WellFormed}
use Rattle.dispatch.specs.Steps.{Step, Run, Freshens, HandsBack}

-- ----- one outcome: "Show that any two outcomes it permits are equal"

-- of call, completion, wake and event, and of the functions behind their tests: the contract of
-- each is `Meets` with a reply q
abbrev pub OneOutcome : Type 0
OneOutcome = (t t₁ t₂ : List (List ℕ)) (m m₁ m₂ : List ℕ) (h : ℕ) (q : Reply) (a₁ a₂ : Answer)
    → Meets t t₁ m m₁ h q a₁ → Meets t t₂ m m₂ h q a₂ → (a₁ ≡ a₂) × ((t₁ ≡ t₂) × (m₁ ≡ m₂))

-- of fresh
abbrev pub OneFresh : Type 0
OneFresh = (p : Platform) (t t₁ t₂ : List (List ℕ)) (a₁ a₂ : Answer) → Freshens p t t₁ a₁
    → Freshens p t t₂ a₂ → (a₁ ≡ a₂) × (t₁ ≡ t₂)

-- of front: the words handed back, and where they lie
abbrev pub OneFront : Type 0
OneFront = (m r₁ r₂ : MutBor (List ℕ)) (a : Answer) → HandsBack m a r₁ → HandsBack m a r₂
    → (r₁.now ≡ r₂.now) × (r₁.ref_ptr ≡ r₂.ref_ptr)

-- of a history: each step is settled, so the last rows are
abbrev pub OneRun : Type 0
OneRun = (p : Platform) (t t₁ t₂ : List (List ℕ)) (ops : List Operation) → Run p t ops t₁
    → Run p t ops t₂ → t₁ ≡ t₂

-- ----- steps and runs

-- the contracts of the four functions are steps
pub record FunctionsStep (p : Platform) (t t' : List (List ℕ)) (m m' : List ℕ) (h : ℕ)
    (a : Answer) : Type 0 where
  pub calls : (q : Registers) → Meets t t' m m' h (reply p (seen t) (call (length m) h q)) a
      → Step p (call (length m) h q) t t' m m' a
  pub completions : ((n : List ℕ) → Meets t t' n n h
      (reply p (seen t) (completion (length m) h)) a) → Step p (completion (length m) h) t t' m m a
  pub wakes : Meets t t' m m' h (reply p (seen t) (waking (length m) h)) a
      → Step p (waking (length m) h) t t' m m' a
  pub events : (code : ℕ) → ((n : List ℕ) → Meets t t' n n h (reply p (seen t) (event h code)) a)
      → Step p (event h code) t t' m m a

-- of any entry and any outcome
abbrev pub ContractsStep : Type 0
ContractsStep = (p : Platform) (t t' : List (List ℕ)) (m m' : List ℕ) (h : ℕ) (a : Answer)
    → FunctionsStep p t t' m m' h a

-- the rows follow the history of the rules
abbrev pub RowsFollow : Type 0
RowsFollow = (p : Platform) (t t' : List (List ℕ)) (s : Tables) (ops : List Operation) → Holds t s
    → Run p t ops t' → Holds t' (after_all p s ops)

-- "from a fresh accepted platform" (demand 3)
abbrev pub FreshRowsFollow : Type 0
FreshRowsFollow = (p : Platform) (lent t t' : List (List ℕ)) (a : Answer) (ops : List Operation)
    → platform_accepted p ≡ true → Freshens p lent t a → Run p t ops t' → Holds t' (tables_now p ops)

-- ----- the functions on tables that are well formed

-- their outcome is that of the host's functions, and they leave tables that are well formed, so
-- that whoever can vouch for the tables once can vouch for them ever after
pub record CheckedOutcome (p : Platform) (op : Operation) (t t' : List (List ℕ)) (m m' : List ℕ)
    (a : Answer) : Type 0 where
  pub same : Meets t t' m m' (hart_of op) (reply p (seen t) op) a
  pub well : WellFormed p t'

-- of every operation
abbrev pub CheckedAgree : Type 0
CheckedAgree = (p : Platform) (op : Operation) (t t' : List (List ℕ)) (m m' : List ℕ) (a : Answer)
    → WellFormed p t → Meets t t' m m' (hart_of op) (checked_reply p (seen t) op) a
    → CheckedOutcome p op t t' m m' a
