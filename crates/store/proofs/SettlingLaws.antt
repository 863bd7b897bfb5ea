-- Laws of a completion: a state stays a state, and what is completed is what the rules' step gives.
use Rattle.std.proofs.Common.{◌≡◌, ◌≤◌, eqb, ap, arith}
use Rattle.std.specs.Prelude.{Option, Some}
use Rattle.std.specs.Option.{unwrap_or}
use Rattle.rules.specs.Names.{RESUME_PENDING}
use Rattle.rules.specs.Harts.{done_of}
use Rattle.rules.specs.declared.records.Hart.{Hart}
use Rattle.rules.proofs.Logic.{if-both}
use Rattle.store.specs.Settling.{completed_of}

pub completed-state : (x : Hart) → x.state ≤ RESUME_PENDING → (completed_of x).state ≤ RESUME_PENDING
unfolding completed_of done_of
completed-state x l =
    if-both P (eqb x.state 2) (λ e. omega arith)
    (λ e. if-both P (eqb x.state 3) (λ e. omega arith)
    (λ e. if-both P (eqb x.state 5) (λ e. omega arith)
    (λ e. if-both P (eqb x.state 6) (λ e. omega arith) (λ e. l))))
  where
    P : Option Hart → Type 0
    P n = (unwrap_or n x).state ≤ RESUME_PENDING

pub completed-to : (x y : Hart) → done_of x ≡ Some y → completed_of x ≡ y
unfolding completed_of
completed-to x y e = ap (λ (o : Option Hart). unwrap_or o x) e
