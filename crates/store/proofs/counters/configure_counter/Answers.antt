-- `configure_counter` reads the counter, alters it and writes it.
use Rattle.rules.specs.Counters.{configured}
use Rattle.rules.specs.Tables.{CounterFine}
use Rattle.rules.specs.declared.records.Counter.{Counter}
use Rattle.std.proofs.lemmas.Option.{same_Some}
use Rattle.std.proofs.Common.{ℕ, ◌≤◌, sym, refl, subst, rules}
use Rattle.store.proofs.counters.configure_counter.Goals as goal

fine : (flags e : ℕ) (c : Counter) → e ≤ 21 → CounterFine (configured flags e c)
unfolding configured
fine flags e c l = record { codes = λ k q. subst (λ (n : ℕ). n ≤ 21) (same_Some e k q) l; runs = λ _. refl }

pub write_counter-requires : goal.write_counter-requires
write_counter-requires c =
    (search rules, subst CounterFine (sym c.configured.ensures) (fine _ _ _ (search rules)))
