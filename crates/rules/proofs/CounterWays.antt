-- Each reply on counters by the tests that lead to it, so that no proof of code opens a definition of the rules.
use mathlib.Core.Path.{◌≡◌, ap, ◌∙◌}
use mathlib.Core.Bool.{true, false, not}
use mathlib.Core.List.{List, map}
use Rattle.std.specs.Prelude.{Some, None}
use Prim.Native.Nat.{ℕ, ◌-◌, ◌^◌, ◌<◌, ◌≤◌}
use lib.ListN.{set}
use borrow.Author.Tests.{eq-eqb, ne_eqb, le-leb, lt-leb}
use Rattle.rules.specs.Sets.{bit, all}
use Rattle.rules.specs.Names.{first_event, last_reported}
use Rattle.rules.specs.Tables.{counter_at}
use Rattle.rules.specs.Replies.{View, refused, fails, gives, plain, counted}
use Rattle.rules.specs.Counters.{counter_set, is_counter, each, is_mapped, is_running, not_running, is_event, chosen}
use Rattle.rules.specs.Counters.{configured, configure_chosen, begun, ended, can_read, details_reply, configure_reply}
use Rattle.rules.specs.Counters.{counter_start_reply, counter_stop_reply, read_reply, read_high_reply, event_reply}
use Rattle.rules.specs.declared.platform.Platform.{Platform}
use Rattle.rules.specs.declared.records.Counter.{Counter}
use Rattle.rules.proofs.Logic.{if-true, if-false}
use Rattle.rules.specs.declared.answers.Error.TheVariants.{NotSupported, InvalidParam}
use Rattle.rules.specs.declared.answers.Error.TheVariants.{AlreadyStarted, AlreadyStopped}
use Rattle.rules.specs.declared.answers.Error.TheVariants.{NoSharedMemory}
use Rattle.rules.specs.declared.answers.Refusal.TheVariants.{NotReportable}

-- ----- details, read, high read

module _ (cs : List Counter) (i : ℕ) where
  pub details-none : is_counter i ≡ false → details_reply cs i ≡ fails InvalidParam
  unfolding details_reply
  details-none e = if-true _ _ (ap not e)

  pub details-given : is_counter i ≡ true → details_reply cs i ≡ gives (2 ^ 63) cs
  unfolding details_reply
  details-given e = if-false _ _ (ap not e)

  pub read_none : can_read cs i ≡ false → read_reply cs i ≡ fails InvalidParam
  unfolding read_reply
  read_none e = if-true _ _ (ap not e)

  pub read-given : can_read cs i ≡ true → read_reply cs i ≡ gives (counter_at cs i).value cs
  unfolding read_reply
  read-given e = if-false _ _ (ap not e)

  pub read-high-none : can_read cs i ≡ false → read_high_reply cs i ≡ fails InvalidParam
  unfolding read_high_reply
  read-high-none e = if-true _ _ (ap not e)

  pub read-high-given : can_read cs i ≡ true → read_high_reply cs i ≡ gives 0 cs
  unfolding read_high_reply
  read-high-given e = if-false _ _ (ap not e)

module _ (p : Platform) (cs : List Counter) (base m flags : ℕ) where
  -- ----- configure

  module _ (e d : ℕ) where
    pub configure-flags : 2 ^ 8 ≤ flags → configure_reply p cs base m flags e d ≡ fails InvalidParam
    unfolding configure_reply
    configure-flags l = if-true _ _ (le-leb _ _ l)

    module _ (f : flags < 2 ^ 8) where
      pub configure-no-counter : all is_counter (counter_set p base m) ≡ false
          → configure_reply p cs base m flags e d ≡ fails InvalidParam
      unfolding configure_reply
      configure-no-counter a = if-false _ _ (lt-leb _ _ f) ∙ if-true _ _ (ap not a)

      module _ (a : all is_counter (counter_set p base m) ≡ true) where
        pub configure-no-event : is_event e ≡ false → configure_reply p cs base m flags e d ≡ fails NotSupported
        unfolding configure_reply
        configure-no-event b = if-false _ _ (lt-leb _ _ f) ∙ if-false _ _ (ap not a) ∙ if-true _ _ (ap not b)

        module _ (b : is_event e ≡ true) where
          pub configure-data : (d ≡ 0 → ⊥) → configure_reply p cs base m flags e d ≡ fails InvalidParam
          unfolding configure_reply
          configure-data n =
              if-false _ _ (lt-leb _ _ f) ∙ if-false _ _ (ap not a) ∙ if-false _ _ (ap not b)
              ∙ if-true _ _ (ap not (ne_eqb _ _ n))

          module _ (z : d ≡ 0) where
            configure-rest : configure_reply p cs base m flags e d
                ≡ configure_chosen flags (e - first_event) cs (chosen flags cs (counter_set p base m))
            unfolding configure_reply
            configure-rest =
                if-false _ _ (lt-leb _ _ f) ∙ if-false _ _ (ap not a) ∙ if-false _ _ (ap not b)
                ∙ if-false _ _ (ap not (eq-eqb _ _ z))

            pub configure-no-match : chosen flags cs (counter_set p base m) ≡ None
                → configure_reply p cs base m flags e d ≡ fails NotSupported
            unfolding configure_chosen
            configure-no-match c = configure-rest ∙ ap (configure_chosen flags (e - first_event) cs) c

            pub configure-given : (i : ℕ) → chosen flags cs (counter_set p base m) ≡ Some i
                → configure_reply p cs base m flags e d
                ≡ gives i (set cs i (configured flags (e - first_event) (counter_at cs i)))
            unfolding configure_chosen
            configure-given i c = configure-rest ∙ ap (configure_chosen flags (e - first_event) cs) c

  -- ----- start

  module _ (x : ℕ) where
    pub counter-start-flags : 2 ^ 2 ≤ flags → counter_start_reply p cs base m flags x ≡ fails InvalidParam
    unfolding counter_start_reply
    counter-start-flags l = if-true _ _ (le-leb _ _ l)

    module _ (f : flags < 2 ^ 2) where
      pub counter-start-no-counter : all is_counter (counter_set p base m) ≡ false
          → counter_start_reply p cs base m flags x ≡ fails InvalidParam
      unfolding counter_start_reply
      counter-start-no-counter a = if-false _ _ (lt-leb _ _ f) ∙ if-true _ _ (ap not a)

      module _ (a : all is_counter (counter_set p base m) ≡ true) where
        pub counter-start-unmapped : all (is_mapped cs) (counter_set p base m) ≡ false
            → counter_start_reply p cs base m flags x ≡ fails InvalidParam
        unfolding counter_start_reply
        counter-start-unmapped u = if-false _ _ (lt-leb _ _ f) ∙ if-false _ _ (ap not a) ∙ if-true _ _ (ap not u)

        module _ (u : all (is_mapped cs) (counter_set p base m) ≡ true) where
          pub counter-start-snapshot : bit flags 1 ≡ true → counter_start_reply p cs base m flags x ≡ fails NoSharedMemory
          unfolding counter_start_reply
          counter-start-snapshot b =
              if-false _ _ (lt-leb _ _ f) ∙ if-false _ _ (ap not a) ∙ if-false _ _ (ap not u) ∙ if-true _ _ b

          module _ (b : bit flags 1 ≡ false) where
            pub counter-start-running : all (not_running cs) (counter_set p base m) ≡ false
                → counter_start_reply p cs base m flags x ≡ fails AlreadyStarted
            unfolding counter_start_reply
            counter-start-running r =
                if-false _ _ (lt-leb _ _ f) ∙ if-false _ _ (ap not a) ∙ if-false _ _ (ap not u) ∙ if-false _ _ b
                ∙ if-true _ _ (ap not r)

            pub counter-start-given : all (not_running cs) (counter_set p base m) ≡ true
                → counter_start_reply p cs base m flags x ≡ gives 0 (each (begun flags x) (counter_set p base m) cs)
            unfolding counter_start_reply
            counter-start-given r =
                if-false _ _ (lt-leb _ _ f) ∙ if-false _ _ (ap not a) ∙ if-false _ _ (ap not u) ∙ if-false _ _ b
                ∙ if-false _ _ (ap not r)

  -- ----- stop

  pub counter-stop-flags : 2 ^ 2 ≤ flags → counter_stop_reply p cs base m flags ≡ fails InvalidParam
  unfolding counter_stop_reply
  counter-stop-flags l = if-true _ _ (le-leb _ _ l)

  module _ (f : flags < 2 ^ 2) where
    pub counter-stop-no-counter : all is_counter (counter_set p base m) ≡ false
        → counter_stop_reply p cs base m flags ≡ fails InvalidParam
    unfolding counter_stop_reply
    counter-stop-no-counter a = if-false _ _ (lt-leb _ _ f) ∙ if-true _ _ (ap not a)

    module _ (a : all is_counter (counter_set p base m) ≡ true) where
      pub counter-stop-snapshot : bit flags 1 ≡ true → counter_stop_reply p cs base m flags ≡ fails NoSharedMemory
      unfolding counter_stop_reply
      counter-stop-snapshot b = if-false _ _ (lt-leb _ _ f) ∙ if-false _ _ (ap not a) ∙ if-true _ _ b

      module _ (b : bit flags 1 ≡ false) where
        pub counter-stop-idle : all (is_running cs) (counter_set p base m) ≡ false
            → counter_stop_reply p cs base m flags ≡ fails AlreadyStopped
        unfolding counter_stop_reply
        counter-stop-idle r =
            if-false _ _ (lt-leb _ _ f) ∙ if-false _ _ (ap not a) ∙ if-false _ _ b ∙ if-true _ _ (ap not r)

        pub counter-stop-given : all (is_running cs) (counter_set p base m) ≡ true
            → counter_stop_reply p cs base m flags ≡ gives 0 (each (ended flags) (counter_set p base m) cs)
        unfolding counter_stop_reply
        counter-stop-given r =
            if-false _ _ (lt-leb _ _ f) ∙ if-false _ _ (ap not a) ∙ if-false _ _ b ∙ if-false _ _ (ap not r)

-- ----- reported events

module _ (v : View) (e : ℕ) where
  pub event-not-reportable : last_reported < e → event_reply v e ≡ refused NotReportable
  unfolding event_reply
  event-not-reportable l = if-true _ _ (ap not (lt-leb _ _ l))

  pub event-given : e ≤ last_reported → event_reply v e ≡ plain v (gives 0 (map (counted e) v.own))
  unfolding event_reply
  event-given l = if-false _ _ (ap not (le-leb _ _ l))
