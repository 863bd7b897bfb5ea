-- What every operation gives its caller: a listed refusal or error, or eight counters that are fine.
use mathlib.Core.List.{Memᴰ, List, [], ◌∷◌, map}
use mathlib.Core.Path.{◌≡◌, refl, ap, sym, ◌∙◌, subst}
use mathlib.Core.Bool.{Bool, true, false}
use Prim.Native.Nat.{ℕ, ◌-◌, ◌≤◌}
use native.Mathlib.Omega.{arith}
use lib.Dec.{leb}
use Rattle.std.proofs.lemmas.Bool.{false≢true}
use Rattle.std.specs.Cmp.Derive.{both_true}
use Rattle.std.specs.Cmp.{first_so, second_so}
use Rattle.rules.specs.declared.answers.Error.{Error}
use Rattle.rules.specs.declared.answers.Refusal.{Refusal}
use lib.ListN.{get_or, set, length, length-set, length-map, get_or-map}
use borrow.Author.Tests.{leb-true, not-false}
use Rattle.rules.specs.Refusals.{errors_of, plain_errors, refusals_of, request_errors}
use Rattle.rules.specs.Names.{counters, first_event, last_event, last_code}
use Rattle.rules.specs.Choice.{when◌then◌else◌}
use Rattle.rules.specs.Sets.{bit, all}
use Rattle.rules.specs.Tables.{blank, counter_at, CounterFine}
use Rattle.rules.specs.Replies.{View, Done, Reply, refused, failed, did, moves, Plain, fails, gives, sends}
use Rattle.rules.specs.Replies.{plain, counted}
use Rattle.rules.specs.Masks.{send_to}
use Rattle.rules.specs.Fences.{interrupt_reply, fence_reply}
use Rattle.rules.specs.Harts.{start_reply, stop_reply, status_reply, suspend_reply, goes_on, done_reply, wake_reply}
use Rattle.rules.specs.Counters.{counter_set, each, is_mapped, is_event, chosen, configured, configure_chosen}
use Rattle.rules.specs.Counters.{begun, ended, details_reply, configure_reply, counter_start_reply}
use Rattle.rules.specs.Counters.{counter_stop_reply, read_reply, read_high_reply, event_reply}
use Rattle.rules.specs.Requests.{hart_start, hart_stop, hart_suspend, Request, life, other, PlainRequest}
use Rattle.rules.specs.Requests.{base_version, base_implementation, base_implementation_version, base_vendor}
use Rattle.rules.specs.Requests.{base_architecture, base_machine, base_probe, interrupt, fence, hart_status}
use Rattle.rules.specs.Requests.{counter_count, counter_details, counter_configure, counter_start, counter_stop}
use Rattle.rules.specs.Requests.{counter_read, counter_read_high, unknown}
use Rattle.rules.specs.Machine.{life_reply, plain_reply, request_reply, Operation, call, completion, waking, event}
use Rattle.rules.specs.Machine.{enabled_reply}
use Rattle.rules.specs.declared.platform.Platform.{Platform}
use Rattle.rules.specs.declared.records.Hart.{Hart}
use Rattle.rules.specs.declared.records.Counter.{Counter}
use Rattle.std.specs.Prelude.{Option, is_some, Some, None}
use Rattle.std.proofs.lemmas.Option.{same_Some, none-some}
use Rattle.rules.specs.declared.actions.Action.{Action}
use Rattle.rules.proofs.Lists.{first-in, fourth-in, second-in, third-in, set-either}
use Rattle.rules.proofs.Logic.{if-both}
use Rattle.rules.specs.declared.answers.Error.TheVariants.{InvalidParam, NotSupported}
use Rattle.rules.specs.declared.answers.Refusal.TheVariants.{NotEnabled, NotWellFormed, ShortMemory}
use Rattle.rules.specs.declared.answers.Refusal.TheVariants.{StateForbids}

-- ----- eight counters that are fine

abbrev pub Fine : List Counter → Type 0
Fine cs = (length cs ≡ counters) × ((i : ℕ) → CounterFine (counter_at cs i))

set-fine : (cs : List Counter) (i : ℕ) (c : Counter) → CounterFine c → Fine cs → Fine (set cs i c)
unfolding counter_at
set-fine cs i c ok f = (length-set cs i c ∙ f.0, λ j. set-either CounterFine blank cs i j c (λ _. ok) (f.1 j))

each-fine : (g : Counter → Counter) → ((c : Counter) → CounterFine c → CounterFine (g c))
    → (is : List ℕ) (cs : List Counter) → Fine cs → Fine (each g is cs)
unfolding each
each-fine g ok [] cs f = f
each-fine g ok (i ∷ is) cs f = each-fine g ok is (set cs i (g (counter_at cs i)))
    (set-fine cs i (g (counter_at cs i)) (ok (counter_at cs i) (f.1 i)) f)

-- ----- the caller's counters after each counter call

-- "Events 0xF0000 to 0xF0015 only": so a mapped code is 0 to 21
event-code : (e : ℕ) → is_event e ≡ true → e - first_event ≤ last_code
unfolding is_event
event-code e h = omega (arith, leb-true e last_event (second_so (leb first_event e) (leb e last_event) h))

configured-fine : (flags e : ℕ) (c : Counter) → e ≤ last_code → CounterFine (configured flags e c)
unfolding configured
configured-fine flags e c l = record {
  codes = λ k q. subst (λ (n : ℕ). n ≤ last_code) (same_Some e k q) l;
  runs = λ _. refl;
}

ended-fine : (flags : ℕ) (c : Counter) → CounterFine c → CounterFine (ended flags c)
unfolding ended
ended-fine flags c f = record {
  codes = λ k. if-both (λ (o : Option ℕ). o ≡ Some k → k ≤ last_code) (bit flags 0)
      (λ _ q. absurd (none-some k q)) (λ _. f.codes k);
  runs = λ r. absurd (false≢true r);
}

-- a start keeps what is mapped
begun-mapped : (flags x : ℕ) (cs : List Counter) (i j : ℕ) → is_mapped cs j ≡ true
    → is_mapped (set cs i (begun flags x (counter_at cs i))) j ≡ true
unfolding is_mapped counter_at begun
begun-mapped flags x cs i j m =
    set-either (λ (c : Counter). is_some c.event ≡ true) blank cs i j (begun flags x (counter_at cs i))
    (λ e. subst (λ (k : ℕ). is_some (counter_at cs k).event ≡ true) e m) m

all-mapped : (flags x : ℕ) (cs : List Counter) (i : ℕ) (is : List ℕ) → all (is_mapped cs) is ≡ true
    → all (is_mapped (set cs i (begun flags x (counter_at cs i)))) is ≡ true
unfolding all
all-mapped flags x cs i [] a = refl
all-mapped flags x cs i (j ∷ is) a =
    both_true (begun-mapped flags x cs i j (first_so (is_mapped cs j) _ a))
    (all-mapped flags x cs i is (second_so (is_mapped cs j) _ a))

begun-fine : (flags x : ℕ) (is : List ℕ) (cs : List Counter) → all (is_mapped cs) is ≡ true → Fine cs
    → Fine (each (begun flags x) is cs)
unfolding each all begun is_mapped
begun-fine flags x [] cs a f = f
begun-fine flags x (i ∷ is) cs a f =
    let m : is_some (counter_at cs i).event ≡ true = first_so (is_mapped cs i) _ a in
    begun-fine flags x is (set cs i (begun flags x (counter_at cs i)))
    (all-mapped flags x cs i is (second_so (is_mapped cs i) _ a))
    (set-fine cs i (begun flags x (counter_at cs i))
    (record { codes = (f.1 i).codes; runs = λ _. m }) f)

-- an error of these, or counters that are fine
data PlainFine (es : List Error) : Plain → Type 0 where
  f-fails : {e : Error} → Memᴰ e es → PlainFine es (fails e)
  f-gives : {n : ℕ} {cs : List Counter} → Fine cs → PlainFine es (gives n cs)
  f-sends : {acts : List Action} {c : ℕ} {ks : List ℕ} → PlainFine es (sends acts c ks)

walk : {es : List Error} {b : Bool} {x y : Plain} → (b ≡ true → PlainFine es x) → (b ≡ false → PlainFine es y)
    → PlainFine es (when b then x else y)
walk {es} {b} f g = if-both (PlainFine es) b f g

chosen-fine : (flags e : ℕ) (cs : List Counter) → e ≤ last_code → Fine cs → (o : Option ℕ)
    → PlainFine (InvalidParam ∷ NotSupported ∷ []) (configure_chosen flags e cs o)
unfolding configure_chosen
chosen-fine flags e cs l f None = f-fails second-in
chosen-fine flags e cs l f (Some i) =
    f-gives (set-fine cs i (configured flags e (counter_at cs i)) (configured-fine flags e (counter_at cs i) l) f)

plain-fine : (p : Platform) (v : View) → Fine v.own → (q : PlainRequest)
    → PlainFine (plain_errors q) (plain_reply p v q)
unfolding plain_reply interrupt_reply fence_reply send_to status_reply details_reply configure_reply counter_start_reply counter_stop_reply read_reply read_high_reply
plain-fine p v f base_version = f-gives f
plain-fine p v f base_implementation = f-gives f
plain-fine p v f base_implementation_version = f-gives f
plain-fine p v f (base_probe e) = f-gives f
plain-fine p v f base_vendor = f-gives f
plain-fine p v f base_architecture = f-gives f
plain-fine p v f base_machine = f-gives f
plain-fine p v f (interrupt m base) = walk (λ _. f-fails first-in) (λ _. f-sends)
plain-fine p v f (fence k m base s n i) =
    walk (λ _. f-fails first-in)
    (λ _. walk (λ _. f-fails first-in)
    (λ _. walk (λ _. f-fails second-in) (λ _. walk (λ _. f-fails third-in) (λ _. f-sends))))
plain-fine p v f (hart_status k) = walk (λ _. f-fails first-in) (λ _. f-gives f)
plain-fine p v f counter_count = f-gives f
plain-fine p v f (counter_details i) = walk (λ _. f-fails first-in) (λ _. f-gives f)
plain-fine p v f (counter_configure base m flags e d) =
    walk (λ _. f-fails first-in)
    (λ _. walk (λ _. f-fails first-in) (λ _. walk (λ _. f-fails second-in) (λ is. walk (λ _. f-fails first-in) (λ _.
    chosen-fine flags (e - first_event) v.own (event-code e (not-false _ is)) f
    (chosen flags v.own (counter_set p base m))))))
plain-fine p v f (counter_start base m flags x) =
    walk (λ _. f-fails first-in)
    (λ _. walk (λ _. f-fails first-in)
    (λ _. walk (λ _. f-fails first-in) (λ mapped. walk (λ _. f-fails second-in) (λ _. walk (λ _. f-fails third-in) (λ _.
    f-gives (begun-fine flags x (counter_set p base m) v.own (not-false _ mapped) f))))))
plain-fine p v f (counter_stop base m flags) =
    walk (λ _. f-fails first-in)
    (λ _. walk (λ _. f-fails first-in) (λ _. walk (λ _. f-fails second-in) (λ _. walk (λ _. f-fails third-in) (λ _.
    f-gives (each-fine (ended flags) (ended-fine flags) (counter_set p base m) v.own f)))))
plain-fine p v f (counter_read i) = walk (λ _. f-fails first-in) (λ _. f-gives f)
plain-fine p v f (counter_read_high i) = walk (λ _. f-fails first-in) (λ _. f-gives f)
plain-fine p v f unknown = f-fails first-in

-- ----- events

pub counted-blank : (e : ℕ) → counted e blank ≡ blank
unfolding counted when◌then◌else◌
counted-blank e = refl

counted-fine : (e : ℕ) (c : Counter) → CounterFine c → CounterFine (counted e c)
unfolding counted
counted-fine e c f = if-both CounterFine _ (λ _. record { codes = f.codes; runs = f.runs })
    (λ _. f)

-- counter i after an event
pub counted-at : (e : ℕ) (cs : List Counter) (i : ℕ) → counter_at (map (counted e) cs) i ≡ counted e (counter_at cs i)
unfolding counter_at
counted-at e cs i = ap (get_or (map (counted e) cs) i) (sym (counted-blank e)) ∙ get_or-map (counted e) cs i blank

pub event-fine : (e : ℕ) (cs : List Counter) → Fine cs → Fine (map (counted e) cs)
event-fine e cs f =
    (length-map cs (counted e) ∙ f.0, λ i. rw (counted-at e cs i) (counted-fine e (counter_at cs i) (f.1 i)))

-- ----- every reply is a listed refusal, a listed error, or leaves the caller's counters fine

pub data ReplyFine (ks : List Refusal) (es : List Error) : Reply → Type 0 where
  r-refused : {k : Refusal} → Memᴰ k ks → ReplyFine ks es (refused k)
  r-failed : {e : Error} → Memᴰ e es → ReplyFine ks es (failed e)
  r-did : {d : Done} → Fine d.own → ReplyFine ks es (did d)

stroll : {ks : List Refusal} {es : List Error} {b : Bool} {x y : Reply} → (b ≡ true → ReplyFine ks es x)
    → (b ≡ false → ReplyFine ks es y)
    → ReplyFine ks es (when b then x else y)
stroll {ks} {es} {b} f g = if-both (ReplyFine ks es) b f g

plain-reply-fine : {ks : List Refusal} {es : List Error} (v : View) → Fine v.own → {q : Plain} → PlainFine es q
    → ReplyFine ks es (plain v q)
unfolding plain
plain-reply-fine v f (f-fails l) = r-failed l
plain-reply-fine v f (f-gives g) = r-did g
plain-reply-fine v f f-sends = r-did f

moves-fine : {ks : List Refusal} {es : List Error} (v : View) (k : Bool) (acts : List Action) (hs : List Hart) → Fine v.own
    → ReplyFine ks es (moves v k acts hs)
unfolding moves
moves-fine v k acts hs f = r-did f

request-fine : {ks : List Refusal} (p : Platform) (v : View) (h : ℕ) → Fine v.own → (q : Request)
    → ReplyFine ks (request_errors q) (request_reply p v h q)
unfolding request_reply life_reply start_reply stop_reply suspend_reply
request-fine p v h f (life (hart_start k a o)) =
    stroll (λ _. r-failed first-in)
    (λ _. stroll (λ _. r-failed second-in) (λ _. stroll (λ _. r-failed third-in) (λ _. moves-fine v _ _ _ f)))
request-fine p v h f (life hart_stop) = moves-fine v _ _ _ f
request-fine p v h f (life (hart_suspend y a o)) =
    stroll (λ _. moves-fine v _ _ _ f)
    (λ _. stroll (λ _. r-failed first-in) (λ _. stroll (λ _. r-failed second-in) (λ _. moves-fine v _ _ _ f)))
request-fine p v h f (other q) = plain-reply-fine v f (plain-fine p v f q)

goes_on-fine : {es : List Error} (v : View) (h : ℕ) (acts : List Action) (n : Option Hart) → Fine v.own
    → ReplyFine (NotWellFormed ∷ ShortMemory ∷ NotEnabled ∷ StateForbids ∷ []) es (goes_on v h acts n)
unfolding goes_on
goes_on-fine v h acts (Some x) f = moves-fine v _ _ _ f
goes_on-fine v h acts None f = r-refused fourth-in

pub enabled-fine : (p : Platform) (v : View) (op : Operation) → Fine v.own
    → ReplyFine (refusals_of op) (errors_of op) (enabled_reply p v op)
unfolding enabled_reply done_reply wake_reply event_reply
enabled-fine p v (call room h r) f = stroll (λ _. r-refused fourth-in) (λ _. request-fine p v h f _)
enabled-fine p v (completion room h) f = goes_on-fine v h _ _ f
enabled-fine p v (waking room h) f = goes_on-fine v h _ _ f
enabled-fine p v (event h e) f = stroll (λ _. r-refused third-in)
    (λ _. plain-reply-fine v f (f-gives (event-fine e v.own f)))
