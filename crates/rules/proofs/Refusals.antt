-- Refusals alter nothing and are listed; two states that differ in other harts' counters alone get the same.
use mathlib.Core.List.{Memᴰ, List, []}
use mathlib.Core.Bool.{true, false}
use mathlib.Core.Path.{◌≡◌, refl, ap, sym, ◌∙◌}
use Prim.Native.Nat.{ℕ}
use borrow.Author.Tests.{not-false}
use Rattle.std.proofs.lemmas.Bool.{false≢true, not_from_true}
use Rattle.std.specs.Cmp.{second_so}
use Rattle.rules.specs.Refusals.{errors_of, refusals_of, RefusalsAlterNothing, Listed, listed-refusal}
use Rattle.rules.specs.Refusals.{listed-error, no-refusal, RefusalsListed}
use Rattle.rules.specs.Machine.{call, completion, event, is_short, waking, Operation, hart_of, checked_reply}
use Rattle.rules.specs.Machine.{reply, after}
use Rattle.rules.specs.Platform.{platform_accepted}
use Rattle.rules.specs.Tables.{Tables, well_formed, tables_well_formed}
use Rattle.rules.specs.Replies.{view, Reply, refused, failed, did, accepted, answer_of, actions_of, words_of, laid}
use Rattle.rules.specs.Replies.{memory_after, commit}
use Rattle.rules.specs.Promises.{Alike, CountersApart}
use Rattle.rules.specs.declared.platform.Platform.{Platform}
use Rattle.rules.proofs.Lists.{first-in, second-in, third-in}
use Rattle.rules.proofs.Logic.{if-false, if-both}
use Rattle.rules.proofs.WellFormed.{enabled_under, tables_agree}
use Rattle.rules.proofs.Own.{ReplyFine, r-refused, r-failed, r-did, enabled-fine}
use Rattle.rules.specs.declared.answers.Refusal.TheVariants.{NotEnabled, NotWellFormed, ShortMemory}

-- ----- refusals alter nothing

kept : (t : Tables) (h : ℕ) (r : Reply) → accepted r ≡ false → (commit t h r ≡ t) × (actions_of r ≡ [])
unfolding commit actions_of
kept t h (refused k) e = (refl, refl)
kept t h (failed k) e = (refl, refl)
kept t h (did d) e = absurd (false≢true (sym e))

nothing-laid : (m : List ℕ) → laid (words_of []) m ≡ m
unfolding laid words_of
nothing-laid m = refl

pub refusals-alter-nothing : RefusalsAlterNothing
unfolding after memory_after
refusals-alter-nothing p t op e =
    let k = kept t (hart_of op) (reply p t op) e in
    record { tables = k.0; actions = k.1; memory = λ m. rw k.1 (nothing-laid m) }

-- ----- refusals are listed

fine-listed : {op : Operation} {r : Reply} → ReplyFine (refusals_of op) (errors_of op) r → Listed op r
fine-listed (r-refused l) = listed-refusal l
fine-listed (r-failed l) = listed-error l
fine-listed (r-did f) = no-refusal

-- H1 and H2 are listed for every operation, H4 for every one that may be short
h1-listed : (op : Operation) → Memᴰ NotWellFormed (refusals_of op)
h1-listed (call room h q) = first-in
h1-listed (completion room h) = first-in
h1-listed (waking room h) = first-in
h1-listed (event h e) = first-in

h4-listed : (op : Operation) → is_short op ≡ true → Memᴰ ShortMemory (refusals_of op)
h4-listed (call room h q) e = second-in
h4-listed (completion room h) e = second-in
h4-listed (waking room h) e = second-in
h4-listed (event h c) e = absurd (false≢true e)

h2-listed : (op : Operation) → Memᴰ NotEnabled (refusals_of op)
h2-listed (call room h q) = third-in
h2-listed (completion room h) = third-in
h2-listed (waking room h) = third-in
h2-listed (event h e) = second-in

pub refusals-listed : RefusalsListed
unfolding reply checked_reply well_formed view
refusals-listed p t op =
    if-both (Listed op) _ (λ _. listed-refusal (h1-listed op))
    (λ w. if-both (Listed op) _ (λ short. listed-refusal (h4-listed op short))
    (λ _. if-both (Listed op) _ (λ _. listed-refusal (h2-listed op))
    (λ on.
    let fine = (tables_agree p t).0 (second_so (platform_accepted p) (tables_well_formed p t) (not-false _ w)) in
    let own = fine.own (hart_of op) (enabled_under p (hart_of op) (not-false _ on)) in
    fine-listed {op = op} (enabled-fine p (view t (hart_of op)) op (own.eight, own.fine)))))

-- ----- isolation

same-reply : (p : Platform) (op : Operation) (t t' : Tables) → Alike p (hart_of op) t t' → reply p t op ≡ reply p t' op
unfolding reply checked_reply view
same-reply p op t t' a =
    if-false _ _ (not_from_true _ a.well) ∙ rw (a.own, a.harts) refl ∙ sym (if-false _ _ (not_from_true _ a.well'))

same-harts : (h : ℕ) (t t' : Tables) → t.harts ≡ t'.harts → (r : Reply) → (commit t h r).harts ≡ (commit t' h r).harts
unfolding commit
same-harts h t t' e (refused k) = e
same-harts h t t' e (failed k) = e
same-harts h t t' e (did d) = refl

pub counters-apart : CountersApart
unfolding after
counters-apart p op t t' a =
    let e = same-reply p op t t' a in
    record {
      answer = ap answer_of e;
      actions = ap actions_of e;
      harts = same-harts (hart_of op) t t' a.harts (reply p t op)
          ∙ ap (λ (r : Reply). (commit t' (hart_of op) r).harts) e;
    }
