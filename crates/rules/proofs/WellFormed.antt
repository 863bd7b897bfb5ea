-- The tests of platform and tables agree with the statements of what they test, both ways.
use mathlib.Core.Path.{◌≡◌, refl, sym, ap, ◌∙◌, subst}
use mathlib.Core.Bool.{Bool, true, false, not, ◌||◌}
use mathlib.Core.List.{List}
use mathlib.Core.Logic.{◌↔◌}
use Prim.Native.Nat.{ℕ, ◌+◌, ◌^◌, ◌<◌, ◌≤◌}
use native.Mathlib.Omega.{arith}
use lib.Dec.{ltb, leb, eqb}
use lib.ListN.{length, get_or-eq_default}
use borrow.Author.Tests.{ltb-true, leb-true, eqb-true, lt-ltb, le-ltb, le-leb, eq-eqb, not-true}
use Rattle.std.proofs.lemmas.Bool.{false_from_ne_true, false≢true, not_from_false}
use Rattle.std.specs.Cmp.Derive.{both_true}
use Rattle.std.specs.Cmp.{first_so, second_so}
use Rattle.rules.specs.Sets.{every}
use Rattle.rules.specs.Names.{harts, counters, last_code, STOPPED, RESUME_PENDING}
use Rattle.rules.specs.Platform.{has, enabled, hypervisor, width, used_ranges, range_accepted, platform_accepted}
use Rattle.rules.specs.Platform.{PlatformAccepted, within_limits}
use Rattle.rules.specs.Tables.{Tables, idle, blank, hart_at, own_at, counter_at, is_idle, is_blank, hart_well_formed}
use Rattle.rules.specs.Tables.{counter_well_formed, shaped, hart_row_well_formed, tables_well_formed, CounterFine}
use Rattle.rules.specs.Tables.{HartFine, OwnFine, TablesWellFormed, event_well_formed}
use Rattle.std.specs.Prelude.{Option, Some, None, is_some}
use Rattle.std.proofs.lemmas.Option.{same_Some, none-some}
use Rattle.rules.specs.declared.platform.HartSet.{HartSet}
use Rattle.rules.specs.declared.platform.Range.{Range}
use Rattle.rules.specs.declared.platform.Platform.{Platform}
use Rattle.rules.specs.declared.records.Hart.{Hart}
use Rattle.rules.specs.declared.records.Counter.{Counter}
use Rattle.rules.proofs.Logic.{if-true, if-false, by_cases, below_or, clash, not-or, not-or-inv}
use Rattle.rules.proofs.SetLaws.{every-at, every_of}
use Rattle.rules.proofs.Ascending.{all_in, all_of}

-- ----- no hart over 127 is in a set

pub has-over : (s : HartSet) (h : ℕ) → harts ≤ h → has s h ≡ false
unfolding has
has-over s h l = if-false _ _ (le-ltb h 64 (omega arith)) ∙ if-false _ _ (le-ltb h harts l)

pub has-under : (s : HartSet) (h : ℕ) → has s h ≡ true → h < harts
has-under s h e = below_or h harts (λ l. l) (λ g. absurd (clash e (has-over s h g)))

pub enabled_under : (p : Platform) (h : ℕ) → enabled p h ≡ true → h < harts
unfolding enabled
enabled_under p h e = has-under p.enabled h e

pub enabled-over : (p : Platform) (h : ℕ) → harts ≤ h → enabled p h ≡ false
unfolding enabled
enabled-over p h l = has-over p.enabled h l

-- ----- the platform

range-agrees : (w : ℕ) (r : Range) → range_accepted w r ≡ true ↔ ((0 < r.length) × (r.base + r.length ≤ 2 ^ w))
unfolding range_accepted
range-agrees w r = (
  λ e. (ltb-true 0 r.length (first_so _ _ e), leb-true (r.base + r.length) (2 ^ w) (second_so (ltb 0 r.length) _ e)),
  λ h. both_true (lt-ltb 0 r.length h.0) (le-leb (r.base + r.length) (2 ^ w) h.1),
)

pub platform-agrees : (p : Platform) → platform_accepted p ≡ true ↔ PlatformAccepted p
unfolding platform_accepted hypervisor
platform-agrees p = (there, back)
  where
    there : platform_accepted p ≡ true → PlatformAccepted p
    there e =
        let e1 = second_so (enabled p p.boot) _ e in
        let e2 = second_so (every harts (λ h. not (hypervisor p h) || enabled p h)) _ e1 in
        let limits = first_so (within_limits p) _ e2 in
        let widths = second_so (leb p.used 8) _ limits in
        record {
          boot = first_so (enabled p p.boot) _ e;
          hypervisors = λ h y.
              not-or-inv (hypervisor p h) (enabled p h)
              (every-at (λ k. not (hypervisor p k) || enabled p k) harts h (has-under p.hypervisor h y)
              (first_so _ _ e1)) y;
          ranges = leb-true p.used 8 (first_so _ _ limits);
          asid = leb-true p.asid 16 (first_so _ _ widths);
          vmid = leb-true p.vmid 14 (second_so (leb p.asid 16) _ widths);
          used = λ r m.
              (range-agrees (width p) r).0
              (all_in (range_accepted (width p)) (used_ranges p) (second_so (within_limits p) _ e2) m);
        }

    back : PlatformAccepted p → platform_accepted p ≡ true
    back a =
        both_true a.boot
        (both_true (every_of (λ h. not (hypervisor p h) || enabled p h) harts
        (λ h l. not-or (hypervisor p h) (enabled p h) (a.hypervisors h)))
        (both_true
        (both_true (le-leb p.used 8 a.ranges) (both_true (le-leb p.asid 16 a.asid) (le-leb p.vmid 14 a.vmid)))
        (all_of (range_accepted (width p)) (used_ranges p) (λ r m. (range-agrees (width p) r).1 (a.used r m)))))

-- ----- a hart's record

idle-agrees : (x : Hart) → is_idle x ≡ true → x ≡ idle STOPPED
unfolding is_idle
idle-agrees x e =
    let e1 = second_so (eqb x.state STOPPED) _ e in
    let e2 = second_so x.retentive _ e1 in
    let s : x.state ≡ STOPPED = eqb-true _ _ (first_so _ _ e) in
    let r : x.retentive ≡ true = first_so _ _ e1 in
    let a : x.address ≡ 0 = eqb-true _ _ (first_so _ _ e2) in
    let o : x.opaque ≡ 0 = eqb-true _ _ (second_so (eqb x.address 0) _ e2) in
    λ i. record { state = s i; retentive = r i; address = a i; opaque = o i }

pub hart-agrees : (p : Platform) (h : ℕ) (x : Hart) → hart_well_formed (enabled p h) x ≡ true ↔ HartFine p h x
unfolding hart_well_formed is_idle
hart-agrees p h x = (there, back)
  where
    there : hart_well_formed (enabled p h) x ≡ true → HartFine p h x
    there e =
        by_cases (enabled p h)
        (λ on. record {
          state = leb-true x.state RESUME_PENDING (sym (if-true _ _ on) ∙ e);
          unused = λ off. absurd (clash on off);
        })
        (λ off.
        let same = idle-agrees x (sym (if-false _ _ off) ∙ e) in
        record { state = rw same (omega arith); unused = λ _. same })

    back : HartFine p h x → hart_well_formed (enabled p h) x ≡ true
    back f =
        by_cases (enabled p h)
        (λ on. if-true _ _ on ∙ le-leb x.state RESUME_PENDING f.state)
        (λ off. if-false _ _ off ∙ ap is_idle (f.unused off))

-- ----- a counter

unmapped : (o : Option ℕ) → is_some o ≡ false → o ≡ None
unmapped None e = refl
unmapped (Some k) e = absurd (false≢true (sym e))

blank-agrees : (c : Counter) → is_blank c ≡ true → c ≡ blank
unfolding is_blank
blank-agrees c e =
    let e1 = second_so (not (is_some c.event)) _ e in
    let m : c.event ≡ None = unmapped c.event (not-true _ (first_so _ _ e)) in
    let r : c.running ≡ false = not-true _ (first_so _ _ e1) in
    let v : c.value ≡ 0 = eqb-true _ _ (second_so (not c.running) _ e1) in
    λ i. record { event = m i; running = r i; value = v i }

pub blank-fine : CounterFine blank
blank-fine = record { codes = λ k e. absurd (none-some k e); runs = λ e. e }

-- of an enabled hart's counter
on-there : (o : Option ℕ) (running : Bool) (v : ℕ) → event_well_formed o running ≡ true
    → CounterFine (record { event = o; running = running; value = v })
unfolding event_well_formed
on-there (Some k) r v e = record {
  codes = λ j q. subst (λ (n : ℕ). n ≤ last_code) (same_Some k j q) (leb-true k last_code e);
  runs = λ _. refl;
}
on-there None r v e = record {
  codes = λ j q. absurd (none-some j q);
  runs = λ q. absurd (clash q (not-true _ e));
}

on-back : (o : Option ℕ) (running : Bool) (v : ℕ) → CounterFine (record { event = o; running = running; value = v })
    → event_well_formed o running ≡ true
unfolding event_well_formed
on-back (Some k) r v f = le-leb k last_code (f.codes k refl)
on-back None r v f = not_from_false _ (false_from_ne_true r (λ q. false≢true (f.runs q)))

pub counter-agrees : (on : Bool) (c : Counter) → counter_well_formed on c ≡ true
    ↔ (CounterFine c × (on ≡ false → c ≡ blank))
unfolding counter_well_formed is_blank
counter-agrees on c = (there, back)
  where
    there : counter_well_formed on c ≡ true → CounterFine c × (on ≡ false → c ≡ blank)
    there e =
        by_cases on
        (λ y. (on-there c.event c.running c.value (sym (if-true _ _ y) ∙ e), λ n. absurd (clash y n)))
        (λ n.
        let same = blank-agrees c (sym (if-false _ _ n) ∙ e) in
        (rw same blank-fine, λ _. same))

    back : CounterFine c × (on ≡ false → c ≡ blank) → counter_well_formed on c ≡ true
    back f =
        by_cases on
        (λ y. if-true _ _ y ∙ on-back c.event c.running c.value f.0)
        (λ n. if-false _ _ n ∙ ap is_blank (f.1 n))

-- ----- a hart's counters, and the tables

counter-over : (cs : List Counter) (i : ℕ) → length cs ≤ i → counter_at cs i ≡ blank
unfolding counter_at
counter-over cs i l = get_or-eq_default cs blank l

pub own-agrees : (p : Platform) (h : ℕ) (cs : List Counter)
    → ((length cs ≡ counters) × (every counters (λ i. counter_well_formed (enabled p h) (counter_at cs i)) ≡ true))
    ↔ OwnFine p h cs
own-agrees p h cs = (there, back)
  where
    there : (length cs ≡ counters) × (every counters (λ i. counter_well_formed (enabled p h) (counter_at cs i)) ≡ true)
        → OwnFine p h cs
    there e =
        let each : (i : ℕ) → CounterFine (counter_at cs i) × (enabled p h ≡ false → counter_at cs i ≡ blank) =
        λ i. below_or i counters
        (λ l. (counter-agrees (enabled p h) (counter_at cs i)).0
        (every-at (λ k. counter_well_formed (enabled p h) (counter_at cs k)) counters i l e.1))
        (λ g. let same = counter-over cs i (rw e.0 g) in (rw same blank-fine, λ _. same)) in
        record { eight = e.0; fine = λ i. (each i).0; unused = λ off i. (each i).1 off }

    back : OwnFine p h cs
        → (length cs ≡ counters) × (every counters (λ i. counter_well_formed (enabled p h) (counter_at cs i)) ≡ true)
    back f = (
      f.eight,
      every_of (λ k. counter_well_formed (enabled p h) (counter_at cs k)) counters
          (λ i l. (counter-agrees (enabled p h) (counter_at cs i)).1 (f.fine i, λ off. f.unused off i)),
    )

pub tables_agree : (p : Platform) (t : Tables) → tables_well_formed p t ≡ true ↔ TablesWellFormed p t
unfolding tables_well_formed shaped hart_row_well_formed
tables_agree p t = (there, back)
  where
    there : tables_well_formed p t ≡ true → TablesWellFormed p t
    there e =
        let s = first_so (shaped t) (every harts (hart_row_well_formed p t)) e in
        let s1 = second_so (eqb (length t.harts) harts) _ s in
        let eight : (h : ℕ) → h < harts → length (own_at t h) ≡ counters =
        λ h l. eqb-true _ _
        (every-at (λ k. eqb (length (own_at t k)) counters) harts h l
        (second_so (eqb (length t.counters) harts) _ s1)) in
        let row : (h : ℕ) → h < harts → hart_row_well_formed p t h ≡ true =
        λ h l. every-at (hart_row_well_formed p t) harts h l (second_so (shaped t) _ e) in
        record {
          records = eqb-true _ _ (first_so _ _ s);
          rows = eqb-true _ _ (first_so _ _ s1);
          hart = λ h l. (hart-agrees p h (hart_at t.harts h)).0 (first_so _ _ (row h l));
          own = λ h l. (own-agrees p h (own_at t h)).0
              (eight h l, second_so (hart_well_formed (enabled p h) (hart_at t.harts h)) _ (row h l));
        }

    back : TablesWellFormed p t → tables_well_formed p t ≡ true
    back w =
        both_true
        (both_true (eq-eqb _ _ w.records)
        (both_true (eq-eqb _ _ w.rows)
        (every_of (λ k. eqb (length (own_at t k)) counters) harts (λ h l. eq-eqb _ _ (w.own h l).eight))))
        (every_of (hart_row_well_formed p t) harts
        (λ h l. both_true ((hart-agrees p h (hart_at t.harts h)).1 (w.hart h l))
        ((own-agrees p h (own_at t h)).1 (w.own h l)).1))
