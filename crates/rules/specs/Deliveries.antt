-- The promises on what a call sends: whom a mask reaches, which actions the host gets, when an
-- interrupt, a fence or a reported event is accepted. Each statement stands under its sentence.
use mathlib.Core.List.{[], ◌∷◌, List, map, Memᴰ}
use Rattle.std.specs.Prelude.{◌≡◌, true, false, ◌↔◌, ℕ, ◌+◌, ◌<◌, ◌≤◌, drop, length, take}
use Rattle.rules.specs.Tables.{hart_at, well_formed, state_of, own_at, Tables}
use Rattle.rules.specs.Names.{HSM, STARTED, action_memory}
use Rattle.rules.specs.Names.{last_reported, STOP_PENDING, STOPPED, IPI}
use Rattle.rules.specs.Names.{RFENCE, harts, interrupt_kind, fence_kind, interrupt_sent}
use Rattle.rules.specs.Machine.{Operation, completion, waking, event, call, reply}
use Rattle.rules.specs.Replies.{actions_of, enter, front_of, memory_after, words_of, Reply}
use Rattle.rules.specs.Replies.{accepted, failed, Done, did}
use Rattle.rules.specs.Fences.{hypervisors_fit, id_valid, range_valid, function_of}
use Rattle.rules.specs.declared.actions.Fence.{Fence}
use Rattle.rules.specs.Sets.{bit, ones, Ascending}
use Rattle.rules.specs.Platform.{width, enabled}
use Rattle.rules.specs.Masks.{selected, selection_fits, reached, action_for}
use Rattle.rules.specs.Events.{sent_event, operands_of, start_in, size_in, id_in}
use Rattle.rules.specs.declared.platform.Platform.{Platform}
use Rattle.rules.specs.declared.records.Hart.{Hart}
use Rattle.rules.specs.declared.answers.Registers.{Registers}
use Rattle.rules.specs.declared.answers.Error.TheVariants.{InvalidAddress, InvalidParam}
use Rattle.rules.specs.declared.answers.Error.TheVariants.{NotSupported}

-- ----- masks: "A hart mask reaches exactly the harts that the rules name."

-- of the mask m with this base
pub record MaskExact (p : Platform) (m base : ℕ) : Type 0 where
  -- "With base 2^64 - 1 the mask is ignored and all enabled harts are selected."
  pub everyone : base ≡ ones (width p) → (h : ℕ) → Memᴰ h (selected p m base)
      ↔ (enabled p h ≡ true)
  -- "Otherwise bit i selects hart base + i, summed without wrapping"
  pub named : (base ≡ ones (width p) → ⊥)
      → (h : ℕ) → Memᴰ h (selected p m base)
      ↔ ((i : ℕ) × (i < width p) × (bit m i ≡ true) × (h ≡ base + i))
  -- "any selected number not enabled gives -3"
  pub fits : selection_fits p m base ≡ true
      ↔ ((h : ℕ) → Memᴰ h (selected p m base) → enabled p h ≡ true)
  -- so a bit whose sum is over 127 refuses the mask: it never comes round to a small number
  pub never_wraps : (base ≡ ones (width p) → ⊥) → (i : ℕ) → i < width p → bit m i ≡ true
      → harts ≤ base + i → selection_fits p m base ≡ false
  -- in ascending order, none twice
  pub ascending : Ascending (selected p m base)
  -- "A selected hart is reached unless STOPPED or STOP_PENDING"
  pub reaches : (hs : List Hart) (h : ℕ) → Memᴰ h (reached p hs m base)
      ↔ (Memᴰ h (selected p m base) × (state_of hs h ≡ STOPPED → ⊥)
      × (state_of hs h ≡ STOP_PENDING → ⊥))
  pub reached_ascending : (hs : List Hart) → Ascending (reached p hs m base)

-- of every mask and base
abbrev pub MasksExact : Type 0
MasksExact = (p : Platform) (m base : ℕ) → MaskExact p m base

-- the harts that an accepted call of hart h reaches, its actions and the event that it sends; and
-- that no hart record and no counter is altered before that event is counted
pub record Sends (p : Platform) (t : Tables) (h : ℕ) (q : Registers) (d : Done)
    (kind start size id sent : ℕ) : Type 0 where
  pub told : d.told ≡ reached p t.harts q.a0 q.a1
  pub actions : d.actions ≡ map (action_for kind start size id) d.told
  pub code : d.code ≡ sent
  pub harts : d.harts ≡ t.harts
  pub own : d.own ≡ own_at t h
  pub value : d.value ≡ 0
  pub parked : d.parked ≡ false

-- "Kinds: .. 2 interrupt (three zeros), 3 to 9 fences FID 0 to 6 (absent words 0; otherwise the
-- arguments unaltered). One a reached hart, ascending." "Sent codes: interrupt 6; fences .." by the
-- standard's names
pub record CallsReach (p : Platform) (t : Tables) (h : ℕ) (q : Registers) (d : Done) : Type 0 where
  pub interrupts : q.a7 ≡ IPI → Sends p t h q d interrupt_kind 0 0 0 interrupt_sent
  pub fences : (f : Fence) → q.a7 ≡ RFENCE → q.a6 ≡ function_of f
      → Sends p t h q d (fence_kind + function_of f) (start_in (operands_of f) q)
      (size_in (operands_of f) q) (id_in (operands_of f) q) (sent_event f)

-- of every call that is done
abbrev pub CallsReachExactly : Type 0
CallsReachExactly = (p : Platform) (t : Tables) (room h : ℕ) (q : Registers) (d : Done)
    → reply p t (call room h q) ≡ did d → CallsReach p t h q d

-- ----- which are accepted

-- a call of the enabled, running hart h on well-formed tables, with enough action memory
pub record CanCall (p : Platform) (t : Tables) (room h : ℕ) : Type 0 where
  pub well : well_formed p t ≡ true
  pub long : action_memory ≤ room
  pub on : enabled p h ≡ true
  pub started : state_of t.harts h ≡ STARTED

-- "any selected number not enabled gives -3": nothing else stops an interrupt
pub record InterruptAnswered (p : Platform) (r : Reply) (q : Registers) : Type 0 where
  pub accepts : accepted r ≡ true ↔ selection_fits p q.a0 q.a1 ≡ true
  pub no_harts : selection_fits p q.a0 q.a1 ≡ false → r ≡ failed InvalidParam

-- of every interrupt of a caller that can call
abbrev pub InterruptsAccepted : Type 0
InterruptsAccepted = (p : Platform) (t : Tables) (room h : ℕ) (q : Registers) → CanCall p t room h
    → q.a7 ≡ IPI → q.a6 ≡ 0
    → InterruptAnswered p (reply p t (call room h q)) q

-- "Order: harts (-3), ASID or VMID below 2^width (-3), hypervisor extension on every selected hart
-- for FID 3 to 6 (-2), range (-5).": the four tests of a fence, and what it is answered
pub record FenceFits (p : Platform) (f : Fence) (q : Registers) : Type 0 where
  pub selection : selection_fits p q.a0 q.a1 ≡ true
  pub id : id_valid p (function_of f) (id_in (operands_of f) q) ≡ true
  pub hypervisors : hypervisors_fit p (function_of f) (selected p q.a0 q.a1) ≡ true
  pub range : range_valid (width p) (start_in (operands_of f) q) (size_in (operands_of f) q) ≡ true

-- the reply r to a fence: accepted if all four fit, else by the first that does not
pub record FenceAnswered (p : Platform) (f : Fence) (r : Reply) (q : Registers) : Type 0 where
  pub accepts : accepted r ≡ true ↔ FenceFits p f q
  pub no_harts : selection_fits p q.a0 q.a1 ≡ false → r ≡ failed InvalidParam
  pub no_id : selection_fits p q.a0 q.a1 ≡ true
      → id_valid p (function_of f) (id_in (operands_of f) q) ≡ false → r ≡ failed InvalidParam
  pub no_hypervisor : selection_fits p q.a0 q.a1 ≡ true
      → id_valid p (function_of f) (id_in (operands_of f) q) ≡ true
      → hypervisors_fit p (function_of f) (selected p q.a0 q.a1) ≡ false
      → r ≡ failed NotSupported
  pub no_range : selection_fits p q.a0 q.a1 ≡ true
      → id_valid p (function_of f) (id_in (operands_of f) q) ≡ true
      → hypervisors_fit p (function_of f) (selected p q.a0 q.a1) ≡ true
      → range_valid (width p) (start_in (operands_of f) q) (size_in (operands_of f) q) ≡ false
      → r ≡ failed InvalidAddress

-- of every fence of a caller that can call
abbrev pub FencesAccepted : Type 0
FencesAccepted = (p : Platform) (t : Tables) (room h : ℕ) (f : Fence) (q : Registers)
    → CanCall p t room h → q.a7 ≡ RFENCE → q.a6 ≡ function_of f
    → FenceAnswered p f (reply p t (call room h q)) q

-- "The host reports codes 0 to 5.": of an enabled hart in any state
abbrev pub EventsAccepted : Type 0
EventsAccepted = (p : Platform) (t : Tables) (h e : ℕ) → well_formed p t ≡ true → enabled p h ≡ true
    → accepted (reply p t (event h e)) ≡ true ↔ e ≤ last_reported

-- ----- actions: "An accepted start gives one action of kind 1 for its target; a wake from
-- non-retentive sleep gives one for that hart with its stored address and opaque. Nothing else
-- gives any."

-- no action, and nobody told
pub record GivesNothing (d : Done) : Type 0 where
  pub actions : d.actions ≡ []
  pub told : d.told ≡ []

-- a wake of hart h, whose record before it was x
pub record WakeGives (h : ℕ) (x : Hart) (d : Done) : Type 0 where
  pub retentive : x.retentive ≡ true → d.actions ≡ []
  pub non_retentive : x.retentive ≡ false → d.actions ≡ enter h x.address x.opaque ∷ []
  pub told : d.told ≡ []

-- a call: `CallsReachExactly` has the actions of interrupts and fences
pub record CallGives (q : Registers) (d : Done) : Type 0 where
  pub start : q.a7 ≡ HSM → q.a6 ≡ 0 → d.actions ≡ enter q.a0 q.a1 q.a2 ∷ []
  pub told : (q.a7 ≡ IPI → ⊥) → (q.a7 ≡ RFENCE → ⊥) → d.told ≡ []
  pub others : (q.a7 ≡ IPI → ⊥) → (q.a7 ≡ RFENCE → ⊥) → (q.a7 ≡ HSM → q.a6 ≡ 0 → ⊥)
      → d.actions ≡ []

-- by operation
abbrev pub Gives : Tables → Operation → Done → Type 0
Gives t (call room h q) d = CallGives q d
Gives t (completion room h) d = GivesNothing d
Gives t (waking room h) d = WakeGives h (hart_at t.harts h) d
Gives t (event h e) d = GivesNothing d

-- of every operation that is done
abbrev pub ActionsExact : Type 0
ActionsExact = (p : Platform) (t : Tables) (op : Operation) (d : Done) → reply p t op ≡ did d
    → Gives t op d

-- "action memory under 640 words": 640 words hold the actions of every operation
abbrev pub ActionsFit : Type 0
ActionsFit = (p : Platform) (t : Tables) (op : Operation)
    → length (words_of (actions_of (reply p t op))) ≤ action_memory

-- "The host gets back the filled front part of its own action memory; words after it keep their
-- contents."
pub record FrontLaid (r : Reply) (m : List ℕ) : Type 0 where
  pub front : take (length (front_of r)) (memory_after m r) ≡ front_of r
  pub rest : drop (length (front_of r)) (memory_after m r) ≡ drop (length (front_of r)) m

-- of every reply and every action memory
abbrev pub FrontExact : Type 0
FrontExact = (r : Reply) (m : List ℕ) → FrontLaid r m
