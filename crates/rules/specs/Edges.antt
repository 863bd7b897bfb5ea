-- "Edges worked through": the twelve that are proved, as one table. `EdgesHold` of `Promises` is
-- the statement.
use Rattle.std.specs.Prelude.{List, [], ◌∷◌, map, ℕ, ◌-◌, ◌^◌, ℤ, replicate}
use Rattle.rules.specs.Choice.{when◌then◌else◌}
use Rattle.rules.specs.Sets.{bit, every, those, numbers, first, keep, all, any}
use Rattle.rules.specs.Names.{IPI, RFENCE, HSM, PMU, success, not_supported, invalid_param}
use Rattle.rules.specs.Names.{invalid_address, already_available, action_memory}
use Rattle.rules.specs.Answers.{error_number, refusal_number}
use Rattle.rules.specs.Platform.{has, enabled, hypervisor, used_ranges, lies_in, valid_address}
use Rattle.rules.specs.Platform.{range_accepted, platform_accepted}
use Rattle.rules.specs.Tables.{hart_at, own_at, counter_at, fresh, is_idle, is_blank}
use Rattle.rules.specs.Tables.{hart_well_formed, event_well_formed, counter_well_formed, shaped}
use Rattle.rules.specs.Tables.{hart_row_well_formed, tables_well_formed, well_formed}
use Rattle.rules.specs.Replies.{view, Reply, refused, failed, did, moves, plain, counted}
use Rattle.rules.specs.Replies.{count_at, tell_one, tell, commit}
use Rattle.rules.specs.Masks.{selected, selection_fits, is_reached, reached, send_to}
use Rattle.rules.specs.Fences.{sent_code, id_valid, hypervisors_fit, range_valid}
use Rattle.rules.specs.Fences.{interrupt_reply, fence_reply}
use Rattle.rules.specs.Harts.{done_of, suspend_of, start_reply, suspend_reply, goes_on, done_reply}
use Rattle.rules.specs.Counters.{counter_set, is_counter, each, is_mapped, is_running}
use Rattle.rules.specs.Counters.{not_running, is_event, chosen, configured, configure_chosen}
use Rattle.rules.specs.Counters.{configure_reply, begun, counter_start_reply, can_read}
use Rattle.rules.specs.Counters.{read_reply, event_reply}
use Rattle.rules.specs.Requests.{interrupt_request, fence_request, hart_request}
use Rattle.rules.specs.Requests.{counter_request, request}
use Rattle.rules.specs.Machine.{life_reply, plain_reply, request_reply, Operation, call}
use Rattle.rules.specs.Machine.{completion, event, enabled_reply, checked_reply, reply, after}
use Rattle.rules.specs.Machine.{after_all}
use Rattle.rules.specs.declared.platform.HartSet.{HartSet}
use Rattle.rules.specs.declared.platform.Platform.{Platform}
use Rattle.rules.specs.declared.actions.Action.{Action}

-- ----- a platform for each set of enabled harts, with boot hart 0 and the transcript program's
-- range and widths

-- the platform on which these harts are enabled
abbrev pub platform_of : HartSet → Platform
platform_of s = record {
  enabled = s;
  hypervisor = record { low = 0; high = 0 };
  boot = 0;
  used = 1;
  ranges = record { base = 0x80000000; length = 0x08000000 }
      ∷ replicate 7 (record { base = 0; length = 0 });
  asid = 16;
  vmid = 14;
  implementation = 0;
  version = 0;
  vendor = 0;
  architecture = 0;
  machine = 0;
}

-- harts 0 to 3
abbrev pub four : HartSet
four = record { low = 0b1111; high = 0 }

-- harts 0, 1 and 4
abbrev pub zero_one_four : HartSet
zero_one_four = record { low = 0b10011; high = 0 }

-- harts 0 and 127
abbrev pub zero_last : HartSet
zero_last = record { low = 1; high = 2 ^ 63 }

-- ----- what an operation shows: the error, the value, and the targets of the actions

-- Hk, or a pair with the targets of its actions
pub data Shown : Type 0 where
  H : (k : ℕ) → Shown
  shows : (error : ℤ) → (value : ℕ) → (targets : List ℕ) → Shown

-- what a reply shows
unfoldable pub shown_by : Reply → Shown
shown_by (refused k) = H (refusal_number k)
shown_by (failed e) = shows (error_number e) 0 []
shown_by (did d) = shows success d.value (map (λ (a : Action). a.target) d.actions)

-- an edge: the enabled harts, what came before, the operation, and what it has to show
pub record Edge : Type 0 where
  pub harts : HartSet
  -- from fresh tables, before
  pub history : List Operation
  pub last : Operation
  pub want : Shown

-- calls of hart 0
abbrev calls : (eid fid a0 a1 a2 a3 a4 : ℕ) → Operation
calls e f a b c d x = call action_memory 0
    (record { a0 = a; a1 = b; a2 = c; a3 = d; a4 = x; a5 = 0; a6 = f; a7 = e })

abbrev interrupts : (mask base : ℕ) → Operation
interrupts m base = calls IPI 0 m base 0 0 0

abbrev edge : HartSet → List Operation → Operation → Shown → Edge
edge hs before op s = record { harts = hs; history = before; last = op; want = s }

-- harts 1, 2 and 3 of four, started and done
abbrev all_up : List Operation
all_up =
    calls HSM 0 1 0x80000000 0 0 0
    ∷ completion action_memory 1
    ∷ calls HSM 0 2 0x80000000 0 0 0
    ∷ completion action_memory 2
    ∷ calls HSM 0 3 0x80000000 0 0 0
    ∷ completion action_memory 3
    ∷ []

-- P1 to P12
unfoldable pub edges : List Edge
edges =
    -- P1 mask 5, base 2: harts 2 and 4, -3. P2 mask 0, base 500: accepted, nobody.
    edge four all_up (interrupts 5 2) (shows invalid_param 0 [])
    ∷ edge four all_up (interrupts 0 500) (shows success 0 [])
    -- P3 base 2^64 - 1, mask 0: harts 0 to 3. P4 base 2^64 - 2, mask 2: -3.
    ∷ edge four all_up (interrupts 0 (2 ^ 64 - 1)) (shows success 0 (0 ∷ 1 ∷ 2 ∷ 3 ∷ []))
    ∷ edge four all_up (interrupts 2 (2 ^ 64 - 2)) (shows invalid_param 0 [])
    -- P5 harts 0, 1, 4 enabled, base 3, mask 2: hart 4.
    ∷ edge zero_one_four (calls HSM 0 4 0x80000000 0 0 0 ∷ []) (interrupts 2 3)
    (shows success 0 (4 ∷ []))
    -- P6 harts 0 and 127 enabled, base 126, mask 2: hart 127; mask 4 is -3.
    ∷ edge zero_last (calls HSM 0 127 0x80000000 0 0 0 ∷ []) (interrupts 2 126)
    (shows success 0 (127 ∷ []))
    ∷ edge zero_last (calls HSM 0 127 0x80000000 0 0 0 ∷ []) (interrupts 4 126)
    (shows invalid_param 0 [])
    -- P7 suspend type 1: -3. P8 hart 0 starts itself: -6.
    ∷ edge four [] (calls HSM 3 1 0 0 0 0) (shows invalid_param 0 [])
    ∷ edge four [] (calls HSM 0 0 0x80000000 0 0 0) (shows already_available 0 [])
    -- P9 start 2^64 - 4096, size 4096 accepted; size 4097 is -5.
    ∷ edge four [] (calls RFENCE 1 1 0 (2 ^ 64 - 4096) 4096 0) (shows success 0 (0 ∷ []))
    ∷ edge four [] (calls RFENCE 1 1 0 (2 ^ 64 - 4096) 4097 0) (shows invalid_address 0 [])
    -- P10 event 983046 (code 6) maps; 983062 (code 22) is -2.
    ∷ edge four (calls PMU 2 0 1 0 983046 0 ∷ []) (calls PMU 5 0 0 0 0 0) (shows success 0 [])
    ∷ edge four [] (calls PMU 2 0 1 0 983062 0) (shows not_supported 0 [])
    -- P11 counter at 2^64 - 1, three events: 2.
    ∷ edge four
    (calls PMU 2 0 1 0 0xF0000 0 ∷ calls PMU 3 0 1 1 (2 ^ 64 - 1) 0 ∷ event 0 0 ∷ event 0 0
    ∷ event 0 0 ∷ [])
    (calls PMU 5 0 0 0 0 0) (shows success 2 [])
    -- P12 hart 0 interrupts 0 and 1, both STARTED: one sent event.
    ∷ edge four
    (calls HSM 0 1 0x80000000 0 0 0 ∷ completion action_memory 1 ∷ calls PMU 2 0 1 4 983046 0
    ∷ interrupts 3 0
    ∷ [])
    (calls PMU 5 0 0 0 0 0) (shows success 1 [])
    ∷ []

-- what the rules show for each edge, all definitions opened
unfoldable pub computed : List Edge → List Shown
unfolding when◌then◌else◌ bit every those numbers first keep all any has enabled hypervisor used_ranges lies_in valid_address range_accepted platform_accepted hart_at own_at counter_at fresh is_idle is_blank hart_well_formed event_well_formed counter_well_formed shaped hart_row_well_formed tables_well_formed well_formed view moves plain counted count_at tell_one tell commit selected selection_fits is_reached reached send_to sent_code id_valid hypervisors_fit range_valid interrupt_reply fence_reply done_of suspend_of start_reply suspend_reply goes_on done_reply counter_set is_counter each is_mapped is_running not_running is_event chosen configured configure_chosen configure_reply begun counter_start_reply can_read read_reply event_reply interrupt_request fence_request hart_request counter_request request life_reply plain_reply request_reply enabled_reply checked_reply reply after shown_by
computed es = map
    (λ (e : Edge). shown_by
    (reply (platform_of e.harts)
    (after_all (platform_of e.harts) (fresh (platform_of e.harts)) e.history) e.last)) es
