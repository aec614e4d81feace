-- What a log is evidence of: justified entries, allowed fetches, no group twice.
-- Each looks only at a prefix of the schedule, so that it is kept when schedule and log grow.
use Rattle.std.specs.Prelude.{◌≡◌, ℕ, ◌<◌, ◌≤◌, ◌==◌, ◌&&◌, ◌||◌, Bool, true, false, nat_le, Some, List, [], ◌∷◌, length, slice_index_or}
use Rattle.std.specs.List.{list_any}
use Rattle.chain_log.specs.declared.entry.LogEntry.{LogEntry}
use Rattle.chain_log.specs.Chain.{chain_of}
use Rattle.function_table.specs.Groups.{group_at}
use Rattle.guest_board.specs.Board.{State, may, next_of, vcpu_of}
use Rattle.run_evidence.specs.Config.{Config, image_groups, rules_in, is_base, full_at, view_in, fetched_at, view_at}

-- the call chain of vCPU i in a state
abbrev pub chain_in : State → ℕ → List ℕ
chain_in s i = chain_of s.ram (vcpu_of s i).csr (vcpu_of s i).mode (vcpu_of s i).regs

-- The entry names missing code about to be fetched: at its clock the vCPU may step, its next fetch is the entry's
-- place, its view the entry's; the group is that of the place and not in the base; the chain is that of the moment.
pub record IsJustified (c : Config) (schedule : List ℕ) (e : LogEntry) : Type 0 where
  pub early : e.at ≤ length schedule
  pub may_step : may (rules_in c) (full_at c schedule e.at) e.vcpu ≡ true
  pub next : next_of (full_at c schedule e.at) e.vcpu ≡ Some e.pc
  pub view : view_in c (full_at c schedule e.at) e.vcpu ≡ e.view
  pub group : e.group ≡ group_at (image_groups c) e.pc
  pub missing : is_base c e.view e.group ≡ false
  pub chain : e.chain.items ≡ chain_in (full_at c schedule e.at) e.vcpu

abbrev pub AllJustified : Config → List ℕ → List LogEntry → Type 0
AllJustified c schedule [] = Unit {0}
AllJustified c schedule (e ∷ es) = IsJustified c schedule e × AllJustified c schedule es

-- the log of view v, where the logs stand by view
abbrev pub log_in : List (List LogEntry) → ℕ → List LogEntry
log_in logs v = slice_index_or logs v []

-- every entry of every log is justified
abbrev pub AreJustified : Config → List (List LogEntry) → List ℕ → Type 0
AreJustified c logs schedule = (v : ℕ) → AllJustified c schedule (log_in logs v)

-- logged by an entry whose trap came at a clock not above t
abbrev pub is_logged_at : List LogEntry → ℕ → ℕ → Bool
is_logged_at log t g = list_any (λ e. (e.group == g) && nat_le e.at t) log

-- whether view v may run group g at step t
abbrev pub is_group_open : Config → List (List LogEntry) → ℕ → ℕ → ℕ → Bool
is_group_open c logs v t g = is_base c v g || is_logged_at (log_in logs v) t g

-- each fetch of text under a view is of a group in its base, or logged for it at or before that step
abbrev pub IsAllowed : Config → List (List LogEntry) → List ℕ → Type 0
IsAllowed c logs schedule = (t p : ℕ) → t < length schedule → fetched_at c schedule t ≡ Some p
    → is_group_open c logs (view_at c schedule t) t (group_at (image_groups c) p) ≡ true

-- no group twice
abbrev pub IsOnce : List LogEntry → Type 0
IsOnce [] = Unit {0}
IsOnce (e ∷ es) = (list_any (λ x. x.group == e.group) es ≡ false) × IsOnce es

-- each entry is for this view
abbrev pub AllOfView : ℕ → List LogEntry → Type 0
AllOfView v [] = Unit {0}
AllOfView v (e ∷ es) = (e.view ≡ v) × AllOfView v es
