-- The place that an access of an instruction reaches, or what the instruction comes to instead: one rule for loads, stores, LR, SC and AMO.
-- An address that is not aligned traps first; then the guest's tables; then what is not in memory. A store to kernel text stops the run.
-- Privileged manual, "Virtual Address Translation Process"; unprivileged manual, "Load and Store Instructions" and "A".
use Rattle.std.specs.Prelude.{◌≡◌, ℕ, ◌%◌, Bool, true, false, nat_eq, if◌then◌else◌, Result, Ok, Err}
use Rattle.fc_numbers.specs.declared.machine.Access.{Access}
use Rattle.fc_numbers.specs.declared.machine.Access.TheVariants.{Fetch, Load, Store}
use Rattle.fc_numbers.specs.declared.machine.End.TheVariants.{Stopped}
use Rattle.fc_numbers.specs.declared.machine.Stop.TheVariants.{StoreToText, TableInText}
use Rattle.fc_numbers.specs.declared.machine.Width.{Width}
use Rattle.guest_ram.specs.Value.{count_of}
use Rattle.guest_ram.specs.Ram.{Ram, is_inside, is_text}
use Rattle.rv_step.specs.declared.vcpu.Vcpu.{Vcpu}
use Rattle.rv_step.specs.declared.vcpu.Effect.{Effect}
use Rattle.rv_step.specs.declared.vcpu.Effect.TheVariants.{Trap, End as Ends}
use Rattle.rv_step.specs.declared.resolve.Resolved.{Resolved}
use Rattle.rv_step.specs.declared.resolve.Resolved.TheVariants as place
use Rattle.rv_step.specs.Causes.{access_fault_cause, misaligned_cause, page_fault_cause}
use Rattle.rv_step.specs.Site.{resolved}

abbrev pub is_access_aligned : ℕ → Width → Bool
is_access_aligned at width = nat_eq (at % count_of width) 0

-- kernel text may be read, and a store to it stops the run
abbrev pub reached_text : Access → ℕ → Result ℕ Effect
reached_text Fetch p = Ok p
reached_text Load p = Ok p
reached_text Store p = Err (Ends (Stopped StoreToText))

abbrev pub reached_at : Access → ℕ → Resolved → Result ℕ Effect
reached_at access at (place.Ram p) = Ok p
reached_at access at (place.Text p) = reached_text access p
reached_at access at place.PageFault = Err (Trap (page_fault_cause access) at)
reached_at access at place.AccessFault = Err (Trap (access_fault_cause access) at)
reached_at access at place.TableInText = Err (Ends (Stopped TableInText))

-- the place, or what the instruction comes to instead
unfoldable pub reached : Vcpu → Ram → Access → Width → ℕ → Result ℕ Effect
reached v ram access width at =
    if is_access_aligned at width then reached_at access at (resolved v ram access at) else Err (Trap (misaligned_cause access) at)

-- a place that a store reaches is not in text
abbrev pub IsOpenTo : Access → Ram → ℕ → Type 0
IsOpenTo Fetch ram p = Unit {0}
IsOpenTo Load ram p = Unit {0}
IsOpenTo Store ram p = is_text ram p ≡ false

-- a place that is reached: in memory, aligned, and open to the access
pub record IsReached (ram : Ram) (access : Access) (width : Width) (p : ℕ) : Type 0 where
  pub inside : is_inside ram p ≡ true
  pub aligned : p % count_of width ≡ 0
  pub open_to : IsOpenTo access ram p
