-- The devices of a run as contracts see them, and the interrupt lines that they give each vCPU.
-- An event is due where its clock is at most the clock. Lines by the bits of `sip` (privileged manual, "Supervisor Interrupt Registers").
use Rattle.std.specs.Prelude.{ℕ, ◌+◌, ◌-◌, ◌^◌, ◌==◌, nat_le, nat_lt, Bool, true, false, if◌then◌else◌, Option, is_some, List, [], ◌∷◌, length, filter, replicate, slice_get, slice_index, slice_index_or, slice_set}
use Rattle.guest_input.specs.declared.setup.Event.{Event}
use Rattle.guest_input.specs.declared.setup.What.{What}
use Rattle.guest_input.specs.declared.setup.What.TheVariants.{Key, Raise, Drop}
use Rattle.guest_input.specs.declared.setup.Setup.{Setup}

-- the events of the setup, how many keys were taken, and the software bit and the timer value of each vCPU
pub record Devices : Type 0 where
  pub events : List Event
  pub taken : ℕ
  pub soft : List Bool
  pub timer : List ℕ

-- at the start of a run no key is taken, no software bit set, and no timer ever due
abbrev pub first_devices : Setup → Devices
first_devices s = record { events = s.events; taken = 0; soft = replicate s.vcpus false; timer = replicate s.vcpus (2 ^ 64 - 1) }

abbrev pub has_vcpu : Devices → ℕ → Bool
has_vcpu d v = nat_lt v (length d.timer)

abbrev pub soft_of : Devices → ℕ → Bool
soft_of d v = slice_index_or d.soft v false

abbrev pub timer_of : Devices → ℕ → ℕ
timer_of d v = slice_index d.timer v

-- the events that are due at a clock
abbrev pub due_events : ℕ → List Event → List Event
due_events clock events = filter (λ e. nat_le e.at clock) events

-- the external line of v after an event, where `up` says how it was before
abbrev pub line_after : ℕ → Bool → What → Bool
line_after v up (Key byte) = up
line_after v up (Raise w) = if w == v then true else up
line_after v up (Drop w) = if w == v then false else up

-- the external line of v after events: the last raise or drop for v decides
abbrev pub line_after_all : ℕ → Bool → List Event → Bool
line_after_all v up [] = up
line_after_all v up (e ∷ es) = line_after_all v (line_after v up e.what) es

abbrev pub is_raised : Devices → ℕ → ℕ → Bool
is_raised d v clock = line_after_all v false (due_events clock d.events)

-- bit 1 is the software interrupt, bit 5 the timer and bit 9 the external one; an unknown vCPU has no lines
abbrev pub lines_of : Devices → ℕ → ℕ → ℕ
lines_of d v clock =
    if has_vcpu d v
    then (if soft_of d v then 2 ^ 1 else 0) + (if nat_le (timer_of d v) clock then 2 ^ 5 else 0) + (if is_raised d v clock then 2 ^ 9 else 0)
    else 0

abbrev pub with_soft : Devices → ℕ → Bool → Devices
with_soft d v on = record d { soft = slice_set d.soft v on }

abbrev pub with_timer : Devices → ℕ → ℕ → Devices
with_timer d v at = record d { timer = slice_set d.timer v at }

-- a key before the others
abbrev pub with_key : What → List ℕ → List ℕ
with_key (Key byte) others = byte ∷ others
with_key (Raise v) others = others
with_key (Drop v) others = others

-- the keys of events, in their order
abbrev pub keys_of : List Event → List ℕ
keys_of [] = []
keys_of (e ∷ es) = with_key e.what (keys_of es)

-- the first due key that was not yet taken
abbrev pub due_key : Devices → ℕ → Option ℕ
due_key d clock = slice_get (keys_of (due_events clock d.events)) d.taken

-- the devices after the first due key was taken, if there is one
abbrev pub with_key_taken : Devices → ℕ → Devices
with_key_taken d clock = if is_some (due_key d clock) then record d { taken = d.taken + 1 } else d
