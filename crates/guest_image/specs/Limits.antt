-- When a setup is accepted for an image: its limits, its hook, the order of its events, and the image within RAM.
-- The limits are this project's own.
use Rattle.std.specs.Prelude.{ℕ, ◌+◌, ◌*◌, ◌%◌, ◌==◌, ◌&&◌, nat_le, nat_lt, Bool, true, not, if◌then◌else◌, List, [], ◌∷◌, length, map, bytes_eq, Option, Some, None, is_some, option_map, Result, Ok, Err}
use Rattle.std.specs.List.{list_all, filter}
use Rattle.fc_numbers.specs.declared.places.TheConstants.{RAM_START, RAM_MOST, PAGE}
use Rattle.guest_input.specs.declared.image.Start.{Start}
use Rattle.guest_input.specs.declared.image.Function.{Function}
use Rattle.guest_input.specs.declared.image.Image.{Image}
use Rattle.guest_input.specs.declared.limits.TheConstants.{VCPUS_MOST, STEPS_MOST, NAME_AT_MOST, EVENTS_MOST}
use Rattle.guest_input.specs.declared.setup.What.{What}
use Rattle.guest_input.specs.declared.setup.What.TheVariants as what
use Rattle.guest_input.specs.declared.setup.Event.{Event}
use Rattle.guest_input.specs.declared.setup.Setup.{Setup}
use Rattle.guest_input.specs.Text.{spans_of}
use Rattle.json_fields.specs.Fields.{json_of, each_of}
use Rattle.elf_read.specs.Steps.{◌>>=◌, must, or_fault}
use Rattle.guest_image.specs.Asked.{asked_of}
use Rattle.guest_image.specs.declared.image.Field.TheVariants as key
use Rattle.guest_image.specs.declared.setup.SetupFault.{SetupFault}
use Rattle.guest_image.specs.declared.setup.SetupFault.TheVariants.{NotJson, Limit, NoHook, EventOrder, ImageOutsideRam}
use Rattle.guest_image.specs.declared.setup_file.AskedWhat.{AskedWhat}
use Rattle.guest_image.specs.declared.setup_file.AskedWhat.TheVariants.{Key, Raise, Drop}
use Rattle.guest_image.specs.declared.setup_file.AskedEvent.{AskedEvent}
use Rattle.guest_image.specs.declared.setup_file.Asked.{Asked}

-- whole pages, at least one, and no more than the machine's largest RAM
abbrev pub is_ram_size : ℕ → Bool
is_ram_size ram = nat_le PAGE ram && nat_le ram RAM_MOST && (ram % PAGE == 0)

abbrev pub are_steps : ℕ → ℕ → Bool
are_steps vcpus steps = nat_le 1 steps && nat_le (vcpus * steps) STEPS_MOST

abbrev pub what_for : ℕ → AskedWhat → Option What
what_for vcpus (Key byte) = Some (what.Key byte)
what_for vcpus (Raise vcpu) = if nat_lt vcpu vcpus then Some (what.Raise vcpu) else None
what_for vcpus (Drop vcpu) = if nat_lt vcpu vcpus then Some (what.Drop vcpu) else None

-- the event, where its vCPU is there
unfoldable pub event_for : ℕ → AskedEvent → Option Event
event_for vcpus e = option_map (λ w. record { at = e.at; what = w }) (what_for vcpus e.what)

unfoldable pub events_for : ℕ → List AskedEvent → Option (List Event)
events_for vcpus es = if nat_lt EVENTS_MOST (length es) then None else each_of (event_for vcpus) es

abbrev pub is_named : List ℕ → Function → Bool
is_named name f = bytes_eq f.name name

abbrev pub starts_named : List ℕ → List Function → List Start
starts_named name fs = map (λ f. f.at) (filter (is_named name) fs)

abbrev pub only : List Start → Result (Option Start) SetupFault
only [] = Err NoHook
only (start ∷ []) = Ok (Some start)
only (start ∷ other ∷ more) = Err NoHook

-- the hook is the one function that has this kept name
abbrev pub hook_at : Option (List ℕ) → List Function → Result (Option Start) SetupFault
hook_at None fs = Ok None
hook_at (Some name) fs = only (starts_named name fs)

-- the first event that is due before the one before it, counted from k
abbrev pub out_of_order : ℕ → ℕ → List Event → Option ℕ
out_of_order low k [] = None
out_of_order low k (e ∷ es) = if nat_lt e.at low then Some k else out_of_order e.at (k + 1) es

abbrev pub unless_out : Option ℕ → Result Bool SetupFault
unless_out None = Ok true
unless_out (Some k) = Err (EventOrder k)

abbrev pub ends_by : ℕ → ℕ → ℕ → Bool
ends_by end place size = nat_le (place + size) end

-- text and data parts end within RAM
abbrev pub holds_image : ℕ → Image → Bool
holds_image ram i = list_all (λ s. nat_le s.end (RAM_START + ram)) (spans_of i.ranges) && list_all (λ part. ends_by (RAM_START + ram) part.0 (length part.1)) i.parts

-- the setup that is asked for, or the first fault
unfoldable pub accepted_setup : Image → Asked → Result Setup SetupFault
accepted_setup i a = do
  vcpus ← must (Limit key.Vcpus) (nat_le 1 a.vcpus && nat_le a.vcpus VCPUS_MOST)
  ram ← must (Limit key.Ram) (is_ram_size a.ram)
  steps ← must (Limit key.Steps) (are_steps a.vcpus a.steps)
  name_at ← must (Limit key.NameAt) (nat_le a.name_at NAME_AT_MOST)
  events ← or_fault (Limit key.Events) (events_for a.vcpus a.events)
  hook ← hook_at a.hook i.functions
  order ← unless_out (out_of_order 0 0 events)
  inside ← must ImageOutsideRam (holds_image a.ram i)
  Ok (record { vcpus = a.vcpus; ram = a.ram; steps = a.steps; hook = hook; name_at = a.name_at; start = a.start; events = events; gstage = a.gstage })

-- the setup of the bytes for an image, or the first fault
unfoldable pub setup_of : Image → List ℕ → Result Setup SetupFault
setup_of i bytes = do
  value ← or_fault NotJson (json_of bytes)
  asked ← asked_of value
  accepted_setup i asked
