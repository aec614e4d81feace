-- The rules of a run of an image by a setup, and the state in which it begins.
-- The rule: VS mode, bare, pc at the entry, all registers zero but a0, the vCPU's number.
use Rattle.std.specs.Prelude.{ℕ, Option, Some, None, List, [], ◌∷◌, map}
use Rattle.std.specs.List.{range_with_len}
use Rattle.fc_numbers.specs.Numbers.{zero_regs, set_reg}
use Rattle.fc_numbers.specs.declared.places.Span.{Span}
use Rattle.fc_numbers.specs.declared.machine.Mode.TheVariants.{Vs}
use Rattle.guest_input.specs.declared.image.Image.{Image}
use Rattle.guest_input.specs.declared.image.Start.{Start}
use Rattle.guest_input.specs.Text.{Range, spans_of, start_place}
use Rattle.guest_input.specs.declared.setup.Setup.{Setup}
use Rattle.guest_ram.specs.Ram.{Ram, placed, zero_ram}
use Rattle.device_feed.specs.Devices.{first_devices}
use Rattle.rv_csr.specs.Csr.{fresh}
use Rattle.rv_step.specs.declared.vcpu.Vcpu.{Vcpu}
use Rattle.guest_board.specs.declared.rules.Rules.{Rules}
use Rattle.guest_board.specs.declared.slot.Slot.{Slot}
use Rattle.guest_board.specs.Board.{State, Seat}

-- the places of kernel text
abbrev pub text_of : Image → List Span
text_of image = spans_of image.ranges

-- the place of the hook function's first instruction, where the setup names one
abbrev pub hook_place : List Span → Option Start → Option ℕ
hook_place text None = None
hook_place text (Some at) = Some (start_place text at)

abbrev pub rules_of : Image → Setup → Rules
rules_of image setup = record { steps = setup.steps; hook = hook_place (text_of image) setup.hook; name_at = setup.name_at }

abbrev pub first_vcpu : ℕ → ℕ → Vcpu
first_vcpu entry i = record { regs = set_reg zero_regs 10 i; pc = entry; mode = Vs; csr = fresh; reserved = None; number = i }

abbrev pub first_slot : ℕ → Option (List ℕ) → ℕ → Slot
first_slot entry name i = record { vcpu = first_vcpu entry i; made = 0; name = name; depth = 0 }

-- one for each of the numbers from 0 on
unfoldable pub first_slots : ℕ → Option (List ℕ) → ℕ → List Slot
first_slots entry name n = map (first_slot entry name) (range_with_len 0 n)

-- the ranges of text as parts: each is its place and its bytes
abbrev pub text_parts : List Range → List (ℕ × List ℕ)
text_parts ranges = map (λ r. (r.base, r.bytes)) ranges

-- parts, placed one after another
abbrev pub with_parts : Ram → List (ℕ × List ℕ) → Ram
with_parts ram [] = ram
with_parts ram (part ∷ parts) = with_parts (placed ram part.0 part.1) parts

-- zeros, the text, and then the data parts
unfoldable pub first_ram : Image → ℕ → Ram
first_ram image bytes = with_parts (with_parts (zero_ram bytes (text_of image)) (text_parts image.ranges)) image.parts

unfoldable pub first_state : Image → Setup → State
first_state image setup = record {
  slots = first_slots image.entry setup.start setup.vcpus;
  ram = first_ram image setup.ram;
  devices = first_devices setup;
  console = [];
  clock = 0;
  end = None;
}

abbrev pub first_seat : Image → Setup → Seat
first_seat image setup = record { rules = rules_of image setup; state = first_state image setup; schedule = [] }
