-- The guest of a number, and the hostile guest of a number: image and setup of each.
use Rattle.std.specs.Prelude.{ℕ, ◌+◌, ◌*◌, List, [], ◌∷◌, ◌++◌, map, codes, Some, None}
use Rattle.fc_numbers.specs.declared.machine.GKind.TheVariants.{Sv39x4}
use Rattle.fc_numbers.specs.declared.places.TheConstants.{RAM_START}
use Rattle.rv_decode.specs.declared.Inst.{Inst}
use Rattle.guest_input.specs.Text.{Range}
use Rattle.guest_input.specs.declared.image.Start.{Start}
use Rattle.guest_input.specs.declared.image.Function.{Function}
use Rattle.guest_input.specs.declared.image.Image.{Image}
use Rattle.guest_input.specs.declared.setup.Setup.{Setup}
use Rattle.elf_read.specs.declared.parts.ElfParts.{ElfParts}
use Rattle.elf_read.specs.Kernel.{image_with}
use Rattle.guest_image.specs.Digest.{digest_of}
use Rattle.guest_maker.specs.Program.{fixed, program, drawn_of, lines_of_routines, functions_behind_lines}
use Rattle.guest_maker.specs.Text.{label_number, offset_of, target_of, code_from, encoded_word, word_bytes, in_pages}
use Rattle.guest_maker.specs.Hostile.{hostile_text, hostile_functions}
use Rattle.guest_maker.specs.declared.line.Label.TheVariants.{SwitchTo}

-- ---- images of one range of text, which begins where RAM does and holds the first instruction at its start

abbrev pub range_of_text : List ℕ → Range
range_of_text text = record { base = RAM_START; bytes = text }

abbrev pub kernel_of : List ℕ → List (ℕ × List ℕ) → List Function → ElfParts
kernel_of text parts functions = record { entry = RAM_START; ranges = range_of_text text ∷ []; parts = parts; functions = functions }

abbrev pub image_of_guest : List ℕ → List (ℕ × List ℕ) → List Function → Image
image_of_guest text parts functions = image_with (digest_of (kernel_of text parts functions)) (kernel_of text parts functions)

-- ---- the guest of a number

unfoldable pub guest_functions : ℕ → List Function
guest_functions seed = functions_behind_lines 0 (program seed)

-- its instructions, one after another
unfoldable pub guest_code : ℕ → List Inst
guest_code seed = code_from (target_of (guest_functions seed) (drawn_of seed)) 0 (lines_of_routines (program seed))

unfoldable pub guest_text : ℕ → List ℕ
guest_text seed = in_pages (word_bytes (map encoded_word (guest_code seed)))

-- the names of the two tasks of a vCPU, each 24 bytes behind its task
abbrev pub names_at : ℕ → List (ℕ × List ℕ)
names_at tasks = (tasks + 24, codes "red" ++ 0 ∷ []) ∷ (tasks + 88, codes "blue" ++ 0 ∷ []) ∷ []

abbrev pub task_names : List (ℕ × List ℕ)
task_names = names_at 0x80100000 ++ names_at 0x80140000

abbrev pub guest_image : ℕ → Image
guest_image seed = image_of_guest (guest_text seed) task_names (guest_functions seed)

-- the kernel switches tasks in `switch_to`, which is number 2 of its functions
abbrev pub switch_to_start : Start
switch_to_start = record { range = 0; offset = offset_of (functions_behind_lines 0 fixed) 2 }

abbrev pub guest_setup : Setup
guest_setup = record {
  vcpus = 2;
  ram = 2097152;
  steps = 8000;
  hook = Some switch_to_start;
  name_at = 24;
  start = Some (codes "red");
  events = [];
  gstage = Sv39x4;
}

-- ---- the hostile guest of a number

abbrev pub hostile_image : ℕ → Image
hostile_image seed = image_of_guest (hostile_text seed) [] (hostile_functions seed)

abbrev pub hostile_setup : Setup
hostile_setup = record {
  vcpus = 3;
  ram = 65536;
  steps = 500;
  hook = None;
  name_at = 0;
  start = Some (codes "sh");
  events = [];
  gstage = Sv39x4;
}
