-- What holds of every image and setup that was accepted.
use Rattle.std.specs.Prelude.{◌≡◌, ℕ, ◌+◌, ◌*◌, ◌%◌, ◌<◌, ◌≤◌, true, ◌||◌, nat_le, All, Contains, Bool, List, [], ◌∷◌, length, map}
use Rattle.std.specs.List.{list_all}
use Rattle.fc_numbers.specs.declared.places.Span.{Span}
use Rattle.fc_numbers.specs.declared.places.TheConstants.{RAM_START, RAM_MOST, PAGE}
use Rattle.fc_numbers.specs.Spans.{IsTextBelow, in_text, text_size}
use Rattle.guest_input.specs.declared.image.Start.{Start}
use Rattle.guest_input.specs.declared.image.Function.{Function}
use Rattle.guest_input.specs.declared.image.Image.{Image}
use Rattle.guest_input.specs.declared.setup.Event.{Event}
use Rattle.guest_input.specs.declared.setup.What.{What}
use Rattle.guest_input.specs.declared.setup.What.TheVariants.{Key, Raise, Drop}
use Rattle.guest_input.specs.declared.setup.Setup.{Setup}
use Rattle.guest_input.specs.declared.limits.TheConstants.{VCPUS_MOST, STEPS_MOST, NAME_AT_MOST, EVENTS_MOST, FUNCTIONS_MOST}
use Rattle.guest_input.specs.Text.{AreRanges, IsStartIn, bytes_before, bytes_of, flat_of, spans_of}

abbrev pub starts_of : List Function → List Start
starts_of functions = map (λ f. f.at) functions

-- the offsets of starts in text
abbrev pub offsets_of : List Span → List Start → List ℕ
offsets_of spans starts = map (flat_of spans) starts

-- each is even, above the one before, and in text
abbrev pub IsAscendingFrom : ℕ → List ℕ → ℕ → Type 0
IsAscendingFrom low [] size = low < size
IsAscendingFrom low (x ∷ xs) size = (low < x) × (x % 2 ≡ 0) × IsAscendingFrom x xs size

-- the first is 0, and the others ascend
abbrev pub IsStarts : List ℕ → ℕ → Type 0
IsStarts [] size = ⊥
IsStarts (x ∷ xs) size = (x ≡ 0) × IsAscendingFrom 0 xs size

-- no page of text has a byte of the part
abbrev pub is_apart : ℕ × List ℕ → Span → Bool
is_apart part s = nat_le (part.0 + length part.1) s.start || nat_le s.end part.0

-- the part lies in the machine's largest RAM, and in no page of text
pub record IsPartOf (spans : List Span) (part : ℕ × List ℕ) : Type 0 where
  pub low : RAM_START ≤ part.0
  pub high : part.0 + length part.1 ≤ RAM_START + RAM_MOST
  pub apart : list_all (is_apart part) spans ≡ true

abbrev pub AllParts : List Span → List (ℕ × List ℕ) → Type 0
AllParts spans [] = Unit {0}
AllParts spans (p ∷ ps) = IsPartOf spans p × AllParts spans ps

pub record IsImage (i : Image) : Type 0 where
  pub text : AreRanges (spans_of i.ranges) (bytes_of i.ranges)
  -- each function starts in a range, in order; one starts at the first byte of each range
  pub inside : All (IsStartIn (spans_of i.ranges)) (starts_of i.functions)
  pub starts : IsStarts (offsets_of (spans_of i.ranges) (starts_of i.functions)) (text_size (spans_of i.ranges))
  pub heads : (n : ℕ) → n < length i.ranges → Contains (offsets_of (spans_of i.ranges) (starts_of i.functions)) (bytes_before (spans_of i.ranges) n)
  pub few : length i.functions ≤ FUNCTIONS_MOST
  pub entry : in_text (spans_of i.ranges) i.entry ≡ true
  pub entry_even : i.entry % 2 ≡ 0
  pub parts : AllParts (spans_of i.ranges) i.parts

-- the event is for a vCPU of the run
abbrev pub IsForVcpu : ℕ → What → Type 0
IsForVcpu vcpus (Key byte) = Unit {0}
IsForVcpu vcpus (Raise vcpu) = vcpu < vcpus
IsForVcpu vcpus (Drop vcpu) = vcpu < vcpus

-- the events stand in order of their clocks, each for a vCPU of the run
abbrev pub AreEvents : ℕ → ℕ → List Event → Type 0
AreEvents vcpus low [] = Unit {0}
AreEvents vcpus low (e ∷ es) = (low ≤ e.at) × IsForVcpu vcpus e.what × AreEvents vcpus e.at es

pub record IsSetup (s : Setup) : Type 0 where
  pub some : 1 ≤ s.vcpus
  pub eight : s.vcpus ≤ VCPUS_MOST
  pub ram_some : PAGE ≤ s.ram
  pub ram_most : s.ram ≤ RAM_MOST
  pub ram_whole : s.ram % PAGE ≡ 0
  pub steps_some : 1 ≤ s.steps
  pub steps_most : s.vcpus * s.steps ≤ STEPS_MOST
  pub name_at : s.name_at ≤ NAME_AT_MOST
  pub events_most : length s.events ≤ EVENTS_MOST
  pub events : AreEvents s.vcpus 0 s.events

abbrev pub PartsEndBy : ℕ → List (ℕ × List ℕ) → Type 0
PartsEndBy end [] = Unit {0}
PartsEndBy end (p ∷ ps) = (p.0 + length p.1 ≤ end) × PartsEndBy end ps

-- text and data parts lie in the RAM of the setup
pub record IsSetupFor (i : Image) (s : Setup) : Type 0 where
  pub setup : IsSetup s
  pub text : IsTextBelow (RAM_START + s.ram) (spans_of i.ranges)
  pub parts : PartsEndBy (RAM_START + s.ram) i.parts
