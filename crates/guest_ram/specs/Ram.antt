-- A guest's memory: a list of bytes from RAM_START on with the kernel's text in it, and for each page the count of stores to it.
-- A load gives the value of its bytes; a store replaces its bytes and counts one store to their page; the text is never stored to.
use Rattle.std.specs.Prelude.{◌≡◌, ℕ, ◌+◌, ◌-◌, ◌*◌, ◌/◌, ◌%◌, ◌<◌, ◌≤◌, Bool, ◌&&◌, nat_lt, nat_le, if◌then◌else◌, Result, Ok, Err, List, length, replicate, slice_index, slice_set}
use Rattle.fc_numbers.specs.declared.machine.Width.{Width}
use Rattle.fc_numbers.specs.declared.places.Span.{Span}
use Rattle.fc_numbers.specs.declared.places.TheConstants.{RAM_START, RAM_MOST, PAGE}
use Rattle.fc_numbers.specs.Spans.{IsTextBelow, in_text}
use Rattle.guest_ram.specs.declared.OutsideRam.{OutsideRam}
use Rattle.guest_ram.specs.Value.{value_at, overwritten, replaced, count_of}

pub record Ram : Type 0 where
  pub bytes : List ℕ
  pub text : List Span
  pub stamps : List ℕ

abbrev pub is_inside : Ram → ℕ → Bool
is_inside ram at = nat_le RAM_START at && nat_lt (at - RAM_START) (length ram.bytes)

abbrev pub is_text : Ram → ℕ → Bool
is_text ram at = in_text ram.text at

-- the number of the page that a place of RAM is in
abbrev pub frame_of : ℕ → ℕ
frame_of at = (at - RAM_START) / PAGE

-- how many stores the page has seen
abbrev pub stamp_of : Ram → ℕ → ℕ
stamp_of ram frame = slice_index ram.stamps frame

abbrev pub AreStampsBelow : Ram → ℕ → Type 0
AreStampsBelow ram n = (frame : ℕ) → stamp_of ram frame < n

-- every page has room for the count of one more store
abbrev pub CanStore : Ram → Type 0
CanStore ram = AreStampsBelow ram 4294967295

abbrev pub outside : OutsideRam
outside = record {}

abbrev pub value : Ram → ℕ → Width → ℕ
value ram at width = value_at ram.bytes (at - RAM_START) (count_of width)

abbrev pub loaded : Ram → ℕ → Width → Result ℕ OutsideRam
loaded ram at width = if is_inside ram at then Ok (value ram at width) else Err outside

unfoldable pub with_value : Ram → ℕ → Width → ℕ → Ram
with_value ram at width v = record {
  bytes = replaced ram.bytes (at - RAM_START) (count_of width) v;
  text = ram.text;
  stamps = slice_set ram.stamps (frame_of at) (stamp_of ram (frame_of at) + 1);
}

abbrev pub stored : Ram → ℕ → Width → ℕ → Ram
stored ram at width v = if is_inside ram at then with_value ram at width v else ram

abbrev pub store_answer : Ram → ℕ → Result (Unit {0}) OutsideRam
store_answer ram at = if is_inside ram at then Ok tt else Err outside

-- before the run these bytes are put down as they are, which is no store of the guest
unfoldable pub placed : Ram → ℕ → List ℕ → Ram
placed ram at part = record {
  bytes = overwritten ram.bytes (at - RAM_START) part;
  text = ram.text;
  stamps = ram.stamps;
}

-- memory before anything was put into it
abbrev pub zero_ram : ℕ → List Span → Ram
zero_ram size text = record { bytes = replicate size 0; text = text; stamps = replicate (size / PAGE) 0 }

-- the size that a guest's memory may have, and the text that may stand in it
pub record IsLawful (size : ℕ) (spans : List Span) : Type 0 where
  pub least : PAGE ≤ size
  pub most : size ≤ RAM_MOST
  pub pages : size % PAGE ≡ 0
  pub text : IsTextBelow (RAM_START + size) spans

-- how a memory is laid out: lawfully, with one count of stores for each page
pub record IsLaid (ram : Ram) : Type 0 where
  pub lawful : IsLawful (length ram.bytes) ram.text
  pub frames : length ram.stamps * PAGE ≡ length ram.bytes
