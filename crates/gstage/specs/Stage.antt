-- Where a guest place lies for the second stage of translation, and which stage is one for a memory.
-- Kernel text is executable alone, other RAM is free, and nothing else is mapped (privileged manual, "Two-Stage Address Translation").
use Rattle.std.specs.Prelude.{◌≡◌, ℕ, ◌+◌, ◌&&◌, Bool, nat_lt, nat_le, if◌then◌else◌, List, length}
use Rattle.fc_numbers.specs.declared.places.Span.{Span}
use Rattle.fc_numbers.specs.declared.places.TheConstants.{RAM_START}
use Rattle.fc_numbers.specs.Spans.{in_text}
use Rattle.guest_ram.specs.Ram.{Ram}
use Rattle.gstage.specs.declared.stage.Placed.{Placed}
use Rattle.gstage.specs.declared.stage.Placed.TheVariants as placed_in

abbrev pub in_span : Span → ℕ → Bool
in_span s at = nat_le s.start at && nat_lt at s.end

abbrev pub placed_among : List Span → Span → ℕ → Placed
placed_among text ram at =
    if in_text text at then placed_in.Text
    else if in_span ram at then placed_in.Ram
    else placed_in.Outside

-- a stage of this text and this RAM is one for this memory
pub record IsFor (text : List Span) (ram : Span) (memory : Ram) : Type 0 where
  pub same_text : text ≡ memory.text
  pub start : ram.start ≡ RAM_START
  pub end : ram.end ≡ RAM_START + length memory.bytes
