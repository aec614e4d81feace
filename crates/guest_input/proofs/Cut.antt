-- Bytes that are cut at the sizes of the ranges are those of the ranges.
use Rattle.std.proofs.Common.{◌≡◌, ℕ, ◌+◌, List, [], ◌∷◌, ◌++◌, length, take, drop, refl, sym, ap, ◌∙◌, arith}
use Rattle.std.proofs.lemmas.List.{length-drop, length-take-le, nil_from_length, take-append-drop}
use Rattle.fc_numbers.specs.declared.places.Span.{Span}
use Rattle.fc_numbers.specs.declared.places.TheConstants.{RAM_START}
use Rattle.fc_numbers.specs.Spans.{size_of, text_size, AreRangesFrom}
use Rattle.guest_input.specs.Text.{AreRanges, spans_of, bytes_of}
use Rattle.guest_input.specs.TextIn.{cut}

cut_bytes_from : (ss : List Span) (low : ℕ) (bytes : List ℕ) → AreRangesFrom low ss → text_size ss ≡ length bytes → bytes_of (cut ss bytes) ≡ bytes
cut_bytes_from [] low bytes k e = sym (nil_from_length bytes (sym e))
cut_bytes_from (s ∷ ss) low bytes k e =
    let rest : text_size ss ≡ length (drop (size_of s) bytes) = rw (length-drop (size_of s) bytes) (omega (arith, e)) in
    ap (λ xs. take (size_of s) bytes ++ xs) (cut_bytes_from ss (s.end + 4096) (drop (size_of s) bytes) k.4 rest) ∙ take-append-drop (size_of s) bytes

cut_spans_from : (ss : List Span) (low : ℕ) (bytes : List ℕ) → AreRangesFrom low ss → text_size ss ≡ length bytes → spans_of (cut ss bytes) ≡ ss
cut_spans_from [] low bytes k e = refl
cut_spans_from (s ∷ ss) low bytes k e =
    let rest : text_size ss ≡ length (drop (size_of s) bytes) = rw (length-drop (size_of s) bytes) (omega (arith, e)) in
    let long : length (take (size_of s) bytes) ≡ size_of s = length-take-le (size_of s) bytes (omega (arith, e)) in
    let end : s.start + length (take (size_of s) bytes) ≡ s.end = omega (arith, long, k.1) in
    ap (λ (n : ℕ). span_at s.start n ∷ spans_of (cut ss (drop (size_of s) bytes))) end ∙ ap (λ xs. s ∷ xs) (cut_spans_from ss (s.end + 4096) (drop (size_of s) bytes) k.4 rest)
  where
    span_at : ℕ → ℕ → Span
    span_at a b = record { start = a; end = b }

pub cut_bytes : (ss : List Span) (bytes : List ℕ) → AreRanges ss bytes → bytes_of (cut ss bytes) ≡ bytes
cut_bytes ss bytes k = cut_bytes_from ss RAM_START bytes k.below.ranges k.long

pub cut_spans : (ss : List Span) (bytes : List ℕ) → AreRanges ss bytes → spans_of (cut ss bytes) ≡ ss
cut_spans ss bytes k = cut_spans_from ss RAM_START bytes k.below.ranges k.long
