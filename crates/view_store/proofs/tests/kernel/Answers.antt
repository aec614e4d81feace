use Rattle.std.proofs.Common.{◌≡◌, ◌∙◌, ℕ, zero, suc, ◌<◌, List, [], ◌∷◌, arith, refl}
use Rattle.std.specs.Prelude.{All, Contains}
use Rattle.guest_input.specs.declared.image.Start.{Start}
use Rattle.guest_input.specs.Accepted.{IsStarts, offsets_of, starts_of}
use Rattle.guest_input.specs.Text.{IsStartIn, bytes_before, bytes_of, spans_of}
use Rattle.function_table.proofs.TestKernels.{image-good, start_at, two-ranges, two_pages}
use Rattle.view_store.proofs.tests.kernel.Goals as goal

abbrev four_starts : List Start
four_starts = start_at 0 0 ∷ start_at 0 12 ∷ start_at 0 26 ∷ start_at 1 0 ∷ []

four-inside : All (IsStartIn two_pages) four_starts
four-inside zero d within = record { range = omega arith; inside = omega arith; even = refl }
four-inside (suc zero) d within = record { range = omega arith; inside = omega arith; even = refl }
four-inside (suc (suc zero)) d within = record { range = omega arith; inside = omega arith; even = refl }
four-inside (suc (suc (suc zero))) d within = record { range = omega arith; inside = omega arith; even = refl }
four-inside (suc (suc (suc (suc k)))) d within = absurd (omega arith)

four-heads : (n : ℕ) → n < 2 → Contains (offsets_of two_pages four_starts) (bytes_before two_pages n)
four-heads zero within = (0, omega arith, refl)
four-heads (suc zero) within = (3, omega arith, refl)
four-heads (suc (suc n)) within = absurd (omega arith)

four-good : IsStarts (offsets_of two_pages four_starts) 8192
four-good = (refl, (omega arith, refl, (omega arith, refl, (omega arith, refl, omega arith))))

pub of-requires : goal.of-requires
of-requires c = rw (c.two_spans.ensures, c.in_ok-from_vec.ensures) (two-ranges _ c.in_ok-bytes.ensures)

pub returns : goal.returns
returns c =
    let spans : spans_of c.of.result ≡ two_pages = c.of.ensures.spans ∙ c.two_spans.ensures in
    let starts : starts_of c.push-4.new.self ≡ four_starts =
    rw (c.in_ok-push-4.ensures.ok, c.in_ok-push-3.ensures.ok, c.in_ok-push-2.ensures.ok, c.in_ok-push.ensures.ok, c.new-functions.ensures, c.function.ensures, c.function-2.ensures, c.function-3.ensures, c.function-4.ensures) refl in
    let bytes : bytes_of c.of.result ≡ c.in_ok-bytes.bytes.items = c.of.ensures.bytes ∙ c.in_ok-from_vec.ensures in
    image-good _ two_pages c.in_ok-bytes.bytes.items four_starts spans bytes starts c.new.ensures (two-ranges _ c.in_ok-bytes.ensures) four-inside four-good four-heads (omega arith) refl refl
