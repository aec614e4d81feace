use Rattle.std.proofs.Common.{◌≡◌, ◌∙◌, arith, refl}
use Rattle.guest_input.specs.Accepted.{starts_of}
use Rattle.guest_input.specs.Text.{bytes_of, spans_of}
use Rattle.guest_board.proofs.TestKernels.{image-good, two-heads, two-inside, two-ranges, two_ranges, two_starts}
use Rattle.guest_board.proofs.tests.kernel.Goals as goal

pub returns-clause-image : goal.returns-clause-image
returns-clause-image c =
    let spans : spans_of c.of.result ≡ two_ranges = c.of.ensures.spans ∙ c.two_pages.ensures in
    let bytes : bytes_of c.of.result ≡ c.in_ok-bytes.bytes.items = c.of.ensures.bytes ∙ c.in_ok-from_vec.ensures in
    let starts : starts_of c.push-2.new.self ≡ two_starts =
    rw (c.in_ok-push-2.ensures.ok, c.in_ok-push.ensures.ok, c.new-functions.ensures, c.function.ensures, c.function-2.ensures) refl in
    image-good _ two_ranges c.in_ok-bytes.bytes.items two_starts spans bytes starts c.new.ensures (two-ranges c.in_ok-bytes.bytes.items c.in_ok-bytes.ensures) two-inside
    (refl, (omega arith, refl, omega arith)) two-heads (omega arith) refl refl

pub of-requires : goal.of-requires
of-requires c = rw (c.two_pages.ensures, c.in_ok-from_vec.ensures) (two-ranges c.in_ok-bytes.bytes.items c.in_ok-bytes.ensures)
