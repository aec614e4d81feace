use Rattle.std.proofs.Common.{◌≡◌, ◌∙◌, arith, refl, length}
use Rattle.std.proofs.lemmas.Grind.{common_steps}
use Rattle.guest_input.specs.Accepted.{starts_of}
use Rattle.guest_input.specs.Text.{bytes_of, spans_of}
use Rattle.function_table.proofs.TestKernels.{image-good, three_starts, two_pages, two-heads, two-inside, two-ranges}
use Rattle.chain_log.proofs.tests.kernel.Goals as goal

pub returns-clause-image : goal.returns-clause-image
returns-clause-image c =
    let spans : spans_of c.of.result ≡ two_pages = c.of.ensures.spans ∙ c.two_spans.ensures in
    let bytes : bytes_of c.of.result ≡ c.in_ok-bytes.bytes.items = c.of.ensures.bytes ∙ c.in_ok-from_vec.ensures in
    let long : length c.in_ok-bytes.bytes.items ≡ 8192 = omega (arith, c.in_ok-bytes.ensures.len) in
    let starts : starts_of c.push-3.new.self ≡ three_starts =
    rw (c.in_ok-push-3.ensures.ok, c.in_ok-push-2.ensures.ok, c.in_ok-push.ensures.ok, c.new-functions.ensures, c.in_ok-function.ensures, c.in_ok-function-2.ensures, c.in_ok-function-3.ensures) refl in
    image-good _ two_pages c.in_ok-bytes.bytes.items three_starts spans bytes starts c.new.ensures (two-ranges c.in_ok-bytes.bytes.items long) two-inside
    (refl, (omega arith, refl, (omega arith, refl, omega arith))) two-heads (omega arith) refl refl

pub of-requires : goal.of-requires
of-requires c =
    let long : length c.in_ok-bytes.bytes.items ≡ 8192 = omega (arith, c.in_ok-bytes.ensures.len) in
    rw (c.two_spans.ensures, c.in_ok-from_vec.ensures) (two-ranges c.in_ok-bytes.bytes.items long)
