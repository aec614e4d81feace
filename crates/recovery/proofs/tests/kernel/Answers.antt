use Rattle.std.proofs.Common.{◌≡◌, ◌∙◌, ℕ, List, [], ◌∷◌, arith, refl, length}
use Rattle.fc_numbers.specs.declared.places.Span.{Span}
use Rattle.fc_numbers.specs.declared.places.TheConstants.{RAM_START}
use Rattle.guest_input.specs.Accepted.{starts_of}
use Rattle.guest_input.specs.Text.{bytes_of, spans_of}
use Rattle.function_table.proofs.TestKernels.{first-heads, first-inside, first_starts, image-good, one-range, pages_at}
use Rattle.recovery.proofs.tests.kernel.Goals as goal

pub of-requires : goal.of-requires
of-requires c =
    let long : length c.in_ok-bytes.bytes.items ≡ 4096 = omega (arith, c.in_ok-bytes.ensures.len) in
    rw (c.one_page.ensures, c.in_ok-from_vec.ensures) (one-range 1 c.in_ok-bytes.bytes.items (omega arith) (omega arith) long)

pub returns-clause-image : goal.returns-clause-image
returns-clause-image c =
    let page : List Span = pages_at RAM_START 1 ∷ [] in
    let offsets : List ℕ = 0 ∷ 12 ∷ [] in
    let spans : spans_of c.of.result ≡ page = c.of.ensures.spans ∙ c.one_page.ensures in
    let bytes : bytes_of c.of.result ≡ c.in_ok-bytes.bytes.items = c.of.ensures.bytes ∙ c.in_ok-from_vec.ensures in
    let long : length c.in_ok-bytes.bytes.items ≡ 4096 = omega (arith, c.in_ok-bytes.ensures.len) in
    let starts : starts_of c.push-2.new.self ≡ first_starts offsets =
    rw (c.in_ok-push-2.ensures.ok, c.in_ok-push.ensures.ok, c.new-functions.ensures, c.function.ensures, c.function-2.ensures) refl in
    image-good _ page c.in_ok-bytes.bytes.items (first_starts offsets) spans bytes starts c.new.ensures (one-range 1 c.in_ok-bytes.bytes.items (omega arith) (omega arith) long)
    (first-inside 1 offsets (omega arith) (refl, (omega arith, refl, omega arith))) (refl, (omega arith, refl, omega arith)) (λ n within. first-heads page offsets 4096 n (refl, (omega arith, refl, omega arith)) within) (omega arith) refl refl
