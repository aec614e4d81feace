use Rattle.std.proofs.Common.{◌≡◌, ◌++◌, ◌∷◌, [], List, length, ap, ◌∙◌, arith}
use Rattle.fc_numbers.specs.declared.places.TheConstants.{RAM_START}
use Rattle.guest_input.specs.Text.{Range, spans_of}
use Rattle.elf_read.specs.Kernel.{image_with}
use Rattle.elf_read.specs.declared.parts.ElfParts.{ElfParts}
use Rattle.guest_image.specs.Digest.{digest_of}
use Rattle.guest_maker.proofs.Lawful.{one_range, span, span_to}
use Rattle.guest_maker.proofs.guest.image_of.Goals as goal

pub returns : goal.returns
returns c =
    let long : c.len.result ≡ length c.args.text.items = omega (arith, c.args.text.ok.0) in
    let spans : spans_of c.of.result ≡ span c.args.text.items ∷ []
    = c.of.ensures.spans ∙ c.push.ensures.items ∙ ap (λ l. l ++ span_to c.len.result ∷ []) c.new-spans.ensures ∙ ap (λ n. span_to n ∷ []) long in
    let ranges = one_range c.of.result c.args.text.items spans (c.of.ensures.bytes ∙ c.in_ok-bytes.ensures) in
    let kernel = λ (r : List Range). let k : ElfParts = record { entry = RAM_START; ranges = r; parts = c.args.parts; functions = c.args.functions } in k in
    c.with_digest.ensures ∙ ap (λ r. image_with (digest_of (kernel r)) (kernel r)) ranges
