use Rattle.std.proofs.Common.{◌≡◌, length, ap, refl, ◌∙◌, arith}
use Rattle.std.proofs.lemmas.Grind.{common_steps}
use Rattle.guest_input.specs.Accepted.{starts_of}
use Rattle.view_file.proofs.TestKernel.{good, lawful, starts}
use Rattle.view_file.proofs.tests.kernel.Goals as goal

pub of-requires : goal.of-requires
of-requires c =
    let long : length c.in_ok-text.text ≡ 8192 = ap length c.in_ok-text.ensures ∙ c.in_ok-bytes.ensures in
    rw c.two_pages.ensures (lawful c.in_ok-text.text long)

pub returns : goal.returns
returns c =
    let long : length c.in_ok-text.text ≡ 8192 = ap length c.in_ok-text.ensures ∙ c.in_ok-bytes.ensures in
    let functions : starts_of c.push-3.new.self ≡ starts = grind (arith, common_steps) in
    good _ c.in_ok-text.text long (c.of.ensures.spans ∙ c.two_pages.ensures) c.of.ensures.bytes functions c.new.ensures refl
