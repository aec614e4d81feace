use Rattle.std.proofs.Common.{◌≡◌, ◌∙◌, arith, refl}
use Rattle.std.proofs.lemmas.Grind.{common_steps}
use Rattle.guest_input.specs.Accepted.{starts_of}
use Rattle.guest_input.specs.Text.{bytes_of}
use Rattle.function_table.proofs.TestKernels.{image-good}
use Rattle.function_table.proofs.tests.kernel.Goals as goal

pub returns : goal.returns
returns c =
    let functions : starts_of c.loop-at.functions ≡ c.args.starts.now = grind (arith, common_steps) in
    let bytes : bytes_of c.of.result ≡ c.args.bytes.items = c.of.ensures.bytes ∙ c.in_ok-from_vec.ensures in
    image-good _ c.args.spans.items c.args.bytes.items c.args.starts.now c.of.ensures.spans bytes functions c.new-2.ensures c.requires.text c.requires.inside c.requires.starts c.requires.heads c.requires.few c.requires.entry refl
