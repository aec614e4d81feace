use Rattle.std.proofs.Common.{◌≡◌, true, ◌∙◌, sym}
use Rattle.guest_input.specs.Text.{flat_of}
use Rattle.function_table.specs.Groups.{has_start}
use Rattle.function_table.proofs.GroupLemmas.{function-inside, none-outside}
use Rattle.function_table.proofs.table.offsets.Goals as goal

pub unreachable-requires : goal.unreachable-requires
unreachable-requires c =
    let inside : has_start c.args.text.now c.function-item.result.at ≡ true = rw c.function-item.is (function-inside c.args.text.now c.args.functions.now c.loop-function.function-index c.function-item.result c.requires.inside c.loop-function-test.true) in
    none-outside (has_start c.args.text.now c.function-item.result.at) (flat_of c.args.text.now c.function-item.result.at) inside (sym c.flat_in.ensures ∙ c.in-None.is)
