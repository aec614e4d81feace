use Rattle.std.proofs.Common.{arith}
use Rattle.function_table.proofs.GroupLemmas.{before-within}
use Rattle.function_table.proofs.table.flat_in.Goals as goal

pub text_size-requires : goal.text_size-requires
text_size-requires c =
    let x = before-within c.args.text.now c.args.at.range (omega arith) in
    record { few = omega (arith, x, c.requires.size) }

pub overflow_cast-result : goal.overflow_cast-result
overflow_cast-result c =
    let x = before-within c.args.text.now c.args.at.range (omega arith) in
    omega (arith, x, c.requires.size, c.text_size.ensures)

pub overflow_add-result : goal.overflow_add-result
overflow_add-result c =
    let x = before-within c.args.text.now c.args.at.range (omega arith) in
    omega (arith, x, c.requires.size, c.text_size.ensures, c.size_at.ensures)
