use Rattle.function_table.proofs.GroupLemmas.{starts-sorted}
use Rattle.function_table.proofs.table.Table.is_function.Goals as goal

pub has_offset-requires : goal.has_offset-requires
has_offset-requires c = rw c.as_slice.ensures.value (starts-sorted _ _ c.self.invariant.functions)
