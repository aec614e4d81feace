use Rattle.function_table.proofs.GroupLemmas.{starts-sorted}
use Rattle.function_table.proofs.table.Table.function_at.Goals as goal

pub count_up_to-requires : goal.count_up_to-requires
count_up_to-requires c = rw c.as_slice.ensures.value (starts-sorted _ _ c.self.invariant.functions)
