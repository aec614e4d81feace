use Rattle.function_table.proofs.GroupLemmas.{ascending-sorted}
use Rattle.function_table.proofs.table.Table.group_of.Goals as goal

pub count_up_to-requires : goal.count_up_to-requires
count_up_to-requires c = rw c.as_slice.ensures.value (ascending-sorted _ _ _ c.self.invariant.starts)
