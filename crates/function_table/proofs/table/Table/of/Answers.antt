use Rattle.function_table.proofs.GroupLemmas.{groups-good}
use Rattle.function_table.proofs.table.Table.of.Goals as goal

pub invariant_of-result : goal.invariant_of-result
invariant_of-result c =
    rw (c.in_ok-starts.ensures, c.as_slice-4.ensures.value, c.bytes.ensures.value, c.as_slice-3.ensures.value, c.in_ok-functions.ensures, c.as_slice-2.ensures, c.as_slice.ensures.value, c.copy_spans-text.ensures.value)
    (groups-good c.args.image.now c.requires)
