use Rattle.std.proofs.Common.{◌<◌, subst}
use Rattle.function_table.specs.Groups.{Groups, IsRangeOf, groups_count}
use Rattle.function_table.proofs.GroupLemmas.{range_is}
use Rattle.function_table.proofs.table.Table.range.Goals as goal

pub returns-clause-exact : goal.returns-clause-exact
returns-clause-exact c =
    subst (λ (t : Groups). c.args.g < groups_count t → IsRangeOf t c.args.g c.range_in.result) c.self.view_is
    (λ within. rw (c.range_in.ensures, c.as_slice.ensures.value, c.as_slice-2.ensures.value) (range_is _ _ c.self.invariant within)) c.requires
