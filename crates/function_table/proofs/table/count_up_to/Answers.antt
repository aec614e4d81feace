use Rattle.std.proofs.Common.{rules, sym}
use Rattle.std.specs.Prelude.{nat_le}
use Rattle.std.proofs.lemmas.List.Sorted.{IsPartitionedBy-leb, IsPartitionPoint-from_clause}
use Rattle.function_table.proofs.GroupLemmas.{parted-count}
use Rattle.function_table.proofs.table.count_up_to.Goals as goal

pub returns-clause-value : goal.returns-clause-value
returns-clause-value c =
    sym (parted-count (λ start. nat_le start c.args.offset) c.args.starts.now c.partition_point.result c.partition_point.ensures.bound
    (IsPartitionPoint-from_clause (λ start. nat_le start c.args.offset) c.args.starts.now c.partition_point.result c.partition_point.ensures.partitioned
    (IsPartitionedBy-leb (λ start. start) c.args.starts.now c.args.offset c.requires) (λ a r f called. search rules)))
