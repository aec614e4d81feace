use Rattle.std.proofs.Common.{leb, arith, rules}
use Rattle.std.proofs.lemmas.List.Sorted.{IsPartitionPoint-from_clause, IsPartitionedBy-leb}
use Rattle.guest_input.specs.declared.setup.Event.{Event}
use Rattle.device_feed.proofs.Events.{filter-take}
use Rattle.device_feed.proofs.lists.due_count.Goals as goal

pub returns-clause-due : goal.returns-clause-due
returns-clause-due c =
    let parted = IsPartitionedBy-leb (λ (e : Event). e.at) c.args.events.now c.args.clock c.requires in
    let point = IsPartitionPoint-from_clause (λ (e : Event). leb e.at c.args.clock) _ _ c.partition_point.ensures.partitioned parted (λ a r q k. search rules) in
    filter-take (λ (e : Event). leb e.at c.args.clock) _ _ c.partition_point.ensures.bound (λ k d h. point.0 k d (omega arith) h) point.1
