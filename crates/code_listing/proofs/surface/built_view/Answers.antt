use Rattle.std.proofs.lemmas.List.FromFn.{length-map-range_with_len}
use Rattle.function_table.specs.Groups.{groups_count}
use Rattle.view_file.specs.Base.{is_based}
use Rattle.code_listing.proofs.surface.built_view.Goals as goal

pub build-requires-clause-base : goal.build-requires-clause-base
build-requires-clause-base c = rw c.in_ok-base.ensures (length-map-range_with_len (is_based c.args.views.now c.args.table.now c.args.number) 0 (groups_count c.args.table.now))
