use Rattle.std.proofs.Common.{◌∙◌}
use Rattle.function_table.proofs.GroupLemmas.{searched-any}
use Rattle.function_table.proofs.table.has_offset.Goals as goal

pub returns : goal.returns
returns c = c.is_ok.ensures.value ∙ searched-any c.args.offsets.now c.args.offset c.binary_search.result c.requires c.binary_search.ensures.position
