use Rattle.view_store.proofs.PageLemmas.{windows_are_of_the_mask}
use Rattle.view_store.proofs.laws.windows_are_lines_of_the_mask.Goals as goal

pub returns : goal.returns
returns c = windows_are_of_the_mask
