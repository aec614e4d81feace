use Rattle.std.proofs.Common.{◌≡◌, ◌∙◌, ◌++◌, take, drop, length, arith}
use Rattle.std.proofs.lemmas.Grind.{common_steps}
use Rattle.view_store.proofs.PageLemmas.{restored-group}
use Rattle.view_store.proofs.pages.restore_group.Goals as goal

pub returns-clause-each : goal.returns-clause-each
returns-clause-each c = λ n.
    let whole : take c.args.pages.now.len (c.restore.new.pages ++ drop (length c.restore.new.pages) c.args.pages.now.items) ≡ c.restore.new.pages = grind (arith, common_steps) in
    rw whole
    (c.restore.ensures.each n
    ∙ rw c.deref_mut.ensures.value (restored-group c.args.table.now c.args.g _ _ n c.args.text.now c.args.pages.now.items c.requires.size c.requires.long (c.halves_of-halves.ensures.each n)))
