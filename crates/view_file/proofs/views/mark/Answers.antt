use Rattle.std.proofs.Common.{◌≡◌, ◌<◌, length, subst, sym, ◌∙◌}
use Rattle.std.proofs.lemmas.List.{length-set}
use Rattle.view_file.proofs.Functions.{no_start}
use Rattle.function_table.specs.Groups.{groups_count}
use Rattle.view_file.proofs.Bases.{marked_next}
use Rattle.view_file.proofs.views.mark.Goals as goal

pub loop-at-preserved : goal.loop-at-preserved
loop-at-preserved c =
    let counted : groups_count c.args.table.now ≡ length c.loop-at.groups.items = sym (c.loop-at.invariant.0 ∙ c.requires.each) in
    let same : c.group_of-group.result ≡ c.group.inside.0 = sym c.group.view_is in
    let inside : c.group.inside.0 < length c.loop-at.groups.items =
    subst (λ n. c.group.inside.0 < n) counted (subst (λ g. g < groups_count c.args.table.now) same c.group_of-group.ensures.within) in (
      length-set c.loop-at.groups.items c.group.inside.0 _ ∙ c.loop-at.invariant.0,
      λ g. marked_next c.args.table.now c.args.functions.now c.loop-at.at-index no_start c.args.groups.now.items c.loop-at.groups.items c.group.inside.0 g
          c.loop-at-test.true inside (sym same ∙ c.group_of-group.ensures.value) (c.loop-at.invariant.1 g),
    )
