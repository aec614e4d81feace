use Rattle.std.proofs.Common.{◌≡◌, ◌<◌, subst, sym, ◌∙◌}
use Rattle.std.proofs.lemmas.Option.{none-some, same_Some}
use Rattle.fc_numbers.specs.Spans.{text_size}
use Rattle.guest_input.specs.Text.{flat_of}
use Rattle.view_commands.proofs.Groups.{answered_group, answered_offset, function_below}
use Rattle.view_commands.proofs.show.group_of.Goals as goal

pub place_of-requires : goal.place_of-requires
place_of-requires c =
    let is : c.in-Some.offset ≡ flat_of c.args.table.now.text c.args.at = answered_offset c.args.table.now c.args.at c.in-Some.offset c.requires c.in-Some.ensures in
    let below : c.in-Some.offset < text_size c.args.table.now.text =
    subst (λ n. n < text_size c.args.table.now.text) (sym is) (function_below c.args.table.now c.args.at c.text.ensures.lawful c.requires) in
    record { inside = subst (λ l. c.in-Some.offset < text_size l) (sym c.text.ensures.value) below }

pub unreachable-requires-in-None : goal.unreachable-requires-in-None
unreachable-requires-in-None c =
    let is = answered_offset c.args.table.now c.args.at c.in-Some.offset c.requires c.in-Some.ensures in
    let found = answered_group c.offset_of_place.ensures c.places_are_in_text.ensures c.args.table.now c.args.at c.in-Some.offset c.text.result.now c.place_of.result c.group_of.result
    c.text.ensures.lawful c.requires is c.text.ensures.value c.place_of.ensures c.group_of.ensures.value in
    absurd (none-some _ (sym c.in-None.is ∙ found))

pub returns-clause-value : goal.returns-clause-value
returns-clause-value c =
    let is = answered_offset c.args.table.now c.args.at c.in-Some.offset c.requires c.in-Some.ensures in
    let found = answered_group c.offset_of_place.ensures c.places_are_in_text.ensures c.args.table.now c.args.at c.in-Some.offset c.text.result.now c.place_of.result c.group_of.result
    c.text.ensures.lawful c.requires is c.text.ensures.value c.place_of.ensures c.group_of.ensures.value in
    same_Some _ _ (sym c.in-Some-group_of.is ∙ found)
