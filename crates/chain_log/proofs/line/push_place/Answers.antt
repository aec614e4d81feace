use Rattle.std.proofs.Common.{◌≡◌, ◌≤◌, subst, sym, true}
use Rattle.guest_input.specs.Text.{start_place}
use Rattle.function_table.specs.Groups.{Groups, groups_of, has_start, in_groups_text}
use Rattle.chain_log.specs.Line.{holder_of}
use Rattle.chain_log.proofs.Holders.{holder-inside, holder-starts}
use Rattle.chain_log.proofs.line.push_place.Goals as goal

pub start_place-requires : goal.start_place-requires
start_place-requires c =
    rw c.holder-function.ensures
    (subst (λ (t : Groups). has_start t.text (holder_of c.args.image.now c.args.at).at ≡ true) (sym c.requires.table) (holder-inside c.args.image.now c.args.at c.requires.image))

pub overflow_sub-offset : goal.overflow_sub-offset
overflow_sub-offset c =
    let text : in_groups_text (groups_of c.args.image.now) c.args.at ≡ true = subst (λ (t : Groups). in_groups_text t c.args.at ≡ true) c.requires.table c.requires.text in
    let starts : start_place c.args.table.now.text (holder_of c.args.image.now c.args.at).at ≤ c.args.at =
    subst (λ (t : Groups). start_place t.text (holder_of c.args.image.now c.args.at).at ≤ c.args.at) (sym c.requires.table) (holder-starts c.args.image.now c.args.at c.requires.image text) in
    rw (c.offset.view_is, c.at.view_is, c.start_place.ensures, c.holder-function.ensures) starts
