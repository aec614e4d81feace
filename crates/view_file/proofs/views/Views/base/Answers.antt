use Rattle.std.proofs.Common.{◌≡◌, ◌+◌, ◌-◌, arith, sym, ap, ◌∙◌}
use Rattle.function_table.specs.Groups.{is_function}
use Rattle.view_file.specs.Base.{functions_of_app}
use Rattle.view_file.proofs.Bases.{list_all-functions_of, base_of-full, base_of-marked}
use Rattle.view_file.proofs.views.Views.base.Goals as goal

pub returns-then-v-eq0 : goal.returns-then-v-eq0
returns-then-v-eq0 c =
    c.in_ok-filled.ensures
    ∙ base_of-full c.args.self.now c.args.table.now c.args.v c.groups-count.result (sym c.v.view_is ∙ c.if-v-eq0.true) c.groups-count.ensures.count

pub mark-requires-clause-listed : goal.mark-requires-clause-listed
mark-requires-clause-listed c =
    rw (c.functions_at.ensures, c.as_slice.ensures.value) (list_all-functions_of (is_function c.args.table.now) c.args.self.now (c.v.inside.0 - 1) c.requires.listed)

pub returns : goal.returns
returns c =
    let some : c.args.v ≡ (c.v.inside.0 - 1) + 1 = omega (arith, c.v.view_is, c.if-v-eq0.false) in
    base_of-marked c.args.self.now c.args.table.now c.args.v c.groups-count.result (c.v.inside.0 - 1)
    c.in_ok-groups.groups.items c.mark.new.groups.items c.mark-2.new.groups.items c.functions_at.result.now c.as_slice-2.result.now
    some c.groups-count.ensures.count c.in_ok-groups.ensures
    (c.functions_at.ensures ∙ ap (λ apps. functions_of_app apps (c.v.inside.0 - 1)) c.as_slice.ensures.value) c.as_slice-2.ensures
    c.mark.ensures.marked c.mark-2.ensures.marked (c.mark-2.ensures.len ∙ c.mark.ensures.len)
