use Rattle.std.proofs.Common.{ap, sym, subst, ◌||◌, ◌∙◌}
use Rattle.view_file.specs.Union.{AreJoined, AreUnion, has_app}
use Rattle.view_file.proofs.Unions.{none_joined, union_sorted}
use Rattle.view_file.proofs.merge.join_apps.Goals as goal

pub add_apps-requires : goal.add_apps-requires
add_apps-requires c = subst (AreJoined c.args.a.now c.args.b.now) (sym c.new-joined.ensures.items) (none_joined c.args.a.now c.args.b.now)

pub returns : goal.returns
returns c =
    subst (AreUnion c.args.a.now c.args.b.now) (sym c.from_vec.ensures)
    (union_sorted c.args.a.now c.args.b.now _ c.in_ok-apps.apps.items c.in_ok-add_apps-2.ensures.joined
    (λ name. c.in_ok-add_apps-2.ensures.names name ∙ ap (λ b. b || has_app c.args.b.now name) (c.in_ok-add_apps.ensures.names name ∙ ap (λ l. has_app l name || has_app c.args.a.now name) c.new-joined.ensures.items))
    c.in_ok-apps.ensures.0 c.in_ok-apps.ensures.1)
