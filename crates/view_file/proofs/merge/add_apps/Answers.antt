use Rattle.std.proofs.Common.{◌≡◌, ◌++◌, ◌∷◌, ◌+◌, ◌||◌, [], List, ℕ, true, false, take, ap, subst, sym, ◌∙◌}
use Rattle.view_file.specs.declared.views.App.{App}
use Rattle.view_file.specs.Union.{AreJoined, has_app}
use Rattle.view_file.proofs.Unions.{joined_next, names_known, names_pushed}
use Rattle.view_file.proofs.merge.add_apps.Goals as goal
use Rattle.view_file.proofs.merge.add_apps.Goals.{then-not-has_app+in_ok-join_app+in_ok-push, else-not-has_app}

pub loop-app-preserved : goal.loop-app-preserved
loop-app-preserved c =
    let before : List App = c.args.joined.now.items in
    let P : List App → Type 0 = λ joined. AreJoined c.args.a.now c.args.b.now joined
    × ((name : List ℕ) → has_app joined name ≡ (has_app before name || has_app (take (c.loop-app.app-index + 1) c.args.apps.now) name)) in
    elim c.if-not-has_app.branch [
      | then-not-has_app+in_ok-join_app+in_ok-push w ↦
          let new : has_app c.loop-app.joined.items c.app-item.result.name ≡ false = rw (c.as_slice.ensures.value, c.bytes.ensures.value) at (sym w.if-not-has_app.ensures) in
          let app : App = w.in_ok-join_app.field-0 in
          let items : c.if-not-has_app.joined.items ≡ c.loop-app.joined.items ++ app ∷ [] = ap (λ v. v.items) w.joined-is ∙ w.in_ok-push.ensures.items in
          subst P (sym items) (
            joined_next _ _ c.loop-app.joined.items app c.loop-app.invariant.0 (ap (has_app c.loop-app.joined.items) w.in_ok-join_app.ensures.name ∙ new) w.in_ok-join_app.ensures.functions,
            λ name. names_pushed before c.args.apps.now c.loop-app.joined.items c.loop-app.app-index c.app-item.result app name c.loop-app-test.true c.app-item.is
                w.in_ok-join_app.ensures.name (c.loop-app.invariant.1 name),
          )
      | else-not-has_app w ↦
          let known : has_app c.loop-app.joined.items c.app-item.result.name ≡ true = rw (c.as_slice.ensures.value, c.bytes.ensures.value) at (sym w.if-not-has_app.ensures) in
          let same : c.if-not-has_app.joined.items ≡ c.loop-app.joined.items = ap (λ v. v.items) w.joined-is in
          subst P (sym same) (
            c.loop-app.invariant.0,
            λ name. names_known before c.args.apps.now c.loop-app.joined.items c.loop-app.app-index c.app-item.result name c.loop-app-test.true c.app-item.is known (c.loop-app.invariant.1 name),
          )
    ]
