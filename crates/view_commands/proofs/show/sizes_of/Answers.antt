use Rattle.std.proofs.Common.{◌≡◌, ℕ, List, [], ◌+◌, ◌<◌, ◌++◌, ap, sym, subst, ◌∙◌, append_assoc, length}
use Rattle.std.specs.Prelude.{codes, slice_index_or}
use Rattle.std.specs.List.{flat_map, range_with_len}
use Rattle.std.proofs.lemmas.List.{get_or_default}
use Rattle.view_file.specs.declared.views.App.{App}
use Rattle.view_commands.specs.Show.{name_of_view, size_line}
use Rattle.view_commands.proofs.Sizes.{flat-more}
use Rattle.view_commands.proofs.show.sizes_of.Goals as goal

pub loop-at-preserved : goal.loop-at-preserved
loop-at-preserved c =
    let line : List ℕ → ℕ → List ℕ = λ name view. size_line c.args.image.now c.args.views.now name view in
    let each : ℕ → List ℕ = λ n. line (name_of_view c.args.views.now n) (n + 1) in
    let here : c.index-apps-at.result ≡ slice_index_or c.args.views.now.apps c.loop-at.at (record { name = []; functions = [] }) =
    c.index-apps-at.is ∙ get_or_default c.as_slice-apps.result.now c.loop-at.at c.index-apps-at.result (record { name = []; functions = [] }) c.loop-at-test.true
    ∙ ap (λ (apps : List App). slice_index_or apps c.loop-at.at (record { name = []; functions = [] })) c.as_slice-apps.ensures.value in
    let name : c.bytes-name.result.now ≡ name_of_view c.args.views.now c.loop-at.at = c.bytes-name.ensures.value ∙ ap (λ (a : App). a.name) (sym c.index-apps-at.is ∙ here) in
    c.in_ok-push_view-2.ensures ∙ ap (λ text. text ++ line c.bytes-name.result.now (c.loop-at.at + 1)) c.loop-at.invariant
    ∙ ap (λ n. (line (codes "text") 0 ++ flat_map each (range_with_len 0 c.loop-at.at)) ++ line n (c.loop-at.at + 1)) name
    ∙ append_assoc (line (codes "text") 0) (flat_map each (range_with_len 0 c.loop-at.at)) (each c.loop-at.at)
    ∙ ap (λ l. line (codes "text") 0 ++ l) (sym (flat-more each c.loop-at.at))
