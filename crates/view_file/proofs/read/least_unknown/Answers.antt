use Rattle.std.proofs.Common.{◌≡◌, ◌+◌, Option, take, sym, subst, ◌∙◌}
use Rattle.std.specs.Prelude.{slice_index_or}
use Rattle.std.proofs.lemmas.List.{get_or_default}
use Rattle.guest_input.specs.declared.image.Start.{Start}
use Rattle.view_file.proofs.Functions.{no_start}
use Rattle.function_table.specs.Groups.{is_function}
use Rattle.view_file.specs.Least.{IsLeastOf}
use Rattle.view_file.proofs.Leasts.{least_known, least_unknown}
use Rattle.view_file.proofs.read.least_unknown.Goals as goal
use Rattle.view_file.proofs.read.least_unknown.Goals.{then-not-is_function, else-not-is_function}

pub loop-at-preserved : goal.loop-at-preserved
loop-at-preserved c =
    let x : Start = slice_index_or c.args.starts.now c.loop-at.at-index no_start in
    let P : Option Start → Type 0 = λ least. IsLeastOf (is_function c.args.table.now) (take (c.loop-at.at-index + 1) c.args.starts.now) least in
    let is : x ≡ slice_index_or c.args.starts.now c.loop-at.at-index x = get_or_default c.args.starts.now c.loop-at.at-index no_start x c.loop-at-test.true in
    elim c.if-not-is_function.branch [
      | then-not-is_function w ↦ subst P (sym (w.least-is ∙ w.lesser-least.ensures))
          (least_unknown (is_function c.args.table.now) c.args.starts.now c.loop-at.at-index x c.loop-at.least c.loop-at-test.true is (sym w.if-not-is_function.ensures) c.loop-at.invariant)
      | else-not-is_function w ↦ subst P (sym w.least-is)
          (least_known (is_function c.args.table.now) c.args.starts.now c.loop-at.at-index x c.loop-at.least c.loop-at-test.true is (sym w.if-not-is_function.ensures) c.loop-at.invariant)
    ]
