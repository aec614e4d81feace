use Rattle.std.proofs.Common.{ℕ, Bool, ◌≡◌, ◌*◌, false}
use Rattle.std.specs.Prelude.{◌==◌, if◌then◌else◌, slice_index, slice_index_or}
use Rattle.function_table.specs.Groups.{group_in}
use Rattle.view_store.specs.declared.pages.TheConstants.{KEEP}
use Rattle.view_store.proofs.PageLemmas.{mark-kept, mark-left}
use Rattle.view_store.proofs.pages.mark_kept.Goals as goal
use Rattle.view_store.proofs.pages.mark_kept.Goals.{then-kept-g, else-kept-g}

pub loop-g-preserved : goal.loop-g-preserved
loop-g-preserved c = λ n inside.
    let group = group_in c.args.table.now.starts (2 * n) in
    let kept : ℕ → Bool = λ g. slice_index_or c.args.kept.now g false in
    elim c.if-kept-g.branch [
      | then-kept-g w ↦
          let new : slice_index w.mark.new.marks n ≡ (if group_in c.args.table.now.starts (2 * n) == c.loop-g.g then KEEP else slice_index c.loop-g.marks n) =
          rw (w.halves_of-halves.ensures.each n inside) at (w.mark.ensures.each n) in
          rw w.marks-is (mark-kept kept group c.loop-g.g KEEP (slice_index c.args.marks.now n) _ _ w.if-kept-g.true new (c.loop-g.invariant n inside))
      | else-kept-g w ↦ rw w.marks-is (mark-left kept group c.loop-g.g KEEP (slice_index c.args.marks.now n) _ w.if-kept-g.false (c.loop-g.invariant n inside))
    ]
