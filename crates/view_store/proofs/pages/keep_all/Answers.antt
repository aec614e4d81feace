use Rattle.std.proofs.Common.{arith, ◌≤◌, length}
use Rattle.function_table.specs.Groups.{half_of}
use Rattle.std.specs.Prelude.{slice_index}
use Rattle.view_store.proofs.PageLemmas.{block-kept}
use Rattle.view_store.proofs.pages.keep_all.Goals as goal

pub loop-at-preserved : goal.loop-at-preserved
loop-at-preserved c =
    let i = c.loop-at.invariant in
    let order : c.loop-at.at ≤ c.min-end.result = omega (arith, c.min-end.ensures, i.within) in
    let within : c.min-end.result ≤ length c.args.marks.now = omega (arith, c.min-end.ensures) in
    record {
      within = within;
      each = λ k. block-kept c.args.marks.now c.loop-at.at c.min-end.result (half_of c.args.text.now k) (slice_index c.args.pages.now k) (slice_index c.loop-at.pages k) (slice_index c.keep_block.new.pages k) k order within (c.keep_block.ensures.each k) (i.each k);
    }
