use Rattle.std.proofs.Common.{arith, refl, ◌≤◌, ◌+◌}
use Rattle.function_table.specs.Groups.{half_of}
use Rattle.std.specs.Prelude.{slice_index}
use Rattle.view_store.specs.declared.pages.TheConstants.{BLOCK, KEEP}
use Rattle.view_store.proofs.PageLemmas.{block-restored}
use Rattle.view_store.proofs.pages.restore.Goals as goal

pub loop-at-preserved : goal.loop-at-preserved
loop-at-preserved c =
    let i = c.loop-at.invariant in
    let order : c.loop-at.at ≤ c.min-end.result = omega (arith, c.min-end.ensures) in
    let few : c.min-end.result ≤ c.loop-at.at + BLOCK = omega (arith, c.min-end.ensures) in
    record {
      order = omega (arith, i.order, order);
      within = omega (arith, c.min-end.ensures);
      each = λ k. block-restored KEEP BLOCK c.args.from c.loop-at.at c.min-end.result (half_of c.args.text.now k) (slice_index c.args.pages.now k) (slice_index c.loop-at.pages k) (slice_index c.keep_block.new.pages k) k refl i.order order few (c.keep_block.ensures.each k) (i.each k);
    }
