use Rattle.sv39_walk.specs.Walk.{asked}
use Rattle.sv39_walk.specs.Page.{page_start}
use Rattle.sv39_walk.proofs.ByPage.{by_page}
use Rattle.sv39_walk.proofs.LowBits.{low_page, low_walked}
use Rattle.std.proofs.Common.{sym}
use Rattle.sv39_walk.proofs.cache.WalkCache.cached_walk.Goals as goal

pub moved-requires : goal.moved-requires
moved-requires c =
    rw (c.answer_in-answer.ensures.value, c.start_of.ensures)
    (low_page c.args.va _ (low_walked c.args.ram.now c.args.satp (asked c.args.mode c.args.sum c.args.mxr c.args.access (page_start c.args.va))))

pub returns-clause-value : goal.returns-clause-value
returns-clause-value c =
    rw (c.moved.ensures, c.answer_in-answer.ensures.value, c.start_of.ensures)
    (sym (by_page c.args.ram.now c.args.satp c.args.mode c.args.sum c.args.mxr c.args.access c.args.va))

pub returns-clause-low : goal.returns-clause-low
returns-clause-low c =
    rw (returns-clause-value c) (low_walked c.args.ram.now c.args.satp (asked c.args.mode c.args.sum c.args.mxr c.args.access c.args.va))
