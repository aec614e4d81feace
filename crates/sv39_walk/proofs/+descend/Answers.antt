use Rattle.std.proofs.Common.{◌+◌, ◌-◌, ◌*◌, ◌∙◌, ap, arith}
use Rattle.sv39_walk.proofs.Steps.{unread, faults, maps, goes_on, above_last}
use Rattle.sv39_walk.proofs.+descend.Goals as goal

pub returns-in-Err-clause-value : goal.returns-in-Err-clause-value
returns-in-Err-clause-value t c =
    let place = ap (λ n. c.args.table + 8 * n) c.index.ensures.value in
    unread c.args.ram.now c.args.q.now c.args.levels c.args.table _ c.in-Err.answer c.requires.some place c.in-Err.ensures

pub returns-then-is_fault-clause-value : goal.returns-then-is_fault-clause-value
returns-then-is_fault-clause-value t c =
    let place = ap (λ n. c.args.table + 8 * n) c.index.ensures.value in
    faults c.args.ram.now c.args.q.now c.args.levels c.args.table _ c.in-Ok.pte c.requires.some place c.in-Ok.ensures c.if-is_fault.ensures

pub returns-then-is_leaf-clause-value : goal.returns-then-is_leaf-clause-value
returns-then-is_leaf-clause-value t c =
    let place = ap (λ n. c.args.table + 8 * n) c.index.ensures.value in
    rw (c.page_number.ensures.value, c.within_page.ensures.value)
    (maps c.args.ram.now c.args.q.now c.args.levels c.args.table _ c.in-Ok.pte c.requires.some place c.in-Ok.ensures c.if-is_fault.ensures c.if-is_leaf.ensures)

pub descend-requires : goal.descend-requires
descend-requires t c =
    let above = above_last c.args.q.now (c.args.levels - 1) c.in-Ok.pte c.if-is_fault.ensures c.if-is_leaf.ensures in
    grind (arith, above)

pub returns-clause-value : goal.returns-clause-value
returns-clause-value t c =
    let place = ap (λ n. c.args.table + 8 * n) c.index.ensures.value in
    c.descend.ensures.value ∙ rw c.page_number-2.ensures.value
    (goes_on c.args.ram.now c.args.q.now c.args.levels c.args.table _ c.in-Ok.pte c.requires.some place c.in-Ok.ensures c.if-is_fault.ensures c.if-is_leaf.ensures)
