use Rattle.std.proofs.Common.{◌∙◌, ◌-◌, sym, ap, arith}
use Rattle.gstage.specs.Walk.{walked_from}
use Rattle.gstage.proofs.Steps.{walked-invalid, walked-leaf, walked-lowest, walked-reserved, walked-below}
use Rattle.gstage.proofs.walk.+walk_from.Goals as goal
use Rattle.gstage.proofs.walk.+walk_from.Goals.{then-level-eq0-via-then-level-eq0, then-level-eq0-via-else-level-eq0+then-not-is_pointer}

pub returns-then-not-is_valid : goal.returns-then-not-is_valid
returns-then-not-is_valid t c = sym (walked-invalid c.args.entries.now c.args.at c.args.level c.args.entry (sym c.if-not-is_valid.ensures))

pub returns-then-is_leaf : goal.returns-then-is_leaf
returns-then-is_leaf t c = c.leaf_at.ensures ∙ sym (walked-leaf c.args.entries.now c.args.at c.args.level c.args.entry (sym c.if-not-is_valid.ensures) (sym c.if-is_leaf.ensures))

pub returns-then-level-eq0 : goal.returns-then-level-eq0
returns-then-level-eq0 t c =
    elim c.then-level-eq0.branch [
      | then-level-eq0-via-then-level-eq0 w ↦
          sym (walked-lowest c.args.entries.now c.args.at c.args.level c.args.entry (sym c.if-is_leaf.ensures) w.if-level-eq0.true (sym c.if-not-is_valid.ensures))
      | then-level-eq0-via-else-level-eq0+then-not-is_pointer w ↦
          sym (walked-reserved c.args.entries.now c.args.at c.args.level c.args.entry (sym c.if-is_leaf.ensures) (sym w.if-not-is_pointer.ensures) (sym c.if-not-is_valid.ensures))
    ]

pub returns : goal.returns
returns t c =
    let below = walked-below c.args.entries.now c.args.at c.args.level c.args.entry (omega arith) (sym c.if-not-is_valid.ensures) (sym c.if-is_leaf.ensures) (sym c.if-not-is_pointer.ensures) in
    let read = rw (c.page_number.ensures.value, c.index.ensures.value) at c.entry_at-below.ensures in
    c.walk_from.ensures ∙ ap (λ e. walked_from c.args.entries.now c.args.at (c.args.level - 1) e) read ∙ sym below
