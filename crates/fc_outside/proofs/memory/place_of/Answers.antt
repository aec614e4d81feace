use Rattle.std.proofs.Common.{sym, ◌∙◌, arith}
use Rattle.fc_outside.proofs.Files.{is_place, is_missing, place_hit, place_end}
use Rattle.fc_outside.proofs.memory.place_of.Goals as goal

pub returns-then-is_named-clause-place : goal.returns-then-is_named-clause-place
returns-then-is_named-clause-place c =
    is_place c.args.files.now c.args.name.now c.loop-i.i
    (sym c.loop-i.invariant ∙ place_hit c.args.files.now c.args.name.now c.loop-i.i c.index-files-i.result c.loop-i-test.true c.index-files-i.is (sym c.is_named.ensures ∙ c.if-is_named.true))

pub returns-clause-none : goal.returns-clause-none
returns-clause-none c =
    is_missing c.args.files.now c.args.name.now
    (sym c.loop-i.invariant ∙ place_end c.args.files.now c.args.name.now c.loop-i.i (omega arith))
