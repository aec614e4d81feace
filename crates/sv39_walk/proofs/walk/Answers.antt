use Rattle.sv39_walk.proofs.Sequence.{walked_is_translation}
use Rattle.sv39_walk.specs.Walk.{asked}
use Rattle.sv39_walk.proofs.walk.Goals as goal

pub returns-clause-translation : goal.returns-clause-translation
returns-clause-translation c =
    rw c.translate.ensures.value
    (walked_is_translation c.args.ram.now c.args.satp (asked c.args.mode c.args.sum c.args.mxr c.args.access c.args.va))
