use Rattle.rv_step.proofs.Low.{text_found, text_is_inside}
use Rattle.rv_step.proofs.resolve.resolve.Goals as goal

pub returns-in-Text-clause-placed : goal.returns-in-Text-clause-placed
returns-in-Text-clause-placed g c =
    let text = text_found c.args.ram.now c.in-At.place c.requires.stage c.in-Text.ensures in
    (text_is_inside c.args.ram.now c.in-At.place c.text-laid.ensures.laid text, text, c.in-At.ensures.low)
