use Rattle.std.proofs.Common.{◌≡◌, length, ap, ◌∙◌, arith, length-append}
use Rattle.guest_maker.specs.Generator.{generator_next}
use Rattle.guest_maker.specs.Program.{idle}
use Rattle.guest_maker.proofs.Growing.{length-idle}
use Rattle.guest_maker.proofs.program.push_idle.Goals as goal

pub returns-clause-few : goal.returns-clause-few
returns-clause-few c =
    let more = idle c.loop.counter (generator_next c.args.generator.now) in
    omega (arith, c.loop.lines.ok.0, c.args.lines.now.ok.0, ap length c.loop.invariant.0, length-append c.args.lines.now.items more, length-idle c.loop.counter (generator_next c.args.generator.now))
