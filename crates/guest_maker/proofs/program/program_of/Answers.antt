use Rattle.std.proofs.Common.{◌≡◌, ◌++◌, ap, subst, ◌∙◌}
use Rattle.guest_maker.specs.Generator.{generator_after}
use Rattle.guest_maker.specs.Program.{IsProgram, program, fixed, numbered}
use Rattle.guest_maker.specs.declared.program.TheConstants.{NUMBERED}
use Rattle.guest_maker.proofs.program.program_of.Goals as goal

pub returns-clause-program : goal.returns-clause-program
unfolding program
returns-clause-program c =
    let state : c.draw_called-drawn.new.generator ≡ generator_after 4 c.args.seed = c.draw_called-drawn.ensures.state ∙ ap (generator_after 4) c.new-generator.ensures in
    subst (λ s. IsProgram c.push_all_drawn.new.program (fixed ++ numbered NUMBERED s)) state (c.in_ok-push_all_drawn.ensures.program fixed c.in_ok-program.ensures.program)
