use Rattle.std.proofs.Common.{◌≡◌, ◌*◌, ◌++◌, ◌∷◌, [], length, ap, ◌∙◌, arith}
use Rattle.guest_maker.specs.Program.{function_at_offset}
use Rattle.guest_maker.proofs.Growing.{program_grows}
use Rattle.guest_maker.proofs.program.push_routine.Goals as goal

pub returns-clause-program : goal.returns-clause-program
returns-clause-program c =
    let lines = c.args.program.now.lines in
    let before : c.len.result ≡ length lines.items = omega (arith, lines.ok.0) in
    let functions = c.in_ok-push.ensures.ok ∙ ap (λ k. c.args.program.now.functions ++ function_at_offset (4 * k) c.args.name ∷ []) before in
    λ rs h. program_grows _ _ rs c.args.name c.args.lines.now h c.in_ok-extend_from_slice.ensures.items functions
