use Rattle.std.proofs.Common.{[]}
use Rattle.guest_maker.proofs.program.fixed_program.Goals as goal

pub returns-clause-program : goal.returns-clause-program
returns-clause-program c =
    c.in_ok-push_fixed-5.ensures.program _ (c.in_ok-push_fixed-4.ensures.program _ (c.in_ok-push_fixed-3.ensures.program _ (c.in_ok-push_fixed-2.ensures.program _
    (c.in_ok-push_fixed.ensures.program [] record { lines = c.new.ensures.items; functions = c.new-2.ensures }))))
