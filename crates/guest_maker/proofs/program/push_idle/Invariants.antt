use Rattle.std.proofs.Common.{◌≡◌, ◌++◌, ◌≤◌}
use Rattle.guest_maker.specs.Generator.{generator_next, generator_after}
use Rattle.guest_maker.specs.Program.{idle}
use Rattle.guest_maker.proofs.program.push_idle.Given as goal

abbrev pub invariant-loop : goal.invariant-loop
invariant-loop l =
    (l.lines.items ≡ l.fn.lines.items ++ idle l.counter (generator_next l.fn.generator)) × (l.generator ≡ generator_after l.counter (generator_next l.fn.generator)) × (l.counter ≤ l.count)
