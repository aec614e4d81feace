use Rattle.std.proofs.Common.{◌≡◌, length, true, false}
use Rattle.trace_file.specs.Trace.{told_of_trace}
use Rattle.replay_command.specs.declared.comparison.Comparison.TheVariants.{Schedule, Ending, Memory}
use Rattle.replay_command.specs.Comparisons.{differs}
use Rattle.replay_command.proofs.Replayed.{value-differs, memory-differs, none-differs}
use Rattle.replay_command.proofs.compare.run_difference.Goals as goal

pub returns-in-Some-clause-value : goal.returns-in-Some-clause-value
returns-in-Some-clause-value c =
    let schedule : differs (Schedule c.args.made (length c.args.trace.now.schedule.items)) ≡ false = cc (c.differs.ensures, c.if-differs.false, c.len.ensures) in
    let ending : differs (Ending c.args.board.now.state.end c.args.trace.now.end) ≡ false = cc (c.differs-2.ensures, c.if-differs-2.false, c.end.ensures) in
    value-differs c.args.board.now.state (told_of_trace c.args.trace.now) c.args.made schedule ending c.in-Some.value c.deref.result.now c.deref.ensures.value c.requires.states c.in-Some.ensures.value

pub returns-then-differs-3-clause-value : goal.returns-then-differs-3-clause-value
returns-then-differs-3-clause-value c =
    let schedule : differs (Schedule c.args.made (length c.args.trace.now.schedule.items)) ≡ false = cc (c.differs.ensures, c.if-differs.false, c.len.ensures) in
    let ending : differs (Ending c.args.board.now.state.end c.args.trace.now.end) ≡ false = cc (c.differs-2.ensures, c.if-differs-2.false, c.end.ensures) in
    let memory : differs (Memory c.memory_digest.result c.args.trace.now.memory) ≡ true = cc (c.differs-3.ensures, c.if-differs-3.true) in
    memory-differs c.args.board.now.state (told_of_trace c.args.trace.now) c.args.made schedule ending c.deref.result.now c.memory_digest.result c.deref.ensures.value c.requires.states
    c.in-None.ensures.value (cc (c.memory_digest.ensures.value, c.ram.ensures)) memory

pub returns-clause-value : goal.returns-clause-value
returns-clause-value c =
    let schedule : differs (Schedule c.args.made (length c.args.trace.now.schedule.items)) ≡ false = cc (c.differs.ensures, c.if-differs.false, c.len.ensures) in
    let ending : differs (Ending c.args.board.now.state.end c.args.trace.now.end) ≡ false = cc (c.differs-2.ensures, c.if-differs-2.false, c.end.ensures) in
    let memory : differs (Memory c.memory_digest.result c.args.trace.now.memory) ≡ false = cc (c.differs-3.ensures, c.if-differs-3.false) in
    none-differs c.args.board.now.state (told_of_trace c.args.trace.now) c.args.made schedule ending c.deref.result.now c.memory_digest.result c.deref.ensures.value c.requires.states
    c.in-None.ensures.value (cc (c.memory_digest.ensures.value, c.ram.ensures)) memory
