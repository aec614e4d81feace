use Rattle.std.proofs.Common.{◌≡◌, ◌∙◌, sym, ap, subst, length, take, true, false, Some, None, List, ℕ}
use Rattle.trace_file.specs.Trace.{Told, told_of_trace}
use Rattle.guest_board.specs.Board.{Seat}
use Rattle.run_evidence.specs.Config.{Config, full}
use Rattle.full_run.specs.Replay.{IsLongest, config_of_full_run}
use Rattle.replay_command.specs.declared.comparison.Comparison.TheVariants.{Vcpus}
use Rattle.replay_command.specs.Comparisons.{differs, first_difference, run_compared}
use Rattle.replay_command.proofs.Replayed.{all-same, if-ok, run-differs, same-vcpus, vcpus-differ}
use Rattle.replay_command.proofs.replay.replayed.Goals as goal

pub returns-then-differs : goal.returns-then-differs
returns-then-differs c =
    let config : Config = config_of_full_run c.args.image.now c.args.setup.now in
    let bad : differs (Vcpus c.args.setup.now.vcpus c.args.trace.now.vcpus) ≡ true = cc (c.differs.ensures, c.if-differs.true) in
    if-ok c.differing.result (λ p is. vcpus-differ config (told_of_trace c.args.trace.now) p c.each_has_longest.ensures bad is) c.differing.ensures

pub run_difference-requires-clause-vcpus : goal.run_difference-requires-clause-vcpus
run_difference-requires-clause-vcpus c =
    let config : Config = config_of_full_run c.args.image.now c.args.setup.now in
    let good : differs (Vcpus c.args.setup.now.vcpus c.args.trace.now.vcpus) ≡ false = cc (c.differs.ensures, c.if-differs.false) in
    sym (same-vcpus c.args.setup.now.vcpus c.args.trace.now.vcpus good)
    ∙ sym (c.runs_keep_vcpus.ensures config (take c.in_ok-ran.ran.made c.deref.result.now))
    ∙ ap (λ (b : Seat). length b.state.slots) (sym c.in_ok-ran.ensures.board)

pub returns : goal.returns
returns c =
    let config : Config = config_of_full_run c.args.image.now c.args.setup.now in
    let t : Told = told_of_trace c.args.trace.now in
    let good : differs (Vcpus c.args.setup.now.vcpus c.args.trace.now.vcpus) ≡ false = cc (c.differs.ensures, c.if-differs.false) in
    let longest : IsLongest config t.schedule c.in_ok-ran.ran.made = subst (λ (h : List ℕ). IsLongest config h c.in_ok-ran.ran.made) c.deref.ensures.value c.in_ok-ran.ensures.longest in
    let board : c.in_ok-ran.ran.board.state ≡ full config (take c.in_ok-ran.ran.made t.schedule)
    = ap (λ (b : Seat). b.state) c.in_ok-ran.ensures.board ∙ ap (λ (h : List ℕ). full config (take c.in_ok-ran.ran.made h)) c.deref.ensures.value in
    let none : None ≡ first_difference (run_compared (full config (take c.in_ok-ran.ran.made t.schedule)) t c.in_ok-ran.ran.made)
    = subst (λ s. None ≡ first_difference (run_compared s t c.in_ok-ran.ran.made)) board c.in-None.ensures.value in
    all-same config t _ c.in_ok-ran.ran.made longest good none c.ended_of.ensures c.new.ensures (c.in_ok-from_slice.ensures ∙ c.console.ensures ∙ ap (λ s. s.console) board)

pub returns-in-Some : goal.returns-in-Some
returns-in-Some c =
    let config : Config = config_of_full_run c.args.image.now c.args.setup.now in
    let t : Told = told_of_trace c.args.trace.now in
    let good : differs (Vcpus c.args.setup.now.vcpus c.args.trace.now.vcpus) ≡ false = cc (c.differs.ensures, c.if-differs.false) in
    let longest : IsLongest config t.schedule c.in_ok-ran.ran.made = subst (λ (h : List ℕ). IsLongest config h c.in_ok-ran.ran.made) c.deref.ensures.value c.in_ok-ran.ensures.longest in
    let board : c.in_ok-ran.ran.board.state ≡ full config (take c.in_ok-ran.ran.made t.schedule)
    = ap (λ (b : Seat). b.state) c.in_ok-ran.ensures.board ∙ ap (λ (h : List ℕ). full config (take c.in_ok-ran.ran.made h)) c.deref.ensures.value in
    let some : Some c.in-Some.difference ≡ first_difference (run_compared (full config (take c.in_ok-ran.ran.made t.schedule)) t c.in_ok-ran.ran.made)
    = subst (λ s. Some c.in-Some.difference ≡ first_difference (run_compared s t c.in_ok-ran.ran.made)) board c.in-Some.ensures.value in
    if-ok c.differing-in-Some.result (λ p is. run-differs config t p c.in_ok-ran.ran.made longest good c.in-Some.difference some is) c.differing-in-Some.ensures
