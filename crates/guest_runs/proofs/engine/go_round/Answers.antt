use Rattle.std.proofs.Common.{◌≢◌, ◌+◌, ◌∙◌, sym, subst, rules}
use Rattle.vcpu_core.specs.declared.lane.Went.TheVariants.{Over}
use Rattle.guest_runs.proofs.Rounds.{InRound, over-on, went-on}
use Rattle.guest_runs.proofs.engine.go_round.Goals as goal
use Rattle.guest_runs.proofs.engine.go_round.Goals.{in-Stepped, in-Over}

pub loop-i-preserved : goal.loop-i-preserved
loop-i-preserved c = elim c.match-go.branch [
  | in-Stepped w ↦
      let goes : c.go.result ≢ Over = λ over. search rules in
      subst (λ b. InRound c.args.core.now c.go.new.self b (c.loop-i.i + 1)) (sym w.went-is)
      (went-on c.args.core.now c.loop-i.core c.go.new.self c.loop-i.went c.loop-i.i c.loop-i.invariant (c.go.ensures.falls goes) c.go.ensures.after)
  | in-Over w ↦
      subst (λ b. InRound c.args.core.now c.go.new.self b (c.loop-i.i + 1)) (sym w.went-is)
      (over-on c.args.core.now c.loop-i.core c.go.new.self c.loop-i.went c.loop-i.i c.loop-i.invariant (sym c.go.ensures.answer ∙ w.in-Over.is) c.go.ensures.after)
]
