use Rattle.std.proofs.Common.{List, sym, subst}
use Rattle.fc_numbers.specs.Spans.{AreRangesFrom}
use Rattle.fc_numbers.specs.declared.places.Span.{Span}
use Rattle.fc_numbers.specs.declared.places.TheConstants.{RAM_START}
use Rattle.guest_board.specs.declared.step.StepStart.{StepStart}
use Rattle.guest_board.specs.Board.{Seat, next_start}
use Rattle.guest_board.specs.Step.{place_of}
use Rattle.guest_board.specs.SeenFacts.{IsPlacedIn}
use Rattle.guest_board.proofs.Steps.{start_placed}
use Rattle.guest_board.proofs.board.Board.verdict.Goals as goal

pub judge-requires-clause-ranges : goal.judge-requires-clause-ranges
judge-requires-clause-ranges g c =
    subst (λ (ss : List Span). AreRangesFrom RAM_START ss) (sym c.text.ensures.value) c.text.ensures.laid.lawful.text.ranges

pub judge-requires-clause-inside : goal.judge-requires-clause-inside
judge-requires-clause-inside g c =
    subst (λ (ss : List Span). IsPlacedIn ss (place_of c.next_start-start.result)) (sym c.text.ensures.value)
    (subst (λ (start : StepStart). IsPlacedIn c.self.inside.ram.text (place_of start)) (sym c.next_start-start.ensures.value)
    (subst (λ (b : Seat). IsPlacedIn b.state.ram.text (place_of (next_start c.args.self.now.state c.args.i))) (sym c.self.view_is)
    (subst (λ (b : Seat). IsPlacedIn b.state.ram.text (place_of (next_start c.args.self.now.state c.args.i))) (sym c.next_start-start.ensures.stays) (start_placed c.args.self.now.state c.args.i))))
