-- The trace of a crew's whole run.
use Rattle.std.proofs.Common.{◌≡◌, ℕ, List, ◌∙◌, sym, ap}
use Rattle.trace_file.specs.Trace.{Told}
use Rattle.guest_board.specs.Board.{Seat, State}
use Rattle.view_store.specs.Paged.{PagedView}
use Rattle.run_evidence.specs.Config.{Config, IsConfig, full}
use Rattle.run_trace.specs.Told.{IsToldBy, IsInRange}
use Rattle.run_trace.specs.Sound.{IsRun, RunsHaveSoundTraces, TracesOfRunsAreLawful}
use Rattle.vcpu_crew.specs.Crew.{IsWholeRun}
use Rattle.run_command.specs.Run.{IsCrewRun}

module _ (c : Config) (ok : IsConfig c) (board : Seat) (views : List PagedView) (w : IsWholeRun c board views) where
  run : IsRun c board views
  run = record {
    config = ok;
    state = ap (λ (b : Seat). b.state) w.board;
    lawful = w.lawful;
    numbered = w.numbered;
    each = w.each;
    allowed = w.allowed;
  }

  pub is-crew-run : RunsHaveSoundTraces → TracesOfRunsAreLawful → (t : Told) (console : List ℕ) → IsToldBy board views t → IsInRange t → console ≡ board.state.console → IsCrewRun c t console
  is-crew-run traced lawful t console told ranges wrote = record {
    sound = traced c board views t run told;
    lawful = lawful c board views t run told ranges;
    wrote = wrote ∙ ap (λ (x : State). x.console) (run.state ∙ ap (full c) (sym told.schedule));
  }
