-- The run of several vCPUs by a script, from what the core is after its events.
use Rattle.std.proofs.Common.{◌≡◌, ℕ, List, ◌∙◌, sym, ap, subst}
use Rattle.std.specs.Prelude.{slice_index_or, IsSome}
use Rattle.std.proofs.lemmas.List.{get_or_default}
use Rattle.std.specs.List.{flat_map}
use Rattle.trace_file.specs.Trace.{Told}
use Rattle.guest_board.specs.Board.{State}
use Rattle.view_store.specs.Paged.{PagedView}
use Rattle.run_evidence.specs.Config.{Config, IsConfig, IsLawfulSchedule, full}
use Rattle.run_evidence.specs.Evidence.{IsAllowed}
use Rattle.run_evidence.specs.Sound.{IsSoundView}
use Rattle.run_trace.specs.Told.{IsToldBy, IsInRange}
use Rattle.run_trace.specs.Sound.{IsRun, RunsHaveSoundTraces, TracesOfRunsAreLawful}
use Rattle.vcpu_core.specs.First.{first_world}
use Rattle.vcpu_core.specs.World.{World, blank_paged}
use Rattle.run_evidence.specs.Growing.{logs_of}
use Rattle.vcpu_core.specs.Sound.{IsSound}
use Rattle.guest_runs.specs.Driven.{IsDriven}
use Rattle.guest_runs.specs.Engine.{RunsOut}
use Rattle.guest_runs.proofs.Ended.{EveryOrderIsSound}
use Rattle.guest_runs.proofs.Lone.{RunsGoOn, steps, sound, ended}

module _ (sounds : EveryOrderIsSound) (goes_on : RunsGoOn) (traced : RunsHaveSoundTraces) (lawful : TracesOfRunsAreLawful) (c : Config) (ok : IsConfig c) (script : List ℕ) (w : World) (r : RunsOut script c.setup.vcpus (first_world c) w) where
  s : IsSound c w (steps sounds goes_on c ok script w r)
  s = sound sounds goes_on c ok script w r

  pub has-ended : IsSome w.board.state.end
  has-ended = ended sounds goes_on c ok script w r

  run : IsRun c w.board w.paged_views
  run = record {
    config = ok;
    state = s.state ∙ ap (full c) (sym s.schedule);
    lawful = subst (IsLawfulSchedule c) (sym s.schedule) s.lawful;
    numbered = s.numbered;
    each = λ v d within. subst (λ h. IsSoundView c h v (slice_index_or w.paged_views v d)) (sym s.schedule)
        (subst (IsSoundView c (steps sounds goes_on c ok script w r) v) (get_or_default w.paged_views v blank_paged d within) (s.views v within));
    allowed = subst (IsAllowed c (logs_of w.paged_views)) (sym s.schedule) s.allowed;
  }

  pub is-driven : (t : Told) (console : List ℕ) → IsToldBy w.board w.paged_views t → IsInRange t → console ≡ w.board.state.console → IsDriven c script t console
  is-driven t console told ranges wrote = record {
    sound = traced c w.board w.paged_views t run told;
    lawful = lawful c w.board w.paged_views t run told ranges;
    rounds = r.rounds;
    schedule = told.schedule ∙ s.schedule;
    entries = told.entries ∙ ap (λ (x : World). flat_map (λ (p : PagedView). p.log) x.paged_views) r.leads;
    wrote = wrote ∙ ap (λ (x : State). x.console) (run.state ∙ ap (full c) (sym told.schedule));
  }
