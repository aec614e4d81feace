-- The run of one vCPU without a hook, from what the core is after its events.
use Rattle.std.proofs.Common.{◌≡◌, ℕ, ◌<◌, Some, None, List, [], length, ◌∙◌, sym, ap, subst}
use Rattle.std.specs.Prelude.{All}
use Rattle.fc_numbers.specs.declared.machine.End.{End}
use Rattle.run_evidence.specs.Config.{Config, IsConfig, image_groups}
use Rattle.vcpu_core.specs.First.{first_world}
use Rattle.vcpu_core.specs.World.{World, go_all, erased, paged_in}
use Rattle.vcpu_core.specs.Sound.{IsSound}
use Rattle.vcpu_core.specs.Missed.{HasEnded, FirstLogsAllMisses, first_view}
use Rattle.guest_board.specs.Board.{State}
use Rattle.guest_runs.specs.Alone.{IsRunOf}
use Rattle.guest_runs.specs.Engine.{events_of_script, IsIdle, RunsOut}
use Rattle.guest_runs.specs.Log.{IsPrintable, log_text}
use Rattle.guest_runs.proofs.Ended.{EveryOrderIsSound}
use Rattle.guest_runs.proofs.Printed.{printed}

-- where no vCPU may step, the run has ended
abbrev pub RunsGoOn : Type 0
RunsGoOn = (c : Config) → IsConfig c → (is : List ℕ) → IsIdle c.setup.vcpus (go_all (first_world c) is) → HasEnded (go_all (first_world c) is)

-- one vCPU without a hook logs every miss
abbrev pub FirstLogs : Type 0
FirstLogs = (c : Config) → IsConfig c → c.setup.vcpus ≡ 1 → c.setup.hook ≡ None → (is : List ℕ) → HasEnded (go_all (first_world c) is)
    → FirstLogsAllMisses c (go_all (first_world c) is) (erased (first_world c) is)

module _ (sounds : EveryOrderIsSound) (goes_on : RunsGoOn) (c : Config) (ok : IsConfig c) (script : List ℕ) (w : World) (r : RunsOut script c.setup.vcpus (first_world c) w) where
  abbrev pub events : List ℕ
  events = events_of_script script c.setup.vcpus r.rounds

  abbrev pub steps : List ℕ
  steps = erased (first_world c) events

  pub sound : IsSound c w steps
  sound = subst (λ x. IsSound c x steps) (sym r.leads) (sounds c ok events)

  pub ended : HasEnded w
  ended = subst HasEnded (sym r.leads) (goes_on c ok events (subst (IsIdle c.setup.vcpus) r.leads r.idle))

module _ (sounds : EveryOrderIsSound) (goes_on : RunsGoOn) (logs : FirstLogs) (c : Config) (ok : IsConfig c) (one : c.setup.vcpus ≡ 1) (unhooked : c.setup.hook ≡ None) (w : World) (r : RunsOut [] c.setup.vcpus (first_world c) w) where
  abbrev pub alone_steps : List ℕ
  alone_steps = steps sounds goes_on c ok [] w r

  alone : IsSound c w alone_steps
  alone = sound sounds goes_on c ok [] w r

  missed : FirstLogsAllMisses c w alone_steps
  missed = subst (λ x. FirstLogsAllMisses c x alone_steps) (sym r.leads)
      (logs c ok one unhooked (events sounds goes_on c ok [] w r) (subst HasEnded r.leads (ended sounds goes_on c ok [] w r)))

  pub view-within : first_view c < length w.paged_views
  view-within = missed.within

  pub entries-printable : All (IsPrintable (image_groups c)) (paged_in w.paged_views (first_view c)).log
  entries-printable = printed c ok alone_steps _ (alone.views (first_view c) missed.within).justified

  pub lone-run : (end : End) (text : List ℕ) → w.board.state.end ≡ Some end
      → text ≡ log_text c.image c.views (paged_in w.paged_views (first_view c)).log
      → IsRunOf c alone_steps end w.board.state.console text
  lone-run end text is lines = record {
    lawful = alone.lawful;
    ended = ap (λ (s : State). s.end) (sym alone.state) ∙ is;
    wrote = ap (λ (s : State). s.console) (sym alone.state);
    logged = record {
      entries = (paged_in w.paged_views (first_view c)).log;
      misses = missed.all;
      justified = (alone.views (first_view c) missed.within).justified;
      lines = lines;
    };
  }
