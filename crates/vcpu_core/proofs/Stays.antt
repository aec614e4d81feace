-- What a lane keeps when other vCPUs step and when logs grow.
use Rattle.std.proofs.Common.{◌≡◌, ℕ, ◌<◌, List, [], ◌∷◌, ◌++◌, refl, sym, ap, subst, ◌∙◌, arith, length-append}
use Rattle.function_table.proofs.GroupLemmas.{group-below}
use Rattle.function_table.specs.Groups.{group_at, groups_count}
use Rattle.view_file.specs.Named.{view_named}
use Rattle.guest_board.specs.declared.rules.Rules.{Rules}
use Rattle.guest_board.specs.Board.{State, name_of, next_start, run_from, step_of}
use Rattle.run_evidence.specs.Config.{Config, full, image_groups, rules_in, view_in}
use Rattle.run_evidence.specs.Evidence.{log_in}
use Rattle.run_evidence.proofs.Growing.{full_at-front, runs_append}
use Rattle.run_evidence.proofs.Steps.{other-name, step-is}
use Rattle.vcpu_core.specs.declared.lane.Lane.{Lane}
use Rattle.vcpu_core.specs.declared.lane.Phase.{Phase}
use Rattle.vcpu_core.specs.declared.lane.Phase.TheVariants.{Running, Wants, Trapped, Looked}
use Rattle.vcpu_core.specs.Placed.{IsPlacedPhase}
use Rattle.vcpu_core.specs.Truthful.{IsKeptTrap, IsOfView, IsTrapOf, IsTruePhase}
use Rattle.vcpu_core.specs.Rows.{AreOfOthers, TruthfulLanesStay, TruthfulLanesArePlaced}
use Rattle.vcpu_core.proofs.Truth.{truthful-longer}

trap-longer : (c : Config) (h later : List ℕ) (view vcpu at pc : ℕ) (chain : List ℕ) → IsTrapOf c h view vcpu at pc chain → IsTrapOf c (h ++ later) view vcpu at pc chain
trap-longer c h later view vcpu at pc chain k =
    let same = full_at-front c h later at k.early in
    record {
      early = simp length-append (omega (arith, k.early));
      may_step = rw same k.may_step;
      next = rw same k.next;
      inside = k.inside;
      view_is = rw same k.view_is;
      chain_is = rw same k.chain_is;
    }

kept-longer : (c : Config) (h later : List ℕ) (l : Lane) (view vcpu at pc : ℕ) (chain : List ℕ) → IsKeptTrap c h l view vcpu at pc chain → IsKeptTrap c (h ++ later) l view vcpu at pc chain
kept-longer c h later l view vcpu at pc chain k = record { vcpu_is = k.vcpu_is; of_view = k.of_view; trap = trap-longer c h later view vcpu at pc chain k.trap }

phase-longer : (c : Config) (h later : List ℕ) (l : Lane) (phase : Phase) → IsTruePhase c h l phase → IsTruePhase c (h ++ later) l phase
phase-longer c h later l Running k = tt
phase-longer c h later l (Wants n) k = k
phase-longer c h later l (Trapped t) k = kept-longer c h later l t.view t.vcpu t.at t.pc t.chain.items k
phase-longer c h later l (Looked x) k = (kept-longer c h later l x.entry.view x.entry.vcpu x.entry.at x.entry.pc x.entry.chain.items k.0, k.1, k.2)

-- steps of other vCPUs leave a name
run-other : (rules : Rules) (s : State) (i : ℕ) (later : List ℕ) → AreOfOthers i later → name_of (run_from rules s later) i ≡ name_of s i
run-other rules s i [] others = refl
run-other rules s i (j ∷ js) others =
    run-other rules (step_of rules s j) i js others.1
    ∙ ap (λ (x : State). name_of x i) (step-is rules s j) ∙ other-name rules s j i (next_start s j) (λ e. others.0 (sym e))

pub view-other : (c : Config) (h later : List ℕ) (i : ℕ) → AreOfOthers i later → view_in c (full c (h ++ later)) i ≡ view_in c (full c h) i
view-other c h later i others =
    ap (λ (s : State). view_in c s i) (runs_append c h later) ∙ ap (λ n. view_named c.views n) (run-other (rules_in c) (full c h) i later others)

pub truthful_lanes_stay : TruthfulLanesStay
truthful_lanes_stay c h later logs more l others grown k = record {
  windows = truthful-longer c (log_in logs l.windows.view) (log_in more l.windows.view) l.windows (grown l.windows.view) k.windows;
  phase = phase-longer c h later l l.phase k.phase;
  view = subst (λ v. IsOfView v l l.phase) (sym (view-other c h later l.vcpu others)) k.view;
}

placed-phase : (c : Config) (h : List ℕ) (l : Lane) (phase : Phase) → IsTruePhase c h l phase → IsPlacedPhase (image_groups c) l phase
placed-phase c h l Running k = tt
placed-phase c h l (Wants n) k = k
placed-phase c h l (Trapped t) k = (k.of_view, k.trap.inside)
placed-phase c h l (Looked x) k = (
  k.0.of_view,
  (let below : group_at (image_groups c) x.entry.pc < groups_count (image_groups c) = group-below (image_groups c) x.entry.pc in omega (arith, below, k.1, k.2)),
  sym k.1,
)

pub truthful_lanes_are_placed : TruthfulLanesArePlaced
truthful_lanes_are_placed c h logs l k = placed-phase c h l l.phase k.phase
