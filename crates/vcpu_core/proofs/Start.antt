-- The view machine before any event, and so after any.
use Rattle.std.proofs.Common.{◌≡◌, ℕ, ◌+◌, ◌<◌, List, [], ◌++◌, length, refl, sym, ap, subst, ◌∙◌, arith}
use Rattle.std.specs.Prelude.{slice_index_or}
use Rattle.std.proofs.lemmas.List.FromFn.{get_or-map-range_with_len, length-map-range_with_len}
use Rattle.function_table.proofs.GroupLemmas.{groups-good}
use Rattle.view_file.specs.declared.views.Views.{Views}
use Rattle.view_file.specs.Named.{view_named}
use Rattle.guest_board.specs.Board.{Seat as Seating}
use Rattle.guest_board.specs.First.{first_slot, first_slots, first_state}
use Rattle.run_evidence.specs.Config.{Config, IsConfig, IsLawfulSchedule, full, image_groups}
use Rattle.run_evidence.specs.Evidence.{IsAllowed}
use Rattle.run_evidence.specs.Growing.{board_of, views_count, logs_of}
use Rattle.run_evidence.specs.Sound.{IsSoundView}
use Rattle.run_evidence.proofs.OneVcpu.{full-vcpus}
use Rattle.vcpu_core.specs.First.{first_lane, first_lanes, first_paged, first_paged_views, first_world}
use Rattle.vcpu_core.specs.Sound.{HasTruthfulLanes, IsSound}
use Rattle.vcpu_core.specs.Truthful.{IsTruthful}
use Rattle.vcpu_core.specs.World.{IsReady, blank_lane, blank_paged, erased, go_all, lane_of, paged_in}
use Rattle.vcpu_core.proofs.Kept.{IsKept, go_all-kept, go_all-schedule}
use Rattle.vcpu_core.proofs.Ready.{named-below}
use Rattle.vcpu_core.proofs.Run.{full-texted}

-- the members of the first lists
pub paged-views-long : (c : Config) (n : ℕ) → length (first_paged_views c n) ≡ n
unfolding first_paged_views
paged-views-long c n = length-map-range_with_len (first_paged c) 0 n

pub paged-views-at : (c : Config) (n v : ℕ) → v < n → paged_in (first_paged_views c n) v ≡ first_paged c v
unfolding first_paged_views
paged-views-at c n v h = get_or-map-range_with_len (first_paged c) 0 n v v blank_paged h (omega arith)

pub lanes-long : (v n : ℕ) → length (first_lanes v n) ≡ n
unfolding first_lanes
lanes-long v n = length-map-range_with_len (first_lane v) 0 n

pub lanes-at : (v n i : ℕ) → i < n → slice_index_or (first_lanes v n) i (blank_lane i) ≡ first_lane v i
unfolding first_lanes
lanes-at v n i h = get_or-map-range_with_len (first_lane v) 0 n i i (blank_lane i) h (omega arith)

slots-long : (c : Config) → length (first_state c.image c.setup).slots ≡ c.setup.vcpus
unfolding first_state first_slots
slots-long c = length-map-range_with_len (first_slot c.image.entry c.setup.start) 0 c.setup.vcpus

pub first_ready : (c : Config) → IsConfig c → IsReady (first_world c)
unfolding first_world
first_ready c ok =
    let few : length (first_paged_views c (views_count c)) ≡ views_count c = paged-views-long c (views_count c) in
    let many : length (first_lanes (view_named c.views c.setup.start) c.setup.vcpus) ≡ c.setup.vcpus = lanes-long (view_named c.views c.setup.start) c.setup.vcpus in
    record {
      groups = groups-good c.image ok.image;
      text = (full-texted c [] ok).has.same;
      apps = ok.views.few;
      views = few;
      lanes = many ∙ sym (slots-long c);
      paged_views = λ v h. rw (paged-views-at c (views_count c) v (rw few at h)) (record { number = refl; groups = refl });
      each = λ i h. rw (lanes-at (view_named c.views c.setup.start) c.setup.vcpus i (rw many at h))
          (record { number = refl; view = rw few (named-below c.views c.setup.start); placed = tt; has_view = tt });
    }

first-views : (c : Config) (v : ℕ) → v < length (first_world c).paged_views → IsSoundView c (first_world c).board.schedule v (paged_in (first_world c).paged_views v)
unfolding first_world
first-views c v h =
    rw (paged-views-at c (views_count c) v (rw (paged-views-long c (views_count c)) at h))
    (record { number = refl; text = refl; groups = refl; base = refl; of_view = tt; justified = tt; once = tt })

first-truthful : (c : Config) (k : ℕ) → k < length (first_world c).lanes → IsTruthful c (first_world c).board.schedule (logs_of (first_world c).paged_views) (lane_of (first_world c) k)
unfolding first_world
first-truthful c k h =
    rw (lanes-at (view_named c.views c.setup.start) c.setup.vcpus k (rw (lanes-long (view_named c.views c.setup.start) c.setup.vcpus) at h))
    (record { windows = record { held = tt; cleared = tt }; phase = tt; view = tt })

first-schedule : (c : Config) → (first_world c).board.schedule ≡ []
unfolding first_world
first-schedule c = refl

first-board : (c : Config) → (first_world c).board ≡ board_of c (first_world c).board.schedule
unfolding first_world
first-board c = refl

first-profile : (c : Config) → (first_world c).profile ≡ c.views
unfolding first_world
first-profile c = refl

first-groups : (c : Config) → (first_world c).groups ≡ image_groups c
unfolding first_world
first-groups c = refl

pub first-kept : (c : Config) → IsConfig c → IsKept c (first_world c)
first-kept c ok = record {
  ready = first_ready c ok;
  profile = first-profile c;
  groups = first-groups c;
  board = first-board c;
  lawful = λ t h. absurd (omega (arith, subst (λ (s : List ℕ). t < length s) (first-schedule c) h));
  paged_views = first-views c;
  lanes = first-truthful c;
  allowed = λ t p h n. absurd (omega (arith, subst (λ (s : List ℕ). t < length s) (first-schedule c) h));
}

module _ (c : Config) (ok : IsConfig c) (is : List ℕ) where
  pub kept_of_events : IsKept c (go_all (first_world c) is)
  kept_of_events = go_all-kept c ok (first_world c) is (first-kept c ok)

  pub schedule_of_events : (go_all (first_world c) is).board.schedule ≡ erased (first_world c) is
  schedule_of_events = go_all-schedule (first_world c) is ∙ ap (λ (s : List ℕ). s ++ erased (first_world c) is) (first-schedule c)

  -- the theorem
  pub sound_of_events : IsSound c (go_all (first_world c) is) (erased (first_world c) is)
  sound_of_events =
      let k : IsKept c (go_all (first_world c) is) = kept_of_events in
      let same : (go_all (first_world c) is).board.schedule ≡ erased (first_world c) is = schedule_of_events in
      record {
        schedule = same;
        lawful = subst (λ h. IsLawfulSchedule c h) same k.lawful;
        state = ap (λ (b : Seating). b.state) k.board ∙ ap (λ h. full c h) same;
        numbered = k.ready.views ∙ ap (λ (x : Views). length x.apps + 1) k.profile;
        views = λ v h. subst (λ s. IsSoundView c s v (paged_in (go_all (first_world c) is).paged_views v)) same (k.paged_views v h);
        allowed = subst (λ s. IsAllowed c (logs_of (go_all (first_world c) is).paged_views) s) same k.allowed;
      }

  pub truthful_of_events : HasTruthfulLanes c (go_all (first_world c) is) (erased (first_world c) is)
  truthful_of_events =
      let k : IsKept c (go_all (first_world c) is) = kept_of_events in
      let same : (go_all (first_world c) is).board.schedule ≡ erased (first_world c) is = schedule_of_events in
      record {
        count = k.ready.lanes ∙ ap (λ (b : Seating). length b.state.slots) k.board ∙ full-vcpus c (go_all (first_world c) is).board.schedule;
        each = λ i h. record {
          vcpu = (k.ready.each i h).number;
          truthful = subst (λ s. IsTruthful c s (logs_of (go_all (first_world c) is).paged_views) (lane_of (go_all (first_world c) is) i)) same (k.lanes i h);
        };
      }
