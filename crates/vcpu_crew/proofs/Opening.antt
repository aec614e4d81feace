-- A board and views before the first step, of which a table is opened.
use Rattle.std.proofs.Common.{◌≡◌, ℕ, zero, suc, ◌+◌, ◌<◌, List, [], ◌∷◌, length, get_or, sym, refl, ap, ◌∙◌, subst, arith}
use Rattle.std.proofs.lemmas.List.FromFn.{get_or-map-range_with_len, length-map-range_with_len}
use Rattle.view_store.specs.Paged.{PagedView}
use Rattle.guest_board.specs.Board.{Seat}
use Rattle.guest_board.specs.First.{first_seat}
use Rattle.run_evidence.specs.Config.{Config, IsConfig, full, image_groups}
use Rattle.run_evidence.specs.Evidence.{log_in}
use Rattle.run_evidence.specs.Growing.{board_of, paged_at, views_count, logs_of}
use Rattle.turn_table.specs.Sound.{IsEvidence, AreSoundLogs}
use Rattle.turn_table.specs.Rule.{AreViews}
use Rattle.vcpu_core.specs.First.{first_paged, first_paged_views}
use Rattle.vcpu_core.specs.Stages.{AreStagesFor}
use Rattle.vcpu_crew.specs.declared.rig.Shared.{Shared}
use Rattle.vcpu_crew.specs.Rig.{IsEquipped, config_of_shared}

-- what opening a table asks of a board and of views
pub record Opens (c : Config) (b : Seat) (ps : List PagedView) : Type 0 where
  pub some_vcpu : 0 < c.setup.vcpus
  pub board : b ≡ board_of c b.schedule
  pub many : length ps ≡ views_count c
  pub each : AreViews c (logs_of ps) ps
  pub sound : AreSoundLogs c b.schedule (logs_of ps)

empty_logs : (ps : List PagedView) → ((k : ℕ) (d : PagedView) → k < length ps → (get_or ps k d).log ≡ []) → (k : ℕ) → log_in (logs_of ps) k ≡ []
empty_logs [] h k = refl
empty_logs (p ∷ ps) h zero = h 0 p (omega arith)
empty_logs (p ∷ ps) h (suc k) = empty_logs ps (λ j d lt. h (suc j) d (omega arith)) k

module _ (c : Config) where
  fresh_long : (n : ℕ) → length (first_paged_views c n) ≡ n
  unfolding first_paged_views
  fresh_long n = length-map-range_with_len (first_paged c) 0 n

  fresh_at : (n k : ℕ) (d : PagedView) → k < n → get_or (first_paged_views c n) k d ≡ paged_at c k []
  unfolding first_paged_views
  fresh_at n k d lt = get_or-map-range_with_len (first_paged c) 0 n k k d lt (omega arith)

  pub no_logs : (n k : ℕ) → log_in (logs_of (first_paged_views c n)) k ≡ []
  no_logs n k = empty_logs (first_paged_views c n) (λ j d lt. let long = fresh_long n in ap (λ (p : PagedView). p.log) (fresh_at n j d (omega arith))) k

  fresh_sound : (n : ℕ) → AreSoundLogs c [] (logs_of (first_paged_views c n))
  fresh_sound n = record {
    lawful = λ t lt. absurd (omega arith);
    evidence = λ v. subst (IsEvidence c [] v) (sym (no_logs n v)) record { of_view = tt; justified = tt; once = tt };
    allowed = λ t p lt. absurd (omega arith);
  }

  fresh_opens : IsConfig c → Opens c (board_of c []) (first_paged_views c (views_count c))
  fresh_opens ok = record {
    some_vcpu = let some = ok.setup.setup.some in omega arith;
    board = refl;
    many = fresh_long (views_count c);
    each = λ k p lt. let long = fresh_long (views_count c) in fresh_at (views_count c) k p (omega arith) ∙ ap (paged_at c k) (sym (no_logs (views_count c) k));
    sound = fresh_sound (views_count c);
  }

  pub opens : (b : Seat) (ps : List PagedView) → IsConfig c → b ≡ first_seat c.image c.setup → ps ≡ first_paged_views c (views_count c) → Opens c b ps
  opens b ps ok first fresh =
      let start : b ≡ board_of c [] = first in
      subst (λ (d : Seat). Opens c d ps) (sym start) (subst (λ qs. Opens c (board_of c []) qs) (sym fresh) (fresh_opens ok))

-- what the workers share is that of the run
pub equipped : (s : Shared) (c : Config) → IsConfig c → config_of_shared s ≡ c → s.table ≡ image_groups c → s.views ≡ c.views → AreStagesFor (full c []).ram (length s.views.apps + 1) s.stages.items → IsEquipped s
equipped s c ok is table views stages = record {
  config = subst IsConfig (sym is) ok;
  groups = table ∙ ap image_groups (sym is);
  views = views ∙ ap (λ (d : Config). d.views) (sym is);
  stages = subst (λ (d : Config). AreStagesFor (full d []).ram (length s.views.apps + 1) s.stages.items) (sym is) stages;
}
