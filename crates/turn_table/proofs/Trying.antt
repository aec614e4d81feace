-- What the tests rest on.
use Rattle.std.proofs.Common.{◌≡◌, ℕ, zero, suc, ◌+◌, ◌-◌, ◌<◌, ◌≤◌, Bool, true, Option, Some, None, List, [], ◌∷◌, ◌++◌, length, get_or, set, replicate, sym, refl, ap, ◌∙◌, subst, arith, length-append, length-set}
use Rattle.std.specs.Prelude.{IfSome, ◌||◌}
use Rattle.std.proofs.lemmas.List.FromFn.{length-map-range_with_len}
use mathlib.Core.Logic.{dite}
use native.Mathlib.Decide.{ℕ_discrete}
use Rattle.guest_input.specs.declared.image.Image.{Image}
use Rattle.guest_input.specs.declared.setup.Setup.{Setup}
use Rattle.function_table.specs.Groups.{Groups, groups_count, groups_of, group_at}
use Rattle.guest_board.specs.Board.{Seat, may, moved, step_of, next_of}
use Rattle.guest_board.specs.First.{first_seat}
use Rattle.run_evidence.specs.Config.{Config, IsLawfulSchedule, full, is_base, rules_in, view_in, image_groups}
use Rattle.run_evidence.specs.Evidence.{log_in}
use Rattle.run_evidence.specs.Growing.{IsAllowedFrom, board_of, paged_at, views_count, logs_of}
use Rattle.run_evidence.proofs.Growing.{boards_move, lawful_grows, allowed_from_grows}
use Rattle.view_file.specs.declared.views.Views.{Views}
use Rattle.view_file.specs.Base.{is_based, base_of}
use Rattle.view_store.specs.Paged.{PagedView}
use Rattle.turn_table.specs.declared.known.Known.{Known}
use Rattle.turn_table.specs.Numbers.{Counts, at, weight, least, greatest, grown, alone, counts_without, either_count, counts_from}
use Rattle.turn_table.specs.Sound.{Log, IsEvidence, AreSoundLogs}
use Rattle.turn_table.specs.Rule.{config_of, AreViews}
use Rattle.turn_table.specs.Steps.{own, after_board, with_board, after_view, with_view, without_greatest, greatest_alone, first_known}
use Rattle.turn_table.specs.Calls.{OwnsAll, OwnsSeveral, IsJoined}
use Rattle.turn_table.specs.Tried.{fresh_views, WentOn, IsStepped, IsRunOfTwoVcpus}
use Rattle.turn_table.proofs.Owners

pub base_of_long : (v : Views) (t : Groups) (number : ℕ) → length (base_of v t number) ≡ groups_count t
base_of_long v t number = length-map-range_with_len (is_based v t number) 0 (groups_count t)

module _ (c : Config) where
  fresh_long : (n : ℕ) → length (fresh_views c n) ≡ n
  unfolding fresh_views
  fresh_long zero = refl
  fresh_long (suc n) = let a = fresh_long n in let b = length-append (fresh_views c n) (paged_at c n [] ∷ []) in omega arith

  get_front : (ps : List PagedView) (p d : PagedView) (k : ℕ) → k < length ps → get_or (ps ++ p ∷ []) k d ≡ get_or ps k d
  get_front [] p d k lt = absurd (omega arith)
  get_front (q ∷ ps) p d zero lt = refl
  get_front (q ∷ ps) p d (suc k) lt = get_front ps p d k (omega arith)

  get_last : (ps : List PagedView) (p d : PagedView) (k : ℕ) → k ≡ length ps → get_or (ps ++ p ∷ []) k d ≡ p
  get_last [] p d zero e = refl
  get_last [] p d (suc k) e = absurd (omega arith)
  get_last (q ∷ ps) p d zero e = absurd (omega arith)
  get_last (q ∷ ps) p d (suc k) e = get_last ps p d k (omega arith)

  fresh_at : (n k : ℕ) (d : PagedView) → k < n → get_or (fresh_views c n) k d ≡ paged_at c k []
  unfolding fresh_views
  fresh_at zero k d lt = absurd (omega arith)
  fresh_at (suc n) k d lt = let a = fresh_long n in dite (ℕ_discrete k n)
      (λ e. get_last (fresh_views c n) (paged_at c n []) d k (omega arith) ∙ ap (λ v. paged_at c v []) (sym e))
      (λ e. get_front (fresh_views c n) (paged_at c n []) d k (omega arith) ∙ fresh_at n k d (omega arith))

  no_log_last : (ps : List PagedView) (n : ℕ) → ((k : ℕ) → log_in (logs_of ps) k ≡ []) → (k : ℕ) → log_in (logs_of (ps ++ paged_at c n [] ∷ [])) k ≡ []
  no_log_last [] n h zero = refl
  no_log_last [] n h (suc k) = refl
  no_log_last (p ∷ ps) n h zero = h 0
  no_log_last (p ∷ ps) n h (suc k) = no_log_last ps n (λ j. h (suc j)) k

  no_logs : (n k : ℕ) → log_in (logs_of (fresh_views c n)) k ≡ []
  unfolding fresh_views
  no_logs zero k = refl
  no_logs (suc n) k = no_log_last (fresh_views c n) n (no_logs n) k

  pub first_many : (ps : List PagedView) → ps ≡ fresh_views c (views_count c) → length ps ≡ views_count c
  first_many ps is = ap length is ∙ fresh_long (views_count c)

  pub first_each : (ps : List PagedView) → ps ≡ fresh_views c (views_count c) → AreViews c (logs_of ps) ps
  first_each ps is = subst (λ qs. AreViews c (logs_of qs) qs) (sym is)
      (λ k p lt. let long = fresh_long (views_count c) in fresh_at (views_count c) k p (omega arith) ∙ ap (paged_at c k) (sym (no_logs (views_count c) k)))

  pub first_sound : (ps : List PagedView) (h : List ℕ) → ps ≡ fresh_views c (views_count c) → h ≡ [] → AreSoundLogs c h (logs_of ps)
  first_sound ps h is none = subst (λ qs. AreSoundLogs c h (logs_of qs)) (sym is) (subst (λ z. AreSoundLogs c z (logs_of (fresh_views c (views_count c)))) (sym none) record {
    lawful = λ t lt. absurd (omega arith);
    evidence = λ v. subst (IsEvidence c [] v) (sym (no_logs (views_count c) v)) record { of_view = tt; justified = tt; once = tt };
    allowed = λ t p lt. absurd (omega arith);
  })

  pub first_full : (b : Seat) → b ≡ first_seat c.image c.setup → b ≡ board_of c b.schedule
  first_full b is = subst (λ d. d ≡ board_of c d.schedule) (sym is) refl

  open_base : (v t g : ℕ) (x : Bool) → is_base c v g ≡ true → (is_base c v g || x) ≡ true
  open_base v t g x e = ap (λ z. z || x) e

  -- a board after one more step, whose fetch is of a group in the base
  more_at : (h : List ℕ) (i : ℕ) → IsLawfulSchedule c h → may (rules_in c) (full c h) i ≡ true
      → ((p : ℕ) → next_of (full c h) i ≡ Some p → is_base c (view_in c (full c h) i) (group_at (image_groups c) p) ≡ true)
      → (logs : List Log) → (moved (board_of c h) i (step_of (rules_in c) (full c h) i) ≡ board_of c (h ++ i ∷ [])) × IsLawfulSchedule c (h ++ i ∷ []) × IsAllowedFrom c logs (h ++ i ∷ []) (length h)
  more_at h i lawful goes base logs = (
    sym (boards_move c h i),
    lawful_grows c h i lawful goes,
    allowed_from_grows c h i (length h) logs (λ t p low within next. absurd (omega arith)) (λ p next. open_base (view_in c (full c h) i) (length h) (group_at (image_groups c) p) _ (base p next)),
  )

  -- what giving a board back asks of it, where the pass knows the steps h and these logs, and has the number i
  pub record Gives (h : List ℕ) (logs : List Log) (i : ℕ) (n : Seat) : Type 0 where
    pub board_is : n ≡ board_of c n.schedule
    pub lawful : IsLawfulSchedule c n.schedule
    pub steps : (k : ℕ) × (n.schedule ≡ h ++ replicate k i)
    pub allowed : IsAllowedFrom c logs n.schedule (length h)

  more_gives : (h : List ℕ) (i : ℕ) (n : Seat) (logs : List Log) → n ≡ board_of c (h ++ i ∷ []) → IsLawfulSchedule c (h ++ i ∷ []) → IsAllowedFrom c logs (h ++ i ∷ []) (length h) → Gives h logs i n
  more_gives h i n logs is lawful allowed = let grown : n.schedule ≡ h ++ i ∷ [] = ap (λ (d : Seat). d.schedule) is in record {
    board_is = is ∙ ap (board_of c) (sym grown);
    lawful = subst (λ z. IsLawfulSchedule c z) (sym grown) lawful;
    steps = (1, grown);
    allowed = subst (λ z. IsAllowedFrom c logs z (length h)) (sym grown) allowed;
  }

  pub step_gives : (b n : Seat) (i : ℕ) (logs : List Log) → b ≡ board_of c b.schedule → IsLawfulSchedule c b.schedule → IsStepped b n i c.views (image_groups c) → Gives b.schedule logs i n
  step_gives b n i logs is lawful went =
      let h : List ℕ = b.schedule in
      let t = more_at h i lawful (subst (λ (d : Seat). may d.rules d.state i ≡ true) is went.goes)
      (subst (λ (d : Seat). (p : ℕ) → next_of d.state i ≡ Some p → is_base c (view_in c d.state i) (group_at (image_groups c) p) ≡ true) is went.based) logs in
      more_gives h i n logs (went.after ∙ (ap (λ (d : Seat). moved d i (step_of d.rules d.state i)) is ∙ t.0)) t.1 t.2

-- the same of a pass that took the board
pub taken_gives : (v m : Known) (b n : Seat) (i : ℕ) (profile : Views) (groups : Groups) → m ≡ with_board v b.schedule → own v ≡ i → v.views ≡ profile → groups ≡ groups_of v.image
    → b ≡ board_of (config_of v) b.schedule → IsLawfulSchedule (config_of v) b.schedule → IsStepped b n i profile groups → Gives (config_of m) m.seen m.logs (own m) n
taken_gives v m b n i profile groups took mine views are is lawful went =
    subst (λ (x : Known). Gives (config_of x) x.seen x.logs (own x) n) (sym took)
    (subst (λ (k : ℕ). Gives (config_of v) b.schedule v.logs k n) (sym mine)
    (step_gives (config_of v) b n i v.logs is lawful (subst (λ (g : Groups). IsStepped b n i v.views g) are (subst (λ (z : Views). IsStepped b n i z groups) (sym views) went))))

pub taken_gives_some : (v m : Known) (b n : Seat) (i : ℕ) (profile : Views) (groups : Groups) → m ≡ with_board v b.schedule → own v ≡ i → v.views ≡ profile → groups ≡ groups_of v.image
    → b ≡ board_of (config_of v) b.schedule → IsLawfulSchedule (config_of v) b.schedule → (o : Option Seat) → o ≡ Some n → IfSome o (λ d. IsStepped b d i profile groups) → Gives (config_of m) m.seen m.logs (own m) n
taken_gives_some v m b n i profile groups took mine views are is lawful o some went =
    taken_gives v m b n i profile groups took mine views are is lawful (subst (λ (x : Option Seat). IfSome x (λ d. IsStepped b d i profile groups)) some went)

grown_weights : (c : Counts) (i j n : ℕ) → weight (at (set c i (grown (at c i) n)) j) ≡ weight (at c j)
grown_weights [] i j n = refl
grown_weights (x ∷ c) zero zero n = Owners.grown_weight x n
grown_weights (x ∷ c) zero (suc j) n = refl
grown_weights (x ∷ c) (suc i) zero n = refl
grown_weights (x ∷ c) (suc i) (suc j) n = grown_weights c i j n

pub went_board : (v : Known) (h k : List ℕ) (m n : Known) → m ≡ with_board v h → n ≡ after_board m k → WentOn v n
went_board v h k m n took gave = let is : n ≡ after_board (with_board v h) k = gave ∙ ap (λ x. after_board x k) took in
    subst (WentOn v) (sym is) record { config = refl; free = refl; long = length-set v.counts (own v) _; owned = λ i. grown_weights v.counts (own v) i (length k - length h) }

pub went_view : (v : Known) (w k : ℕ) (log log' : Log) (m n : Known) → m ≡ with_view v w k log → n ≡ after_view m k log' → WentOn v n
went_view v w k log log' m n took gave = let is : n ≡ after_view (with_view v w k log) k log' = gave ∙ ap (λ x. after_view x k log') took in
    subst (WentOn v) (sym is) record { config = refl; free = refl; long = refl; owned = λ i. refl }

pub opens_all : (c : Config) (h : List ℕ) (logs : List Log) → OwnsAll c.setup.vcpus (first_known c h logs)
opens_all c h logs i lt = (_, Owners.counts_at 0 c.setup.vcpus i h lt)

-- of two vCPUs
pub two_apart : (c : Config) (h : List ℕ) (logs : List Log) → c.setup.vcpus ≡ 2 → (v : Known) → v ≡ first_known c h logs
    → OwnsSeveral v × (own (without_greatest v) ≡ 0) × (own (greatest_alone v) ≡ 1)
two_apart c h logs two v is = subst (λ (x : Known). OwnsSeveral x × (own (without_greatest x) ≡ 0) × (own (greatest_alone x) ≡ 1)) (sym is)
    (subst (λ (n : ℕ). let counts = counts_from 0 n h in (least counts < greatest counts) × (least (counts_without counts (greatest counts)) ≡ 0) × (least (alone counts (greatest counts)) ≡ 1)) (sym two) (omega arith, refl, refl))

either_some : (x y : Option ℕ) → 1 ≤ weight x + weight y → (k : ℕ) × (either_count x y ≡ Some k)
either_some None None h = absurd (omega arith)
either_some None (Some n) h = (n, refl)
either_some (Some n) y h = (n, refl)

pub rejoined : (m : ℕ) (v a b n : Known) → 0 < m → OwnsAll m v → WentOn (without_greatest v) a → WentOn (greatest_alone v) b → IsJoined a b n → OwnsAll m n
rejoined m v a b n some all one two j i lt =
    let first = all 0 some in
    let any_one = Owners.any-at v.counts 0 first.0 first.1 in
    let top = Owners.at-greatest v.counts any_one in
    let within : greatest v.counts < length v.counts = Owners.at-within v.counts (greatest v.counts) top.0 top.1 in
    let long : length a.counts ≡ length b.counts = one.long ∙ (length-set v.counts (greatest v.counts) None ∙ (sym (Owners.alone_long v.counts (greatest v.counts)) ∙ sym two.long)) in
    let mine = all i lt in
    let whole : weight (at v.counts i) ≡ 1 = Owners.weight_one (at v.counts i) mine.0 mine.1 in
    let sum = Owners.apart_weight v.counts (greatest v.counts) i within in
    let left = one.owned i in let right = two.owned i in
    let t = either_some (at a.counts i) (at b.counts i) (omega arith) in
    (t.0, ap (λ z. at z i) j.counts ∙ (Owners.together_at a.counts b.counts i long ∙ t.1))

-- two passes of an opened table that went on and were joined own every number
pub rejoined_open : (c : Config) (h : List ℕ) (logs : List Log) (v l r a b n : Known) → c.setup.vcpus ≡ 2 → v ≡ first_known c h logs → l ≡ without_greatest v → r ≡ greatest_alone v → WentOn l a → WentOn r b → IsJoined a b n → OwnsAll c.setup.vcpus n
rejoined_open c h logs v l r a b n two is left right one other j =
    rejoined c.setup.vcpus v a b n (omega arith) (subst (OwnsAll c.setup.vcpus) (sym is) (opens_all c h logs)) (subst (λ x. WentOn x a) left one) (subst (λ x. WentOn x b) right other) j

pub same_image : (c : Config) (h : List ℕ) (logs : List Log) (v n : Known) → v ≡ first_known c h logs → config_of n ≡ config_of v → (n.image ≡ c.image) × (n.views ≡ c.views)
same_image c h logs v n is same = let e : config_of n ≡ c = same ∙ ap config_of is in (ap (λ (d : Config). d.image) e, ap (λ (d : Config). d.views) e)

pub run_of : (o : Option (Image × Setup × Groups × Views)) (i : Image) (s : Setup) (g : Groups) (p : Views) → o ≡ Some (i, s, g, p) → IfSome o (λ t. IsRunOfTwoVcpus t.0 t.1 t.2 t.3) → IsRunOfTwoVcpus i s g p
run_of o i s g p is run = subst (λ (x : Option (Image × Setup × Groups × Views)). IfSome x (λ t. IsRunOfTwoVcpus t.0 t.1 t.2 t.3)) is run

-- what opening asks of a fresh board and fresh views
pub record Opens (c : Config) (b : Seat) (ps : List PagedView) : Type 0 where
  pub some_vcpu : 0 < c.setup.vcpus
  pub board_is : b ≡ board_of c b.schedule
  pub many : length ps ≡ views_count c
  pub each : AreViews c (logs_of ps) ps
  pub sound : AreSoundLogs c b.schedule (logs_of ps)

pub fresh_opens : (i : Image) (s : Setup) (g : Groups) (p : Views) (b : Seat) (ps : List PagedView) → IsRunOfTwoVcpus i s g p → b ≡ first_seat i s
    → ps ≡ fresh_views (record { image = i; setup = s; views = p }) (length p.apps + 1) → Opens (record { image = i; setup = s; views = p }) b ps
fresh_opens i s g p b ps run first fresh = let c : Config = record { image = i; setup = s; views = p } in record {
  some_vcpu = let two = run.two in omega arith;
  board_is = first_full c b first;
  many = first_many c ps fresh;
  each = first_each c ps fresh;
  sound = first_sound c ps b.schedule fresh (ap (λ (d : Seat). d.schedule) first);
}
