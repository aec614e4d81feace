-- A table that is opened keeps the rule.
use Rattle.std.proofs.Common.{◌≡◌, ℕ, zero, suc, ◌+◌, ◌<◌, Some, List, [], ◌∷◌, length, map, get_or, replicate, sym, refl, ap, ◌∙◌, subst, arith}
use Rattle.std.proofs.lemmas.List.{length-replicate, length-map}
use mathlib.Core.Option.{some, some-injective, some-ne-none}
use lib.ListN.{get_elem?}
use Rattle.atomic_table.specs.Table.{opening}
use Rattle.atomic_table.proofs.Lists.{at_index, at_map}
use Rattle.guest_board.specs.Board.{Seat}
use Rattle.view_store.specs.Paged.{PagedView}
use Rattle.turn_table.specs.declared.known.Known.{Known}
use Rattle.turn_table.specs.declared.known.Guarded.TheVariants.{Board, View}
use Rattle.turn_table.specs.Numbers.{at, weight, times, counts_from}
use Rattle.run_evidence.specs.Config.{Config}
use Rattle.run_evidence.specs.Evidence.{log_in}
use Rattle.run_evidence.specs.Growing.{board_of, paged_at, views_count, logs_of}
use Rattle.turn_table.specs.Sound.{Log, AreSoundLogs}
use Rattle.turn_table.specs.Steps.{first_known}
use Rattle.turn_table.specs.Rule.{owns, value_of, IsTruthfulOrSpent, IsShared, view_slot, AreViews}
use Rattle.turn_table.proofs.Logs.{begins_whole}
use Rattle.turn_table.proofs.Owners

zeros_at : (n w : ℕ) → ◌≡◌ {A = ℕ} (get_or (replicate n 0) w 0) 0
zeros_at zero w = refl
zeros_at (suc n) zero = refl
zeros_at (suc n) (suc w) = zeros_at n w

get_or-same : (ps : List PagedView) (k : ℕ) (d : PagedView) → k < length ps → get_or ps k d ≡ get_or ps k (get_or ps k d)
get_or-same [] k d lt = absurd (omega arith)
get_or-same (p ∷ ps) zero d lt = refl
get_or-same (p ∷ ps) (suc k) d lt = get_or-same ps k d (omega arith)

module _ (c : Config) where
  first_view : (v : Known) (h : List ℕ) (logs : List Log) → IsTruthfulOrSpent c h logs v v.live → (j : ℕ) (u : Known) → get_elem? (v ∷ []) j ≡ some u → IsTruthfulOrSpent c h logs u u.live
  first_view v h logs k zero u e = subst (λ (x : Known). IsTruthfulOrSpent c h logs x x.live) (some-injective v u e) k
  first_view v h logs k (suc j) u e = absurd (some-ne-none u (sym e))

  home_at : (b : Seat) (ps : List PagedView) → b ≡ board_of c b.schedule → AreViews c (logs_of ps) ps → (w : ℕ) → w < suc (length ps)
      → get_elem? (map some (Some (Board b) ∷ map view_slot ps)) w ≡ some (some (Some (value_of c b.schedule (logs_of ps) w)))
  home_at b ps whole views zero lt = ap (λ (d : Seat). some (some (Some (Board d)))) whole
  home_at b ps whole views (suc k) lt =
      let p : PagedView = get_or ps k (paged_at c 0 []) in let below : k < length ps = omega arith in
      let e : get_elem? ps k ≡ some p = at_index ps k p below (get_or-same ps k (paged_at c 0 []) below) in
      let is : p ≡ paged_at c k (log_in (logs_of ps) k) = get_or-same ps k (paged_at c 0 []) below ∙ views k p below in
      at_map some (map view_slot ps) k (view_slot p) (at_map view_slot ps k p e) ∙ ap (λ (q : PagedView). some (some (Some (View q)))) is

  pub opens : (b : Seat) (ps : List PagedView) (v : Known)
      → v ≡ first_known c b.schedule (logs_of ps)
      → 0 < c.setup.vcpus → b ≡ board_of c b.schedule → length ps ≡ views_count c → AreViews c (logs_of ps) ps → AreSoundLogs c b.schedule (logs_of ps)
      → IsShared c (opening (replicate (length ps + 1) 0) (Some (Board b) ∷ map view_slot ps) v)
  opens b ps v is some_vcpu whole many views sound =
      let n : ℕ = c.setup.vcpus in
      let w : Known = first_known c b.schedule (logs_of ps) in
      let deep : length (logs_of ps) ≡ views_count c = length-map ps (λ (p : PagedView). p.log) ∙ many in
      let at_own : (i : ℕ) → i < n → at (counts_from 0 n b.schedule) i ≡ Some (times i b.schedule) =
      λ i lt. let z : 0 + i ≡ i = omega arith in Owners.counts_at 0 n i b.schedule lt ∙ ap (λ (k : ℕ). Some (times k b.schedule)) z in
      let homes : length (map some (Some (Board b) ∷ map view_slot ps)) ≡ suc (length ps) = length-map (Some (Board b) ∷ map view_slot ps) some ∙ ap suc (length-map ps view_slot) in
      let base : IsShared c (opening (replicate (length ps + 1) 0) (Some (Board b) ∷ map view_slot ps) w) = record {
        schedule = b.schedule;
        logs = logs_of ps;
        sound = sound;
        wide = let nought : ℕ = 0 in let e : length (replicate (length ps + 1) nought) ≡ length ps + 1 = length-replicate (length ps + 1) nought in omega arith;
        slots = homes ∙ ap suc many;
        deep = deep;
        bit = λ u. let e = zeros_at (length ps + 1) u in omega arith;
        out = λ u. sym (zeros_at (length ps + 1) u);
        home = λ u lt z. home_at b ps whole views u (omega arith);
        each = first_view w b.schedule (logs_of ps) record {
          config = refl;
          seen = begins_whole b.schedule;
          deep = deep;
          logs_seen = λ k. begins_whole (log_in (logs_of ps) k);
          long = Owners.counts_long 0 n b.schedule;
          counts = λ i k e. let within : i < length w.counts = Owners.at-within w.counts i k e in let long = Owners.counts_long 0 n b.schedule in
              let s : Some (times i b.schedule) ≡ Some k = sym (at_own i (omega arith)) ∙ e in sym (ap Owners.number_in s);
          some_number = (0, times 0 b.schedule, at_own 0 some_vcpu);
          has_board = λ e. absurd cc;
          has_view = λ k e. absurd cc;
        };
        once = λ i lt. let one : owns i w ≡ 1 = ap weight (at_own i lt) in omega arith;
      } in
      subst (λ (x : Known). IsShared c (opening (replicate (length ps + 1) 0) (Some (Board b) ∷ map view_slot ps) x)) (sym is) base
