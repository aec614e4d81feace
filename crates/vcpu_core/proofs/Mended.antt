-- What a fill, a lookup and a mend keep.
use Rattle.std.proofs.Common.{◌≡◌, ℕ, zero, suc, ◌<◌, true, false, Bool, List, [], ◌∷◌, ◌++◌, take, refl, sym, ap, subst, ◌∙◌, arith, Option}
use Rattle.std.specs.Prelude.{◌||◌, slice_index_or, if◌then◌else◌}
use Rattle.std.proofs.lemmas.Grind.{common_steps}
use Rattle.std.proofs.lemmas.Bool.Decides.{nat_tests}
use Rattle.fc_numbers.specs.declared.places.Span.{Span}
use Rattle.fc_numbers.specs.declared.window.Window.{Window}
use Rattle.function_table.specs.Groups.{Groups, group_at, groups_count, range_of}
use Rattle.function_table.proofs.GroupLemmas.{group-below}
use Rattle.chain_log.specs.declared.entry.LogEntry.{LogEntry}
use Rattle.recovery.specs.declared.Looked.{Looked as Looking}
use Rattle.view_file.specs.Base.{base_of}
use Rattle.view_store.specs.declared.view.Patched.{Patched}
use Rattle.view_store.specs.declared.view.Patched.TheVariants.{Recovered, WasPresent}
use Rattle.view_store.specs.Paged.{PagedView, is_logged, is_present, logged, window_of}
use Rattle.guest_board.specs.declared.seen.Windows.{Windows}
use Rattle.run_evidence.specs.Config.{Config, image_groups, full, is_base, view_in}
use Rattle.run_evidence.specs.Evidence.{log_in}
use Rattle.run_evidence.specs.Growing.{paged_at}
use Rattle.vcpu_core.specs.declared.lane.Lane.{Lane}
use Rattle.vcpu_core.specs.declared.lane.Phase.{Phase}
use Rattle.vcpu_core.specs.declared.lane.Phase.TheVariants.{Running, Wants, Trapped, Looked}
use Rattle.vcpu_core.specs.Lanes.{IsLooked, IsTrapped, IsWanting, after_mend, fill_row, windows_with_line, look_row, mend_answer, mend_row, mend_view, with_newest}
use Rattle.vcpu_core.specs.Truthful.{AllTaken, AreTruthful, IsKeptTrap, IsOfView, IsTaken, IsTruePhase, IsTruthful}
use Rattle.vcpu_core.specs.Rows.{FillKeeps, IsMended, LookKeeps, MendKeeps}
use Rattle.vcpu_core.proofs.Truth.{begins-itself}

-- one more window at the end
taken-take : (c : Config) (v : ℕ) (log : List LogEntry) (cleared : Option Span) (n : ℕ) (ws : List Window) → AllTaken c v log cleared ws → AllTaken c v log cleared (take n ws)
taken-take c v log cleared zero ws all = tt
taken-take c v log cleared (suc n) [] all = tt
taken-take c v log cleared (suc n) (x ∷ xs) all = (all.0, taken-take c v log cleared n xs all.1)

pub taken-newest : (c : Config) (v : ℕ) (log : List LogEntry) (cleared : Option Span) (ws : List Window) (w : Window) → AllTaken c v log cleared ws → IsTaken c v log cleared w
    → AllTaken c v log cleared (with_newest ws w)
taken-newest c v log cleared ws w all new = (new, taken-take c v log cleared 3 ws all)

window-line : (p : PagedView) (n : ℕ) → n ≡ (window_of p n).line
unfolding window_of
window-line p n = refl

-- the windows after a fill, from the view with this log
pub filled-truthful : (c : Config) (p : PagedView) (log : List LogEntry) (n : ℕ) (w : Windows) → p ≡ paged_at c w.view log → AreTruthful c log w → AreTruthful c log (windows_with_line p n w)
filled-truthful c p log n w is k = record {
  held = taken-newest c w.view log w.cleared w.held.items (window_of p n) k.held (record {
    seen = log;
    front = begins-itself log;
    is = ap (λ q. window_of q n) is ∙ ap (λ m. window_of (paged_at c w.view log) m) (window-line p n);
    clear = k.cleared;
  });
  cleared = k.cleared;
}

pub fill_keeps : (p : PagedView) (l l' : Lane) → IsWanting l.phase → l' ≡ fill_row p l l.phase → FillKeeps p l l'
fill_keeps p l l' wants is c h logs ok view truthful = subst (λ (x : Lane). IsTruthful c h logs x) (sym is) (by-phase l.phase wants) where
  by-phase : (phase : Phase) → IsWanting phase → IsTruthful c h logs (fill_row p l phase)
  by-phase Running k = absurd k
  by-phase (Wants n) k = record { windows = filled-truthful c p (log_in logs l.windows.view) n l.windows view truthful.windows; phase = tt; view = tt }
  by-phase (Trapped t) k = absurd k
  by-phase (Looked x) k = absurd k

pub look_keeps : (groups : Groups) (l l' : Lane) → IsTrapped l.phase → l' ≡ look_row groups l l.phase → LookKeeps groups l l'
look_keeps groups l l' traps is c h logs ok same truthful = subst (λ (x : Lane). IsTruthful c h logs x) (sym is) (by-phase l.phase refl traps) where
  by-phase : (phase : Phase) → l.phase ≡ phase → IsTrapped phase → IsTruthful c h logs (look_row groups l phase)
  by-phase Running e k = absurd k
  by-phase (Wants n) e k = absurd k
  by-phase (Trapped t) e k =
      let trap : IsKeptTrap c h l t.view t.vcpu t.at t.pc t.chain.items = subst (λ x. IsTruePhase c h l x) e truthful.phase in
      record {
        windows = truthful.windows;
        phase = (record { vcpu_is = trap.vcpu_is; of_view = trap.of_view; trap = trap.trap }, refl, ap (λ (x : Groups). group_at x t.pc) same);
        view = subst (λ x. IsOfView (view_in c (full c h) l.vcpu) l x) e truthful.view;
      }
  by-phase (Looked x) e k = absurd k

or-false : (a b : Bool) → (a || b) ≡ false → (a ≡ false) × (b ≡ false)
or-false true b e = absurd (cc)
or-false false b e = (refl, e)

new-present : (base : List Bool) (log : List LogEntry) (e : LogEntry) → is_present base (log ++ e ∷ []) e.group ≡ true
new-present base log e = grind (arith, common_steps, nat_tests)

-- the lane after a mend, where its group is present in the view with the log that is now the view's
mended-lane : (c : Config) (h : List ℕ) (logs : List (List LogEntry)) (l : Lane) (groups : Groups) (g : ℕ) → groups ≡ image_groups c → g < groups_count (image_groups c)
    → is_present (paged_at c l.windows.view (log_in logs l.windows.view)).base (log_in logs l.windows.view) g ≡ true → IsTruthful c h logs (after_mend groups g l)
mended-lane c h logs l groups g same within here = record {
  windows = record { held = tt; cleared = record { group = g; range = ap (λ (t : Groups). range_of t g) same; within = within; present = here } };
  phase = tt;
  view = tt;
}

moved-present : (base base' : List Bool) (log log' : List LogEntry) (g g' : ℕ) → base ≡ base' → log ≡ log' → g ≡ g' → is_present base log g ≡ true → is_present base' log' g' ≡ true
moved-present base base' log log' g g' a b d e =
    subst (λ x. is_present base' log' x ≡ true) d (subst (λ x. is_present base' x g ≡ true) b (subst (λ x. is_present x log g ≡ true) a e))

module _ (p : PagedView) (groups : Groups) (l : Lane) (same_groups : p.groups ≡ groups) (c : Config) (h : List ℕ) (logs : List (List LogEntry))
    (view : p ≡ paged_at c l.windows.view (log_in logs l.windows.view)) (x : Looking) (trap : IsKeptTrap c h l x.entry.view x.entry.vcpu x.entry.at x.entry.pc x.entry.chain.items)
    (group : x.group ≡ x.entry.group) (at : x.entry.group ≡ group_at (image_groups c) x.entry.pc) where
  base-is : p.base ≡ base_of c.views (image_groups c) l.windows.view
  base-is = ap (λ (q : PagedView). q.base) view

  number-is : p.number ≡ l.windows.view
  number-is = ap (λ (q : PagedView). q.number) view

  lane-after : (log : List LogEntry) (more : List (List LogEntry)) → log_in more p.number ≡ log → is_present p.base log x.entry.group ≡ true → IsTruthful c h more (after_mend groups x.group l)
  lane-after log more same here =
      let mine : log_in more l.windows.view ≡ log = subst (λ u. log_in more u ≡ log) number-is same in
      mended-lane c h more l groups x.group (sym same_groups ∙ ap (λ (q : PagedView). q.groups) view)
      (let below : group_at (image_groups c) x.entry.pc < groups_count (image_groups c) = group-below (image_groups c) x.entry.pc in omega (arith, group, at, below))
      (moved-present p.base (base_of c.views (image_groups c) l.windows.view) log (log_in more l.windows.view) x.entry.group x.group base-is (sym mine) (sym group) here)

  by-answer : (b : Bool) → is_present p.base p.log x.entry.group ≡ b → IsMended c h p (if b then p else logged p x.entry) (after_mend groups x.group l) (if b then WasPresent else Recovered)
  by-answer true here = record { view = refl; truthful = λ more same. lane-after p.log more same here }
  by-answer false here =
      let out : (slice_index_or p.base x.entry.group false ≡ false) × (is_logged p.log x.entry.group ≡ false) = or-false _ _ here in
      let missing : is_base c x.entry.view x.entry.group ≡ false =
      subst (λ u. is_base c u x.entry.group ≡ false) (sym trap.of_view) (subst (λ bs. slice_index_or bs x.entry.group false ≡ false) base-is out.0) in
      record {
        view = (
          x.entry,
          refl,
          record {
            view = trap.of_view ∙ sym number-is;
            justified = record {
              early = trap.trap.early;
              may_step = trap.trap.may_step;
              next = trap.trap.next;
              view = trap.trap.view_is;
              group = at;
              missing = missing;
              chain = trap.trap.chain_is;
            };
            new = out.1;
          },
        );
        truthful = λ more same. lane-after (p.log ++ x.entry ∷ []) more same (new-present p.base p.log x.entry);
      }

pub mend_keeps : (p p' : PagedView) (groups : Groups) (l l' : Lane) (did : Patched) → IsLooked l.phase → p.groups ≡ groups → p' ≡ mend_view p l.phase → l' ≡ mend_row groups l l.phase
    → did ≡ mend_answer p l.phase → MendKeeps p l p' l' did
mend_keeps p p' groups l l' did looks same_groups view_is lane_is did_is c h logs ok view truthful =
    subst (λ (d : Patched). IsMended c h p p' l' d) (sym did_is)
    (subst (λ (x : Lane). IsMended c h p p' x (mend_answer p l.phase)) (sym lane_is)
    (subst (λ (q : PagedView). IsMended c h p q (mend_row groups l l.phase) (mend_answer p l.phase)) (sym view_is) (by-phase l.phase refl looks)))
  where
    by-phase : (phase : Phase) → l.phase ≡ phase → IsLooked phase → IsMended c h p (mend_view p phase) (mend_row groups l phase) (mend_answer p phase)
    by-phase Running e k = absurd k
    by-phase (Wants n) e k = absurd k
    by-phase (Trapped t) e k = absurd k
    by-phase (Looked x) e k =
        let kept : IsKeptTrap c h l x.entry.view x.entry.vcpu x.entry.at x.entry.pc x.entry.chain.items × (x.group ≡ x.entry.group) × (x.entry.group ≡ group_at (image_groups c) x.entry.pc) =
        subst (λ y. IsTruePhase c h l y) e truthful.phase in
        by-answer p groups l same_groups c h logs view x kept.0 kept.1 kept.2 (is_present p.base p.log x.entry.group) refl
