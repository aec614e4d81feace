-- The second-stage tables of the views, built one after another and kept by events.
use Rattle.std.proofs.Common.{ℕ, zero, suc, ◌+◌, ◌<◌, List, [], ◌∷◌, ◌++◌, length, refl, sym, ◌∙◌, arith, length-append}
use Rattle.std.specs.Prelude.{slice_index_or}
use Rattle.fc_numbers.specs.declared.places.Span.{Span}
use Rattle.guest_ram.specs.Ram.{Ram, IsLaid}
use Rattle.gstage.specs.Map.{AreSpans}
use Rattle.gstage.specs.Stage.{IsFor}
use Rattle.gstage.specs.Table.{Table}
use Rattle.rv_step.specs.Kept.{KeepsText}
use Rattle.vcpu_core.specs.Stages.{IsStageFor, AreStagesFor}

-- a memory that is laid lawfully has spans that a table can be built of
pub spans_of : (memory : Ram) (text : List Span) (ram : Span) → IsLaid memory → IsFor text ram memory → AreSpans text ram
spans_of memory text ram laid is = record {
  start = is.start;
  some = omega (arith, is.end);
  most = omega (arith, is.end, laid.lawful.most);
  pages = omega (arith, is.end, laid.lawful.pages);
  text = rw (is.same_text, is.end) laid.lawful.text;
}

-- what holds of each member and of one more holds of each after it is put at the end
each-push : (P : ℕ → Table → Type 0) (xs : List Table) (x : Table) → ((k : ℕ) (d : Table) → k < length xs → P k (slice_index_or xs k d)) → P (length xs) x
    → (k : ℕ) (d : Table) → k < length (xs ++ x ∷ []) → P k (slice_index_or (xs ++ x ∷ []) k d)
each-push P [] x all new zero d h = new
each-push P [] x all new (suc k) d h = absurd (omega (arith, h))
each-push P (y ∷ ys) x all new zero d h = all zero d (omega arith)
each-push P (y ∷ ys) x all new (suc k) d h = each-push (λ n. P (suc n)) ys x (λ n e w. all (suc n) e (omega (arith, w))) new k d (omega (arith, h))

pub no_stages : (memory : Ram) → AreStagesFor memory 0 []
no_stages memory = record { count = refl; each = λ v d h. absurd (omega (arith, h)) }

pub one_more : (memory : Ram) (n : ℕ) (stages : List Table) (t : Table) → AreStagesFor memory n stages → IsStageFor memory n t → AreStagesFor memory (n + 1) (stages ++ t ∷ [])
one_more memory n stages t all new = record {
  count = simp length-append (omega (arith, all.count));
  each = each-push (IsStageFor memory) stages t all.each (rw all.count new);
}

pub for_kept : (text : List Span) (ram : Span) (old new : Ram) → KeepsText old new → IsFor text ram old → IsFor text ram new
for_kept text ram old new kept is = record { same_text = is.same_text ∙ sym kept.text; start = is.start; end = rw kept.size is.end }

pub stages_kept : (old new : Ram) (n : ℕ) (stages : List Table) → KeepsText old new → AreStagesFor old n stages → AreStagesFor new n stages
stages_kept old new n stages kept all = record {
  count = all.count;
  each = λ v d h. record {
    of_view = (all.each v d h).of_view;
    placing = for_kept (slice_index_or stages v d).text (slice_index_or stages v d).ram old new kept (all.each v d h).placing;
  };
}
