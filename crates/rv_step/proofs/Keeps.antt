-- Kernel text and the size of memory are as they were after any instruction, and each page counts one store at most.
use Rattle.std.proofs.Common.{◌≡◌, ℕ, ◌+◌, ◌%◌, ◌≤◌, Bool, true, false, if◌then◌else◌, Result, Ok, Err, refl, arith}
use Rattle.std.specs.Prelude.{IfOk}
use Rattle.std.proofs.lemmas.Grind.{common_steps}
use Rattle.fc_numbers.specs.declared.machine.Access.TheVariants.{Store}
use Rattle.fc_numbers.specs.declared.machine.Mode.{Mode}
use Rattle.fc_numbers.specs.declared.machine.Mode.TheVariants.{Vu, Vs}
use Rattle.fc_numbers.specs.declared.machine.Width.{Width}
use Rattle.guest_ram.specs.Value.{count_of}
use Rattle.guest_ram.specs.Ram.{Ram, is_inside, is_text, stamp_of, with_value, IsLaid}
use Rattle.guest_ram.proofs.Laws.{with_value-text, length-with_value, length-with_value_stamps, with_value-text_byte}
use Rattle.rv_decode.specs.declared.Inst.{Inst}
use Rattle.rv_kinds.specs.declared.Amo.{Amo as AmoFields}
use Rattle.rv_kinds.specs.declared.Store.{Store as StoreFields}
use Rattle.rv_kinds.specs.declared.StoreConditional.{StoreConditional}
use Rattle.rv_kinds.specs.declared.Kind.{Kind}
use Rattle.rv_kinds.specs.declared.Kind.TheVariants.{Store as Stores, Call, Conditional, Amo}
use Rattle.rv_kinds.specs.Kinds.{kind_of}
use Rattle.rv_step.specs.declared.vcpu.Effect.{Effect}
use Rattle.rv_step.specs.declared.vcpu.Vcpu.{Vcpu}
use Rattle.rv_step.specs.Reach.{reached, IsReached}
use Rattle.rv_step.specs.Site.{Site, OnMemory}
use Rattle.rv_step.specs.Classes.{did_store, did_amo, did_conditional, did_call, call_in, store_to, amo_at, conditional_at, is_reserved}
use Rattle.rv_step.specs.Executed.{did, done_by}
use Rattle.rv_step.specs.Kept.{KeepsText}
use Rattle.rv_step.proofs.Reached.{reached_is}

-- memory that was not written
same : (ram : Ram) → KeepsText ram ram
same ram = record { text = refl; size = refl; frames = refl; bytes = λ at h. refl; stamp_least = λ frame. omega arith; stamp_most = λ frame. omega arith }

stamp-least : (ram : Ram) (at : ℕ) (width : Width) (x frame : ℕ) → stamp_of ram frame ≤ stamp_of (with_value ram at width x) frame
unfolding with_value
stamp-least ram at width x frame = grind (arith, common_steps)

stamp-most : (ram : Ram) (at : ℕ) (width : Width) (x frame : ℕ) → stamp_of (with_value ram at width x) frame ≤ stamp_of ram frame + 1
unfolding with_value
stamp-most ram at width x frame = grind (arith, common_steps)

-- memory after a store at an aligned place outside text
pub store_keeps : (ram : Ram) (at : ℕ) (width : Width) (x : ℕ) → IsLaid ram → is_inside ram at ≡ true → is_text ram at ≡ false → at % count_of width ≡ 0 → KeepsText ram (with_value ram at width x)
store_keeps ram at width x laid inside free whole = record {
  text = with_value-text ram at width x;
  size = length-with_value ram at width x laid inside whole;
  frames = length-with_value_stamps ram at width x;
  bytes = λ p h. with_value-text_byte ram at width x p laid inside whole free h;
  stamp_least = λ frame. stamp-least ram at width x frame;
  stamp_most = λ frame. stamp-most ram at width x frame;
}

choice_keeps : (ram : Ram) (b : Bool) (x y : OnMemory) → KeepsText ram x.ram → KeepsText ram y.ram → KeepsText ram (if b then x else y).ram
choice_keeps ram true x y hx hy = hx
choice_keeps ram false x y hx hy = hy

-- the same at a place that a store reached
reached_keeps : (ram : Ram) (p : ℕ) (width : Width) (x : ℕ) → IsLaid ram → IsReached ram Store width p → KeepsText ram (with_value ram p width x)
reached_keeps ram p width x laid is = store_keeps ram p width x laid is.inside is.open_to is.aligned

store_to_keeps : (v : Vcpu) (ram : Ram) (len : ℕ) (i : StoreFields) (r : Result ℕ Effect) → IsLaid ram → IfOk r (IsReached ram Store i.width) → KeepsText ram (store_to v ram len i r).ram
store_to_keeps v ram len i (Ok p) laid is = reached_keeps ram p i.width _ laid is
store_to_keeps v ram len i (Err effect) laid is = same ram

did_store_keeps : (v : Vcpu) (ram : Ram) (len : ℕ) (i : StoreFields) → IsLaid ram → KeepsText ram (did_store v ram len i).ram
unfolding did_store
did_store_keeps v ram len i laid = store_to_keeps v ram len i (reached v ram Store i.width _) laid (reached_is v ram Store i.width _ laid)

amo_at_keeps : (v : Vcpu) (ram : Ram) (len : ℕ) (i : AmoFields) (r : Result ℕ Effect) → IsLaid ram → IfOk r (IsReached ram Store i.width) → KeepsText ram (amo_at v ram len i r).ram
amo_at_keeps v ram len i (Ok p) laid is = reached_keeps ram p i.width _ laid is
amo_at_keeps v ram len i (Err effect) laid is = same ram

did_amo_keeps : (v : Vcpu) (ram : Ram) (len : ℕ) (i : AmoFields) → IsLaid ram → KeepsText ram (did_amo v ram len i).ram
unfolding did_amo
did_amo_keeps v ram len i laid = amo_at_keeps v ram len i (reached v ram Store i.width _) laid (reached_is v ram Store i.width _ laid)

conditional_at_keeps : (v : Vcpu) (ram : Ram) (len : ℕ) (i : StoreConditional) (r : Result ℕ Effect) → IsLaid ram → IfOk r (IsReached ram Store i.width) → KeepsText ram (conditional_at v ram len i r).ram
conditional_at_keeps v ram len i (Ok p) laid is = choice_keeps ram (is_reserved v.reserved p) _ _ (reached_keeps ram p i.width _ laid is) (same ram)
conditional_at_keeps v ram len i (Err effect) laid is = same ram

did_conditional_keeps : (v : Vcpu) (ram : Ram) (len : ℕ) (i : StoreConditional) → IsLaid ram → KeepsText ram (did_conditional v ram len i).ram
unfolding did_conditional
did_conditional_keeps v ram len i laid = conditional_at_keeps v ram len i (reached v ram Store i.width _) laid (reached_is v ram Store i.width _ laid)

call_in-ram : (mode : Mode) (s : Site) (len clock : ℕ) → (call_in mode s len clock).ram ≡ s.ram
call_in-ram Vu s len clock = refl
call_in-ram Vs s len clock = grind arith

did_call_keeps : (s : Site) (len clock : ℕ) → KeepsText s.ram (did_call s len clock).ram
unfolding did_call
did_call_keeps s len clock = rw (call_in-ram s.vcpu.mode s len clock) (same s.ram)

done_keeps : (k : Kind) (len clock : ℕ) (s : Site) → IsLaid s.ram → KeepsText s.ram (done_by k len clock s).ram
unfolding done_by
done_keeps (Stores i) len clock s laid = did_store_keeps _ _ _ _ laid
done_keeps (Conditional width rd rs1 rs2) len clock s laid = did_conditional_keeps _ _ _ _ laid
done_keeps (Amo i) len clock s laid = did_amo_keeps _ _ _ _ laid
done_keeps Call len clock s laid = did_call_keeps s len clock
done_keeps k len clock s laid = same s.ram

pub did_keeps_text : (inst : Inst) (len clock : ℕ) (s : Site) → IsLaid s.ram → KeepsText s.ram (did inst len clock s).ram
unfolding did
did_keeps_text inst len clock s laid = done_keeps (kind_of inst) len clock s laid
