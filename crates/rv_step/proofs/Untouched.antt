-- Where an instruction traps or ends the run, it changed nothing.
use Rattle.std.proofs.Common.{ℕ, Bool, true, false, if◌then◌else◌, Some, None, Result, Ok, Err, refl}
use Rattle.fc_numbers.specs.declared.machine.Access.TheVariants as access
use Rattle.fc_numbers.specs.declared.machine.Mode.{Mode}
use Rattle.fc_numbers.specs.declared.machine.Mode.TheVariants.{Vu, Vs}
use Rattle.device_feed.specs.Calls.{called}
use Rattle.device_feed.specs.declared.sbi.Sbi.{Sbi}
use Rattle.device_feed.specs.declared.sbi.Sbi.TheVariants.{Done, Put, Shutdown}
use Rattle.rv_decode.specs.declared.Inst.{Inst}
use Rattle.rv_csr.specs.declared.Illegal.{Illegal}
use Rattle.rv_csr.specs.Csr.{csr_wrote}
use Rattle.rv_kinds.specs.declared.Amo.{Amo}
use Rattle.rv_kinds.specs.declared.CsrAccess.{CsrAccess}
use Rattle.rv_kinds.specs.declared.Load.{Load}
use Rattle.rv_kinds.specs.declared.LoadReserved.{LoadReserved}
use Rattle.rv_kinds.specs.declared.Store.{Store}
use Rattle.rv_kinds.specs.declared.StoreConditional.{StoreConditional}
use Rattle.rv_kinds.specs.declared.Kind.{Kind}
use Rattle.rv_kinds.specs.declared.Kind.TheVariants as kind
use Rattle.rv_kinds.specs.Kinds.{kind_of}
use Rattle.rv_step.specs.declared.vcpu.Vcpu.{Vcpu}
use Rattle.fc_numbers.specs.declared.machine.End.TheVariants.{Shutdown as Shut}
use Rattle.rv_step.specs.declared.vcpu.Effect.{Effect}
use Rattle.rv_step.specs.declared.vcpu.Effect.TheVariants.{Next, Wrote, Trap, End as Ends}
use Rattle.rv_step.specs.Reach.{reached}
use Rattle.rv_step.specs.Site.{Site, Outcome, moved_to, after, next, on_vcpu, on_memory, OnVcpu, OnMemory, OnDevices, of_vcpu, of_memory, of_devices}
use Rattle.rv_step.specs.Classes.{did_alu, did_put, did_jump, did_branch, did_nothing, did_load, did_store, did_amo, did_reserve, did_conditional, did_csr, did_call, did_return, did_fence, load_from, store_to, amo_at, reserve_at, conditional_at, is_reserved, is_writing, csr_by, csr_value, call_in, return_in, fence_in}
use Rattle.rv_step.specs.Executed.{did, done_by}
use Rattle.rv_step.specs.Kept.{ChangesOnNextAlone}

abbrev IsFair : Site → OnVcpu → Type 0
IsFair s o = ChangesOnNextAlone s (of_vcpu s o)

abbrev IsFairOnMemory : Site → OnMemory → Type 0
IsFairOnMemory s o = ChangesOnNextAlone s (of_memory s o)

abbrev IsFairOnDevices : Site → OnDevices → Type 0
IsFairOnDevices s o = ChangesOnNextAlone s (of_devices s o)

choice : (s : Site) (b : Bool) (x y : OnVcpu) → IsFair s x → IsFair s y → IsFair s (if b then x else y)
choice s true x y hx hy = hx
choice s false x y hx hy = hy

choice_on_memory : (s : Site) (b : Bool) (x y : OnMemory) → IsFairOnMemory s x → IsFairOnMemory s y → IsFairOnMemory s (if b then x else y)
choice_on_memory s true x y hx hy = hx
choice_on_memory s false x y hx hy = hy

choice_on_devices : (s : Site) (b : Bool) (x y : OnDevices) → IsFairOnDevices s x → IsFairOnDevices s y → IsFairOnDevices s (if b then x else y)
choice_on_devices s true x y hx hy = hx
choice_on_devices s false x y hx hy = hy

-- what an access comes to that reaches no place
came_to : (s : Site) (effect : Effect) → IsFair s (on_vcpu s.vcpu effect)
came_to s Next = tt
came_to s (Wrote place) = tt
came_to s (Trap cause tval) = record { vcpu = refl; ram = refl; devices = refl; put = refl }
came_to s (Ends end) = record { vcpu = refl; ram = refl; devices = refl; put = refl }

came_to_on_memory : (s : Site) (effect : Effect) → IsFairOnMemory s (on_memory s.vcpu s.ram effect)
came_to_on_memory s Next = tt
came_to_on_memory s (Wrote place) = tt
came_to_on_memory s (Trap cause tval) = record { vcpu = refl; ram = refl; devices = refl; put = refl }
came_to_on_memory s (Ends end) = record { vcpu = refl; ram = refl; devices = refl; put = refl }

load_is_fair : (s : Site) (len : ℕ) (i : Load) (r : Result ℕ Effect) → IsFair s (load_from s.vcpu s.ram len i r)
load_is_fair s len i (Ok p) = tt
load_is_fair s len i (Err effect) = came_to s effect

reserve_is_fair : (s : Site) (len : ℕ) (i : LoadReserved) (r : Result ℕ Effect) → IsFair s (reserve_at s.vcpu s.ram len i r)
reserve_is_fair s len i (Ok p) = tt
reserve_is_fair s len i (Err effect) = came_to s effect

store_is_fair : (s : Site) (len : ℕ) (i : Store) (r : Result ℕ Effect) → IsFairOnMemory s (store_to s.vcpu s.ram len i r)
store_is_fair s len i (Ok p) = tt
store_is_fair s len i (Err effect) = came_to_on_memory s effect

amo_is_fair : (s : Site) (len : ℕ) (i : Amo) (r : Result ℕ Effect) → IsFairOnMemory s (amo_at s.vcpu s.ram len i r)
amo_is_fair s len i (Ok p) = tt
amo_is_fair s len i (Err effect) = came_to_on_memory s effect

conditional_is_fair : (s : Site) (len : ℕ) (i : StoreConditional) (r : Result ℕ Effect) → IsFairOnMemory s (conditional_at s.vcpu s.ram len i r)
conditional_is_fair s len i (Ok p) = choice_on_memory s (is_reserved s.vcpu.reserved p) _ _ tt tt
conditional_is_fair s len i (Err effect) = came_to_on_memory s effect

written_is_fair : (s : Site) (r : Result (Unit {0}) Illegal) (x y : OnDevices) → IsFairOnDevices s x → IsFairOnDevices s y → IsFairOnDevices s (elim r [ Ok u ↦ x | Err e ↦ y ])
written_is_fair s (Ok u) x y hx hy = hx
written_is_fair s (Err e) x y hx hy = hy

csr_by_is_fair : (s : Site) (len : ℕ) (i : CsrAccess) (r : Result ℕ Illegal) → IsFairOnDevices s (csr_by s.vcpu s.devices len i r)
csr_by_is_fair s len i (Err e) = record { vcpu = refl; ram = refl; devices = refl; put = refl }
csr_by_is_fair s len i (Ok old) =
    choice_on_devices s (is_writing i.op i.source) _ _ (written_is_fair s (csr_wrote i.csr s.vcpu.mode) _ _ tt (record { vcpu = refl; ram = refl; devices = refl; put = refl })) tt

answered_is_fair : (s : Site) (answer : Sbi) (done : Outcome) (put : ℕ → Outcome) (down : Outcome) → ChangesOnNextAlone s done → ((byte : ℕ) → ChangesOnNextAlone s (put byte)) → ChangesOnNextAlone s down → ChangesOnNextAlone s (elim answer [ Done ↦ done | Put byte ↦ put byte | Shutdown ↦ down ])
answered_is_fair s Done done put down hd hp hs = hd
answered_is_fair s (Put byte) done put down hd hp hs = hp byte
answered_is_fair s Shutdown done put down hd hp hs = hs

call_in_is_fair : (mode : Mode) (s : Site) (len clock : ℕ) → ChangesOnNextAlone s (call_in mode s len clock)
call_in_is_fair Vu s len clock = record { vcpu = refl; ram = refl; devices = refl; put = refl }
call_in_is_fair Vs s len clock =
    let made = called s.devices s.vcpu.regs s.vcpu.number clock in
    let on : Vcpu = moved_to (record s.vcpu { regs = made.regs }) (after s.vcpu len) in
    answered_is_fair s made.answer
    (record { vcpu = on; ram = s.ram; devices = made.devices; put = None; effect = next })
    (λ byte. record { vcpu = on; ram = s.ram; devices = made.devices; put = Some byte; effect = next })
    (record { vcpu = s.vcpu; ram = s.ram; devices = s.devices; put = None; effect = Ends Shut })
    tt (λ byte. tt) (record { vcpu = refl; ram = refl; devices = refl; put = refl })

call_is_fair : (s : Site) (len clock : ℕ) → ChangesOnNextAlone s (did_call s len clock)
unfolding did_call
call_is_fair s len clock = call_in_is_fair s.vcpu.mode s len clock

return_in_is_fair : (mode : Mode) (s : Site) → IsFair s (return_in mode s.vcpu)
return_in_is_fair Vu s = record { vcpu = refl; ram = refl; devices = refl; put = refl }
return_in_is_fair Vs s = tt

fence_in_is_fair : (mode : Mode) (s : Site) (len : ℕ) → IsFair s (fence_in mode s.vcpu len)
fence_in_is_fair Vu s len = record { vcpu = refl; ram = refl; devices = refl; put = refl }
fence_in_is_fair Vs s len = tt

done_is_fair : (k : Kind) (len clock : ℕ) (s : Site) → ChangesOnNextAlone s (done_by k len clock s)
unfolding done_by did_alu did_put did_jump did_branch did_nothing did_load did_store did_amo did_reserve did_conditional did_csr did_return did_fence
done_is_fair (kind.Alu i) len clock s = tt
done_is_fair (kind.Branch i) len clock s = tt
done_is_fair (kind.Load i) len clock s = load_is_fair s len i (reached s.vcpu s.ram access.Load i.width _)
done_is_fair (kind.Store i) len clock s = store_is_fair s len i (reached s.vcpu s.ram access.Store i.width _)
done_is_fair (kind.Lui i) len clock s = tt
done_is_fair (kind.Auipc i) len clock s = tt
done_is_fair (kind.Jal i) len clock s = tt
done_is_fair (kind.Jalr i) len clock s = tt
done_is_fair kind.Nothing len clock s = tt
done_is_fair kind.Call len clock s = call_is_fair s len clock
done_is_fair kind.Break len clock s = record { vcpu = refl; ram = refl; devices = refl; put = refl }
done_is_fair kind.Return len clock s = return_in_is_fair s.vcpu.mode s
done_is_fair kind.FenceVma len clock s = fence_in_is_fair s.vcpu.mode s len
done_is_fair (kind.Csr op rd csr source) len clock s = csr_by_is_fair s len (record { op = op; rd = rd; csr = csr; source = source }) (csr_value s.vcpu s.devices csr clock)
done_is_fair (kind.Reserve i) len clock s = reserve_is_fair s len i (reached s.vcpu s.ram access.Load i.width _)
done_is_fair (kind.Conditional width rd rs1 rs2) len clock s = conditional_is_fair s len (record { width = width; rd = rd; rs1 = rs1; rs2 = rs2 }) (reached s.vcpu s.ram access.Store width _)
done_is_fair (kind.Amo i) len clock s = amo_is_fair s len i (reached s.vcpu s.ram access.Store i.width _)

pub did_changes_on_next : (inst : Inst) (len clock : ℕ) (s : Site) → ChangesOnNextAlone s (did inst len clock s)
unfolding did
did_changes_on_next inst len clock s = done_is_fair (kind_of inst) len clock s
