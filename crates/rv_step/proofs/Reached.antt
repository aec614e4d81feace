-- A place that an access reaches is in memory, aligned, and open to the access.
use Rattle.std.proofs.Common.{◌≡◌, ℕ, Bool, true, false, if◌then◌else◌, Result, Err, refl}
use Rattle.std.specs.Prelude.{IfOk}
use Rattle.fc_numbers.specs.declared.machine.Access.{Access}
use Rattle.fc_numbers.specs.declared.machine.Access.TheVariants.{Fetch, Load, Store}
use Rattle.fc_numbers.specs.declared.machine.Width.{Width}
use Rattle.guest_ram.specs.Ram.{Ram, is_text, IsLaid}
use Rattle.rv_step.specs.declared.vcpu.Effect.{Effect}
use Rattle.rv_step.specs.declared.vcpu.Effect.TheVariants.{Trap}
use Rattle.rv_step.specs.declared.vcpu.Vcpu.{Vcpu}
use Rattle.rv_step.specs.declared.resolve.Resolved.{Resolved}
use Rattle.rv_step.specs.declared.resolve.Resolved.TheVariants as place
use Rattle.rv_step.specs.Causes.{misaligned_cause}
use Rattle.rv_step.specs.Reach.{is_access_aligned, reached, reached_at, reached_text, IsOpenTo, IsReached}
use Rattle.rv_step.specs.Site.{resolved, IsPlaced}
use Rattle.rv_step.proofs.Aligned.{aligned}
use Rattle.rv_step.proofs.Low.{resolved_is_placed}

free_is_open : (access : Access) (ram : Ram) (p : ℕ) → is_text ram p ≡ false → IsOpenTo access ram p
free_is_open Fetch ram p free = tt
free_is_open Load ram p free = tt
free_is_open Store ram p free = free

pub ram_is_reached : (ram : Ram) (access : Access) (width : Width) (at p : ℕ) → is_access_aligned at width ≡ true → IsPlaced ram at (place.Ram p) → IsReached ram access width p
ram_is_reached ram access width at p whole placed =
    record { inside = placed.0; aligned = aligned width p at whole placed.2; open_to = free_is_open access ram p placed.1 }

pub text_is_reached : (ram : Ram) (access : Access) (width : Width) (at p : ℕ) → is_access_aligned at width ≡ true → IsPlaced ram at (place.Text p) → IfOk (reached_text access p) (IsReached ram access width)
text_is_reached ram Fetch width at p whole placed = record { inside = placed.0; aligned = aligned width p at whole placed.2; open_to = tt }
text_is_reached ram Load width at p whole placed = record { inside = placed.0; aligned = aligned width p at whole placed.2; open_to = tt }
text_is_reached ram Store width at p whole placed = tt

reached_at_is : (ram : Ram) (access : Access) (width : Width) (at : ℕ) (r : Resolved) → is_access_aligned at width ≡ true → IsPlaced ram at r → IfOk (reached_at access at r) (IsReached ram access width)
reached_at_is ram access width at (place.Ram p) whole placed = ram_is_reached ram access width at p whole placed
reached_at_is ram access width at (place.Text p) whole placed = text_is_reached ram access width at p whole placed
reached_at_is ram access width at place.PageFault whole placed = tt
reached_at_is ram access width at place.AccessFault whole placed = tt
reached_at_is ram access width at place.TableInText whole placed = tt

choice_is : (ram : Ram) (access : Access) (width : Width) (b : Bool) (x : Result ℕ Effect) (effect : Effect) → (b ≡ true → IfOk x (IsReached ram access width)) → IfOk (if b then x else Err effect) (IsReached ram access width)
choice_is ram access width true x effect is = is refl
choice_is ram access width false x effect is = tt

pub reached_is : (v : Vcpu) (ram : Ram) (access : Access) (width : Width) (at : ℕ) → IsLaid ram → IfOk (reached v ram access width at) (IsReached ram access width)
unfolding reached
reached_is v ram access width at laid =
    choice_is ram access width (is_access_aligned at width) _ (Trap (misaligned_cause access) at)
    (λ whole. reached_at_is ram access width at (resolved v ram access at) whole (resolved_is_placed v ram access at laid))
