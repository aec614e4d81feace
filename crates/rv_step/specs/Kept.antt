-- What an instruction keeps, whatever it is: kernel text as it was and the size of memory, and all where it traps or ends the run.
-- Only one place is ever stored to, and never one in text, so each page's count of stores grows by at most 1.
use Rattle.std.specs.Prelude.{◌≡◌, ℕ, ◌+◌, ◌-◌, ◌≤◌, true, length, slice_index, None}
use Rattle.fc_numbers.specs.declared.places.TheConstants.{RAM_START}
use Rattle.guest_ram.specs.Ram.{Ram, is_text, stamp_of}
use Rattle.rv_step.specs.declared.vcpu.Effect.{Effect}
use Rattle.rv_step.specs.declared.vcpu.Effect.TheVariants.{Next, Wrote, Trap, End as Ends}
use Rattle.rv_step.specs.Site.{Site, Outcome}

pub record KeepsText (old new : Ram) : Type 0 where
  pub text : new.text ≡ old.text
  pub size : length new.bytes ≡ length old.bytes
  pub frames : length new.stamps ≡ length old.stamps
  pub bytes : (at : ℕ) → is_text old at ≡ true → slice_index new.bytes (at - RAM_START) ≡ slice_index old.bytes (at - RAM_START)
  pub stamp_least : (frame : ℕ) → stamp_of old frame ≤ stamp_of new frame
  pub stamp_most : (frame : ℕ) → stamp_of new frame ≤ stamp_of old frame + 1

-- nothing is changed, and there is no byte for the console
pub record IsUntouched (s : Site) (o : Outcome) : Type 0 where
  pub vcpu : o.vcpu ≡ s.vcpu
  pub ram : o.ram ≡ s.ram
  pub devices : o.devices ≡ s.devices
  pub put : o.put ≡ None

-- only where the run goes on was anything changed
abbrev pub IsUntouchedUnless : Site → Outcome → Effect → Type 0
IsUntouchedUnless s o Next = Unit {0}
IsUntouchedUnless s o (Wrote place) = Unit {0}
IsUntouchedUnless s o (Trap cause tval) = IsUntouched s o
IsUntouchedUnless s o (Ends end) = IsUntouched s o

abbrev pub ChangesOnNextAlone : Site → Outcome → Type 0
ChangesOnNextAlone s o = IsUntouchedUnless s o o.effect
