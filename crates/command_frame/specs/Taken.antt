-- What taking one file answers.
use Rattle.std.specs.Prelude.{◌≡◌, ℕ, ◌≤◌, Option, Some, List, length, Result, Ok, Err, Vec}
use Rattle.std.specs.declared.alloc.Global.{Global}
use Rattle.fc_outside.specs.Outside.{Faults, IsFaultOf}
use Rattle.command_frame.specs.Files.{IsTooLong}
use Rattle.command_frame.specs.declared.fault.Kind.{Kind}
use Rattle.command_frame.specs.declared.fault.Fault.{Fault}
use Rattle.command_frame.specs.declared.fault.Fault.TheVariants.{TooLong}
use Rattle.command_frame.specs.declared.product.Refusal.{Refusal}
use Rattle.command_frame.specs.declared.product.Refusal.TheVariants as no

-- the file of place n gives this, or is refused for this reason, or was not read
abbrev pub Takes : {T : Type 0} → (T → Type 0) → (Fault → Type 0) → ℕ → Result T Refusal → Type 0
Takes Gives Refuses n (Ok t) = Gives t
Takes Gives Refuses n (Err (no.Fault why)) = Refuses why
Takes Gives Refuses n (Err (no.Unread m)) = m ≡ n
Takes Gives Refuses n (Err no.NoMemory) = Unit {0}

abbrev pub BytesSaid : Option (List ℕ) → Kind → ℕ → Result (Vec ℕ Global) Refusal → Type 0
BytesSaid held kind n result = Takes (λ bytes. held ≡ Some bytes.items) (λ why. (why ≡ TooLong kind) × IsTooLong held) n result

-- a fault is counted where the file was not read, and nowhere else
abbrev pub CountsFault : {T : Type 0} → List ℕ → ℕ → Faults → Faults → Result T Refusal → Type 0
CountsFault name n before after (Ok t) = after ≡ before
CountsFault name n before after (Err (no.Fault why)) = after ≡ before
CountsFault name n before after (Err (no.Unread m)) = (m ≡ n) × IsFaultOf name before after
CountsFault name n before after (Err no.NoMemory) = after ≡ before
