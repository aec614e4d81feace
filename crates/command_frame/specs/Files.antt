-- What a file gives, or why it is refused.
-- The rule: a file over the limit is refused before it is looked at; else its bytes are accepted, or have a first fault.
use Rattle.std.specs.Prelude.{◌≡◌, ◌≢◌, ℕ, ◌<◌, ◌≤◌, ◌⊎◌, Option, Some, List, length, Result, Ok, Err}
use Rattle.guest_input.specs.declared.image.Image.{Image}
use Rattle.guest_input.specs.declared.setup.Setup.{Setup}
use Rattle.guest_image.specs.ImageFile.{image_of}
use Rattle.guest_image.specs.Limits.{setup_of}
use Rattle.guest_image.specs.declared.setup.SetupFault.{SetupFault}
use Rattle.guest_image.specs.declared.setup.SetupFault.TheVariants as fault_of_setup
use Rattle.guest_image.specs.declared.image.ImageFault.{ImageFault}
use Rattle.guest_image.specs.declared.image.ImageFault.TheVariants.{Elf}
use Rattle.elf_read.specs.declared.parts.ElfFault.TheVariants as elf
use Rattle.view_file.specs.declared.views.Views.{Views}
use Rattle.view_file.specs.Fits.{Parses, Reads}
use Rattle.view_file.specs.declared.fault.ViewFault.{ViewFault}
use Rattle.view_file.specs.declared.fault.ViewFault.TheVariants as fault_of_views
use Rattle.trace_file.specs.Script.{script_of}
use Rattle.trace_file.specs.Trace.{Told, trace_of}
use Rattle.trace_file.specs.declared.fault.TraceFault.{TraceFault}
use Rattle.trace_file.specs.declared.fault.TraceFault.TheVariants as fault_of_trace
use Rattle.command_frame.specs.declared.inputs.TheConstants.{FILE_MOST}
use Rattle.command_frame.specs.declared.fault.Kind.{Kind}
use Rattle.command_frame.specs.declared.fault.Kind.TheVariants as kind
use Rattle.command_frame.specs.declared.fault.Fault.{Fault}
use Rattle.command_frame.specs.declared.fault.Fault.TheVariants as fault

-- the name holds these bytes, and they are not over the limit
pub record IsHeld (held : Option (List ℕ)) (bytes : List ℕ) : Type 0 where
  pub holds : held ≡ Some bytes
  pub within : length bytes ≤ FILE_MOST

-- what the name holds is over the limit
abbrev pub IsTooLong : Option (List ℕ) → Type 0
IsTooLong held = (bytes : List ℕ) × (held ≡ Some bytes) × (FILE_MOST < length bytes)

-- the file is not over the limit, and its bytes give this
abbrev pub IsGiven : {T : Type 0} → (List ℕ → T → Type 0) → Option (List ℕ) → T → Type 0
IsGiven Give held t = (bytes : List ℕ) × IsHeld held bytes × Give bytes t

-- the file that is to hold this kind of thing is over the limit, or its bytes have this fault
abbrev pub IsRefused : Kind → (List ℕ → Fault → Type 0) → Option (List ℕ) → Fault → Type 0
IsRefused k Have held why = ((why ≡ fault.TooLong k) × IsTooLong held) ⊎ ((bytes : List ℕ) × IsHeld held bytes × Have bytes why)

-- The faults of each kind of file; want of memory is none.
abbrev pub HasImageFault : List ℕ → Fault → Type 0
HasImageFault bytes why = (own : ImageFault) × (why ≡ fault.Image own) × (image_of bytes ≡ Err own) × (own ≢ Elf elf.NoMemory)

abbrev pub HasSetupFault : Image → List ℕ → Fault → Type 0
HasSetupFault i bytes why = (own : SetupFault) × (why ≡ fault.Setup own) × (setup_of i bytes ≡ Err own) × (own ≢ fault_of_setup.NoMemory)

abbrev pub HasViewsFault : Image → List ℕ → Fault → Type 0
HasViewsFault i bytes why = (own : ViewFault) × (why ≡ fault.Views own) × Reads bytes i (Err own) × (own ≢ fault_of_views.NoMemory)

abbrev pub HasFreeViewsFault : List ℕ → Fault → Type 0
HasFreeViewsFault bytes why = (own : ViewFault) × (why ≡ fault.Views own) × Parses bytes (Err own) × (own ≢ fault_of_views.NoMemory)

abbrev pub HasScriptFault : ℕ → List ℕ → Fault → Type 0
HasScriptFault vcpus bytes why = (own : TraceFault) × (why ≡ fault.Script own) × (script_of vcpus bytes ≡ Err own) × (own ≢ fault_of_trace.NoMemory)

abbrev pub HasTraceFault : List ℕ → Fault → Type 0
HasTraceFault bytes why = (own : TraceFault) × (why ≡ fault.Trace own) × (trace_of bytes ≡ Err own) × (own ≢ fault_of_trace.NoMemory)

-- the file gives this image, or none, for this reason
abbrev pub GivesImage : Option (List ℕ) → Image → Type 0
GivesImage held image = IsGiven (λ bytes i. image_of bytes ≡ Ok i) held image

abbrev pub RefusesImage : Option (List ℕ) → Fault → Type 0
RefusesImage held why = IsRefused kind.Image HasImageFault held why

-- the file gives this setup for the image, or none, for this reason
abbrev pub GivesSetup : Option (List ℕ) → Image → Setup → Type 0
GivesSetup held i setup = IsGiven (λ bytes s. setup_of i bytes ≡ Ok s) held setup

abbrev pub RefusesSetup : Option (List ℕ) → Image → Fault → Type 0
RefusesSetup held i why = IsRefused kind.Setup (HasSetupFault i) held why

-- the file gives these views for the image, or none, for this reason
abbrev pub GivesViews : Option (List ℕ) → Image → Views → Type 0
GivesViews held i views = IsGiven (λ bytes v. Reads bytes i (Ok v)) held views

abbrev pub RefusesViews : Option (List ℕ) → Image → Fault → Type 0
RefusesViews held i why = IsRefused kind.Views (HasViewsFault i) held why

-- the file gives these views, for whatever image, or none, for this reason
abbrev pub GivesFreeViews : Option (List ℕ) → Views → Type 0
GivesFreeViews held views = IsGiven (λ bytes v. Parses bytes (Ok v)) held views

abbrev pub RefusesFreeViews : Option (List ℕ) → Fault → Type 0
RefusesFreeViews held why = IsRefused kind.Views HasFreeViewsFault held why

-- the file gives this script for so many vCPUs, or none, for this reason
abbrev pub GivesScript : Option (List ℕ) → ℕ → List ℕ → Type 0
GivesScript held vcpus script = IsGiven (λ bytes is. script_of vcpus bytes ≡ Ok is) held script

abbrev pub RefusesScript : Option (List ℕ) → ℕ → Fault → Type 0
RefusesScript held vcpus why = IsRefused kind.Script (HasScriptFault vcpus) held why

-- the file gives this trace, or none, for this reason
abbrev pub GivesTrace : Option (List ℕ) → Told → Type 0
GivesTrace held trace = IsGiven (λ bytes t. trace_of bytes ≡ Ok t) held trace

abbrev pub RefusesTrace : Option (List ℕ) → Fault → Type 0
RefusesTrace held why = IsRefused kind.Trace HasTraceFault held why
