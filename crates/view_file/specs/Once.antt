-- What bytes give as views for an image is one.
use Rattle.std.specs.Prelude.{◌≡◌, ◌≢◌, ℕ, List, Result, Err}
use Rattle.guest_input.specs.declared.image.Image.{Image}
use Rattle.view_file.specs.declared.views.Views.{Views}
use Rattle.view_file.specs.declared.fault.ViewFault.{ViewFault}
use Rattle.view_file.specs.declared.fault.ViewFault.TheVariants.{NoMemory}
use Rattle.view_file.specs.Fits.{Parses, Reads}

-- two readings of the same bytes for the same image give the same views or the same fault, where memory was there
abbrev pub ReadsOnce : Type 0
ReadsOnce = (bytes : List ℕ) (i : Image) (r s : Result Views ViewFault) → Reads bytes i r → Reads bytes i s → r ≢ Err NoMemory → s ≢ Err NoMemory → r ≡ s

-- the same of two parsings, for no image in particular
abbrev pub ParsesOnce : Type 0
ParsesOnce = (bytes : List ℕ) (r s : Result Views ViewFault) → Parses bytes r → Parses bytes s → r ≢ Err NoMemory → s ≢ Err NoMemory → r ≡ s
