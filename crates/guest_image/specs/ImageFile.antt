-- The image of a file, or the first fault: an ELF file where it begins with ELF's four bytes, else the plain form.
-- The magic number is that of the ELF standard, "ELF Identification".
use Rattle.std.specs.Prelude.{ℕ, List, if◌then◌else◌, Result, Ok, Err}
use Rattle.json_fields.specs.Fields.{json_of}
use Rattle.elf_read.specs.declared.parts.ElfParts.{ElfParts}
use Rattle.elf_read.specs.declared.parts.ElfFault.{ElfFault}
use Rattle.elf_read.specs.Elf.{has_mark, elf_of}
use Rattle.elf_read.specs.Kernel.{kernel_of_laid, image_with}
use Rattle.elf_read.specs.Steps.{◌>>=◌, or_fault}
use Rattle.guest_input.specs.declared.image.Image.{Image}
use Rattle.guest_image.specs.declared.image.ImageFault.{ImageFault}
use Rattle.guest_image.specs.declared.image.ImageFault.TheVariants.{NotJson, Elf}
use Rattle.guest_image.specs.Plain.{plain_of}
use Rattle.guest_image.specs.Digest.{digest_of}

abbrev pub or_elf : Result ElfParts ElfFault → Result ElfParts ImageFault
or_elf (Ok kernel) = Ok kernel
or_elf (Err fault) = Err (Elf fault)

-- the kernel that a plain file describes
unfoldable pub plain_kernel : List ℕ → Result ElfParts ImageFault
plain_kernel bytes = do
  value ← or_fault NotJson (json_of bytes)
  laid ← plain_of value
  or_elf (kernel_of_laid laid)

abbrev pub kernel_bytes : List ℕ → Result ElfParts ImageFault
kernel_bytes bytes = if has_mark bytes then or_elf (elf_of bytes) else plain_kernel bytes

-- the image of the bytes, or the first fault
unfoldable pub image_of : List ℕ → Result Image ImageFault
image_of bytes = do
  kernel ← kernel_bytes bytes
  Ok (image_with (digest_of kernel) kernel)
