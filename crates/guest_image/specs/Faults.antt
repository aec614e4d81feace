-- The numbers, names and printed texts of the faults of images and setups: `NUMBER NAME`, and a detail after a space.
-- They are this project's own.
use Rattle.std.specs.Prelude.{ℕ, List, [], ◌++◌, codes, decimal}
use Rattle.elf_read.specs.declared.parts.ElfFault.{ElfFault}
use Rattle.elf_read.specs.declared.parts.ElfFault.TheVariants as elf
use Rattle.guest_image.specs.declared.image.Field.{Field}
use Rattle.guest_image.specs.declared.image.Field.TheVariants as key
use Rattle.guest_image.specs.declared.image.ImageFault.{ImageFault}
use Rattle.guest_image.specs.declared.image.ImageFault.TheVariants as image
use Rattle.guest_image.specs.declared.setup.SetupFault.{SetupFault}
use Rattle.guest_image.specs.declared.setup.SetupFault.TheVariants as setup

abbrev pub field_name : Field → List ℕ
field_name key.Code = codes "code"
field_name key.Base = codes "base"
field_name key.Entry = codes "entry"
field_name key.Text = codes "text"
field_name key.«Data» = codes "data"
field_name key.Functions = codes "functions"
field_name key.Vcpus = codes "vcpus"
field_name key.Ram = codes "ram"
field_name key.Steps = codes "steps"
field_name key.Hook = codes "hook"
field_name key.NameAt = codes "name_at"
field_name key.Start = codes "start"
field_name key.Events = codes "events"
field_name key.Gstage = codes "gstage"
field_name key.Other = codes "other"

abbrev pub elf_number : ElfFault → ℕ
elf_number elf.NotElf = 1
elf_number elf.WrongKind = 2
elf_number elf.Truncated = 3
elf_number elf.NoText = 4
elf_number elf.TooManyTexts = 5
elf_number elf.WritableText = 6
elf_number elf.Misplaced = 7
elf_number elf.OddFunction = 8
elf_number elf.TooLarge = 9
elf_number elf.TooManyFunctions = 10
elf_number elf.EntryOutside = 11
elf_number elf.NoMemory = 12

abbrev pub elf_name : ElfFault → List ℕ
elf_name elf.NotElf = codes "NotElf"
elf_name elf.WrongKind = codes "WrongKind"
elf_name elf.Truncated = codes "Truncated"
elf_name elf.NoText = codes "NoText"
elf_name elf.TooManyTexts = codes "TooManyTexts"
elf_name elf.WritableText = codes "WritableText"
elf_name elf.Misplaced = codes "Misplaced"
elf_name elf.OddFunction = codes "OddFunction"
elf_name elf.TooLarge = codes "TooLarge"
elf_name elf.TooManyFunctions = codes "TooManyFunctions"
elf_name elf.EntryOutside = codes "EntryOutside"
elf_name elf.NoMemory = codes "NoMemory"

abbrev pub image_number : ImageFault → ℕ
image_number (image.Elf fault) = elf_number fault
image_number image.NotJson = 20
image_number (image.Shape field) = 21

abbrev pub image_name : ImageFault → List ℕ
image_name (image.Elf fault) = elf_name fault
image_name image.NotJson = codes "NotJson"
image_name (image.Shape field) = codes "Shape"

abbrev pub image_detail : ImageFault → List ℕ
image_detail (image.Elf fault) = []
image_detail image.NotJson = []
image_detail (image.Shape field) = codes " " ++ field_name field

-- the printed text of an image's fault
unfoldable pub image_fault_text : ImageFault → List ℕ
image_fault_text fault = decimal (image_number fault) ++ codes " " ++ image_name fault ++ image_detail fault

abbrev pub setup_number : SetupFault → ℕ
setup_number setup.NotJson = 1
setup_number (setup.Shape field) = 2
setup_number (setup.Limit field) = 3
setup_number setup.NoHook = 4
setup_number (setup.EventOrder k) = 5
setup_number setup.ImageOutsideRam = 6
setup_number setup.NoMemory = 7

abbrev pub setup_name : SetupFault → List ℕ
setup_name setup.NotJson = codes "NotJson"
setup_name (setup.Shape field) = codes "Shape"
setup_name (setup.Limit field) = codes "Limit"
setup_name setup.NoHook = codes "NoHook"
setup_name (setup.EventOrder k) = codes "EventOrder"
setup_name setup.ImageOutsideRam = codes "ImageOutsideRam"
setup_name setup.NoMemory = codes "NoMemory"

abbrev pub setup_detail : SetupFault → List ℕ
setup_detail setup.NotJson = []
setup_detail (setup.Shape field) = codes " " ++ field_name field
setup_detail (setup.Limit field) = codes " " ++ field_name field
setup_detail setup.NoHook = []
setup_detail (setup.EventOrder k) = codes " " ++ decimal k
setup_detail setup.ImageOutsideRam = []
setup_detail setup.NoMemory = []

-- the printed text of a setup's fault
unfoldable pub setup_fault_text : SetupFault → List ℕ
setup_fault_text fault = decimal (setup_number fault) ++ codes " " ++ setup_name fault ++ setup_detail fault
