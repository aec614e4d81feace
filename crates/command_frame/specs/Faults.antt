-- Why a file is refused: the status and the word of what it was to hold, and the fault's number, name and detail.
-- Numbers and texts are those of this project's table of answers.
use Rattle.std.specs.Prelude.{ℕ, List, codes}
use Rattle.guest_image.specs.Faults.{image_fault_text, setup_fault_text}
use Rattle.view_file.specs.Faults.{shown_views_fault as shown_views_fault}
use Rattle.trace_file.specs.Faults.{shown_trace_fault as shown_trace_fault}
use Rattle.command_frame.specs.declared.fault.Kind.{Kind}
use Rattle.command_frame.specs.declared.fault.Kind.TheVariants as kind
use Rattle.command_frame.specs.declared.fault.Fault.{Fault}
use Rattle.command_frame.specs.declared.fault.Fault.TheVariants.{TooLong, Image, Setup, Views, Script, Trace}
use Rattle.command_frame.specs.declared.status.Status.{Status}
use Rattle.command_frame.specs.declared.status.Status.TheVariants as status

-- what the refused file is to hold
abbrev pub file_kind : Fault → Kind
file_kind (TooLong k) = k
file_kind (Image why) = kind.Image
file_kind (Setup why) = kind.Setup
file_kind (Views why) = kind.Views
file_kind (Script why) = kind.Script
file_kind (Trace why) = kind.Trace

abbrev pub kind_status : Kind → Status
kind_status kind.Image = status.Image
kind_status kind.Setup = status.Setup
kind_status kind.Views = status.Views
kind_status kind.Script = status.Order
kind_status kind.Trace = status.Order

abbrev pub kind_word : Kind → List ℕ
kind_word kind.Image = codes " image "
kind_word kind.Setup = codes " setup "
kind_word kind.Views = codes " views "
kind_word kind.Script = codes " script "
kind_word kind.Trace = codes " trace "

abbrev pub fault_text : Fault → List ℕ
fault_text (TooLong k) = codes "0 TooLong"
fault_text (Image why) = image_fault_text why
fault_text (Setup why) = setup_fault_text why
fault_text (Views why) = shown_views_fault why
fault_text (Script why) = shown_trace_fault why
fault_text (Trace why) = shown_trace_fault why
