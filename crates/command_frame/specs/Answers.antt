-- What answers are as statuses and as lines on standard error.
-- Words are those of this project's table of answers.
use Rattle.std.specs.Prelude.{◌≡◌, ℕ, List, [], codes, get_or, string_bytes, Some, None}
use Rattle.fc_numbers.specs.declared.machine.Stop.{Stop}
use Rattle.fc_numbers.specs.declared.machine.Stop.TheVariants.{StoreToText, TableInText, KernelOutsideText, TextSplit}
use Rattle.command_frame.specs.Faults.{file_kind, kind_status, kind_word, fault_text}
use Rattle.command_frame.specs.Lines.{line_with}
use Rattle.command_frame.specs.declared.answer.Ended.{Ended}
use Rattle.command_frame.specs.declared.answer.Ended.TheVariants.{Finished, Stopped, Differs}
use Rattle.command_frame.specs.declared.answer.Answer.{Answer}
use Rattle.command_frame.specs.declared.answer.Answer.TheVariants.{Served, Refused, Unread, Unwritten, NoMemory}
use Rattle.command_frame.specs.declared.status.Status.{Status}
use Rattle.command_frame.specs.declared.status.Status.TheVariants as status

abbrev pub stop_name : Stop → List ℕ
stop_name StoreToText = codes "StoreToText"
stop_name TableInText = codes "TableInText"
stop_name KernelOutsideText = codes "KernelOutsideText"
stop_name TextSplit = codes "TextSplit"

-- the word at a place, counted from 0
abbrev pub word_at : List (List ℕ) → ℕ → List ℕ
word_at words n = get_or words n []

abbrev pub status_of : Answer → Status
status_of (Served Finished) = status.Finished
status_of (Served (Stopped stop)) = status.Stopped
status_of (Served (Differs text)) = status.Differs
status_of (Refused why) = kind_status (file_kind why)
status_of (Unread n) = status.Unread
status_of (Unwritten n) = status.Unwritten
status_of NoMemory = status.NoMemory

-- the word of the line
abbrev pub word_of : Answer → List ℕ
word_of (Served Finished) = []
word_of (Served (Stopped stop)) = codes " stop "
word_of (Served (Differs text)) = codes " differs "
word_of (Refused why) = kind_word (file_kind why)
word_of (Unread n) = codes " read "
word_of (Unwritten n) = codes " write "
word_of NoMemory = codes " memory"

-- what happened, to what, or where
abbrev pub detail_of : List (List ℕ) → Answer → List ℕ
detail_of words (Served Finished) = []
detail_of words (Served (Stopped stop)) = stop_name stop
detail_of words (Served (Differs text)) = string_bytes text
detail_of words (Refused why) = fault_text why
detail_of words (Unread n) = word_at words n
detail_of words (Unwritten (Some n)) = word_at words n
detail_of words (Unwritten None) = codes "-"
detail_of words NoMemory = []

-- the line that tells an answer; none for a command that finished
abbrev pub answer_line : List (List ℕ) → Answer → List ℕ
answer_line words (Served Finished) = []
answer_line words answer = line_with (status_of answer) (word_of answer) (detail_of words answer)

-- the text that was formed for an answer is that of its fault
abbrev pub IsFormed : Answer → List ℕ → Type 0
IsFormed (Refused why) text = text ≡ fault_text why
IsFormed other text = Unit {0}
