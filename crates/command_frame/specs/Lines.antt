-- Statuses as numbers, and lines on standard error: the number, a word for what happened, and what is told besides.
-- The numbers are those of this project's table of answers.
use Rattle.std.specs.Prelude.{◌≡◌, ℕ, Bool, true, false, Option, List, ◌++◌, codes, decimal}
use Rattle.fc_outside.specs.Outside.{Rose, with_more}
use Rattle.command_frame.specs.declared.status.Status.{Status}
use Rattle.command_frame.specs.declared.status.Status.TheVariants.{Finished, Words, Image, Setup, Views, Order, Unread, Unwritten, Stopped, NoMemory, Differs}

abbrev pub number_of : Status → ℕ
number_of Finished = 0
number_of Words = 2
number_of Image = 3
number_of Setup = 4
number_of Views = 5
number_of Order = 6
number_of Unread = 7
number_of Unwritten = 8
number_of Stopped = 9
number_of NoMemory = 10
number_of Differs = 11

-- the word has a space before it, and one behind it where a detail follows
abbrev pub line_with : Status → List ℕ → List ℕ → List ℕ
line_with status word detail = decimal (number_of status) ++ word ++ detail ++ codes "\n"

-- the stream grew by the line, where it tells its bytes and counted no fault
abbrev pub IsTold : ℕ → ℕ → Option (List ℕ) → Option (List ℕ) → List ℕ → Type 0
IsTold faults_before faults_after before after line = (Rose faults_before faults_after → ⊥) → after ≡ with_more line before

-- the piece was taken, or a fault counted
abbrev pub Puts : List ℕ → ℕ → ℕ → Option (List ℕ) → Option (List ℕ) → Bool → Type 0
Puts piece faults faults_after before after true = (after ≡ with_more piece before) × (faults_after ≡ faults)
Puts piece faults faults_after before after false = Rose faults faults_after
