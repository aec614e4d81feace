-- What an answer to a request means: what was made, what is left where, and which faults were counted.
-- The rule: the words; then each input file in the promise's order, read, then accepted; then the product, its files in
-- order, then standard output.
use Rattle.std.specs.Prelude.{◌≡◌, ◌≢◌, ℕ, ◌⊎◌, Some, None, List, [], ◌∷◌, map, codes, Result, Ok, Err, IfOk}
use Rattle.fc_outside.specs.Outside.{Files, Faults, file_at, IsFaultOf, IsFault}
use Rattle.command_frame.specs.Answers.{word_at, answer_line, status_of}
use Rattle.command_frame.specs.Lines.{number_of, line_with}
use Rattle.command_frame.specs.Finished.{Outside, IsDelivered, IsFileLost, IsOutLost}
use Rattle.command_frame.specs.Promise.{Promise, Request, FileContents, Keeps, Refuses, Reaches}
use Rattle.command_frame.specs.declared.fault.Fault.{Fault}
use Rattle.command_frame.specs.declared.answer.Ended.{Ended}
use Rattle.command_frame.specs.declared.answer.Answer.{Answer}
use Rattle.command_frame.specs.declared.answer.Answer.TheVariants.{Served, Refused, Unread, Unwritten, NoMemory}
use Rattle.command_frame.specs.declared.status.Status.TheVariants.{Words}
use Rattle.command_frame.specs.declared.product.Written.{Written}
use Rattle.command_frame.specs.declared.product.Product.{Product}
use Rattle.command_frame.specs.declared.product.Refusal.{Refusal}
use Rattle.command_frame.specs.declared.product.Refusal.TheVariants as no

-- the place is one of these
abbrev pub IsAmong : List ℕ → ℕ → Type 0
IsAmong [] n = ⊥
IsAmong (m ∷ ms) n = (n ≡ m) ⊎ IsAmong ms n

-- why nothing is made of the files that are told
abbrev pub MakesNothing : List (List ℕ) → FileContents → Promise → Refusal → Type 0
MakesNothing words at promise (no.Fault why) = Refuses words at why promise
MakesNothing words at promise (no.Unread n) = Reaches words at n promise
MakesNothing words at promise no.NoMemory = Unit {0}

-- what is made of the files that are told, or why nothing is
abbrev pub MakeSaid : Request → FileContents → Result Product Refusal → Type 0
MakeSaid r at (Ok p) = Keeps r.words at p r.promise
MakeSaid r at (Err why) = MakesNothing r.words at r.promise why

-- and how it counts reads
abbrev pub MakeCounts : Request → Faults → Faults → Result Product Refusal → Type 0
MakeCounts r before after (Err (no.Unread n)) = IsAmong r.inputs n × IsFaultOf (word_at r.words n) before after
MakeCounts r before after other = after ≡ before

-- the product has a file for each output
abbrev pub HasOutputs : Request → Result Product Refusal → Type 0
HasOutputs r result = IfOk result (λ p. map (λ (f : Written). f.word) p.files ≡ r.outputs)

-- the files are accepted, and their product was made, of which this holds
abbrev pub HasMade : Request → FileContents → (Product → Type 0) → Type 0
HasMade r at Is = (p : Product) × Keeps r.words at p r.promise × Is p

-- what an answer says of the files, of the product and of where it is
abbrev pub IsSaid : Request → FileContents → Outside → Outside → Answer → Type 0
IsSaid r at before after (Served ended) = HasMade r at (λ p. (ended ≡ p.ended) × IsDelivered r.words p before after)
IsSaid r at before after (Unwritten (Some n)) = HasMade r at (λ p. IsFileLost r.words p n before after)
IsSaid r at before after (Unwritten None) = HasMade r at (λ p. IsOutLost r.words p before after)
IsSaid r at before after (Refused why) = Refuses r.words at why r.promise
IsSaid r at before after (Unread n) = Reaches r.words at n r.promise
IsSaid r at before after NoMemory = Unit {0}

-- A fault of reading or writing is answered only where the store, or standard output, counted one, with the name of an
-- input file, or of an output file. No other answer counts one.
abbrev pub CountsReads : Request → Faults → Faults → Answer → Type 0
CountsReads r before after (Unread n) = IsAmong r.inputs n × IsFaultOf (word_at r.words n) before after
CountsReads r before after other = after ≡ before

abbrev pub CountsWrites : Request → Faults → Faults → Answer → Type 0
CountsWrites r before after (Unwritten (Some n)) = IsAmong r.outputs n × IsFaultOf (word_at r.words n) before after
CountsWrites r before after other = after ≡ before

abbrev pub CountsPuts : ℕ → ℕ → Answer → Type 0
CountsPuts before after (Unwritten None) = IsFault before after
CountsPuts before after other = after ≡ before

-- each name that no output word has holds what it held
abbrev pub SameOthers : List (List ℕ) → List ℕ → Files → Files → Type 0
SameOthers words outputs before after = (q : List ℕ) → ((n : ℕ) → IsAmong outputs n → q ≢ word_at words n) → file_at q after ≡ file_at q before

-- every file and standard output are as before
pub record IsAsBefore (before after : Outside) : Type 0 where
  pub files : after.files ≡ before.files
  pub out : after.out ≡ before.out

-- no file but those of the output words has changed, and standard output only where the answer says so
abbrev pub IsKept : Request → Outside → Outside → Answer → Type 0
IsKept r before after (Served ended) = SameOthers r.words r.outputs before.files after.files
IsKept r before after (Unwritten (Some n)) = SameOthers r.words r.outputs before.files after.files × (after.out ≡ before.out)
IsKept r before after (Unwritten None) = SameOthers r.words r.outputs before.files after.files
IsKept r before after other = IsAsBefore before after

-- what an answer to a request means
pub record IsAnswer (r : Request) (before after : Outside) (answer : Answer) : Type 0 where
  pub said : (at : FileContents) → before.files ≡ Some at → IsSaid r at before after answer
  pub reads : CountsReads r before.reads after.reads answer
  pub writes : CountsWrites r before.writes after.writes answer
  pub puts : CountsPuts before.puts after.puts answer
  pub kept : IsKept r before after answer

-- a request is served: its answer, the status and the line of that answer
pub record IsServed (r : Request) (before after : Outside) (told : List ℕ → Type 0) (status : ℕ) : Type 0 where
  pub answer : Answer
  pub is : status ≡ number_of (status_of answer)
  pub line : told (answer_line r.words answer)
  pub means : IsAnswer r before after answer

-- the words are no listed form: 2, and nothing is read or written but the line
pub record IsTurnedAway (before after : Outside) (told : List ℕ → Type 0) (status : ℕ) : Type 0 where
  pub is : status ≡ number_of Words
  pub line : told (line_with Words (codes " words") [])
  pub same : after ≡ before
