-- Each cause has its answer: where no fault was counted, files decide what is answered, but for want of memory.
use Rattle.std.specs.Prelude.{◌≡◌, ℕ, ◌⊎◌, Option, Some, List}
use Rattle.fc_outside.specs.Outside.{Rose}
use Rattle.command_frame.specs.Finished.{Outside, IsDelivered}
use Rattle.command_frame.specs.Promise.{Promise, takes, makes, Request, FileContents, Accepts, RefusesFile, MakesNot}
use Rattle.command_frame.specs.Command.{HasMade, IsAnswer}
use Rattle.command_frame.specs.declared.fault.Fault.{Fault}
use Rattle.command_frame.specs.declared.answer.Ended.{Ended}
use Rattle.command_frame.specs.declared.answer.Answer.{Answer}
use Rattle.command_frame.specs.declared.answer.Answer.TheVariants.{Served, Refused, NoMemory}

-- a file gives one thing, or is refused for one reason, and not both
pub record IsSure (T : Type 0) (Gives : Option (List ℕ) → T → Type 0) (Refuses : Option (List ℕ) → Fault → Type 0) : Type 0 where
  pub same : (held : Option (List ℕ)) (s t : T) → Gives held s → Gives held t → s ≡ t
  pub apart : (held : Option (List ℕ)) (t : T) (why : Fault) → Gives held t → Refuses held why → ⊥
  pub one : (held : Option (List ℕ)) (f g : Fault) → Refuses held f → Refuses held g → f ≡ g

-- each file of the promise does
abbrev pub AreSure : Promise → Type 0
AreSure (takes T Gives Refuses n rest) = IsSure T Gives Refuses × ((t : T) → AreSure (rest t))
AreSure (makes Is Fails) = Unit {0}

-- no fault was counted in the call
pub record IsFaultFree (before after : Outside) : Type 0 where
  pub reads : Rose before.reads.count after.reads.count → ⊥
  pub writes : Rose before.writes.count after.writes.count → ⊥
  pub puts : Rose before.puts after.puts → ⊥

-- the request was served: its product is where it belongs
abbrev pub IsMade : Request → FileContents → Outside → Outside → Answer → Type 0
IsMade r at before after answer = (ended : Ended) × (answer ≡ Served ended) × HasMade r at (λ p. (ended ≡ p.ended) × IsDelivered r.words p before after)

-- nothing can be made of the files
abbrev pub IsNotMade : Request → FileContents → Answer → Type 0
IsNotMade r at answer = (why : Fault) × (answer ≡ Refused why) × MakesNot r.words at why r.promise

-- where all input files are accepted, the answer is that of the product, or why there is none
abbrev pub AcceptedFilesAnswer : Request → Type 0
AcceptedFilesAnswer r = (before after : Outside) (answer : Answer) (at : FileContents) → before.files ≡ Some at → IsAnswer r before after answer → IsFaultFree before after
    → Accepts r.words at r.promise → (answer ≡ NoMemory) ⊎ (IsMade r at before after answer ⊎ IsNotMade r at answer)

-- where a file is refused, the answer is that refusal
abbrev pub RefusedFilesAnswer : Request → Type 0
RefusedFilesAnswer r = (before after : Outside) (answer : Answer) (at : FileContents) (why : Fault) → before.files ≡ Some at → IsAnswer r before after answer
    → IsFaultFree before after → RefusesFile r.words at why r.promise → (answer ≡ NoMemory) ⊎ (answer ≡ Refused why)
