-- Each cause has its answer, for every command.
use Rattle.std.specs.Prelude.{◌≡◌, ℕ, ◌⊎◌, Bool, true, false, Some, List}
use Rattle.command_frame.specs.Finished.{Outside}
use Rattle.command_frame.specs.Promise.{FileContents, Accepts}
use Rattle.command_frame.specs.Command.{IsAnswer}
use Rattle.command_frame.specs.Exact.{IsFaultFree, IsMade, IsNotMade, RefusedFilesAnswer}
use Rattle.command_frame.specs.declared.answer.Answer.{Answer}
use Rattle.command_frame.specs.declared.answer.Answer.TheVariants.{NoMemory}
use Rattle.facechange_cli.specs.Requests.{request_of}
use Rattle.facechange_cli.specs.declared.words.Command.{Command}
use Rattle.run_command.specs.Run.{run_request}
use Rattle.facechange_cli.specs.declared.words.Command.TheVariants.{Try, Drive, Profile, Merge, Show, Replay, List as Listing, Surface, Bench}

-- whether the command has a product for all files that are accepted: a profile, that of `bench`
-- too, may meet too many names, and views may have no union
abbrev pub makes_always : Command → Bool
makes_always (Try setup) = true
makes_always Drive = true
makes_always Profile = false
makes_always Merge = false
makes_always Show = true
makes_always Replay = true
makes_always (Listing app) = true
makes_always Surface = true
makes_always (Bench seed) = false

-- where all input files are accepted, the command is served; one that may have no product may be refused for that
abbrev pub AcceptedFilesAreServed : Type 0
AcceptedFilesAreServed = (words : List (List ℕ)) (command : Command) (before after : Outside) (answer : Answer) (at : FileContents) → before.files ≡ Some at
    → IsAnswer (request_of words command) before after answer → IsFaultFree before after → Accepts words at (request_of words command).promise
    → (answer ≡ NoMemory) ⊎ (IsMade (request_of words command) at before after answer
    ⊎ ((makes_always command ≡ false) × IsNotMade (request_of words command) at answer))

-- where a file is refused, the answer is that refusal
abbrev pub RefusedFilesAreAnswered : Type 0
RefusedFilesAreAnswered = (words : List (List ℕ)) (command : Command) → RefusedFilesAnswer (request_of words command)

-- the same of `run`, where it returns
abbrev pub AcceptedFilesAreRun : Type 0
AcceptedFilesAreRun = (words : List (List ℕ)) (before after : Outside) (answer : Answer) (at : FileContents) → before.files ≡ Some at
    → IsAnswer (run_request words) before after answer → IsFaultFree before after → Accepts words at (run_request words).promise
    → (answer ≡ NoMemory) ⊎ IsMade (run_request words) at before after answer

abbrev pub RefusedFilesAreNotRun : Type 0
RefusedFilesAreNotRun = (words : List (List ℕ)) → RefusedFilesAnswer (run_request words)
