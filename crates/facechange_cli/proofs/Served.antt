-- The frame's laws, at every command.
use Rattle.std.proofs.Common.{◌≡◌, ℕ, Some, List, ◌⊎◌, inl, inr, refl, false}
use Rattle.command_frame.specs.Promise.{FileContents, MakesNot}
use Rattle.command_frame.specs.declared.fault.Fault.{Fault}
use Rattle.command_frame.specs.Exact.{AreSure}
use Rattle.command_frame.proofs.Exact.{accepted-files, refused-files}
use Rattle.facechange_cli.specs.Requests.{promise_of, request_of}
use Rattle.facechange_cli.specs.Sure.{AllSure}
use Rattle.facechange_cli.specs.Served.{AcceptedFilesAreRun, AcceptedFilesAreServed, RefusedFilesAreAnswered, RefusedFilesAreNotRun, makes_always}
use Rattle.run_command.specs.Run.{run_promise, run_request}
use Rattle.facechange_cli.specs.declared.words.Command.{Command}
use Rattle.facechange_cli.specs.declared.words.Command.TheVariants.{Try, Drive, Profile, Merge, Show, Replay, List as Listing, Surface, Bench}

-- only a command that may have no product fails with its files accepted
fails-where : (words : List (List ℕ)) (at : FileContents) (why : Fault) (command : Command) → MakesNot words at why (request_of words command).promise → makes_always command ≡ false
fails-where words at why (Try setup) k = absurd k.2.2
fails-where words at why Drive k = absurd k.2.2.2.2
fails-where words at why Profile k = refl
fails-where words at why Merge k = refl
fails-where words at why Show k = absurd k.2.2
fails-where words at why Replay k = absurd k.2.2.2
fails-where words at why (Listing app) k = absurd k.2.2
fails-where words at why Surface k = absurd k.2.2
fails-where words at why (Bench seed) k = refl

-- so does each file of a command
sure : AllSure → (command : Command) → AreSure (promise_of command)
sure all (Try setup) = (all.image, λ i. (all.views i, λ v. tt))
sure all Drive = (all.image, λ i. (all.setup i, λ s. (all.views i, λ v. (all.script s.vcpus, λ is. tt))))
sure all Profile = (all.image, λ i. (all.setup i, λ s. tt))
sure all Merge = (all.free, λ a. (all.free, λ b. tt))
sure all Show = (all.image, λ i. (all.views i, λ v. tt))
sure all Replay = (all.image, λ i. (all.setup i, λ s. (all.trace, λ t. tt)))
sure all (Listing app) = (all.image, λ i. (all.views i, λ v. tt))
sure all Surface = (all.image, λ i. (all.views i, λ v. tt))
sure all (Bench seed) = tt

pub accepted : AllSure → AcceptedFilesAreServed
accepted all words command b a x at told k free ok = elim (accepted-files (request_of words command) (sure all command) b a x at told k free ok) [
  | inl none ↦ inl none
  | inr rest ↦ elim rest [ inl made ↦ inr (inl made) | inr failed ↦ inr (inr (fails-where words at failed.0 command failed.2, failed)) ]
]

pub refused : AllSure → RefusedFilesAreAnswered
refused all words command = refused-files (request_of words command) (sure all command)

run-sure : AllSure → AreSure run_promise
run-sure all = (all.image, λ i. (all.setup i, λ s. (all.views i, λ v. tt)))

pub accepted-run : AllSure → AcceptedFilesAreRun
accepted-run all words b a x at told k free ok = elim (accepted-files (run_request words) (run-sure all) b a x at told k free ok) [
  | inl none ↦ inl none
  | inr rest ↦ elim rest [ inl made ↦ inr made | inr failed ↦ absurd (failed.2.2.2.2) ]
]

pub refused-run : AllSure → RefusedFilesAreNotRun
refused-run all words = refused-files (run_request words) (run-sure all)
