-- What commands make of the end of a run, and of bytes that are to be a file.
use Rattle.std.specs.Prelude.{ℕ, List}
use Rattle.fc_numbers.specs.declared.machine.End.{End}
use Rattle.fc_numbers.specs.declared.machine.End.TheVariants as end
use Rattle.command_frame.specs.declared.answer.Ended.{Ended}
use Rattle.command_frame.specs.declared.answer.Ended.TheVariants.{Finished, Stopped}
use Rattle.command_frame.specs.declared.product.Written.{Written}

-- how a command ended whose run ended so
abbrev pub ended_of : End → Ended
ended_of end.Spent = Finished
ended_of end.Shutdown = Finished
ended_of (end.Stopped stop) = Stopped stop

-- the file that the word at a place names, with these bytes
abbrev pub file_of : ℕ → List ℕ → Written
file_of word bytes = record { word = word; bytes = bytes }
