use Rattle.std.proofs.Common.{◌≡◌, take}
use Rattle.view_file.specs.Union.{listed_under}
use Rattle.view_file.proofs.merge.starts_under.Given as goal

abbrev pub invariant-loop-app : goal.invariant-loop-app
invariant-loop-app l = l.starts.items ≡ listed_under (take l.app-index l.apps) l.name
