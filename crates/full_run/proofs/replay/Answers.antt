use Rattle.std.proofs.Common.{◌≡◌, ◌∙◌, ap, subst, sym, [], take}
use Rattle.run_evidence.specs.Growing.{board_of}
use Rattle.full_run.specs.Replay.{config_of_full_run, IsLongest}
use Rattle.full_run.proofs.replay.Goals as goal

pub returns-clause-board : goal.returns-clause-board
returns-clause-board c = (c.run-made.ensures (config_of_full_run c.args.image.now c.args.setup.now) c.in_ok-board.ensures).0

pub returns-clause-longest : goal.returns-clause-longest
returns-clause-longest c = (c.run-made.ensures (config_of_full_run c.args.image.now c.args.setup.now) c.in_ok-board.ensures).1
