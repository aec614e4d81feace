use Rattle.sv39_walk.proofs.reads.+add_frames.Given as goal

abbrev pub decreases-add_frames : goal.decreases-add_frames
decreases-add_frames l = l.levels
