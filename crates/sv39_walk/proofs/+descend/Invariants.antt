use Rattle.sv39_walk.proofs.+descend.Given as goal

abbrev pub decreases-descend : goal.decreases-descend
decreases-descend l = l.levels
