use Rattle.sv39_walk.proofs.Fitting.{stored_fits}
use Rattle.sv39_walk.proofs.laws.stores_keep_fits.Goals as goal

pub returns : goal.returns
returns c = stored_fits
