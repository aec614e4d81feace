use Rattle.sv39_walk.specs.declared.cache.TheConstants.{CACHE_MOST}
use Rattle.sv39_walk.proofs.Fitting.{empty_fits}
use Rattle.sv39_walk.proofs.laws.new_caches_fit.Goals as goal

pub returns : goal.returns
returns c = λ ram. empty_fits ram CACHE_MOST
