use Rattle.std.proofs.Common.{subst, sym}
use Rattle.guest_ram.specs.Ram.{Ram}
use Rattle.sv39_walk.specs.Cache.{Fits}
use Rattle.rv_step.proofs.memory.put_at.Goals as goal

-- by the law of stores and caches
pub returns-clause-fits : goal.returns-clause-fits
returns-clause-fits c = λ slots fits.
    subst (λ (ram : Ram). Fits ram slots) (sym c.store.ensures.after)
    (c.stores_keep_fits.ensures c.args.ram.now c.args.place c.args.width c.args.x slots c.text-laid.ensures.laid c.requires.aligned fits)
