use Rattle.std.proofs.Common.{◌≡◌, ◌+◌, refl, subst, sym}
use Rattle.fc_numbers.specs.declared.machine.Width.TheVariants.{Doubleword}
use Rattle.guest_ram.specs.Ram.{AreStampsBelow, Ram}
use Rattle.sv39_walk.specs.Cache.{Fits}
use Rattle.sv39_walk.proofs.TestStores.{stored-text, stored_stamps}
use Rattle.sv39_walk.proofs.tests.store_leaf.Goals as goal

pub returns-clause-fits : goal.returns-clause-fits
returns-clause-fits c = λ slots fits.
    subst (λ (ram : Ram). Fits ram slots) (sym c.store.ensures.after)
    (c.stores_keep_fits.ensures c.args.ram.now 0x80004008 Doubleword c.args.pte slots c.text-laid.ensures.laid refl fits)

pub returns-clause-text : goal.returns-clause-text
returns-clause-text c =
    subst (λ (ram : Ram). ram.text ≡ c.args.ram.now.text) (sym c.store.ensures.after) (stored-text c.args.ram.now 0x80004008 Doubleword c.args.pte)

pub returns-clause-stamps : goal.returns-clause-stamps
returns-clause-stamps c = λ n below.
    subst (λ (ram : Ram). AreStampsBelow ram (n + 1)) (sym c.store.ensures.after) (stored_stamps c.args.ram.now 0x80004008 Doubleword c.args.pte n below)
