-- Tests that found no fault.
use Rattle.std.proofs.Common.{◌≡◌, true, false, Bool, cond, Option, Some, None, refl}
use Rattle.trace_file.specs.declared.fault.TraceFault.{TraceFault}

pub none_if : (b : Bool) (d : TraceFault) (o : Option TraceFault) → cond b (Some d) o ≡ None → (b ≡ false) × (o ≡ None)
none_if true d o e = absurd cc
none_if false d o e = (refl, e)

pub none_from : (b : Bool) (d : TraceFault) (o : Option TraceFault) → b ≡ false → o ≡ None → cond b (Some d) o ≡ None
none_from true d o e h = absurd cc
none_from false d o e h = h
