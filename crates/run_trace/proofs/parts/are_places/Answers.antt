use Rattle.std.proofs.Common.{◌≡◌, ◌<◌, ◌^◌, ℕ, arith, get_or}
use Rattle.std.specs.Prelude.{slice_index_or}
use Rattle.std.proofs.lemmas.List.{get_or_default}
use Rattle.std.proofs.lemmas.List.Elements.{recursion_from_All}
use Rattle.run_trace.proofs.parts.are_places.Goals as goal

pub returns : goal.returns
returns c = recursion_from_All (λ p. p < 2 ^ 64) c.args.places.now
    (λ k d within.
    let fits : get_or c.args.places.now k 0 < 2 ^ 64 = c.loop-place.invariant k (omega (arith, within)) in
    let same : slice_index_or c.args.places.now k d ≡ get_or c.args.places.now k 0 = get_or_default c.args.places.now k d 0 within in
    rw same fits)
