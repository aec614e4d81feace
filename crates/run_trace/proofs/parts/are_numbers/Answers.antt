use Rattle.std.proofs.Common.{◌≡◌, ◌<◌, ◌^◌, ℕ, arith, get_or}
use Rattle.std.specs.Prelude.{slice_index, slice_index_or}
use Rattle.std.proofs.lemmas.List.{get_or_default}
use Rattle.std.proofs.lemmas.List.Elements.{recursion_from_All}
use Rattle.run_trace.proofs.parts.are_numbers.Goals as goal

pub returns : goal.returns
returns c = recursion_from_All (λ n. n < 2 ^ 64) c.args.values.now
    (λ k d within.
    let fits : slice_index c.args.values.now k < 2 ^ 64 = omega (arith, c.type_inv.values k) in
    let same : slice_index_or c.args.values.now k d ≡ slice_index c.args.values.now k = get_or_default c.args.values.now k d 0 within in
    rw same fits)
