use Rattle.std.proofs.Common.{◌≡◌, ◌≤◌, arith}
use Rattle.std.specs.Prelude.{Some}
use Rattle.rv_decode.specs.Rows.{decode16_of}
use Rattle.rv_words.specs.Candidates.{candidate_of}
use Rattle.std.proofs.lemmas.Bool.Decides.{nat_tests}
use Rattle.code_listing.proofs.lines.is_own_half.Goals as goal

pub returns-in-Some : goal.returns-in-Some
returns-in-Some c =
    let i = c.args.i.now in
    let law = c.candidates_are_least.ensures in
    let low : candidate_of i ≤ c.args.half = law.least c.args.half i (omega arith) c.requires in
    let means : decode16_of (candidate_of i) ≡ Some i = law.means c.args.half i (omega arith) c.requires in
    let above : c.in-Some.own ≤ candidate_of i = c.in-Some.ensures.least (candidate_of i) (omega (arith, low)) means in
    let below : candidate_of i ≤ c.in-Some.own = law.least c.in-Some.own i (omega (arith, above, low)) c.in-Some.ensures.found in
    let same : c.in-Some.own ≡ candidate_of i = omega (arith, above, below) in
    grind (arith, nat_tests, same)
