use Rattle.std.proofs.Common.{◌≡◌, ◌∷◌, List, get_or, map}
use Rattle.std.specs.Prelude.{All}
use Rattle.std.proofs.lemmas.List.Elements.{All-cons, All-contains}
use Rattle.sv39_walk.specs.declared.cache.Read.{Read}
use Rattle.sv39_walk.specs.Cache.{IsNow}
use Rattle.sv39_walk.specs.ReadFacts.{frames_read}
use Rattle.sv39_walk.proofs.Fitting.{new_fits}
use Rattle.sv39_walk.proofs.cache.kept_of.Goals as goal

pub returns-clause-fits : goal.returns-clause-fits
returns-clause-fits c =
    let slice : List Read = c.as_slice.result.now in
    let frames : map (λ (r : Read). r.frame) slice ≡ frames_read c.args.ram.now c.args.satp c.args.asked = rw c.as_slice.ensures.value c.reads_of-reads.ensures.frames in
    let now : All (IsNow c.args.ram.now) slice = rw c.as_slice.ensures.value c.reads_of-reads.ensures.now in
    let all = All-cons (IsNow c.args.ram.now) c.first_frame.result slice c.first_frame.ensures now in
    new_fits c.args.ram.now _ slice c.translate-answer.ensures.value frames c.in_slots-reads.ensures.found
    (λ i d h. All-contains (IsNow c.args.ram.now) (c.first_frame.result ∷ slice) (get_or c.in_slots-reads.result i d) all (c.in_slots-reads.ensures.each i d h))
