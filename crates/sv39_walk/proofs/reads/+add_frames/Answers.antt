use Rattle.std.proofs.Common.{◌≡◌, ℕ, ◌+◌, ◌-◌, ◌*◌, ◌++◌, ◌∷◌, [], map, ap, ◌∙◌, arith}
use Rattle.std.proofs.lemmas.List.{append_assoc, map-append}
use Rattle.guest_ram.specs.Ram.{frame_of}
use Rattle.std.proofs.lemmas.List.Elements.{All-append, All-cons, All-nil}
use Rattle.sv39_walk.specs.Cache.{IsNow}
use Rattle.sv39_walk.specs.ReadFacts.{frames_from}
use Rattle.sv39_walk.specs.declared.cache.Read.{Read}
use Rattle.sv39_walk.proofs.Noted.{ends_by_fault, ends_by_leaf, goes_deeper}
use Rattle.sv39_walk.proofs.Steps.{above_last}
use Rattle.sv39_walk.proofs.reads.+add_frames.Goals as goal
use Rattle.sv39_walk.proofs.reads.+add_frames.Goals.{then-is_fault-via-then-is_fault, then-is_fault-via-else-is_fault+then-is_leaf}

abbrev frame : Read → ℕ
frame r = r.frame

pub returns-then-is_fault-clause-frames : goal.returns-then-is_fault-clause-frames
returns-then-is_fault-clause-frames t c =
    let place = ap (λ n. c.args.table + 8 * n) c.index.ensures.value in
    let end : frame_of (c.args.table + 8 * c.index.result) ∷ [] ≡ frames_from c.args.ram.now c.args.q.now c.args.levels c.args.table = elim c.then-is_fault.branch [
      | then-is_fault-via-then-is_fault w ↦ ends_by_fault c.args.ram.now c.args.q.now c.args.levels c.args.table _ c.in-Ok.pte c.requires.some place c.in-Ok.ensures w.if-is_fault.ensures
      | then-is_fault-via-else-is_fault+then-is_leaf w ↦ ends_by_leaf c.args.ram.now c.args.q.now c.args.levels c.args.table _ c.in-Ok.pte c.requires.some place c.in-Ok.ensures w.if-is_leaf.ensures
    ] in
    ap (map frame) c.push.ensures.items ∙ map-append frame c.args.reads.now.items (c.read_at.result ∷ [])
    ∙ ap (λ xs. map frame c.args.reads.now.items ++ xs) (ap (λ n. n ∷ []) c.read_at.ensures.frame ∙ end)

pub add_frames-requires : goal.add_frames-requires
add_frames-requires t c =
    let above = above_last c.args.q.now (c.args.levels - 1) c.in-Ok.pte c.if-is_fault.ensures c.if-is_leaf.ensures in (
      grind (arith, above),
      (
        grind (arith, above),
        (
          grind (arith),
          (
            grind (arith),
            (
              grind (arith),
              (
                grind (arith),
                rw c.push.ensures.items (All-append (IsNow c.args.ram.now) c.args.reads.now.items (c.read_at.result ∷ []) c.requires.now (All-cons (IsNow c.args.ram.now) c.read_at.result [] c.read_at.ensures.now (All-nil (IsNow c.args.ram.now)))),
              ),
            ),
          ),
        ),
      ),
    )

pub returns-clause-frames : goal.returns-clause-frames
returns-clause-frames t c =
    let place = ap (λ n. c.args.table + 8 * n) c.index.ensures.value in
    let deeper = goes_deeper c.args.ram.now c.args.q.now c.args.levels c.args.table _ c.in-Ok.pte c.requires.some place c.in-Ok.ensures c.if-is_fault.ensures c.if-is_leaf.ensures in
    let old = map frame c.args.reads.now.items in
    let below = λ (n : ℕ). frames_from c.args.ram.now c.args.q.now (c.args.levels - 1) (n * 4096) in
    let noted : map frame c.push.new.self.items ≡ old ++ c.read_at.result.frame ∷ [] =
    ap (map frame) c.push.ensures.items ∙ map-append frame c.args.reads.now.items (c.read_at.result ∷ []) in
    c.add_frames.ensures.frames ∙ ap (λ xs. xs ++ below c.page_number.result) noted ∙ append_assoc old (c.read_at.result.frame ∷ []) (below c.page_number.result)
    ∙ ap (λ xs. old ++ xs) (ap (λ n. n ∷ below c.page_number.result) c.read_at.ensures.frame ∙ ap (λ n. frame_of (c.args.table + 8 * c.index.result) ∷ below n) c.page_number.ensures.value ∙ deeper)
