use Rattle.std.proofs.Common.{◌≡◌, ◌-◌, ◌++◌, [], ◌∷◌, length, arith, sym, ◌∙◌, ap, append_assoc, append-nil}
use Rattle.chain_log.specs.Chain.{frame_places_from}
use Rattle.chain_log.proofs.Frames.{frames-full, frames-none, frames-last, frames-on}
use Rattle.chain_log.proofs.chain.add_frames.Goals as goal

pub returns-in-None : goal.returns-in-None
returns-in-None c =
    let none : frame_places_from c.args.ram.now c.args.csr.now c.args.mode (16 - length c.frames.chain.items) c.frames.f ≡ [] = frames-none _ _ _ _ _ (sym c.in-None.ensures) in
    sym (append-nil c.frames.chain.items) ∙ ap (λ xs. c.frames.chain.items ++ xs) (sym none) ∙ c.frames.invariant

pub returns-then-frame-f : goal.returns-then-frame-f
returns-then-frame-f c =
    let last : frame_places_from c.args.ram.now c.args.csr.now c.args.mode (16 - length c.frames.chain.items) c.frames.f ≡ c.in-Some.frame.place ∷ [] = frames-last _ _ _ _ _ c.in-Some.frame (omega arith) (sym c.in-Some.ensures) (omega arith) in
    c.push.ensures.items ∙ ap (λ xs. c.frames.chain.items ++ xs) (sym last) ∙ c.frames.invariant

pub frames-preserved : goal.frames-preserved
frames-preserved c =
    let on : frame_places_from c.args.ram.now c.args.csr.now c.args.mode (16 - length c.frames.chain.items) c.frames.f ≡ c.in-Some.frame.place ∷ frame_places_from c.args.ram.now c.args.csr.now c.args.mode (16 - length c.push.new.self.items) c.in-Some.frame.up = frames-on _ _ _ _ _ _ c.in-Some.frame (omega arith) (sym c.in-Some.ensures) (omega arith) in
    ap (λ xs. xs ++ frame_places_from c.args.ram.now c.args.csr.now c.args.mode (16 - length c.push.new.self.items) c.in-Some.frame.up) c.push.ensures.items
    ∙ append_assoc c.frames.chain.items (c.in-Some.frame.place ∷ []) (frame_places_from c.args.ram.now c.args.csr.now c.args.mode (16 - length c.push.new.self.items) c.in-Some.frame.up)
    ∙ ap (λ xs. c.frames.chain.items ++ xs) (sym on) ∙ c.frames.invariant

pub returns : goal.returns
returns c =
    let full : frame_places_from c.args.ram.now c.args.csr.now c.args.mode (16 - length c.frames.chain.items) c.frames.f ≡ [] = frames-full _ _ _ _ _ (omega arith) in
    sym (append-nil c.frames.chain.items) ∙ ap (λ xs. c.frames.chain.items ++ xs) (sym full) ∙ c.frames.invariant
