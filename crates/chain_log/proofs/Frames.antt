-- One frame more of a chain.
use Rattle.std.proofs.Common.{◌≡◌, ℕ, zero, suc, ◌+◌, ◌<◌, ◌≤◌, List, [], ◌∷◌, arith, refl, Some, None}
use Rattle.std.proofs.lemmas.Bool.Decides.{nat_tests}
use Rattle.fc_numbers.specs.declared.machine.Mode.{Mode}
use Rattle.guest_ram.specs.Ram.{Ram}
use Rattle.rv_csr.specs.Csrs.{Csrs}
use Rattle.chain_log.specs.declared.chain.Frame.{Frame}
use Rattle.chain_log.specs.Chain.{frame_at, frame_places_from, places_of}

places-last : (f : ℕ) (rest : ℕ → List ℕ) (frame : Frame) → frame.up ≤ f → places_of f rest (Some frame) ≡ frame.place ∷ []
places-last f rest frame last = grind (arith, nat_tests)

places-on : (f : ℕ) (rest : ℕ → List ℕ) (frame : Frame) → f < frame.up → places_of f rest (Some frame) ≡ frame.place ∷ rest frame.up
places-on f rest frame on = grind (arith, nat_tests)

-- no room is left
pub frames-full : (ram : Ram) (csr : Csrs) (mode : Mode) (n f : ℕ) → n ≡ 0 → frame_places_from ram csr mode n f ≡ []
unfolding frame_places_from
frames-full ram csr mode zero f e = refl
frames-full ram csr mode (suc n) f e = absurd (omega arith)

-- no frame is there
pub frames-none : (ram : Ram) (csr : Csrs) (mode : Mode) (n f : ℕ) → frame_at ram csr mode f ≡ None → frame_places_from ram csr mode n f ≡ []
unfolding frame_places_from
frames-none ram csr mode zero f none = refl
frames-none ram csr mode (suc n) f none = rw none refl

-- the frame is the last
pub frames-last : (ram : Ram) (csr : Csrs) (mode : Mode) (n f : ℕ) (frame : Frame) → 0 < n → frame_at ram csr mode f ≡ Some frame
    → frame.up ≤ f → frame_places_from ram csr mode n f ≡ frame.place ∷ []
unfolding frame_places_from
frames-last ram csr mode zero f frame room is last = absurd (omega arith)
frames-last ram csr mode (suc n) f frame room is last = rw is (places-last f (frame_places_from ram csr mode n) frame last)

-- the walk goes on above the frame
pub frames-on : (ram : Ram) (csr : Csrs) (mode : Mode) (n m f : ℕ) (frame : Frame) → n ≡ m + 1 → frame_at ram csr mode f ≡ Some frame
    → f < frame.up → frame_places_from ram csr mode n f ≡ frame.place ∷ frame_places_from ram csr mode m frame.up
unfolding frame_places_from
frames-on ram csr mode zero m f frame room is on = absurd (omega arith)
frames-on ram csr mode (suc n) m f frame room is on =
    let same : n ≡ m = omega arith in
    rw (is, same) (places-on f (frame_places_from ram csr mode m) frame on)
