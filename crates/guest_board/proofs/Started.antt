-- What a board keeps before its first step.
use Rattle.std.proofs.Common.{◌≡◌, ℕ, zero, suc, ◌+◌, ◌*◌, ◌/◌, ◌≤◌, Option, List, [], ◌∷◌, length, map, replicate, refl, ◌∙◌, arith}
use Rattle.std.specs.Prelude.{slice_index, slice_index_or}
use Rattle.std.specs.List.{range_with_len}
use Rattle.std.proofs.lemmas.List.FromFn.{length-map-range_with_len}
use Rattle.fc_numbers.specs.declared.places.TheConstants.{PAGE}
use Rattle.guest_input.specs.declared.image.Image.{Image}
use Rattle.guest_ram.specs.Ram.{Ram, placed, zero_ram}
use Rattle.guest_ram.proofs.Laws.{placed-stamps}
use Rattle.guest_board.specs.Board.{no_slot}
use Rattle.guest_board.specs.Housed.{left_total}
use Rattle.guest_board.specs.First.{first_slot, first_slots, first_ram, with_parts, text_of, text_parts}

-- every vCPU has all its steps left
slots-left : (steps entry : ℕ) (name : Option (List ℕ)) (from n : ℕ) → left_total steps (map (first_slot entry name) (range_with_len from n)) ≡ n * steps
unfolding left_total
slots-left steps entry name from zero = omega arith
slots-left steps entry name from (suc n) =
    let rest : left_total steps (map (first_slot entry name) (range_with_len (from + 1) n)) ≡ n * steps = slots-left steps entry name (from + 1) n in
    omega (arith, rest)

pub all_left : (steps entry : ℕ) (name : Option (List ℕ)) (n : ℕ) → left_total steps (first_slots entry name n) ≡ n * steps
unfolding first_slots
all_left steps entry name n = slots-left steps entry name 0 n

slots-depth : (entry : ℕ) (name : Option (List ℕ)) (from n k m : ℕ) → (slice_index_or (map (first_slot entry name) (range_with_len from n)) k no_slot).depth ≤ m
slots-depth entry name from zero k m = omega arith
slots-depth entry name from (suc n) zero m = omega arith
slots-depth entry name from (suc n) (suc k) m = slots-depth entry name (from + 1) n k m

pub no_depth : (entry : ℕ) (name : Option (List ℕ)) (n k m : ℕ) → (slice_index_or (first_slots entry name n) k no_slot).depth ≤ m
unfolding first_slots
no_depth entry name n k m = slots-depth entry name 0 n k m

pub few_slots : (entry : ℕ) (name : Option (List ℕ)) (n : ℕ) → length (first_slots entry name n) ≡ n
unfolding first_slots
few_slots entry name n = length-map-range_with_len (first_slot entry name) 0 n

replicate-low : (n k m : ℕ) → slice_index (replicate n 0) k ≤ m
replicate-low zero k m = omega arith
replicate-low (suc n) zero m = omega arith
replicate-low (suc n) (suc k) m = replicate-low n k m

parts-stamps : (ram : Ram) (parts : List (ℕ × List ℕ)) → (with_parts ram parts).stamps ≡ ram.stamps
parts-stamps ram [] = refl
parts-stamps ram (p ∷ ps) = parts-stamps (placed ram p.0 p.1) ps ∙ placed-stamps ram p.0 p.1

-- no page was stored to
pub no_stamp : (image : Image) (bytes k m : ℕ) → slice_index (first_ram image bytes).stamps k ≤ m
unfolding first_ram
no_stamp image bytes k m =
    let text = with_parts (zero_ram bytes (text_of image)) (text_parts image.ranges) in
    let same : (with_parts text image.parts).stamps ≡ replicate (bytes / PAGE) 0 =
    parts-stamps text image.parts ∙ parts-stamps (zero_ram bytes (text_of image)) (text_parts image.ranges) in
    rw same (replicate-low (bytes / PAGE) k m)

pub replicate-length : {X : Type 0} (n : ℕ) (x : X) → length (replicate n x) ≡ n
replicate-length zero x = refl
replicate-length (suc n) x = let rest : length (replicate n x) ≡ n = replicate-length n x in omega (arith, rest)
