-- A store keeps the fit of every cache, and a cache that keeps nothing fits every memory.
use Rattle.std.proofs.Common.{◌≡◌, ◌≢◌, ℕ, ◌+◌, ◌-◌, ◌%◌, ◌<◌, ◌≤◌, ◌⊎◌, inl, inr, true, false, Option, Some, None, List, get_or, refl, sym, ap, ◌∙◌, arith}
use Rattle.std.proofs.Common.{zero, suc}
use Rattle.std.proofs.Math.ListN.{get_or-map}
use Rattle.std.proofs.lemmas.List.{length-map}
use Rattle.std.specs.Prelude.{All, Contains, map, nat_eq, nat_lt, if◌then◌else◌, replicate}
use Rattle.std.proofs.lemmas.List.Elements.{All-contains, All-cons, All-map, All-nil}
use Rattle.std.proofs.lemmas.Bool.Decides.{nat_tests}
use Rattle.fc_numbers.specs.declared.machine.Width.{Width}
use Rattle.fc_numbers.specs.declared.machine.Width.TheVariants.{Byte, Halfword, Word, Doubleword}
use Rattle.fc_numbers.specs.declared.places.TheConstants.{RAM_START}
use Rattle.guest_ram.specs.Value.{count_of}
use Rattle.guest_ram.specs.Ram.{Ram, IsLaid, frame_of, is_inside, stamp_of, stored, with_value}
use Rattle.guest_ram.proofs.Laws.{length-with_value, length-with_value_stamps, value-with_value_other, with_value-other_stamp, with_value-stamp, with_value-text}
use Rattle.sv39_walk.specs.declared.cache.Kept.{Kept}
use Rattle.sv39_walk.specs.declared.cache.Read.{Read}
use Rattle.sv39_walk.specs.Walk.{walked}
use Rattle.sv39_walk.specs.Cache.{Fits, FitsOne, FitsSlot, IsLive, IsNow, IsTrue, frames_of}
use Rattle.sv39_walk.specs.ReadFacts.{frames_read}
use Rattle.sv39_walk.proofs.Entries.{noted_reads, reads_noted}
use Rattle.sv39_walk.proofs.Same.{IsSameIn, IsSameShape, same_walked}

-- of two places in different frames the lower frame is that of the lower place
lower_frame : (p q : ℕ) → RAM_START ≤ p → p < q → frame_of p ≢ frame_of q → frame_of p < frame_of q
lower_frame p q low less other =
    elim (nat_lt (frame_of p) (frame_of q)) as (λ b. nat_lt (frame_of p) (frame_of q) ≡ b → frame_of p < frame_of q) [
      | true ↦ λ t. grind (arith, nat_tests, t)
      | false ↦ λ t. (let most : frame_of q ≤ frame_of p = grind (arith, nat_tests, t) in absurd (other (omega (arith, most, less, low))))
    ] refl

low_place : (ram : Ram) (p : ℕ) → is_inside ram p ≡ true → RAM_START ≤ p
low_place ram p inside = grind (arith, nat_tests, inside)

-- places of different frames differ
unless_same : (p q : ℕ) → q ≤ p → frame_of p ≢ frame_of q → q < p
unless_same p q most other =
    elim (nat_eq p q) as (λ b. nat_eq p q ≡ b → q < p) [
      | true ↦ λ t. absurd (other (ap frame_of (grind (arith, nat_tests, t))))
      | false ↦ λ t. grind (arith, nat_tests, t, most)
    ] refl

-- an aligned number of one frame ends before the next frame
ends_before : (width : Width) (p q : ℕ) → p % count_of width ≡ 0 → RAM_START ≤ p → p < q → frame_of p ≢ frame_of q → p - RAM_START + count_of width ≤ q - RAM_START
ends_before Byte p q aligned low less other = omega (arith, aligned, low, less)
ends_before Halfword p q aligned low less other = (let lower = lower_frame p q low less other in omega (arith, aligned, low, less, lower))
ends_before Word p q aligned low less other = (let lower = lower_frame p q low less other in omega (arith, aligned, low, less, lower))
ends_before Doubleword p q aligned low less other = (let lower = lower_frame p q low less other in omega (arith, aligned, low, less, lower))

apart : (width : Width) (p at : ℕ) → RAM_START ≤ p → RAM_START ≤ at → p % 8 ≡ 0 → at % count_of width ≡ 0 → frame_of p ≢ frame_of at → (p - RAM_START + 8 ≤ at - RAM_START) ⊎ (at - RAM_START + count_of width ≤ p - RAM_START)
apart width p at low low_at whole aligned other =
    elim (nat_lt p at) as (λ b. nat_lt p at ≡ b → (p - RAM_START + 8 ≤ at - RAM_START) ⊎ (at - RAM_START + count_of width ≤ p - RAM_START)) [
      | true ↦ λ t. inl (ends_before Doubleword p at whole low (grind (arith, nat_tests, t)) other)
      | false ↦ λ t.
          inr (ends_before width at p aligned low_at (unless_same p at (grind (arith, nat_tests, t)) other) (λ e. other (sym e)))
    ] refl

same_in : (ram : Ram) (at : ℕ) (width : Width) (v frame : ℕ) → IsLaid ram → is_inside ram at ≡ true → at % count_of width ≡ 0 → frame ≢ frame_of at → IsSameIn ram (with_value ram at width v) frame
same_in ram at width v frame laid inside aligned other p in_frame in_ram whole =
    value-with_value_other ram at width v p Doubleword laid inside aligned
    (apart width p at (low_place ram p in_ram) (low_place ram at inside) whole aligned (λ e. other (sym in_frame ∙ e)))

same_shape : (ram : Ram) (at : ℕ) (width : Width) (v : ℕ) → IsLaid ram → is_inside ram at ≡ true → at % count_of width ≡ 0 → IsSameShape ram (with_value ram at width v)
same_shape ram at width v laid inside aligned = record { size = sym (length-with_value ram at width v laid inside aligned); text = sym (with_value-text ram at width v) }

-- a frame whose kept stamp is live after the store is not the stored one
not_stored : (ram : Ram) (at : ℕ) (width : Width) (v : ℕ) (r : Read) → IsLaid ram → is_inside ram at ≡ true → r.stamp ≤ stamp_of ram r.frame → stamp_of (with_value ram at width v) r.frame ≡ r.stamp → r.frame ≢ frame_of at
not_stored ram at width v r laid inside most live same =
    let rose : stamp_of (with_value ram at width v) r.frame ≡ stamp_of ram r.frame + 1 = rw same (with_value-stamp ram at width v laid inside) in
    omega (arith, rose, most, live)

-- no stamp falls
stamp_grows : (ram : Ram) (at : ℕ) (width : Width) (v frame : ℕ) → IsLaid ram → is_inside ram at ≡ true → stamp_of ram frame ≤ stamp_of (with_value ram at width v) frame
stamp_grows ram at width v frame laid inside =
    elim (nat_eq frame (frame_of at)) as (λ b. nat_eq frame (frame_of at) ≡ b → stamp_of ram frame ≤ stamp_of (with_value ram at width v) frame) [
      | true ↦ λ t. (let same : frame ≡ frame_of at = grind (arith, nat_tests, t) in rw same (omega (arith, with_value-stamp ram at width v laid inside)))
      | false ↦ λ t. omega (arith, with_value-other_stamp ram at width v frame (grind (arith, nat_tests, t)))
    ] refl

true_after : (ram : Ram) (at : ℕ) (width : Width) (v : ℕ) (k : Kept) → IsLaid ram → is_inside ram at ≡ true → at % count_of width ≡ 0 → FitsOne ram k → IsLive (with_value ram at width v) k → IsTrue (with_value ram at width v) k
true_after ram at width v k laid inside aligned fits live =
    let apart_from : All (λ (r : Read). r.frame ≢ frame_of at) k.reads = λ i d h. not_stored ram at width v (get_or k.reads i d) laid inside (fits.stamps i d h) (live i d h) in
    let was_live : IsLive ram k = λ i d h. sym (with_value-other_stamp ram at width v (get_or k.reads i d).frame (apart_from i d h)) ∙ live i d h in
    let is = fits.true_if_live was_live in
    let noted : All (λ frame. Contains (frames_of k) frame) (frames_read ram k.satp k.asked) = noted_reads ram k is in
    let kept_apart : All (λ frame. frame ≢ frame_of at) (frames_of k) = All-map (λ (frame : ℕ). frame ≢ frame_of at) (λ (r : Read). r.frame) k.reads apart_from in
    let same : All (IsSameIn ram (with_value ram at width v)) (frames_read ram k.satp k.asked) =
    λ i d h. same_in ram at width v (get_or (frames_read ram k.satp k.asked) i d) laid inside aligned (All-contains (λ (frame : ℕ). frame ≢ frame_of at) (frames_of k) (get_or (frames_read ram k.satp k.asked) i d) kept_apart (noted i d h)) in
    let walks = same_walked ram (with_value ram at width v) k.satp k.asked (same_shape ram at width v laid inside aligned) same in
    let after : All (λ frame. Contains (frames_of k) frame) (frames_read (with_value ram at width v) k.satp k.asked) = rw walks.1 noted in
    record { answer = is.answer ∙ sym walks.0; reads = λ entries paged sign walk. reads_noted (with_value ram at width v) k after entries paged sign walk }

fits_one : (ram : Ram) (at : ℕ) (width : Width) (v : ℕ) (k : Kept) → IsLaid ram → is_inside ram at ≡ true → at % count_of width ≡ 0 → FitsOne ram k → FitsOne (with_value ram at width v) k
fits_one ram at width v k laid inside aligned fits = record {
  true_if_live = λ live. true_after ram at width v k laid inside aligned fits live;
  frames = λ i d h. rw (length-with_value_stamps ram at width v) (fits.frames i d h);
  stamps = λ i d h. omega (arith, fits.stamps i d h, stamp_grows ram at width v (get_or k.reads i d).frame laid inside);
}

fits_slot : (ram : Ram) (at : ℕ) (width : Width) (v : ℕ) (slot : Option Kept) → IsLaid ram → is_inside ram at ≡ true → at % count_of width ≡ 0 → FitsSlot ram slot → FitsSlot (with_value ram at width v) slot
fits_slot ram at width v None laid inside aligned fits = tt
fits_slot ram at width v (Some k) laid inside aligned fits = fits_one ram at width v k laid inside aligned fits

-- a store keeps the fit
pub stored_fits : (ram : Ram) (at : ℕ) (width : Width) (v : ℕ) (slots : List (Option Kept)) → IsLaid ram → at % count_of width ≡ 0 → Fits ram slots → Fits (stored ram at width v) slots
stored_fits ram at width v slots laid aligned fits =
    elim (is_inside ram at) as (λ b. is_inside ram at ≡ b → Fits (if b then with_value ram at width v else ram) slots) [
      | true ↦ λ inside i d h. fits_slot ram at width v (get_or slots i d) laid inside aligned (fits i d h)
      | false ↦ λ outside. fits
    ] refl

-- a cache that keeps nothing fits every memory
pub empty_fits : (ram : Ram) (n : ℕ) → Fits ram (replicate n None)
empty_fits ram zero = All-nil (FitsSlot ram)
empty_fits ram (suc n) = All-cons (FitsSlot ram) None (replicate n None) tt (empty_fits ram n)

contains-map : (f : Read → ℕ) (rs : List Read) (r : Read) → Contains rs r → Contains (map f rs) (f r)
contains-map f rs r at = (at.0, rw (length-map rs) at.1, get_or-map f rs at.0 r ∙ ap f at.2)

-- what was just walked fits
pub new_fits : (ram : Ram) (k : Kept) (reads : List Read) → k.answer ≡ walked ram k.satp k.asked → map (λ (r : Read). r.frame) reads ≡ frames_read ram k.satp k.asked
    → All (Contains k.reads) reads → All (IsNow ram) k.reads → FitsOne ram k
new_fits ram k reads answer frames found now =
    let noted : All (λ frame. Contains (frames_of k) frame) (frames_read ram k.satp k.asked) =
    rw (sym frames) (All-map (Contains (frames_of k)) (λ (r : Read). r.frame) reads (λ i d h. contains-map (λ (r : Read). r.frame) k.reads (get_or reads i d) (found i d h))) in
    record {
      true_if_live = λ live. record { answer = answer; reads = λ entries paged sign walk. reads_noted ram k noted entries paged sign walk };
      frames = λ i d h. (now i d h).0;
      stamps = λ i d h. omega (arith, (now i d h).1);
    }
