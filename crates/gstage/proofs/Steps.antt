-- The walk by what an entry is.
use Rattle.std.proofs.Common.{◌≡◌, ℕ, zero, suc, ◌+◌, ◌-◌, ◌*◌, ◌/◌, ◌%◌, ◌^◌, ◌<◌, true, false, List, None, refl, arith}
use Rattle.std.specs.Prelude.{slice_index}
use Rattle.gstage.specs.Walk.{is_valid, is_pointer, leaf_at, walked_from}
use Rattle.page_table.specs.Entry.{is_leaf, ppn}

pub walked-invalid : (entries : List ℕ) (at level entry : ℕ) → is_valid entry ≡ false → walked_from entries at level entry ≡ None
unfolding walked_from
walked-invalid entries at zero entry invalid = rw invalid refl
walked-invalid entries at (suc level) entry invalid = rw invalid refl

pub walked-leaf : (entries : List ℕ) (at level entry : ℕ) → is_valid entry ≡ true → is_leaf entry ≡ true → walked_from entries at level entry ≡ leaf_at level at entry
unfolding walked_from
walked-leaf entries at zero entry valid leaf = rw (valid, leaf) refl
walked-leaf entries at (suc level) entry valid leaf = rw (valid, leaf) refl

pub walked-lowest : (entries : List ℕ) (at level entry : ℕ) → is_leaf entry ≡ false → level ≡ 0 → is_valid entry ≡ true → walked_from entries at level entry ≡ None
unfolding walked_from
walked-lowest entries at zero entry no_leaf lowest valid = rw (valid, no_leaf) refl
walked-lowest entries at (suc level) entry no_leaf lowest valid = absurd (omega arith)

pub walked-reserved : (entries : List ℕ) (at level entry : ℕ) → is_leaf entry ≡ false → is_pointer entry ≡ false → is_valid entry ≡ true → walked_from entries at level entry ≡ None
unfolding walked_from
walked-reserved entries at zero entry no_leaf reserved valid = rw (valid, no_leaf) refl
walked-reserved entries at (suc level) entry no_leaf reserved valid = rw (valid, no_leaf, reserved) refl

pub walked-below : (entries : List ℕ) (at level entry : ℕ) → 0 < level → is_valid entry ≡ true → is_leaf entry ≡ false → is_pointer entry ≡ true → walked_from entries at level entry ≡ walked_from entries at (level - 1) (slice_index entries (512 * ppn entry + at / 2 ^ (12 + 9 * (level - 1)) % 512))
unfolding walked_from
walked-below entries at zero entry some valid no_leaf pointer = absurd (omega arith)
walked-below entries at (suc level) entry some valid no_leaf pointer =
    let before : suc level - 1 ≡ level = omega arith in
    rw (before, valid, no_leaf, pointer) refl
