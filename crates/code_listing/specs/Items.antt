-- The items of some halfwords: runs of zeros, instructions of 32 bits and halfwords.
-- A halfword with low bits 11 begins an instruction of 32 bits (unprivileged manual, "Base Instruction-Length Encoding"). That a run of zeros is one item is this project's rule.
use Rattle.std.specs.Prelude.{ℕ, ◌+◌, ◌==◌, if◌then◌else◌, List, [], ◌∷◌, replicate}
use Rattle.lane_kernels.specs.Kernels.{is_open}
use Rattle.code_listing.specs.declared.items.Item.{Item}
use Rattle.code_listing.specs.declared.items.Item.TheVariants.{Zeros, Wide, Short}

-- the halfwords of an item
abbrev pub halves_of : Item → List ℕ
halves_of (Zeros count) = replicate count 0
halves_of (Wide low high) = low ∷ high ∷ []
halves_of (Short half) = half ∷ []

-- how many these are
abbrev pub size_of_item : Item → ℕ
size_of_item (Zeros count) = count
size_of_item (Wide low high) = 2
size_of_item (Short half) = 1

-- a halfword 0 in front of items: it joins the run that they begin with
abbrev pub zero_before : List Item → List Item
zero_before [] = Zeros 1 ∷ []
zero_before (Zeros count ∷ items) = Zeros (count + 1) ∷ items
zero_before (Wide low high ∷ items) = Zeros 1 ∷ Wide low high ∷ items
zero_before (Short half ∷ items) = Zeros 1 ∷ Short half ∷ items

-- the items: a halfword 0 is of a run, an open one begins an instruction of 32 bits where another follows
abbrev pub items_of : List ℕ → List Item
items_of [] = []
items_of (half ∷ []) = if half == 0 then zero_before [] else Short half ∷ []
items_of (half ∷ next ∷ rest) =
    if half == 0 then zero_before (items_of (next ∷ rest))
    else if is_open half then Wide half next ∷ items_of rest
    else Short half ∷ items_of (next ∷ rest)
