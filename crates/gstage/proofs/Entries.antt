-- What the entries of a table say: the low ten bits are flags, and the rest is a page number.
use Rattle.std.proofs.Common.{◌≡◌, ◌∙◌, ℕ, ◌+◌, ◌*◌, ◌/◌, ◌%◌, ◌^◌, ◌<◌, true, false, List, Some, refl, arith, eqb, ltb, add-zero}
use Rattle.std.proofs.lemmas.Bool.Decides.{nat_tests}
use Rattle.gstage.specs.declared.stage.Placed.TheVariants as placed_in
use Rattle.gstage.specs.Walk.{is_valid, is_pointer, walked_from}
use Rattle.page_table.specs.Entry.{is_leaf, ppn}
use Rattle.gstage.specs.Map.{text_leaf, ram_leaf}
use Rattle.gstage.specs.Layout.{pointer_to, text_entry, ram_entry, placed_by}
use Rattle.gstage.proofs.Steps.{walked-leaf}

bit-0 : (p f : ℕ) → (p * 1024 + f) / 1 % 2 ≡ f / 1 % 2
bit-0 p f = omega arith

bit-1 : (p f : ℕ) → (p * 1024 + f) / 2 % 2 ≡ f / 2 % 2
bit-1 p f = omega arith

bit-2 : (p f : ℕ) → (p * 1024 + f) / 4 % 2 ≡ f / 4 % 2
bit-2 p f = omega arith

bit-3 : (p f : ℕ) → (p * 1024 + f) / 8 % 2 ≡ f / 8 % 2
bit-3 p f = omega arith

bit-4 : (p f : ℕ) → (p * 1024 + f) / 16 % 2 ≡ f / 16 % 2
bit-4 p f = omega arith

bit-6 : (p f : ℕ) → (p * 1024 + f) / 64 % 2 ≡ f / 64 % 2
bit-6 p f = omega arith

bit-7 : (p f : ℕ) → (p * 1024 + f) / 128 % 2 ≡ f / 128 % 2
bit-7 p f = omega arith

page : (p f : ℕ) → p < 2 ^ 44 → f < 1024 → ppn (p * 1024 + f) ≡ p
page p f few flags = omega arith

low : (p f : ℕ) → p < 2 ^ 44 → f < 1024 → ltb (p * 1024 + f) (2 ^ 54) ≡ true
low p f few flags = grind (arith, nat_tests)

pub zero-invalid : is_valid 0 ≡ false
zero-invalid = refl

pub pointer-valid : (t : ℕ) → t < 2 ^ 44 → is_valid (pointer_to t) ≡ true
pointer-valid t few = rw (bit-0 t 1, bit-1 t 1, bit-2 t 1, low t 1 few (omega arith)) refl

pub pointer-no_leaf : (t : ℕ) → is_leaf (pointer_to t) ≡ false
pointer-no_leaf t = rw (bit-1 t 1, bit-3 t 1) refl

pub pointer-pointer : (t : ℕ) → is_pointer (pointer_to t) ≡ true
pointer-pointer t = rw (bit-4 t 1, bit-6 t 1, bit-7 t 1) refl

pub pointer-page : (t : ℕ) → t < 2 ^ 44 → ppn (pointer_to t) ≡ t
pointer-page t few = page t 1 few (omega arith)

text-valid : (p : ℕ) → p < 2 ^ 44 → is_valid (text_entry p) ≡ true
text-valid p few = rw (bit-0 p 89, bit-1 p 89, bit-2 p 89, low p 89 few (omega arith)) refl

text-leaf : (p : ℕ) → is_leaf (text_entry p) ≡ true
text-leaf p = rw (bit-1 p 89, bit-3 p 89) refl

-- one page is aligned, and has no lower places of its own
one : (n : ℕ) → n % 1 ≡ 0
one n = omega arith

pub text-walked : (entries : List ℕ) (at view n : ℕ) → 16384 + 1024 * view + n < 2 ^ 44 → walked_from entries at 0 (text_entry (16384 + 1024 * view + n)) ≡ Some (text_leaf view n)
text-walked entries at view n few =
    let p = 16384 + 1024 * view + n in
    walked-leaf entries at 0 (text_entry p) (text-valid p few) (text-leaf p)
    ∙ rw (bit-6 p 89, page p 89 few (omega arith), one p, bit-1 p 89, bit-2 p 89, bit-3 p 89, bit-4 p 89, one (at / 4096), add-zero) refl

ram-valid : (p : ℕ) → p < 2 ^ 44 → is_valid (ram_entry p) ≡ true
ram-valid p few = rw (bit-0 p 223, bit-1 p 223, bit-2 p 223, low p 223 few (omega arith)) refl

ram-leaf : (p : ℕ) → is_leaf (ram_entry p) ≡ true
ram-leaf p = rw (bit-1 p 223) refl

pub ram-walked : (entries : List ℕ) (at n : ℕ) → n < 2 ^ 44 → walked_from entries at 0 (ram_entry n) ≡ Some (ram_leaf n)
ram-walked entries at n few =
    walked-leaf entries at 0 (ram_entry n) (ram-valid n few) (ram-leaf n)
    ∙ rw (bit-6 n 223, page n 223 few (omega arith), one n, bit-1 n 223, bit-2 n 223, bit-7 n 223, bit-3 n 223, bit-4 n 223, one (at / 4096), add-zero) refl

-- an entry with flags is not 0
some : (p f : ℕ) → 0 < f → eqb (p * 1024 + f) 0 ≡ false
some p f flags = grind (arith, nat_tests)

pub text-placed : (p : ℕ) → placed_by (text_entry p) ≡ placed_in.Text
text-placed p = rw (some p 89 (omega arith), bit-2 p 89) refl

pub ram-placed : (p : ℕ) → placed_by (ram_entry p) ≡ placed_in.Ram
ram-placed p = rw (some p 223 (omega arith), bit-2 p 223) refl
