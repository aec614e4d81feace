-- The walk of the entries that a table is built of is the map of its view.
use Rattle.std.proofs.Common.{◌≡◌, ◌∙◌, ℕ, ◌+◌, ◌-◌, ◌*◌, ◌/◌, ◌%◌, ◌^◌, ◌<◌, ◌≤◌, Bool, true, false, List, Some, None, ap, refl, arith, ltb, eqb, cond, subst, sym}
use Rattle.std.specs.Prelude.{slice_index}
use Rattle.std.proofs.lemmas.Bool.Decides.{nat_tests}
use Rattle.fc_numbers.specs.declared.machine.GKind.{GKind}
use Rattle.fc_numbers.specs.declared.machine.GKind.TheVariants.{Sv39x4, Sv48x4}
use Rattle.fc_numbers.specs.declared.places.Span.{Span}
use Rattle.fc_numbers.specs.Spans.{in_text}
use Rattle.gstage.specs.Stage.{in_span, placed_among}
use Rattle.gstage.specs.Walk.{walked_from, walked_leaf}
use Rattle.gstage.specs.Map.{AreSpans, mapped, page_in, ram_page, text_leaf, ram_leaf}
use Rattle.gstage.specs.declared.stage.Placed.TheVariants as placed_in
use Rattle.gstage.specs.declared.table.GTable.TheInside.{Inside}
use Rattle.gstage.specs.Built.{IsBuilt, table_inside}
use Rattle.gstage.specs.Table.{Table, pages_of}
use Rattle.gstage.specs.Layout.{IsBuiltOf, entry_value, lower_value, page_entry, placed_by, pointer_to, text_entry, ram_entry}
use Rattle.gstage.proofs.Steps.{walked-invalid, walked-below}
use Rattle.gstage.proofs.Entries.{zero-invalid, pointer-valid, pointer-no_leaf, pointer-pointer, pointer-page, text-walked, ram-walked}
use Rattle.gstage.proofs.Pages.{few_pages, outside, outside_ram, page_entry_at, placed_page}

-- the page of a place, by the indices of the walk
page_number : (at : ℕ) → at / 1073741824 ≡ 2 → 2147483648 + 4096 * (512 * (at / 2097152 % 512) + at / 4096 % 512) ≡ 4096 * (at / 4096)
page_number at gib =
    let a : at / 2097152 ≡ 512 * (at / 1073741824) + at / 2097152 % 512 = omega arith in
    let b : at / 4096 ≡ 512 * (at / 2097152) + at / 4096 % 512 = omega arith in
    omega arith

-- a place outside RAM is not mapped
unmapped : (text : List Span) (ram : Span) (view at : ℕ) → AreSpans text ram → in_span ram at ≡ false → mapped text ram view at ≡ None
unmapped text ram view at spans out = rw (outside_ram text ram at (in_text text at) spans out refl, out) refl

-- RAM is in one GiB
in_gib : (ram : Span) (at : ℕ) → ram.start ≡ 2147483648 → ram.end ≤ 2214592512 → in_span ram at ≡ true → at / 1073741824 ≡ 2
in_gib ram at start size inside =
    let low : ram.start ≤ at = grind (arith, nat_tests) in
    let high : at < ram.end = grind (arith, nat_tests) in
    omega arith

out_of_gib : (b : Bool) (ram : Span) (at : ℕ) → ram.start ≡ 2147483648 → ram.end ≤ 2214592512 → (at / 1073741824 ≡ 2 → ⊥) → in_span ram at ≡ b → b ≡ false
out_of_gib true ram at start size other inside = absurd (other (in_gib ram at start size inside))
out_of_gib false ram at start size other outside = refl

-- nothing is mapped outside the GiB of RAM
unmapped_gib : (text : List Span) (ram : Span) (view at : ℕ) → AreSpans text ram → (at / 1073741824 ≡ 2 → ⊥) → mapped text ram view at ≡ None
unmapped_gib text ram view at spans other = unmapped text ram view at spans (out_of_gib (in_span ram at) ram at spans.start spans.most other refl)

-- from the table of level 1 on, which is a page of the list, the entries stand as they are laid out
abbrev IsLower : List Span → Span → ℕ → ℕ → List ℕ → Type 0
IsLower text ram view page entries = (k : ℕ) → k < 16896 → slice_index entries (512 * page + k) ≡ lower_value text ram view page k

middle : (text : List Span) (ram : Span) (view page k : ℕ) → k < 512 → lower_value text ram view page k ≡ cond (ltb k 32) (pointer_to (page + 1 + k)) 0
unfolding lower_value
middle text ram view page k few =
    let table : ltb k 512 ≡ true = grind (arith, nat_tests) in
    rw table refl

lowest : (text : List Span) (ram : Span) (view page n : ℕ) → lower_value text ram view page (512 + n) ≡ page_entry text ram view n
unfolding lower_value
lowest text ram view page n =
    let pointer : ltb (512 + n) 32 ≡ false = grind (arith, nat_tests) in
    let table : ltb (512 + n) 512 ≡ false = grind (arith, nat_tests) in
    let same : 512 + n - 512 ≡ n = omega arith in
    rw (pointer, table, same) refl

from_page : (b c : Bool) (entries : List ℕ) (text : List Span) (ram : Span) (view at n : ℕ) → AreSpans text ram → view < 256 → 2147483648 + 4096 * n ≡ 4096 * (at / 4096) → in_text text at ≡ b → in_span ram at ≡ c → walked_from entries at 0 (cond b (text_entry (16384 + 1024 * view + page_in text at)) (cond c (ram_entry n) 0)) ≡ cond b (Some (text_leaf view (page_in text at))) (cond c (Some (ram_leaf (ram_page at))) None)
from_page true c entries text ram view at n spans few base inside other =
    let pages = few_pages text ram at spans inside in
    text-walked entries at view (page_in text at) (omega (arith, pages, few))
from_page false true entries text ram view at n spans few base outside inside =
    let below : at < ram.end = grind (arith, nat_tests) in
    let size : ram.end ≤ 2214592512 = spans.most in
    let same : (at - 2147483648) / 4096 ≡ n = omega (arith, base) in
    rw same (ram-walked entries at n (omega (arith, base, below, size)))
from_page false false entries text ram view at n spans few base outside other = walked-invalid entries at 0 0 zero-invalid

from_table : (b : Bool) (entries : List ℕ) (text : List Span) (ram : Span) (view page at : ℕ) → AreSpans text ram → view < 256 → page < 8 → IsLower text ram view page entries → at / 1073741824 ≡ 2 → ltb (at / 2097152 % 512) 32 ≡ b → walked_from entries at 1 (cond b (pointer_to (page + 1 + at / 2097152 % 512)) 0) ≡ mapped text ram view at
from_table true entries text ram view page at spans few pages laid gib low =
    let k = at / 2097152 % 512 in
    let n = 512 * k + at / 4096 % 512 in
    let small : k < 32 = grind (arith, nat_tests) in
    let base : 2147483648 + 4096 * n ≡ 4096 * (at / 4096) = page_number at gib in
    let place : 512 * (page + 1 + k) + at / 4096 % 512 ≡ 512 * page + (512 + n) = omega arith in
    let within : 512 + n < 16896 = omega (arith, small) in
    let read : slice_index entries (512 * page + (512 + n)) ≡ cond (in_text text at) (text_entry (16384 + 1024 * view + page_in text at)) (cond (in_span ram at) (ram_entry n) 0) =
    laid (512 + n) within ∙ lowest text ram view page n ∙ page_entry_at text ram view at n spans base in
    let table : page + 1 + k < 2 ^ 44 = omega (arith, small, pages) in
    walked-below entries at 1 (pointer_to (page + 1 + k)) (omega arith) (pointer-valid (page + 1 + k) table) (pointer-no_leaf (page + 1 + k)) (pointer-pointer (page + 1 + k))
    ∙ rw (pointer-page (page + 1 + k) table, place, read) (from_page (in_text text at) (in_span ram at) entries text ram view at n spans few base refl refl)
from_table false entries text ram view page at spans few pages laid gib high =
    let far : 32 ≤ at / 2097152 % 512 = grind (arith, nat_tests) in
    let beyond : 2214592512 ≤ at = omega (arith, far, gib) in
    let size : ram.end ≤ 2214592512 = spans.most in
    let out : in_span ram at ≡ false = grind (arith, nat_tests) in
    walked-invalid entries at 1 0 zero-invalid ∙ sym (unmapped text ram view at spans out)

-- the walk from the table of level 1 on, of either kind
from_level_1 : (entries : List ℕ) (text : List Span) (ram : Span) (view page at : ℕ) → AreSpans text ram → view < 256 → page < 8 → IsLower text ram view page entries → at / 1073741824 ≡ 2 → walked_from entries at 1 (slice_index entries (512 * page + at / 2097152 % 512)) ≡ mapped text ram view at
from_level_1 entries text ram view page at spans few pages laid gib =
    let k = at / 2097152 % 512 in
    let small : k < 512 = omega arith in
    ap (λ e. walked_from entries at 1 e) (laid k (omega (arith, small)) ∙ middle text ram view page k small)
    ∙ from_table (ltb k 32) entries text ram view page at spans few pages laid gib refl

-- a walk that meets a pointer goes on in the table below
below : (entries : List ℕ) (at level entry table : ℕ) → table < 8 → entry ≡ pointer_to table → walked_from entries at (level + 1) entry ≡ walked_from entries at level (slice_index entries (512 * table + at / 2 ^ (12 + 9 * level) % 512))
below entries at level entry table few points =
    let wide : table < 2 ^ 44 = omega (arith, few) in
    let lower : level + 1 - 1 ≡ level = omega arith in
    ap (λ e. walked_from entries at (level + 1) e) points
    ∙ walked-below entries at (level + 1) (pointer_to table) (omega arith) (pointer-valid table wide) (pointer-no_leaf table) (pointer-pointer table)
    ∙ rw (pointer-page table wide, lower) refl

lower_39 : (entries : List ℕ) (text : List Span) (ram : Span) (view : ℕ) → IsBuiltOf Sv39x4 text ram view entries → IsLower text ram view 4 entries
unfolding entry_value
lower_39 entries text ram view built k few =
    let root : ltb (2048 + k) 2048 ≡ false = grind (arith, nat_tests) in
    let same : 2048 + k - 2048 ≡ k = omega arith in
    built (2048 + k) (omega (arith, few)) ∙ rw (root, same) refl

lower_48 : (entries : List ℕ) (text : List Span) (ram : Span) (view : ℕ) → IsBuiltOf Sv48x4 text ram view entries → IsLower text ram view 5 entries
unfolding entry_value
lower_48 entries text ram view built k few =
    let root : ltb (2560 + k) 2048 ≡ false = grind (arith, nat_tests) in
    let table : ltb (2560 + k) 2560 ≡ false = grind (arith, nat_tests) in
    let same : 2560 + k - 2560 ≡ k = omega arith in
    built (2560 + k) (omega (arith, few)) ∙ rw (root, table, same) refl

root_39 : (text : List Span) (ram : Span) (view i : ℕ) → i < 2048 → entry_value Sv39x4 text ram view i ≡ cond (eqb i 2) (pointer_to 4) 0
unfolding entry_value
root_39 text ram view i few =
    let root : ltb i 2048 ≡ true = grind (arith, nat_tests) in
    rw root refl

root_48 : (text : List Span) (ram : Span) (view i : ℕ) → i < 2048 → entry_value Sv48x4 text ram view i ≡ cond (eqb i 0) (pointer_to 4) 0
unfolding entry_value
root_48 text ram view i few =
    let root : ltb i 2048 ≡ true = grind (arith, nat_tests) in
    rw root refl

second_48 : (text : List Span) (ram : Span) (view i : ℕ) → i < 512 → entry_value Sv48x4 text ram view (2048 + i) ≡ cond (eqb (2048 + i) 2050) (pointer_to 5) 0
unfolding entry_value
second_48 text ram view i few =
    let root : ltb (2048 + i) 2048 ≡ false = grind (arith, nat_tests) in
    let table : ltb (2048 + i) 2560 ≡ true = grind (arith, nat_tests) in
    rw (root, table) refl

-- an entry that is a pointer or 0
walked_if : (b : Bool) (entries : List ℕ) (text : List Span) (ram : Span) (view at level entry table : ℕ) → entry ≡ cond b (pointer_to table) 0 → (b ≡ true → walked_from entries at level (pointer_to table) ≡ mapped text ram view at) → (b ≡ false → mapped text ram view at ≡ None) → walked_from entries at level entry ≡ mapped text ram view at
walked_if true entries text ram view at level entry table is points none = ap (λ e. walked_from entries at level e) is ∙ points refl
walked_if false entries text ram view at level entry table is points none =
    ap (λ e. walked_from entries at level e) is ∙ walked-invalid entries at level 0 zero-invalid ∙ sym (none refl)

from_root_39 : (entries : List ℕ) (text : List Span) (ram : Span) (view at : ℕ) → AreSpans text ram → view < 256 → IsBuiltOf Sv39x4 text ram view entries → at < 2199023255552 → walked_from entries at 2 (slice_index entries (at / 1073741824)) ≡ mapped text ram view at
from_root_39 entries text ram view at spans few built near =
    let i = at / 1073741824 in
    let root : i < 2048 = omega (arith, near) in
    walked_if (eqb i 2) entries text ram view at 2 (slice_index entries i) 4 (built i (omega (arith, root)) ∙ root_39 text ram view i root)
    (λ e. let gib : i ≡ 2 = grind (arith, nat_tests, e) in
    below entries at 1 (pointer_to 4) 4 (omega arith) refl
    ∙ from_level_1 entries text ram view 4 at spans few (omega arith) (lower_39 entries text ram view built) gib)
    (λ e. unmapped_gib text ram view at spans (grind (arith, nat_tests, e)))

from_second_48 : (entries : List ℕ) (text : List Span) (ram : Span) (view at : ℕ) → AreSpans text ram → view < 256 → IsBuiltOf Sv48x4 text ram view entries → at < 549755813888 → walked_from entries at 2 (slice_index entries (2048 + at / 1073741824 % 512)) ≡ mapped text ram view at
from_second_48 entries text ram view at spans few built near =
    let i = at / 1073741824 % 512 in
    let whole : i ≡ at / 1073741824 = omega (arith, near) in
    let small : i < 512 = omega arith in
    walked_if (eqb (2048 + i) 2050) entries text ram view at 2 (slice_index entries (2048 + i)) 5 (built (2048 + i) (omega (arith, small)) ∙ second_48 text ram view i small)
    (λ e. let second : i ≡ 2 = grind (arith, nat_tests, e) in
    below entries at 1 (pointer_to 5) 5 (omega arith) refl
    ∙ from_level_1 entries text ram view 5 at spans few (omega arith) (lower_48 entries text ram view built) (sym whole ∙ second))
    (λ e. let other : i ≡ 2 → ⊥ = grind (arith, nat_tests, e) in unmapped_gib text ram view at spans (λ gib. other (whole ∙ gib)))

from_root_48 : (entries : List ℕ) (text : List Span) (ram : Span) (view at : ℕ) → AreSpans text ram → view < 256 → IsBuiltOf Sv48x4 text ram view entries → at < 1125899906842624 → walked_from entries at 3 (slice_index entries (at / 549755813888)) ≡ mapped text ram view at
from_root_48 entries text ram view at spans few built near =
    let i = at / 549755813888 in
    let root : i < 2048 = omega (arith, near) in
    walked_if (eqb i 0) entries text ram view at 3 (slice_index entries i) 4 (built i (omega (arith, root)) ∙ root_48 text ram view i root)
    (λ e. let first : i ≡ 0 = grind (arith, nat_tests, e) in
    below entries at 2 (pointer_to 4) 4 (omega arith) refl
    ∙ from_second_48 entries text ram view at spans few built (omega (arith, first)))
    (λ e. let other : i ≡ 0 → ⊥ = grind (arith, nat_tests, e) in
    unmapped_gib text ram view at spans (λ gib. other (omega (arith, gib))))

-- beyond the places of a kind nothing is mapped
walked_near : (b : Bool) (text : List Span) (ram : Span) (view at places : ℕ) (leaf : _) → AreSpans text ram → 2214592512 ≤ places → ltb at places ≡ b → (at < places → leaf ≡ mapped text ram view at) → cond b leaf None ≡ mapped text ram view at
walked_near true text ram view at places leaf spans wide near is = is (grind (arith, nat_tests, near))
walked_near false text ram view at places leaf spans wide far is =
    let beyond : places ≤ at = grind (arith, nat_tests, far) in
    let size : ram.end ≤ 2214592512 = spans.most in
    let out : in_span ram at ≡ false = grind (arith, nat_tests) in
    sym (unmapped text ram view at spans out)

-- the walk of the entries is the map, at every place
pub maps : (kind : GKind) (entries : List ℕ) (text : List Span) (ram : Span) (view : ℕ) → AreSpans text ram → view < 256 → IsBuiltOf kind text ram view entries → (at : ℕ) → walked_leaf kind entries at ≡ mapped text ram view at
maps Sv39x4 entries text ram view spans few built at =
    walked_near (ltb at 2199023255552) text ram view at 2199023255552 (walked_from entries at 2 (slice_index entries (at / 1073741824))) spans (omega arith) refl
    (from_root_39 entries text ram view at spans few built)
maps Sv48x4 entries text ram view spans few built at =
    walked_near (ltb at 1125899906842624) text ram view at 1125899906842624 (walked_from entries at 3 (slice_index entries (at / 549755813888))) spans (omega arith) refl
    (from_root_48 entries text ram view at spans few built)

-- the entry of level 0 of a place says where it lies
placed_entry : (kind : GKind) (entries : List ℕ) (text : List Span) (ram : Span) (view above at n : ℕ) → AreSpans text ram → IsBuiltOf kind text ram view entries → above + 32 ≡ pages_of kind → n < 16384 → 2147483648 + 4096 * n ≡ 4096 * (at / 4096) → placed_by (slice_index entries (512 * above + n)) ≡ placed_among text ram at
placed_entry Sv39x4 entries text ram view above at n spans built is few base =
    let same : 512 * above + n ≡ 512 * 4 + (512 + n) = omega (arith, is) in
    ap (λ k. placed_by (slice_index entries k)) same
    ∙ ap placed_by (lower_39 entries text ram view built (512 + n) (omega (arith, few)) ∙ lowest text ram view 4 n) ∙ placed_page text ram view at n spans base
placed_entry Sv48x4 entries text ram view above at n spans built is few base =
    let same : 512 * above + n ≡ 512 * 5 + (512 + n) = omega (arith, is) in
    ap (λ k. placed_by (slice_index entries k)) same
    ∙ ap placed_by (lower_48 entries text ram view built (512 + n) (omega (arith, few)) ∙ lowest text ram view 5 n) ∙ placed_page text ram view at n spans base

pub placed_at : (a : Inside) (t : Table) (above at : ℕ) → table_inside a ≡ t → IsBuilt a → above + 32 ≡ pages_of a.kind → 2147483648 ≤ at → at - 2147483648 < 67108864 → placed_by (slice_index a.entries.items (512 * above + (at - 2147483648) / 4096)) ≡ placed_among t.text t.ram at
placed_at a t above at is built pages low high =
    subst (λ (t : Table). placed_by (slice_index a.entries.items (512 * above + (at - 2147483648) / 4096)) ≡ placed_among t.text t.ram at) is
    (placed_entry a.kind a.entries.items a.text.items a.ram a.view above at ((at - 2147483648) / 4096) built.table.spans built.laid pages (omega (arith, high)) (omega (arith, low)))

pub placed_far : (a : Inside) (t : Table) (at : ℕ) → table_inside a ≡ t → IsBuilt a → (2147483648 ≤ at → at - 2147483648 < 67108864 → ⊥) → placed_among t.text t.ram at ≡ placed_in.Outside
placed_far a t at is built far =
    let start = built.table.spans.start in
    let size : a.ram.end ≤ 2214592512 = built.table.spans.most in
    let out : in_span a.ram at ≡ false = not_in a.ram (in_span a.ram at) refl start size in
    subst (λ (t : Table). placed_among t.text t.ram at ≡ placed_in.Outside) is (outside a.text.items a.ram at built.table.spans out)
  where
    not_in : (ram : Span) (b : Bool) → in_span ram at ≡ b → ram.start ≡ 2147483648 → ram.end ≤ 2214592512 → b ≡ false
    not_in ram true inside start size =
        let low : ram.start ≤ at = grind (arith, nat_tests, inside) in
        let high : at < ram.end = grind (arith, nat_tests, inside) in
        absurd (far (omega (arith, low, start)) (omega (arith, low, high, start, size)))
    not_in ram false outside start size = refl
