-- The functions of an accepted image have printed names, for either form.
use Rattle.std.proofs.Common.{◌≡◌, ℕ, zero, suc, ◌+◌, ◌-◌, true, false, cond, List, [], ◌∷◌, ◌++◌, length, take, Option, Some, None, Result, Ok, Err, refl, ap, subst, arith}
use Rattle.std.specs.Prelude.{◌==◌, ◌&&◌, ◌||◌, not, nat_le, nat_lt, if◌then◌else◌, codes, option_and_then, option_map, fold, unwrap_or, All, map}
use Rattle.std.specs.List.{filter, flat_map, list_all, list_any, slice_get}
use Rattle.std.proofs.lemmas.Bool.{and_from, lt-ltb}
use Rattle.serde_json.specs.Data.{Data}
use Rattle.serde_json.specs.Find.{get}
use Rattle.json_fields.specs.Fields.{array_of, each_of, is_object, json_of, pair_of, string_of, whole_of}
use Rattle.json_fields.specs.Members.{default_or, member_as, member_or}
use Rattle.fc_numbers.specs.Names.{is_printed}
use Rattle.fc_numbers.specs.declared.places.Span.{Span}
use Rattle.fc_numbers.specs.declared.spans.TheConstants.{RANGES_MOST, TEXT_MOST}
use Rattle.fc_numbers.specs.Spans.{holds, size_of, text_size}
use Rattle.guest_input.specs.declared.image.Function.{Function}
use Rattle.guest_input.specs.declared.limits.TheConstants.{FUNCTIONS_MOST}
use Rattle.elf_read.specs.declared.fields.TheConstants.{EHDR_SIZE}
use Rattle.elf_read.specs.declared.fields.Header.{Header}
use Rattle.elf_read.specs.declared.fields.ProgramHeader.{ProgramHeader}
use Rattle.elf_read.specs.declared.fields.SectionHeader.{SectionHeader}
use Rattle.elf_read.specs.declared.fields.Symbol.{Symbol}
use Rattle.elf_read.specs.declared.laid.NamedPlace.{NamedPlace}
use Rattle.elf_read.specs.declared.laid.Segment.{Segment}
use Rattle.elf_read.specs.declared.parts.ElfParts.{ElfParts}
use Rattle.elf_read.specs.declared.parts.ElfFault.{ElfFault}
use Rattle.elf_read.specs.declared.parts.ElfFault.TheVariants.{EntryOutside, Misplaced, NoText, NotElf, OddFunction, TooLarge, TooManyFunctions, TooManyTexts, Truncated, WritableText, WrongKind}
use Rattle.elf_read.specs.Addresses.{place_of_address}
use Rattle.elf_read.specs.Elf.{are_symbols, are_tables, code_of, elf_of, has_mark, is_kind, is_loaded, laid_by, layout_of, named_by, strings_of, symbol_table}
use Rattle.elf_read.specs.Fields.{header_of, is_function_symbol, named_at, named_of, sections_in, segments_in, string_at, symbols_in}
use Rattle.elf_read.specs.Kernel.{are_placed, entry_in, is_odd_in, is_nonempty_code, kernel_at, kernel_in, kernel_of_laid, text_spans}
use Rattle.elf_read.specs.Laid.{Layout}
use Rattle.elf_read.specs.Starts.{and_then_listed, comes_before, functions_from, functions_in, functions_of, head_name, kept_name, least_at, lesser, name_at, or_question, shown_byte, starts_in}
use Rattle.elf_read.specs.Steps.{must, or_fault}
use Rattle.elf_read.proofs.Passing.{bind_ok, or_fault_ok, same_Ok}
use Rattle.guest_image.specs.declared.image.Field.TheVariants as key
use Rattle.guest_image.specs.declared.image.ImageFault.TheVariants.{NotJson, Shape}
use Rattle.guest_image.specs.ImageFile.{image_of, kernel_bytes, or_elf, plain_kernel}
use Rattle.guest_image.specs.Plain.{both_of, coded_of, laid_with, plain_name, plain_of, single_of}
use Rattle.guest_image.specs.Plain as plain
use Rattle.code_listing.specs.ReadBack.{HasPrintedNames, is_printed_name}
use Rattle.listing_commands.specs.ReadBack.{AcceptedNamesArePrinted}

same-some : {A : Type 0} (x y : A) → ◌≡◌ {A = Option A} (Some x) (Some y) → x ≡ y
same-some x y h = cc

-- ---- kept names

shown-printed : (name : List ℕ) → list_all is_printed (map shown_byte name) ≡ true
shown-printed [] = refl
shown-printed (x ∷ xs) =
    let one : is_printed (shown_byte x) ≡ true = elim (is_printed x) as (λ t. is_printed x ≡ t → is_printed (if t then x else 63) ≡ true) [ true ↦ λ is. is | false ↦ λ is. refl ] refl in
    and_from (is_printed (shown_byte x)) (list_all is_printed (map shown_byte xs)) one (shown-printed xs)

take-printed : (n : ℕ) (xs : List ℕ) → list_all is_printed xs ≡ true → list_all is_printed (take n xs) ≡ true
take-printed zero xs all = refl
take-printed (suc n) [] all = refl
take-printed (suc n) (x ∷ xs) all =
    elim (is_printed x) as (λ t. (t && list_all is_printed xs) ≡ true → (t && list_all is_printed (take n xs)) ≡ true) [
      | true ↦ λ all. take-printed n xs all
      | false ↦ λ all. all
    ] all

question-printed : (xs : List ℕ) → list_all is_printed xs ≡ true → is_printed_name (or_question xs) ≡ true
question-printed [] all = refl
question-printed (x ∷ xs) all = and_from (nat_lt 0 (length (x ∷ xs))) (list_all is_printed (x ∷ xs)) (lt-ltb 0 (length (x ∷ xs)) (omega arith)) all

kept-printed : (name : List ℕ) → is_printed_name (kept_name name) ≡ true
unfolding kept_name
kept-printed name = question-printed (take 63 (map shown_byte name)) (take-printed 63 (map shown_byte name) (shown-printed name))

-- ---- the functions of named places

abbrev IsPrinted : List ℕ → Type 0
IsPrinted name = is_printed_name name ≡ true

abbrev ArePlaces : List NamedPlace → Type 0
ArePlaces [] = Unit {0}
ArePlaces (f ∷ fs) = IsPrinted f.name × ArePlaces fs

abbrev AreStarts : List (ℕ × List ℕ) → Type 0
AreStarts [] = Unit {0}
AreStarts (s ∷ ss) = IsPrinted s.1 × AreStarts ss

abbrev AreFunctions : List Function → Type 0
AreFunctions [] = Unit {0}
AreFunctions (f ∷ fs) = IsPrinted f.name × AreFunctions fs

abbrev IfPrinted : Option (List ℕ) → Type 0
IfPrinted None = Unit {0}
IfPrinted (Some name) = IsPrinted name

starts-printed : (s : Span) (named : List NamedPlace) → ArePlaces named → AreStarts (starts_in s named)
unfolding starts_in
starts-printed s [] are = tt
starts-printed s (f ∷ fs) are =
    elim (holds s f.place) as (λ t. AreStarts (map (λ f. (f.place - s.start, f.name)) (cond t (f ∷ filter (λ f. holds s f.place) fs) (filter (λ f. holds s f.place) fs)))) [
      | true ↦ (are.0, starts-printed s fs are.1)
      | false ↦ starts-printed s fs are.1
    ]

lesser-printed : (least : Option (List ℕ)) (name : List ℕ) → IfPrinted least → IsPrinted name → IfPrinted (lesser least name)
lesser-printed None name is one = one
lesser-printed (Some least) name is one =
    elim (comes_before name least) as (λ t. IsPrinted (if t then name else least)) [ true ↦ one | false ↦ is ]

least-printed : (least : Option (List ℕ)) (starts : List (ℕ × List ℕ)) (offset : ℕ) → IfPrinted least → AreStarts starts
    → IfPrinted (fold lesser least (map (λ s. s.1) (filter (λ s. s.0 == offset) starts)))
least-printed least [] offset is are = is
least-printed least (s ∷ ss) offset is are =
    elim (s.0 == offset) as (λ t. IfPrinted (fold lesser least (map (λ s. s.1) (cond t (s ∷ filter (λ s. s.0 == offset) ss) (filter (λ s. s.0 == offset) ss))))) [
      | true ↦ least-printed (lesser least s.1) ss offset (lesser-printed least s.1 is are.0) are.1
      | false ↦ least-printed least ss offset is are.1
    ]

at-printed : (starts : List (ℕ × List ℕ)) (offset : ℕ) → AreStarts starts → IfPrinted (least_at starts offset)
unfolding least_at
at-printed starts offset are = least-printed None starts offset tt are

head-printed : (o : Option (List ℕ)) → IfPrinted o → IsPrinted (unwrap_or o head_name)
head-printed None is = refl
head-printed (Some name) is = is

name-printed : (starts : List (ℕ × List ℕ)) (offset : ℕ) → AreStarts starts → IfPrinted (name_at starts offset)
unfolding name_at
name-printed starts offset are =
    elim (offset == 0) as (λ t. IfPrinted (if t then Some (unwrap_or (least_at starts 0) head_name) else least_at starts offset)) [
      | true ↦ head-printed (least_at starts 0) (at-printed starts 0 are)
      | false ↦ at-printed starts offset are
    ]

listed-printed : (range offset : ℕ) (o : Option (List ℕ)) (fs : List Function) → IfPrinted o → AreFunctions fs → AreFunctions (and_then_listed range offset o fs)
listed-printed range offset None fs is are = are
listed-printed range offset (Some name) fs is are = (is, are)

from-printed : (range : ℕ) (starts : List (ℕ × List ℕ)) (low n : ℕ) → AreStarts starts → AreFunctions (functions_from range starts low n)
unfolding functions_from
from-printed range starts low zero are = tt
from-printed range starts low (suc n) are =
    listed-printed range low (name_at starts low) (functions_from range starts (low + 1) n) (name-printed starts low are) (from-printed range starts (low + 1) n are)

append-printed : (fs gs : List Function) → AreFunctions fs → AreFunctions gs → AreFunctions (fs ++ gs)
append-printed [] gs are more = more
append-printed (f ∷ fs) gs are more = (are.0, append-printed fs gs are.1 more)

functions-printed : (range : ℕ) (spans : List Span) (named : List NamedPlace) → ArePlaces named → AreFunctions (functions_in range spans named)
functions-printed range [] named are = tt
functions-printed range (s ∷ ss) named are =
    append-printed (functions_of range s named) (functions_in (range + 1) ss named) (from-printed range (starts_in s named) 0 (size_of s) (starts-printed s named are)) (functions-printed (range + 1) ss named are)

each-printed : (fs : List Function) → AreFunctions fs → All (λ f. is_printed_name f.name ≡ true) fs
each-printed [] are k d within = absurd (omega (arith, within))
each-printed (f ∷ fs) are zero d within = are.0
each-printed (f ∷ fs) are (suc k) d within = each-printed fs are.1 k d (omega (arith, within))

-- ---- kernels

in-printed : (l : Layout) (spans : List Span) (k : ElfParts) → ArePlaces l.named → kernel_in l spans ≡ Ok k → AreFunctions k.functions
unfolding kernel_in
in-printed l spans k are h =
    let a = bind_ok (must OddFunction (not (list_any (is_odd_in spans) l.named))) _ k h in
    let b = bind_ok (must TooLarge (nat_le (text_size spans) TEXT_MOST)) _ k a.2 in
    let c = bind_ok (must TooManyFunctions (nat_le (length (functions_in 0 spans l.named)) FUNCTIONS_MOST)) _ k b.2 in
    let d = bind_ok (or_fault EntryOutside (entry_in spans l.entry)) _ k c.2 in
    subst (λ (x : ElfParts). AreFunctions x.functions) (same_Ok (kernel_at l spans d.0) k d.2) (functions-printed 0 spans l.named are)

kernel-printed : (l : Layout) (k : ElfParts) → ArePlaces l.named → kernel_of_laid l ≡ Ok k → AreFunctions k.functions
unfolding kernel_of_laid
kernel-printed l k are h =
    let a = bind_ok (must NoText (is_nonempty_code l.code)) _ k h in
    let b = bind_ok (must TooManyTexts (nat_le (length l.code) RANGES_MOST)) _ k a.2 in
    let c = bind_ok (must WritableText (not l.writable)) _ k b.2 in
    let d = bind_ok (must Misplaced (are_placed l.code l.parts)) _ k c.2 in
    in-printed l (text_spans l.code) k are d.2

-- ---- an ELF file

places-append : (fs gs : List NamedPlace) → ArePlaces fs → ArePlaces gs → ArePlaces (fs ++ gs)
places-append [] gs are more = more
places-append (f ∷ fs) gs are more = (are.0, places-append fs gs are.1 more)

symbol-printed : (place : Option ℕ) (name : List ℕ) → ArePlaces (named_at place name)
symbol-printed None name = tt
symbol-printed (Some place) name = (kept-printed name, tt)

symbols-printed : (code : List ProgramHeader) (strings : List ℕ) (symbols : List Symbol) → ArePlaces (flat_map (named_of code strings) symbols)
symbols-printed code strings [] = tt
symbols-printed code strings (s ∷ ss) =
    let one : ArePlaces (named_of code strings s) =
    elim (is_function_symbol s) as (λ t. ArePlaces (cond t (named_at (place_of_address code s.st_value) (string_at strings s.st_name)) [])) [
      | true ↦ symbol-printed (place_of_address code s.st_value) (string_at strings s.st_name)
      | false ↦ tt
    ] in
    places-append (named_of code strings s) (flat_map (named_of code strings) ss) one (symbols-printed code strings ss)

table-printed : (file : List ℕ) (code : List ProgramHeader) (sections : List SectionHeader) (table : Option SectionHeader) → ArePlaces (named_by file code sections table)
table-printed file code sections None = tt
table-printed file code sections (Some table) = symbols-printed code (strings_of file (slice_get sections table.sh_link)) (symbols_in file table)

by-printed : (file : List ℕ) (h : Header) (segments : List ProgramHeader) (sections : List SectionHeader) (k : ElfParts) → laid_by file h segments sections ≡ Ok k → AreFunctions k.functions
unfolding laid_by
by-printed file h segments sections k is =
    let named = named_by file (code_of segments) sections (symbol_table sections) in
    let a = bind_ok (must Truncated (list_all (is_loaded file) segments)) _ k is in
    let b = bind_ok (must Truncated (are_symbols file sections (symbol_table sections))) _ k a.2 in
    kernel-printed (layout_of file h segments named) k (table-printed file (code_of segments) sections (symbol_table sections)) b.2

elf-printed : (file : List ℕ) (k : ElfParts) → elf_of file ≡ Ok k → AreFunctions k.functions
unfolding elf_of
elf-printed file k is =
    let a = bind_ok (must NotElf (has_mark file)) _ k is in
    let b = bind_ok (must WrongKind (is_kind file)) _ k a.2 in
    let c = bind_ok (must Truncated (nat_le EHDR_SIZE (length file))) _ k b.2 in
    let d = bind_ok (must Truncated (are_tables file (header_of file))) _ k c.2 in
    by-printed file (header_of file) (segments_in file (header_of file)) (sections_in file (header_of file)) k d.2

-- ---- a plain file

then_some : {A B : Type 0} (f : A → Option B) (o : Option A) (y : B) → option_and_then f o ≡ Some y → (x : A) × (o ≡ Some x) × (f x ≡ Some y)
then_some f None y h = absurd cc
then_some f (Some x) y h = (x, refl, h)

map_some : {A B : Type 0} (f : A → B) (o : Option A) (y : B) → option_map f o ≡ Some y → (x : A) × (o ≡ Some x) × (f x ≡ y)
map_some f None y h = absurd cc
map_some f (Some x) y h = (x, refl, cc)

pair-printed : (d : Data) (f : NamedPlace) → plain.plain_named_place d ≡ Some f → IsPrinted f.name
unfolding plain.plain_named_place plain_name
pair-printed d f h =
    let pair = then_some (both_of plain_name plain.named_place) (pair_of d) f h in
    let place = then_some (λ place. option_map (plain.named_place place) (plain_name pair.0.1)) (whole_of pair.0.0) f pair.2 in
    let name = map_some (plain.named_place place.0) (plain_name pair.0.1) f place.2 in
    let kept = map_some kept_name (string_of pair.0.1) name.0 name.1 in
    subst (λ (x : NamedPlace). IsPrinted x.name) name.2 (subst IsPrinted kept.2 (kept-printed kept.0))

pairs-printed : (ds : List Data) (fs : List NamedPlace) → each_of plain.plain_named_place ds ≡ Some fs → ArePlaces fs
pairs-printed [] fs h = subst ArePlaces (same-some [] fs h) tt
pairs-printed (d ∷ ds) fs h =
    let first = then_some (λ y. option_map (λ ys. y ∷ ys) (each_of plain.plain_named_place ds)) (plain.plain_named_place d) fs h in
    let rest = map_some (λ ys. first.0 ∷ ys) (each_of plain.plain_named_place ds) fs first.2 in
    subst ArePlaces rest.2 (pair-printed d first.0 first.1, pairs-printed ds rest.0 rest.1)

names-printed : (d : Data) (fs : List NamedPlace) → plain.plain_named_places d ≡ Some fs → ArePlaces fs
unfolding plain.plain_named_places
names-printed d fs h =
    let items = then_some (each_of plain.plain_named_place) (array_of d) fs h in
    pairs-printed items.0 fs items.2

member-printed : (o : Option Data) (fs : List NamedPlace) → default_or plain.plain_named_places [] o ≡ Some fs → ArePlaces fs
member-printed None fs h = subst ArePlaces (same-some [] fs h) tt
member-printed (Some d) fs h = names-printed d fs h

with-printed : (code : List Segment) (entry : ℕ) (d : Data) (l : Layout) → laid_with code entry d ≡ Ok l → ArePlaces l.named
unfolding laid_with
with-printed code entry d l h =
    let a = bind_ok (or_fault (Shape key.«Data») (member_or plain.plain_parts [] (codes "data") d)) _ l h in
    let b = bind_ok (or_fault (Shape key.Functions) (member_or plain.plain_named_places [] (codes "functions") d)) _ l a.2 in
    let c = bind_ok (must (Shape key.Other) (plain.is_image_known d)) _ l b.2 in
    let named = member-printed (get (codes "functions") d) b.0 (or_fault_ok (Shape key.Functions) (member_or plain.plain_named_places [] (codes "functions") d) b.0 b.1) in
    subst (λ (x : Layout). ArePlaces x.named) (same_Ok _ l c.2) named

coded-printed : (d : Data) (l : Layout) → coded_of d ≡ Ok l → ArePlaces l.named
unfolding coded_of
coded-printed d l h =
    let a = bind_ok (or_fault (Shape key.Code) (member_as plain.segments_of (codes "code") d)) _ l h in
    let b = bind_ok (must (Shape key.Base) (not (plain.has_key (codes "base") d))) _ l a.2 in
    let c = bind_ok (or_fault (Shape key.Entry) (member_as whole_of (codes "entry") d)) _ l b.2 in
    let e = bind_ok (must (Shape key.Text) (not (plain.has_key (codes "text") d))) _ l c.2 in
    with-printed a.0 c.0 d l e.2

single-printed : (d : Data) (l : Layout) → single_of d ≡ Ok l → ArePlaces l.named
unfolding single_of
single-printed d l h =
    let a = bind_ok (must (Shape key.Code) (plain.has_key (codes "base") d || plain.has_key (codes "text") d)) _ l h in
    let b = bind_ok (or_fault (Shape key.Base) (member_as whole_of (codes "base") d)) _ l a.2 in
    let c = bind_ok (or_fault (Shape key.Entry) (member_as whole_of (codes "entry") d)) _ l b.2 in
    let e = bind_ok (or_fault (Shape key.Text) (member_as plain.hex_of (codes "text") d)) _ l c.2 in
    with-printed (plain.segment_of_bytes b.0 e.0 ∷ []) c.0 d l e.2

laid-printed : (d : Data) (l : Layout) → plain_of d ≡ Ok l → ArePlaces l.named
unfolding plain_of
laid-printed d l h =
    let a = bind_ok (must (Shape key.Other) (is_object d)) _ l h in
    elim (plain.has_key (codes "code") d) as (λ t. (if t then coded_of d else single_of d) ≡ Ok l → ArePlaces l.named) [
      | true ↦ λ h. coded-printed d l h
      | false ↦ λ h. single-printed d l h
    ] a.2

or-elf : (r : Result ElfParts ElfFault) (k : ElfParts) → or_elf r ≡ Ok k → r ≡ Ok k
or-elf (Ok k) k' h = ap (λ (x : ElfParts). Ok x) (same_Ok k k' h)
or-elf (Err fault) k' h = absurd cc

plain-printed : (bytes : List ℕ) (k : ElfParts) → plain_kernel bytes ≡ Ok k → AreFunctions k.functions
unfolding plain_kernel
plain-printed bytes k h =
    let a = bind_ok (or_fault NotJson (json_of bytes)) _ k h in
    let b = bind_ok (plain_of a.0) _ k a.2 in
    kernel-printed b.0 k (laid-printed a.0 b.0 b.1) (or-elf (kernel_of_laid b.0) k b.2)

-- ---- either

bytes-printed : (bytes : List ℕ) (k : ElfParts) → kernel_bytes bytes ≡ Ok k → AreFunctions k.functions
bytes-printed bytes k h =
    elim (has_mark bytes) as (λ t. (if t then or_elf (elf_of bytes) else plain_kernel bytes) ≡ Ok k → AreFunctions k.functions) [
      | true ↦ λ h. elf-printed bytes k (or-elf (elf_of bytes) k h)
      | false ↦ λ h. plain-printed bytes k h
    ] h

pub names_printed : AcceptedNamesArePrinted
unfolding image_of
names_printed bytes i h =
    let kernel = bind_ok (kernel_bytes bytes) _ i h in
    let functions = each-printed kernel.0.functions (bytes-printed bytes kernel.0 kernel.1) in
    subst HasPrintedNames (same_Ok _ i kernel.2) functions
