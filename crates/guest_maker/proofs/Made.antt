-- The program of the guest: how long it is, that each of its lines has a word, and where its functions stand.
use Rattle.std.proofs.Common.{◌≡◌, ℕ, zero, suc, ◌+◌, ◌-◌, ◌*◌, ◌%◌, ◌^◌, ◌<◌, ◌≤◌, Bool, true, false, not, ◌&&◌, ◌==◌, pos, List, [], ◌∷◌, ◌++◌, length, map, replicate, cond, refl, sym, ap, subst, ◌∙◌, arith, lit<, length-append, append_assoc}
use Rattle.std.specs.Prelude.{flat_map, nat_lt, is_some, IsSome, if◌then◌else◌, slice_index_or}
use Rattle.std.specs.List.{list_all}
use Rattle.std.proofs.lemmas.Grind.{flat_map-append}
use Rattle.std.proofs.lemmas.List.{append-nil}
use Rattle.std.proofs.lemmas.List.Folds.{list_all-append}
use Rattle.std.proofs.lemmas.Bool.Decides.{nat_tests}
use Rattle.std.proofs.Math.Nat.{mod-lt}
use Rattle.rv_words.specs.Words.{encode_of}
use Rattle.guest_maker.specs.declared.line.Line.{Line}
use Rattle.guest_maker.specs.declared.line.Line.TheVariants.{Jump}
use Rattle.guest_maker.specs.declared.line.Label.TheVariants.{Numbered}
use Rattle.guest_maker.specs.declared.line.Label.{Label}
use Rattle.guest_maker.specs.declared.program.TheConstants.{NUMBERED}
use Rattle.guest_maker.specs.declared.program.Drawn.{Drawn}
use Rattle.guest_maker.specs.declared.programs.TheConstants.{ENTER, LEAVE, RA}
use Rattle.guest_maker.specs.Generator.{generator_next, answer, generator_after}
use Rattle.guest_maker.specs.Program.{Routine, fixed, idle, idle_count, idle_lines, behind_idle, calls, callee, call_lines, drawn_lines, drawn_routine, state_at, numbered, program, drawn_of, lines_of_routines, functions_behind_lines}
use Rattle.std.proofs.lemmas.List.{length-map, length-replicate}
use Rattle.elf_read.specs.Kernel.{whole_pages}
use Rattle.guest_input.specs.declared.image.Function.{Function}
use Rattle.guest_input.specs.declared.limits.TheConstants.{FUNCTIONS_MOST}
use Rattle.guest_maker.specs.Text.{label_number, offset_of, target_of, AllFit, code_from, encoded_word, word_bytes, in_pages}
use Rattle.guest_maker.specs.Guest.{guest_functions, guest_code, guest_text}
use Rattle.guest_maker.proofs.Lawful.{IsPages, Stand, AreFunctions}
use Rattle.guest_maker.proofs.Growing.{length-idle}
use Rattle.guest_maker.proofs.Fits.{AreTargets, is_near, is_far, is_fine, are_fine, are_fine-append, far_all_fine, all_fit}

-- ---- drawn lines

conj : (a b : Bool) → a ≡ true → b ≡ true → (a && b) ≡ true
conj true b h k = k
conj false b h k = absurd cc

far-append : (xs ys : List Line) → list_all is_far xs ≡ true → list_all is_far ys ≡ true → list_all is_far (xs ++ ys) ≡ true
far-append xs ys h k = list_all-append is_far xs ys ∙ conj (list_all is_far xs) (list_all is_far ys) h k

small : (x : ℕ) → nat_lt (x % 2048) (2 ^ 11) ≡ true
small x = grind (arith, nat_tests)

far_idle : (n s : ℕ) → list_all is_far (idle n s) ≡ true
unfolding encode_of
far_idle zero s = refl
far_idle (suc n) s = far-append (idle n s) _ (far_idle n s) (rw (small (answer (generator_after (suc n) s))) refl)

far_call_if : (b : Bool) (n : ℕ) → list_all is_far (if b then Jump RA (Numbered n) ∷ [] else []) ≡ true
far_call_if true n = refl
far_call_if false n = refl

far_call : (k s : ℕ) → list_all is_far (call_lines k s) ≡ true
unfolding call_lines
far_call k s = far_call_if (calls k s) (callee k (generator_next s))

far_enter : list_all is_far ENTER ≡ true
unfolding encode_of
far_enter = refl

far_leave : list_all is_far LEAVE ≡ true
unfolding encode_of
far_leave = refl

far_drawn : (k s : ℕ) → list_all is_far (drawn_lines k s) ≡ true
unfolding drawn_lines idle_lines
far_drawn k s =
    far-append (ENTER ++ idle_lines s ++ call_lines k (behind_idle s)) LEAVE
    (far-append (ENTER ++ idle_lines s) (call_lines k (behind_idle s)) (far-append ENTER (idle_lines s) far_enter (far_idle (idle_count s) (generator_next s))) (far_call k (behind_idle s)))
    far_leave

lines_of-append : (rs qs : List Routine) → lines_of_routines (rs ++ qs) ≡ lines_of_routines rs ++ lines_of_routines qs
lines_of-append rs qs = flat_map-append (λ r. r.lines) rs qs

lines_of_one : (r : Routine) → lines_of_routines (r ∷ []) ≡ r.lines
lines_of_one r = append-nil r.lines

far_numbered : (n s : ℕ) → list_all is_far (lines_of_routines (numbered n s)) ≡ true
unfolding numbered
far_numbered zero s = refl
far_numbered (suc n) s =
    ap (list_all is_far) (lines_of-append (numbered n s) (drawn_routine n (state_at n s) ∷ []))
    ∙ far-append (lines_of_routines (numbered n s)) (lines_of_routines (drawn_routine n (state_at n s) ∷ [])) (far_numbered n s)
    (ap (list_all is_far) (lines_of_one (drawn_routine n (state_at n s))) ∙ far_drawn n (state_at n s))

-- ---- how long

length-call_if : (b : Bool) (n : ℕ) → length (if b then Jump RA (Numbered n) ∷ [] else []) ≤ 1
length-call_if true n = omega arith
length-call_if false n = omega arith

pub length-call_lines : (k s : ℕ) → length (call_lines k s) ≤ 1
unfolding call_lines
length-call_lines k s = length-call_if (calls k s) (callee k (generator_next s))

pub length-idle_lines : (s : ℕ) → length (idle_lines s) ≤ 4
unfolding idle_lines
length-idle_lines s = omega (arith, length-idle (idle_count s) (generator_next s))

length-drawn_lines : (k s : ℕ) → length (drawn_lines k s) ≤ 13
unfolding drawn_lines
length-drawn_lines k s =
    omega (
      arith,
      length-append (ENTER ++ idle_lines s ++ call_lines k (behind_idle s)) LEAVE,
      length-append (ENTER ++ idle_lines s) (call_lines k (behind_idle s)),
      length-append ENTER (idle_lines s),
      length-idle_lines s,
      length-call_lines k (behind_idle s),
    )

length-numbered : (n s : ℕ) → length (lines_of_routines (numbered n s)) ≤ 13 * n
unfolding numbered
length-numbered zero s = omega arith
length-numbered (suc n) s =
    let r = drawn_routine n (state_at n s) in
    omega (
      arith,
      ap length (lines_of-append (numbered n s) (r ∷ [])),
      length-append (lines_of_routines (numbered n s)) (lines_of_routines (r ∷ [])),
      ap length (lines_of_one r),
      length-drawn_lines n (state_at n s),
      length-numbered n s,
    )

pub length-program : (seed : ℕ) → length (lines_of_routines (program seed)) ≤ 2678
unfolding program
length-program seed =
    omega (
      arith,
      ap length (lines_of-append fixed (numbered NUMBERED (generator_after 4 seed))),
      length-append (lines_of_routines fixed) (lines_of_routines (numbered NUMBERED (generator_after 4 seed))),
      length-numbered NUMBERED (generator_after 4 seed),
    )

-- ---- each line has a word

fine_fixed : are_fine 0 (lines_of_routines fixed) ≡ true
unfolding encode_of is_near
fine_fixed = refl

fine_program : (seed : ℕ) → are_fine 0 (lines_of_routines (program seed)) ≡ true
unfolding program
fine_program seed =
    let drawn = numbered NUMBERED (generator_after 4 seed) in
    ap (are_fine 0) (lines_of-append fixed drawn)
    ∙ are_fine-append 0 (lines_of_routines fixed) (lines_of_routines drawn) fine_fixed
    (far_all_fine 312 (lines_of_routines drawn) (omega (arith, length-numbered NUMBERED (generator_after 4 seed))) (far_numbered NUMBERED (generator_after 4 seed)))

-- ---- where functions stand

offset_low : (rs : List Routine) (n k : ℕ) → offset_of (functions_behind_lines n rs) k ≤ 4 * (n + length (lines_of_routines rs))
offset_low [] n k = omega arith
offset_low (r ∷ rs) n zero = omega arith
offset_low (r ∷ rs) n (suc k) = omega (arith, offset_low rs (n + length r.lines) k, length-append r.lines (lines_of_routines rs))

offset_even : (rs : List Routine) (n k : ℕ) → offset_of (functions_behind_lines n rs) k % 2 ≡ 0
offset_even [] n k = refl
offset_even (r ∷ rs) n zero = omega arith
offset_even (r ∷ rs) n (suc k) = offset_even rs (n + length r.lines) k

targets : (seed : ℕ) (drawn : Drawn) → AreTargets (target_of (functions_behind_lines 0 (program seed)) drawn)
unfolding program
targets seed drawn = record {
  trap = lit< tt;
  red = lit< tt;
  blue = lit< tt;
  low = λ to. omega (arith, offset_low (program seed) 0 (label_number drawn to), length-program seed);
  even = λ to. offset_even (program seed) 0 (label_number drawn to);
}

pub program_fits : (seed : ℕ) (drawn : Drawn) → AllFit (target_of (functions_behind_lines 0 (program seed)) drawn) 0 (lines_of_routines (program seed))
program_fits seed drawn = all_fit (target_of (functions_behind_lines 0 (program seed)) drawn) (targets seed drawn) 0 refl (lines_of_routines (program seed)) (fine_program seed)

-- ---- the text

pub length-code : (target : Label → ℕ) (at : ℕ) (ls : List Line) → length (code_from target at ls) ≡ length ls
length-code target at [] = refl
length-code target at (l ∷ ls) = ap suc (length-code target (at + 4) ls)

pub length-words : (ws : List ℕ) → length (word_bytes ws) ≡ 4 * length ws
length-words [] = refl
length-words (w ∷ ws) = omega (arith, length-words ws)

length-in_pages : (bytes : List ℕ) → length (in_pages bytes) ≡ length bytes + (whole_pages (length bytes) - length bytes)
unfolding in_pages
length-in_pages bytes =
    length-append bytes (replicate (whole_pages (length bytes) - length bytes) 0)
    ∙ ap (λ n. length bytes + n) (length-replicate (whole_pages (length bytes) - length bytes) 0)

program_starts : (seed : ℕ) → 78 ≤ length (lines_of_routines (program seed))
unfolding program
program_starts seed = omega (arith, ap length (lines_of-append fixed (numbered NUMBERED (generator_after 4 seed))), length-append (lines_of_routines fixed) (lines_of_routines (numbered NUMBERED (generator_after 4 seed))))

pub record IsTextOf (text : List ℕ) (lines : ℕ) : Type 0 where
  pub pages : IsPages text
  pub most : length text ≤ 12288
  pub holds : 4 * lines ≤ length text

in_whole_pages : (bytes : List ℕ) (n : ℕ) → length bytes ≡ 4 * n → 78 ≤ n → n ≤ 2678 → IsTextOf (in_pages bytes) n
in_whole_pages bytes n long low high =
    let e = length-in_pages bytes in
    record {
      pages = record { some = omega (arith, e, long); whole = omega (arith, e, long); most = omega (arith, e, long) };
      most = omega (arith, e, long);
      holds = omega (arith, e, long);
    }

length-guest_code : (seed : ℕ) → length (guest_code seed) ≡ length (lines_of_routines (program seed))
unfolding guest_code
length-guest_code seed = length-code (target_of (guest_functions seed) (drawn_of seed)) 0 (lines_of_routines (program seed))

pub text_is_whole : (seed : ℕ) → IsTextOf (guest_text seed) (length (lines_of_routines (program seed)))
unfolding guest_text
text_is_whole seed =
    in_whole_pages (word_bytes (map encoded_word (guest_code seed))) (length (lines_of_routines (program seed)))
    (length-words (map encoded_word (guest_code seed)) ∙ ap (λ n. 4 * n) (length-map (guest_code seed) encoded_word ∙ length-guest_code seed))
    (program_starts seed) (length-program seed)

-- ---- the functions

abbrev AreFilled : List Routine → Type 0
AreFilled [] = Unit {0}
AreFilled (r ∷ rs) = (0 < length r.lines) × AreFilled rs

AreFilled-append : (rs qs : List Routine) → AreFilled rs → AreFilled qs → AreFilled (rs ++ qs)
AreFilled-append [] qs h k = k
AreFilled-append (r ∷ rs) qs h k = (h.0, AreFilled-append rs qs h.1 k)

some_drawn_lines : (k s : ℕ) → 0 < length (drawn_lines k s)
unfolding drawn_lines
some_drawn_lines k s = omega (arith, length-append (ENTER ++ idle_lines s ++ call_lines k (behind_idle s)) LEAVE)

numbered_filled : (n s : ℕ) → AreFilled (numbered n s)
unfolding numbered
numbered_filled zero s = tt
numbered_filled (suc n) s = AreFilled-append (numbered n s) (drawn_routine n (state_at n s) ∷ []) (numbered_filled n s) (some_drawn_lines n (state_at n s), tt)

functions_stand : (rs : List Routine) (low n size : ℕ) → low < 4 * n → AreFilled rs → 4 * (n + length (lines_of_routines rs)) ≤ size → low < size → Stand low (functions_behind_lines n rs) size
functions_stand [] low n size above filled room some = some
functions_stand (r ∷ rs) low n size above filled room some =
    let long = length-append r.lines (lines_of_routines rs) in (
      refl,
      above,
      omega arith,
      functions_stand rs (4 * n) (n + length r.lines) size (omega (arith, filled.0)) filled.1 (omega (arith, long, room)) (omega (arith, long, room, filled.0)),
    )

abbrev behind_first : List Routine → List Routine
behind_first [] = []
behind_first (r ∷ rs) = rs

pub program_stands : (seed size : ℕ) → 4 * length (lines_of_routines (program seed)) ≤ size → AreFunctions (guest_functions seed) size
unfolding program guest_functions
program_stands seed size room =
    let behind_boot = behind_first fixed ++ numbered NUMBERED (generator_after 4 seed) in (
      refl,
      refl,
      functions_stand behind_boot 0 25 size (lit< tt)
          (AreFilled-append (behind_first fixed) (numbered NUMBERED (generator_after 4 seed)) (lit< tt, (lit< tt, (lit< tt, (lit< tt, tt)))) (numbered_filled NUMBERED (generator_after 4 seed)))
          (omega (arith, room)) (omega (arith, room)),
    )

length-functions_from : (n : ℕ) (rs : List Routine) → length (functions_behind_lines n rs) ≡ length rs
length-functions_from n [] = refl
length-functions_from n (r ∷ rs) = ap suc (length-functions_from (n + length r.lines) rs)

length-of_numbered : (n s : ℕ) → length (numbered n s) ≡ n
unfolding numbered
length-of_numbered zero s = refl
length-of_numbered (suc n) s = omega (arith, length-append (numbered n s) (drawn_routine n (state_at n s) ∷ []), length-of_numbered n s)

pub program_few : (seed : ℕ) → length (guest_functions seed) ≤ FUNCTIONS_MOST
unfolding program guest_functions
program_few seed =
    omega (arith, length-functions_from 0 (fixed ++ numbered NUMBERED (generator_after 4 seed)), length-append fixed (numbered NUMBERED (generator_after 4 seed)), length-of_numbered NUMBERED (generator_after 4 seed))

pub in_pages-is : (bytes : List ℕ) → in_pages bytes ≡ bytes ++ replicate (whole_pages (length bytes) - length bytes) 0
unfolding in_pages
in_pages-is bytes = refl

pub code_is : (seed : ℕ) (fs : List Function) (drawn : Drawn) (ls : List Line) → fs ≡ functions_behind_lines 0 (program seed) → drawn ≡ drawn_of seed → ls ≡ lines_of_routines (program seed)
    → code_from (target_of fs drawn) 0 ls ≡ guest_code seed
unfolding guest_code guest_functions
code_is seed fs drawn ls a b c =
    ap (λ f. code_from (target_of f drawn) 0 ls) a ∙ ap (λ d. code_from (target_of (functions_behind_lines 0 (program seed)) d) 0 ls) b
    ∙ ap (λ l. code_from (target_of (functions_behind_lines 0 (program seed)) (drawn_of seed)) 0 l) c
