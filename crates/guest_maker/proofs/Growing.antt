-- Programs: what one more function, instruction or state adds.
use Rattle.std.proofs.Common.{◌≡◌, ℕ, suc, ◌+◌, ◌*◌, ◌%◌, ◌<◌, ◌≤◌, pos, List, [], ◌∷◌, ◌++◌, length, vec_len, refl, sym, ap, ◌∙◌, arith, zero, append_assoc, add_assoc, add-one, length-append}
use Rattle.std.specs.Prelude.{flat_map}
use Rattle.std.proofs.lemmas.Grind.{flat_map-append}
use Rattle.std.proofs.lemmas.List.{append-nil}
use Rattle.rv_decode.specs.declared.Inst.TheVariants.{Addi}
use Rattle.guest_input.specs.declared.image.Function.{Function}
use Rattle.guest_maker.specs.declared.line.Line.{Line}
use Rattle.guest_maker.specs.declared.line.Line.TheVariants.{Plain}
use Rattle.guest_maker.specs.declared.program.Program.{Program}
use Rattle.guest_maker.specs.declared.programs.TheConstants.{A2}
use Rattle.guest_maker.specs.Generator.{generator_next, answer, generator_after}
use Rattle.guest_maker.specs.Program.{Routine, IsProgram, function_at_offset, functions_behind_lines, lines_of_routines, idle, state_at, numbered, behind_routine, drawn_routine}

pub after-more : (n s : ℕ) → generator_after (n + 1) s ≡ generator_next (generator_after n s)
after-more n s = rw add-one refl

pub idle-more : (n s : ℕ) → idle (n + 1) s ≡ idle n s ++ Plain (Addi A2 A2 (pos (answer (generator_after (n + 1) s) % 2048))) ∷ []
idle-more n s = rw add-one refl

pub length-idle : (n s : ℕ) → length (idle n s) ≡ n
length-idle zero s = refl
length-idle (suc n) s = length-append (idle n s) _ ∙ ap (λ k. k + 1) (length-idle n s) ∙ add-one n

pub state_at-more : (n s : ℕ) → state_at (n + 1) s ≡ behind_routine n (state_at n s)
unfolding state_at
state_at-more n s = rw add-one refl

pub numbered-more : (n s : ℕ) → numbered (n + 1) s ≡ numbered n s ++ drawn_routine n (state_at n s) ∷ []
unfolding numbered
numbered-more n s = rw add-one refl

pub functions_from-append : (n : ℕ) (rs qs : List Routine) → functions_behind_lines n (rs ++ qs) ≡ functions_behind_lines n rs ++ functions_behind_lines (n + length (lines_of_routines rs)) qs
functions_from-append n [] qs = ap (λ k. functions_behind_lines k qs) (omega arith)
functions_from-append n (r ∷ rs) qs =
    let long : length (r.lines ++ lines_of_routines rs) ≡ length r.lines + length (lines_of_routines rs) = length-append r.lines (lines_of_routines rs) in
    let place : n + length r.lines + length (lines_of_routines rs) ≡ n + length (r.lines ++ lines_of_routines rs) = omega arith in
    ap (λ fs. function_at_offset (4 * n) r.name ∷ fs) (functions_from-append (n + length r.lines) rs qs
    ∙ ap (λ k. functions_behind_lines (n + length r.lines) rs ++ functions_behind_lines k qs) place)

abbrev routine : List ℕ → List Line → Routine
routine name lines = record { name = name; lines = lines }

-- one more function
pub program_grows : (p q : Program) (rs : List Routine) (name : List ℕ) (lines : List Line) → IsProgram p rs → q.lines.items ≡ p.lines.items ++ lines
    → q.functions ≡ p.functions ++ function_at_offset (4 * length p.lines.items) name ∷ [] → IsProgram q (rs ++ routine name lines ∷ [])
program_grows p q rs name lines h grown more = record {
  lines = grown ∙ ap (λ ls. ls ++ lines) h.lines ∙ ap (λ ls. lines_of_routines rs ++ ls) (sym (append-nil lines)) ∙ sym (flat_map-append (λ r. r.lines) rs (routine name lines ∷ []));
  functions = more ∙ ap (λ fs. fs ++ function_at_offset (4 * length p.lines.items) name ∷ []) h.functions
      ∙ ap (λ k. functions_behind_lines 0 rs ++ function_at_offset (4 * k) name ∷ []) (ap length h.lines)
      ∙ ap (λ k. functions_behind_lines 0 rs ++ function_at_offset (4 * k) name ∷ []) (omega arith)
      ∙ sym (functions_from-append 0 rs (routine name lines ∷ []));
}

pub numbered-none : (rs : List Routine) (s : ℕ) → rs ≡ rs ++ numbered 0 s
unfolding numbered
numbered-none rs s = sym (append-nil rs)

pub state_at-none : (s : ℕ) → s ≡ state_at 0 s
unfolding state_at
state_at-none s = refl
