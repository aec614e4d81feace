use Rattle.std.proofs.Common.{◌≡◌, ◌-◌, ◌++◌, length, map, replicate, Some, ap, sym, subst, ◌∙◌, arith}
use Rattle.std.proofs.lemmas.List.{length-map}
use Rattle.rv_decode.specs.Rows.{decode_of}
use Rattle.elf_read.specs.Kernel.{whole_pages}
use Rattle.guest_maker.specs.Program.{program, drawn_of, functions_behind_lines, lines_of_routines}
use Rattle.guest_maker.specs.Text.{target_of, code_from, encoded_word, word_bytes, AllFit, Decodes}
use Rattle.guest_maker.specs.Guest.{guest_code}
use Rattle.guest_maker.proofs.Made.{program_fits, length-words, length-code, in_pages-is, code_is}
use Rattle.guest_maker.proofs.Words.{read_back}
use Rattle.guest_maker.proofs.assembled.Goals as goal

pub words-requires-clause-fit : goal.words-requires-clause-fit
words-requires-clause-fit c =
    let seed = c.args.seed in
    let drawn = c.in_ok-program.drawn in
    let functions = c.as_slice.ensures ∙ c.in_ok-program.ensures.program.functions in
    let lines = c.as_slice-2.ensures.value ∙ c.in_ok-program.ensures.program.lines in
    subst (λ fs. AllFit (target_of fs drawn) 0 c.as_slice-2.result.now) (sym functions)
    (subst (λ ls. AllFit (target_of (functions_behind_lines 0 (program seed)) drawn) 0 ls) (sym lines) (program_fits seed drawn))

pub fill_pages-requires : goal.fill_pages-requires
fill_pages-requires c =
    let target = target_of c.as_slice.result.now c.in_ok-program.drawn in
    let lines = c.as_slice-2.result.now in
    omega (
      arith,
      c.in_ok-text.text.ok.0,
      ap length c.in_ok-text.ensures,
      length-words c.as_slice-3.result.now,
      ap length c.as_slice-3.ensures.value,
      ap length c.in_ok-words.ensures.value,
      length-map (code_from target 0 lines) encoded_word,
      length-code target 0 lines,
      c.as_slice-2.ensures.len,
      c.in_ok-program.ensures.size,
    )

pub returns-clause-decodes : goal.returns-clause-decodes
returns-clause-decodes c =
    let seed = c.args.seed in
    let words = c.in_ok-words.words.items in
    let bytes = c.in_ok-text.text.items in
    let zeros = replicate (whole_pages (length bytes) - length bytes) 0 in
    let written : bytes ≡ word_bytes words = c.in_ok-text.ensures ∙ ap word_bytes c.as_slice-3.ensures.value in
    let text : c.fill_pages.new.bytes.items ≡ word_bytes words ++ zeros = c.in_ok-fill_pages.ensures ∙ in_pages-is bytes ∙ ap (λ b. b ++ zeros) written in
    let code = code_is seed c.as_slice.result.now c.in_ok-program.drawn c.as_slice-2.result.now
    (c.as_slice.ensures ∙ c.in_ok-program.ensures.program.functions) c.in_ok-program.ensures.drawn
    (c.as_slice-2.ensures.value ∙ c.in_ok-program.ensures.program.lines) in
    let means : map decode_of words ≡ map Some (guest_code seed) = c.in_ok-words.ensures.means ∙ ap (map Some) code in
    subst (λ t. Decodes t (guest_code seed)) (sym text) (read_back decode_of words (guest_code seed) zeros means c.in_ok-words.ensures.small)
