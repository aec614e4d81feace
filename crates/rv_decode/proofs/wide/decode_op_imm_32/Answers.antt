use Rattle.std.proofs.Common.{arith, sym, ◌∙◌, refl, bit_and}
use Rattle.std.proofs.lemmas.Int.{to_z-of_z}
use Rattle.rv_decode.specs.Rows.{rows}
use Rattle.rv_decode.proofs.Known.{decode_known, known_fit, not_it}
use Rattle.rv_decode.proofs.wide.decode_op_imm_32.Goals as goal

-- Addiw
pub returns-in-27 : goal.returns-in-27
unfolding rows known_fit
returns-in-27 c = grind (arith, to_z-of_z, decode_known 0x707f 0x1b c.args.w c.in-27.is)

-- Slliw
pub returns-in-4123 : goal.returns-in-4123
unfolding rows known_fit
returns-in-4123 c = grind (arith, to_z-of_z, decode_known 0xfe00707f 0x101b c.args.w c.in-4123.is)

-- Srliw
pub returns-in-20507 : goal.returns-in-20507
unfolding rows known_fit
returns-in-20507 c = grind (arith, to_z-of_z, decode_known 0xfe00707f 0x501b c.args.w c.in-20507.is)

-- Sraiw
pub returns-in-1073762331 : goal.returns-in-1073762331
unfolding rows known_fit
returns-in-1073762331 c = grind (arith, to_z-of_z, decode_known 0xfe00707f 0x4000501b c.args.w c.in-1073762331.is)

-- no row
pub returns-in_default-2 : goal.returns-in_default-2
unfolding rows known_fit
returns-in_default-2 c =
    sym (decode_known 0x7f 0x1b c.args.w c.requires ∙ not_it (bit_and c.args.w 0x707f) 0x1b _ _ (omega arith)
    (not_it (bit_and c.args.w 0xfe00707f) 0x101b _ _ (omega arith)
    (not_it (bit_and c.args.w 0xfe00707f) 0x501b _ _ (omega arith)
    (not_it (bit_and c.args.w 0xfe00707f) 0x4000501b _ _ (omega arith)
    (refl)))))
