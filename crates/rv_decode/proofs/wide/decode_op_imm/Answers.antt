use Rattle.std.proofs.Common.{arith, sym, ◌∙◌, refl, bit_and}
use Rattle.std.proofs.lemmas.Int.{to_z-of_z}
use Rattle.rv_decode.specs.Rows.{rows}
use Rattle.rv_decode.proofs.Known.{decode_known, known_fit, not_it}
use Rattle.rv_decode.proofs.wide.decode_op_imm.Goals as goal

-- Addi
pub returns-in-19 : goal.returns-in-19
unfolding rows known_fit
returns-in-19 c = grind (arith, to_z-of_z, decode_known 0x707f 0x13 c.args.w c.in-19.is)

-- Slti
pub returns-in-8211 : goal.returns-in-8211
unfolding rows known_fit
returns-in-8211 c = grind (arith, to_z-of_z, decode_known 0x707f 0x2013 c.args.w c.in-8211.is)

-- Sltiu
pub returns-in-12307 : goal.returns-in-12307
unfolding rows known_fit
returns-in-12307 c = grind (arith, to_z-of_z, decode_known 0x707f 0x3013 c.args.w c.in-12307.is)

-- Xori
pub returns-in-16403 : goal.returns-in-16403
unfolding rows known_fit
returns-in-16403 c = grind (arith, to_z-of_z, decode_known 0x707f 0x4013 c.args.w c.in-16403.is)

-- Ori
pub returns-in-24595 : goal.returns-in-24595
unfolding rows known_fit
returns-in-24595 c = grind (arith, to_z-of_z, decode_known 0x707f 0x6013 c.args.w c.in-24595.is)

-- Andi
pub returns-in-28691 : goal.returns-in-28691
unfolding rows known_fit
returns-in-28691 c = grind (arith, to_z-of_z, decode_known 0x707f 0x7013 c.args.w c.in-28691.is)

-- Slli
pub returns-in-4115 : goal.returns-in-4115
unfolding rows known_fit
returns-in-4115 c = grind (arith, to_z-of_z, decode_known 0xfc00707f 0x1013 c.args.w c.in-4115.is)

-- Srli
pub returns-in-20499 : goal.returns-in-20499
unfolding rows known_fit
returns-in-20499 c = grind (arith, to_z-of_z, decode_known 0xfc00707f 0x5013 c.args.w c.in-20499.is)

-- Srai
pub returns-in-1073762323 : goal.returns-in-1073762323
unfolding rows known_fit
returns-in-1073762323 c = grind (arith, to_z-of_z, decode_known 0xfc00707f 0x40005013 c.args.w c.in-1073762323.is)

-- no row
pub returns-in_default-2 : goal.returns-in_default-2
unfolding rows known_fit
returns-in_default-2 c =
    sym (decode_known 0x7f 0x13 c.args.w c.requires ∙ not_it (bit_and c.args.w 0x707f) 0x13 _ _ (omega arith)
    (not_it (bit_and c.args.w 0x707f) 0x2013 _ _ (omega arith)
    (not_it (bit_and c.args.w 0x707f) 0x3013 _ _ (omega arith)
    (not_it (bit_and c.args.w 0x707f) 0x4013 _ _ (omega arith)
    (not_it (bit_and c.args.w 0x707f) 0x6013 _ _ (omega arith)
    (not_it (bit_and c.args.w 0x707f) 0x7013 _ _ (omega arith)
    (not_it (bit_and c.args.w 0xfc00707f) 0x1013 _ _ (omega arith)
    (not_it (bit_and c.args.w 0xfc00707f) 0x5013 _ _ (omega arith)
    (not_it (bit_and c.args.w 0xfc00707f) 0x40005013 _ _ (omega arith)
    (refl))))))))))
