use Rattle.std.proofs.Common.{arith, sym, ◌∙◌, refl, bit_and}
use Rattle.std.proofs.lemmas.Int.{to_z-of_z}
use Rattle.rv_decode.specs.Rows.{rows}
use Rattle.rv_decode.proofs.Known.{decode_known, known_fit, not_it}
use Rattle.rv_decode.proofs.wide.decode_load.Goals as goal

-- Lb
pub returns-in-3 : goal.returns-in-3
unfolding rows known_fit
returns-in-3 c = grind (arith, to_z-of_z, decode_known 0x707f 0x3 c.args.w c.in-3.is)

-- Lh
pub returns-in-4099 : goal.returns-in-4099
unfolding rows known_fit
returns-in-4099 c = grind (arith, to_z-of_z, decode_known 0x707f 0x1003 c.args.w c.in-4099.is)

-- Lw
pub returns-in-8195 : goal.returns-in-8195
unfolding rows known_fit
returns-in-8195 c = grind (arith, to_z-of_z, decode_known 0x707f 0x2003 c.args.w c.in-8195.is)

-- Ld
pub returns-in-12291 : goal.returns-in-12291
unfolding rows known_fit
returns-in-12291 c = grind (arith, to_z-of_z, decode_known 0x707f 0x3003 c.args.w c.in-12291.is)

-- Lbu
pub returns-in-16387 : goal.returns-in-16387
unfolding rows known_fit
returns-in-16387 c = grind (arith, to_z-of_z, decode_known 0x707f 0x4003 c.args.w c.in-16387.is)

-- Lhu
pub returns-in-20483 : goal.returns-in-20483
unfolding rows known_fit
returns-in-20483 c = grind (arith, to_z-of_z, decode_known 0x707f 0x5003 c.args.w c.in-20483.is)

-- Lwu
pub returns-in-24579 : goal.returns-in-24579
unfolding rows known_fit
returns-in-24579 c = grind (arith, to_z-of_z, decode_known 0x707f 0x6003 c.args.w c.in-24579.is)

-- no row
pub returns-in_default : goal.returns-in_default
unfolding rows known_fit
returns-in_default c =
    sym (decode_known 0x7f 0x3 c.args.w c.requires ∙ not_it (bit_and c.args.w 0x707f) 0x3 _ _ (omega arith)
    (not_it (bit_and c.args.w 0x707f) 0x1003 _ _ (omega arith)
    (not_it (bit_and c.args.w 0x707f) 0x2003 _ _ (omega arith)
    (not_it (bit_and c.args.w 0x707f) 0x3003 _ _ (omega arith)
    (not_it (bit_and c.args.w 0x707f) 0x4003 _ _ (omega arith)
    (not_it (bit_and c.args.w 0x707f) 0x5003 _ _ (omega arith)
    (not_it (bit_and c.args.w 0x707f) 0x6003 _ _ (omega arith)
    (refl))))))))
