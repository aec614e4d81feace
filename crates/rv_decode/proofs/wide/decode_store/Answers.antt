use Rattle.std.proofs.Common.{arith, sym, ◌∙◌, refl, bit_and}
use Rattle.std.proofs.lemmas.Int.{to_z-of_z}
use Rattle.rv_decode.specs.Rows.{rows}
use Rattle.rv_decode.proofs.Known.{decode_known, known_fit, not_it}
use Rattle.rv_decode.proofs.wide.decode_store.Goals as goal

-- Sb
pub returns-in-35 : goal.returns-in-35
unfolding rows known_fit
returns-in-35 c = grind (arith, to_z-of_z, decode_known 0x707f 0x23 c.args.w c.in-35.is)

-- Sh
pub returns-in-4131 : goal.returns-in-4131
unfolding rows known_fit
returns-in-4131 c = grind (arith, to_z-of_z, decode_known 0x707f 0x1023 c.args.w c.in-4131.is)

-- Sw
pub returns-in-8227 : goal.returns-in-8227
unfolding rows known_fit
returns-in-8227 c = grind (arith, to_z-of_z, decode_known 0x707f 0x2023 c.args.w c.in-8227.is)

-- Sd
pub returns-in-12323 : goal.returns-in-12323
unfolding rows known_fit
returns-in-12323 c = grind (arith, to_z-of_z, decode_known 0x707f 0x3023 c.args.w c.in-12323.is)

-- no row
pub returns-in_default : goal.returns-in_default
unfolding rows known_fit
returns-in_default c =
    sym (decode_known 0x7f 0x23 c.args.w c.requires ∙ not_it (bit_and c.args.w 0x707f) 0x23 _ _ (omega arith)
    (not_it (bit_and c.args.w 0x707f) 0x1023 _ _ (omega arith)
    (not_it (bit_and c.args.w 0x707f) 0x2023 _ _ (omega arith)
    (not_it (bit_and c.args.w 0x707f) 0x3023 _ _ (omega arith)
    (refl)))))
