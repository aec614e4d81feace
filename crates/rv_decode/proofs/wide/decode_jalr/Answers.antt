use Rattle.std.proofs.Common.{arith, sym, ◌∙◌, refl, bit_and}
use Rattle.std.proofs.lemmas.Int.{to_z-of_z}
use Rattle.rv_decode.specs.Rows.{rows}
use Rattle.rv_decode.proofs.Known.{decode_known, known_fit, not_it}
use Rattle.rv_decode.proofs.wide.decode_jalr.Goals as goal

-- Jalr
pub returns-in-103 : goal.returns-in-103
unfolding rows known_fit
returns-in-103 c = grind (arith, to_z-of_z, decode_known 0x707f 0x67 c.args.w c.in-103.is)

-- no row
pub returns-in_default : goal.returns-in_default
unfolding rows known_fit
returns-in_default c =
    sym (decode_known 0x7f 0x67 c.args.w c.requires ∙ not_it (bit_and c.args.w 0x707f) 0x67 _ _ (omega arith)
    (refl))
