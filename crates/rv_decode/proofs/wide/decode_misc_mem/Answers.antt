use Rattle.std.proofs.Common.{arith, sym, ◌∙◌, refl, bit_and}
use Rattle.rv_decode.specs.Rows.{rows}
use Rattle.rv_decode.proofs.Known.{decode_known, known_fit, not_it}
use Rattle.rv_decode.proofs.wide.decode_misc_mem.Goals as goal

-- Fence
pub returns-in-15 : goal.returns-in-15
unfolding rows known_fit
returns-in-15 c = sym (decode_known 0x707f 0xf c.args.w c.in-15.is)

-- FenceI
pub returns-in-4111 : goal.returns-in-4111
unfolding rows known_fit
returns-in-4111 c = sym (decode_known 0x707f 0x100f c.args.w c.in-4111.is)

-- no row
pub returns-in_default : goal.returns-in_default
unfolding rows known_fit
returns-in_default c =
    sym (decode_known 0x7f 0xf c.args.w c.requires ∙ not_it (bit_and c.args.w 0x707f) 0xf _ _ (omega arith)
    (not_it (bit_and c.args.w 0x707f) 0x100f _ _ (omega arith)
    (refl)))
