use Rattle.std.proofs.Common.{arith}
use Rattle.std.proofs.lemmas.Int.{to_z-of_z}
use Rattle.rv_decode.specs.Rows.{compressed_rows}
use Rattle.rv_decode.proofs.Known.{decode16_known, known_fit}
use Rattle.rv_decode.proofs.compressed.decode_arithmetic.Goals as goal

pub returns-in-32769 : goal.returns-in-32769
unfolding compressed_rows known_fit
returns-in-32769 c = grind (arith, to_z-of_z, decode16_known 0xec03 0x8001 c.args.h c.in-32769.is)

pub returns-in-33793 : goal.returns-in-33793
unfolding compressed_rows known_fit
returns-in-33793 c = grind (arith, to_z-of_z, decode16_known 0xec03 0x8401 c.args.h c.in-33793.is)

pub returns-in-34817 : goal.returns-in-34817
unfolding compressed_rows known_fit
returns-in-34817 c = grind (arith, to_z-of_z, decode16_known 0xec03 0x8801 c.args.h c.in-34817.is)

pub returns-in-35841 : goal.returns-in-35841
unfolding compressed_rows known_fit
returns-in-35841 c = grind (arith, to_z-of_z, decode16_known 0xfc63 0x8c01 c.args.h c.in-35841.is)

pub returns-in-35873 : goal.returns-in-35873
unfolding compressed_rows known_fit
returns-in-35873 c = grind (arith, to_z-of_z, decode16_known 0xfc63 0x8c21 c.args.h c.in-35873.is)

pub returns-in-35905 : goal.returns-in-35905
unfolding compressed_rows known_fit
returns-in-35905 c = grind (arith, to_z-of_z, decode16_known 0xfc63 0x8c41 c.args.h c.in-35905.is)

pub returns-in-35937 : goal.returns-in-35937
unfolding compressed_rows known_fit
returns-in-35937 c = grind (arith, to_z-of_z, decode16_known 0xfc63 0x8c61 c.args.h c.in-35937.is)

pub returns-in-39937 : goal.returns-in-39937
unfolding compressed_rows known_fit
returns-in-39937 c = grind (arith, to_z-of_z, decode16_known 0xfc63 0x9c01 c.args.h c.in-39937.is)

pub returns-in-39969 : goal.returns-in-39969
unfolding compressed_rows known_fit
returns-in-39969 c = grind (arith, to_z-of_z, decode16_known 0xfc63 0x9c21 c.args.h c.in-39969.is)

pub returns-in_default-2 : goal.returns-in_default-2
unfolding compressed_rows known_fit
returns-in_default-2 c = grind (arith, decode16_known 0xe003 0x8001 c.args.h c.requires)
