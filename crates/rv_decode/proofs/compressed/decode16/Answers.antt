use Rattle.std.proofs.Common.{arith, sym, refl, [], ◌∷◌}
use Rattle.std.proofs.lemmas.Int.{to_z-of_z}
use Rattle.std.proofs.lemmas.Bool.Decides.{nat_tests}
use Rattle.rv_decode.specs.Rows.{compressed_rows}
use Rattle.rv_decode.proofs.Known.{decode16_known, decode16_none, known_fit}
use Rattle.rv_decode.proofs.compressed.decode16.Goals as goal

pub returns-then-stack_bits-ne0 : goal.returns-then-stack_bits-ne0
unfolding compressed_rows known_fit
returns-then-stack_bits-ne0 c = grind (arith, nat_tests, to_z-of_z, decode16_known 0xe003 0x0 c.args.h c.in-0.is)

pub returns-else-stack_bits-ne0 : goal.returns-else-stack_bits-ne0
unfolding compressed_rows known_fit
returns-else-stack_bits-ne0 c = grind (arith, nat_tests, to_z-of_z, decode16_known 0xe003 0x0 c.args.h c.in-0.is)

pub returns-in-16384 : goal.returns-in-16384
unfolding compressed_rows known_fit
returns-in-16384 c = grind (arith, to_z-of_z, decode16_known 0xe003 0x4000 c.args.h c.in-16384.is)

pub returns-in-24576 : goal.returns-in-24576
unfolding compressed_rows known_fit
returns-in-24576 c = grind (arith, to_z-of_z, decode16_known 0xe003 0x6000 c.args.h c.in-24576.is)

pub returns-in-49152 : goal.returns-in-49152
unfolding compressed_rows known_fit
returns-in-49152 c = grind (arith, to_z-of_z, decode16_known 0xe003 0xc000 c.args.h c.in-49152.is)

pub returns-in-57344 : goal.returns-in-57344
unfolding compressed_rows known_fit
returns-in-57344 c = grind (arith, to_z-of_z, decode16_known 0xe003 0xe000 c.args.h c.in-57344.is)

pub returns-in-1 : goal.returns-in-1
unfolding compressed_rows known_fit
returns-in-1 c = grind (arith, to_z-of_z, decode16_known 0xe003 0x1 c.args.h c.in-1.is)

pub returns-then-rd-ne0 : goal.returns-then-rd-ne0
unfolding compressed_rows known_fit
returns-then-rd-ne0 c = grind (arith, nat_tests, to_z-of_z, decode16_known 0xe003 0x2001 c.args.h c.in-8193.is)

pub returns-else-rd-ne0 : goal.returns-else-rd-ne0
unfolding compressed_rows known_fit
returns-else-rd-ne0 c = grind (arith, nat_tests, to_z-of_z, decode16_known 0xe003 0x2001 c.args.h c.in-8193.is)

pub returns-in-16385 : goal.returns-in-16385
unfolding compressed_rows known_fit
returns-in-16385 c = grind (arith, to_z-of_z, decode16_known 0xe003 0x4001 c.args.h c.in-16385.is)

pub returns-in-40961 : goal.returns-in-40961
unfolding compressed_rows known_fit
returns-in-40961 c = grind (arith, to_z-of_z, decode16_known 0xe003 0xa001 c.args.h c.in-40961.is)

pub returns-in-49153 : goal.returns-in-49153
unfolding compressed_rows known_fit
returns-in-49153 c = grind (arith, to_z-of_z, decode16_known 0xe003 0xc001 c.args.h c.in-49153.is)

pub returns-in-57345 : goal.returns-in-57345
unfolding compressed_rows known_fit
returns-in-57345 c = grind (arith, to_z-of_z, decode16_known 0xe003 0xe001 c.args.h c.in-57345.is)

pub returns-in-2 : goal.returns-in-2
unfolding compressed_rows known_fit
returns-in-2 c = grind (arith, to_z-of_z, decode16_known 0xe003 0x2 c.args.h c.in-2.is)

pub returns-then-rd-ne0-2 : goal.returns-then-rd-ne0-2
unfolding compressed_rows known_fit
returns-then-rd-ne0-2 c = grind (arith, nat_tests, to_z-of_z, decode16_known 0xe003 0x4002 c.args.h c.in-16386.is)

pub returns-else-rd-ne0-2 : goal.returns-else-rd-ne0-2
unfolding compressed_rows known_fit
returns-else-rd-ne0-2 c = grind (arith, nat_tests, to_z-of_z, decode16_known 0xe003 0x4002 c.args.h c.in-16386.is)

pub returns-then-rd-ne0-3 : goal.returns-then-rd-ne0-3
unfolding compressed_rows known_fit
returns-then-rd-ne0-3 c = grind (arith, nat_tests, to_z-of_z, decode16_known 0xe003 0x6002 c.args.h c.in-24578.is)

pub returns-else-rd-ne0-3 : goal.returns-else-rd-ne0-3
unfolding compressed_rows known_fit
returns-else-rd-ne0-3 c = grind (arith, nat_tests, to_z-of_z, decode16_known 0xe003 0x6002 c.args.h c.in-24578.is)

pub returns-in-49154 : goal.returns-in-49154
unfolding compressed_rows known_fit
returns-in-49154 c = grind (arith, to_z-of_z, decode16_known 0xe003 0xc002 c.args.h c.in-49154.is)

pub returns-in-57346 : goal.returns-in-57346
unfolding compressed_rows known_fit
returns-in-57346 c = grind (arith, to_z-of_z, decode16_known 0xe003 0xe002 c.args.h c.in-57346.is)

pub returns-in_default : goal.returns-in_default
unfolding compressed_rows known_fit
returns-in_default c = sym (decode16_none 0xe003 c.args.h (0 ∷ 1 ∷ 2 ∷ 8193 ∷ 16384 ∷ 16385 ∷ 16386 ∷ 24576 ∷ 24577 ∷ 24578 ∷ 32769 ∷ 32770 ∷ 40961 ∷ 49152 ∷ 49153 ∷ 49154 ∷ 57344 ∷ 57345 ∷ 57346 ∷ []) refl
    (omega arith, (omega arith, (omega arith, (omega arith, (omega arith, (omega arith, (omega arith, (omega arith, (omega arith, (omega arith, (omega arith, (omega arith, (omega arith, (omega arith, (omega arith, (omega arith, (omega arith, (omega arith, (omega arith, tt))))))))))))))))))))
