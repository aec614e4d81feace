use Rattle.std.proofs.Common.{◌≡◌, ◌/◌, ◌^◌, ◌≤◌, ◌*ℤ◌, ap, ◌∙◌, lit<, arith, ℤ, pos, negsuc, to_z, of_z}
use Rattle.std.specs.Int.{w64, w128}
use Rattle.std.specs.Int.RustNames.{unsigned_abs}
use Rattle.std.proofs.lemmas.Int.{to_z-of_z, fits_signed_mul}
use mir.Val.{SFits}
use Rattle.rv_alu.specs.Alu.{signed_doubleword}
use Rattle.rv_alu.proofs.high_signed.Goals as goal

abs_le : (x : ℤ) → SFits w64 x → unsigned_abs x ≤ 2 ^ 63
abs_le (pos n) f = omega (arith, f.sfits)
abs_le (negsuc n) f = omega (arith, f.sfits)

whole : (x y : ℤ) → SFits w64 x → SFits w64 y →
    of_z w128 (to_z w128 (of_z w128 (to_z w128 (of_z w128 (to_z w64 (of_z w64 x))) *ℤ to_z w128 (of_z w128 (to_z w64 (of_z w64 y)))))) ≡ of_z w128 (x *ℤ y)
whole x y f g =
    let fx : SFits w128 x = record { sfits = omega (arith, f.sfits) } in
    let gy : SFits w128 y = record { sfits = omega (arith, g.sfits) } in
    let low : unsigned_abs x ≤ 2 ^ 63 = abs_le x f in
    let low2 : unsigned_abs y ≤ 2 ^ 63 = abs_le y g in
    let h : SFits w128 (x *ℤ y) = fits_signed_mul w128 x y (2 ^ 63) (2 ^ 63) low low2 (lit< tt) in
    rw (to_z-of_z w64 x f, to_z-of_z w64 y g, to_z-of_z w128 x fx, to_z-of_z w128 y gy, to_z-of_z w128 (x *ℤ y) h)

pub returns : goal.returns
returns c =
    let e = c.cast_unsigned.ensures in
    let f : SFits w64 c.cast_signed.result = record { sfits = c.cast_signed.type_inv } in
    let g : SFits w64 c.cast_signed-2.result = record { sfits = c.cast_signed-2.type_inv } in
    let all = whole c.cast_signed.result c.cast_signed-2.result f g in
    ap (λ n. n / 2 ^ 64) (e ∙ all ∙ ap (λ x. of_z w128 (x *ℤ c.cast_signed-2.result)) c.cast_signed.ensures ∙ ap (λ y. of_z w128 (signed_doubleword c.args.a *ℤ y)) c.cast_signed-2.ensures)
