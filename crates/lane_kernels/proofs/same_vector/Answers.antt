use Rattle.std.proofs.Common.{◌≡◌, ◌≢◌, ◌^◌, ◌%◌, ◌-◌, ℕ, eqb, true, false, Bool, refl, sym, ap, subst, ◌∙◌, arith, w16, cond}
use Rattle.std.specs.Prelude.{MatchBool, nat_eq}
use Rattle.std.proofs.lemmas.Bool.Decides.{nat_tests}
use mathlib.Core.Bool.{not}
use mathlib.Core.List.{map}
use mir.Val.{hbits}
use lib.Lanes.{zip2, chunk, mask_l, top}
use Rattle.std.proofs.lemmas.Simd.{tops_compared, length-chunk, length-zip2, mask_l-mod}
use Rattle.lane_kernels.proofs.Lanes.{none_differ, equal_none}
use Rattle.lane_kernels.proofs.same_vector.Goals as goal

pub returns : goal.returns
returns c =
    let xs = chunk c.args.at 32 c.args.a.now in
    let ys = chunk c.args.at 32 c.args.b.now in
    let long-xs = length-chunk c.args.at 32 c.args.a.now c.requires.a in
    let long-ys = length-chunk c.args.at 32 c.args.b.now c.requires.b in
    let differ : ℕ → ℕ → Bool = λ a b. not (eqb a b) in
    let tops = tops_compared w16 differ xs ys in
    let long = length-zip2 differ xs ys (omega (arith, long-xs, long-ys)) in
    let mask : mask_l (map (top (hbits w16)) (zip2 (λ a b. cond (differ a b) (2 ^ 16 - 1) 0) xs ys)) % 2 ^ 64 ≡ mask_l (zip2 differ xs ys) =
    ap (λ ms. mask_l ms % 2 ^ 64) tops ∙ mask_l-mod (zip2 differ xs ys) 64 (omega (arith, long, long-xs)) in
    subst (λ n. MatchBool (nat_eq n 0) (xs ≡ ys) (xs ≢ ys)) (sym mask)
    (elim (nat_eq (mask_l (zip2 differ xs ys)) 0) as (λ t. nat_eq (mask_l (zip2 differ xs ys)) 0 ≡ t → MatchBool t (xs ≡ ys) (xs ≢ ys)) [
      | true ↦ λ t. none_differ xs ys (omega (arith, long-xs, long-ys)) (grind (arith, nat_tests, t))
      | false ↦ λ t e. let z : mask_l (zip2 differ xs ys) ≡ 0 = ap (λ l. mask_l (zip2 differ xs l)) (sym e) ∙ equal_none xs in
          let no : nat_eq (mask_l (zip2 differ xs ys)) 0 ≡ true = rw z refl in
          let clash : true ≡ false = sym no ∙ t in cc
    ] refl)
