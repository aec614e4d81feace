-- Each compressed row is the meaning of the halfwords that fit it, so no two share a halfword.
use Rattle.std.proofs.Common.{◌≡◌, ℕ, ◌-◌, ◌^◌, refl, ◌∙◌, Bool, true, false, cond, eqb, eq-eqb, eqb-true}
use Rattle.std.specs.Prelude.{nat_eq, bit_and, not, Some, All}
use Rattle.rv_decode.specs.Fields.{bits_of}
use Rattle.rv_decode.specs.Rows.{IsOfRow, compressed_rows, decode16_of}
use Rattle.rv_decode.proofs.Known.{decode16_known, known_fit, known_field, and_left}
use Rattle.rv_decode.proofs.Apart.{Each, all_from_each, skip}

chosen : {A : Type 0} (p : Bool) (x y : A) → p ≡ true → cond p x y ≡ x
chosen true x y e = refl
chosen false x y e = absurd (cc)

both_ways : (b : Bool) → b ≡ true → not b ≡ true → ⊥
both_ways true h k = cc
both_ways false h k = cc

-- a halfword whose field is not that of a row is not of it
not_it : (h m v k n x : ℕ) → bits_of m k n ≡ 2 ^ n - 1 → bits_of v k n ≡ x → not (nat_eq (bits_of h k n) x) ≡ true → eqb (bit_and h m) v ≡ true → ⊥
not_it h m v k n x a b c e =
    let same : bits_of h k n ≡ x = known_field h m v k n (eqb-true _ _ e) a ∙ b in
    let yes : nat_eq (bits_of h k n) x ≡ true = eq-eqb _ _ same in
    both_ways _ yes c

each_means : Each (λ r. (h : ℕ) → IsOfRow r h → decode16_of h ≡ Some (r.reads h)) compressed_rows
unfolding compressed_rows known_fit
each_means = (
  (λ h f. decode16_known 0xe003 0x0000 h f.0 ∙ chosen _ _ _ f.1),
  (
    (λ h f. decode16_known 0xe003 0x4000 h f.0),
    (
      (λ h f. decode16_known 0xe003 0x6000 h f.0),
      (
        (λ h f. decode16_known 0xe003 0xc000 h f.0),
        (
          (λ h f. decode16_known 0xe003 0xe000 h f.0),
          (
            (λ h f. decode16_known 0xe003 0x0001 h f.0),
            (
              (λ h f. decode16_known 0xe003 0x2001 h f.0 ∙ chosen _ _ _ f.1),
              (
                (λ h f. decode16_known 0xe003 0x4001 h f.0),
                (
                  (λ h f. decode16_known 0xef83 0x6101 h f.0 ∙ chosen _ _ _ f.1),
                  (
                    (λ h f. decode16_known 0xe003 0x6001 h f.0 ∙ skip _ _ _ _ (not_it h 0xef83 0x6101 7 5 2 refl refl (and_left _ _ f.1)) ∙ chosen _ _ _ f.1),
                    (
                      (λ h f. decode16_known 0xec03 0x8001 h f.0),
                      (
                        (λ h f. decode16_known 0xec03 0x8401 h f.0),
                        (
                          (λ h f. decode16_known 0xec03 0x8801 h f.0),
                          (
                            (λ h f. decode16_known 0xfc63 0x8c01 h f.0),
                            (
                              (λ h f. decode16_known 0xfc63 0x8c21 h f.0),
                              (
                                (λ h f. decode16_known 0xfc63 0x8c41 h f.0),
                                (
                                  (λ h f. decode16_known 0xfc63 0x8c61 h f.0),
                                  (
                                    (λ h f. decode16_known 0xfc63 0x9c01 h f.0),
                                    (
                                      (λ h f. decode16_known 0xfc63 0x9c21 h f.0),
                                      (
                                        (λ h f. decode16_known 0xe003 0xa001 h f.0),
                                        (
                                          (λ h f. decode16_known 0xe003 0xc001 h f.0),
                                          (
                                            (λ h f. decode16_known 0xe003 0xe001 h f.0),
                                            (
                                              (λ h f. decode16_known 0xe003 0x0002 h f.0),
                                              (
                                                (λ h f. decode16_known 0xe003 0x4002 h f.0 ∙ chosen _ _ _ f.1),
                                                (
                                                  (λ h f. decode16_known 0xe003 0x6002 h f.0 ∙ chosen _ _ _ f.1),
                                                  (
                                                    (λ h f. decode16_known 0xf07f 0x8002 h f.0 ∙ chosen _ _ _ f.1),
                                                    (
                                                      (λ h f. decode16_known 0xf003 0x8002 h f.0 ∙ skip _ _ _ _ (not_it h 0xf07f 0x8002 2 5 0 refl refl f.1) ∙ chosen _ _ _ f.1),
                                                      (
                                                        (λ h f. decode16_known 0xffff 0x9002 h f.0),
                                                        (
                                                          (λ h f. decode16_known 0xf07f 0x9002 h f.0 ∙ skip _ true _ _ (not_it h 0xffff 0x9002 7 5 0 refl refl f.1) ∙ chosen _ _ _ f.1),
                                                          (
                                                            (λ h f. decode16_known 0xf003 0x9002 h f.0 ∙ skip _ true _ _ (not_it h 0xffff 0x9002 2 5 0 refl refl f.1) ∙ skip _ _ _ _ (not_it h 0xf07f 0x9002 2 5 0 refl refl f.1) ∙ chosen _ _ _ f.1),
                                                            (
                                                              (λ h f. decode16_known 0xe003 0xc002 h f.0),
                                                              (
                                                                (λ h f. decode16_known 0xe003 0xe002 h f.0),
                                                                tt,
                                                              ),
                                                            ),
                                                          ),
                                                        ),
                                                      ),
                                                    ),
                                                  ),
                                                ),
                                              ),
                                            ),
                                          ),
                                        ),
                                      ),
                                    ),
                                  ),
                                ),
                              ),
                            ),
                          ),
                        ),
                      ),
                    ),
                  ),
                ),
              ),
            ),
          ),
        ),
      ),
    ),
  ),
)

pub halfwords_mean_rows : All (λ r. (h : ℕ) → IsOfRow r h → decode16_of h ≡ Some (r.reads h)) compressed_rows
halfwords_mean_rows k d l = all_from_each (λ r. (h : ℕ) → IsOfRow r h → decode16_of h ≡ Some (r.reads h)) compressed_rows each_means k d l
