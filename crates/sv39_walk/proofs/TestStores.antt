-- What a store keeps, whether its place is in memory or not.
use Rattle.std.proofs.Common.{◌≡◌, ℕ, ◌+◌, true, false, refl, arith}
use Rattle.std.specs.Prelude.{if◌then◌else◌}
use Rattle.fc_numbers.specs.declared.machine.Width.{Width}
use Rattle.guest_ram.specs.Ram.{Ram, AreStampsBelow, is_inside, stored, with_value}
use Rattle.guest_ram.proofs.Laws.{with_value-text, with_value_stamps}

pub stored-text : (ram : Ram) (at : ℕ) (width : Width) (v : ℕ) → (stored ram at width v).text ≡ ram.text
stored-text ram at width v =
    elim (is_inside ram at) as (λ b. (if b then with_value ram at width v else ram).text ≡ ram.text) [ true ↦ with_value-text ram at width v | false ↦ refl ]

pub stored_stamps : (ram : Ram) (at : ℕ) (width : Width) (v n : ℕ) → AreStampsBelow ram n → AreStampsBelow (stored ram at width v) (n + 1)
stored_stamps ram at width v n below =
    elim (is_inside ram at) as (λ b. AreStampsBelow (if b then with_value ram at width v else ram) (n + 1)) [
      | true ↦ with_value_stamps ram at width v n below
      | false ↦ λ frame. omega (arith, below frame)
    ]
