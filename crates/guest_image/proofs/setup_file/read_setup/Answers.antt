use Rattle.std.proofs.Common.{Result, Ok, Err}
use Rattle.std.specs.Prelude.{IfOk}
use Rattle.guest_image.proofs.Setups.{setup_law}
use Rattle.guest_image.proofs.setup_file.read_setup.Goals as goal

both_ok : {A E : Type 0} (r : Result A E) (P Q R : A → Type 0) → ((x : A) → P x → Q x → R x) → IfOk r P → IfOk r Q → IfOk r R
both_ok (Ok x) P Q R f p q = f x p q
both_ok (Err e) P Q R f p q = tt

pub returns-clause-lawful : goal.returns-clause-lawful
returns-clause-lawful c =
    both_ok c.read_accepted.result _ _ _ (λ s lawful is. setup_law c.args.image.now c.args.bytes.now s lawful is) c.read_accepted.ensures.lawful c.read_accepted.ensures.ok
