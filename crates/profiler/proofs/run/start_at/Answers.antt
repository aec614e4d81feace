use Rattle.std.proofs.Common.{◌≡◌, ℕ, zero, suc, ◌<◌, ◌≤◌, List, [], ◌∷◌, length, get_or, refl, ap, sym, ◌∙◌, arith, Some, None}
use Rattle.std.specs.Prelude.{slice_get}
use Rattle.guest_input.specs.declared.image.Function.{Function}
use Rattle.guest_input.specs.Accepted.{starts_of}
use Rattle.profiler.proofs.run.start_at.Goals as goal

nth : (functions : List Function) (n : ℕ) (f : Function) → n < length functions → f ≡ get_or functions n f → Some f.at ≡ slice_get (starts_of functions) n
nth [] n f within is = absurd (omega (arith, within))
nth (x ∷ xs) zero f within is = ap (λ (g : Function). Some g.at) is
nth (x ∷ xs) (suc n) f within is = nth xs n f (omega (arith, within)) is

past : (functions : List Function) (n : ℕ) → length functions ≤ n → None ≡ slice_get (starts_of functions) n
past [] zero beyond = refl
past [] (suc n) beyond = refl
past (x ∷ xs) zero beyond = absurd (omega (arith, beyond))
past (x ∷ xs) (suc n) beyond = past xs n (omega (arith, beyond))

pub returns-then-n-functions : goal.returns-then-n-functions
returns-then-n-functions c =
    ap (λ (g : Function). Some g.at) (sym c.index-functions-n.is)
    ∙ nth c.args.functions.now c.args.n c.index-functions-n.result (omega arith) c.index-functions-n.is

pub returns-else-n-functions : goal.returns-else-n-functions
returns-else-n-functions c = past c.args.functions.now c.args.n (omega arith)
