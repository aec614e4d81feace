-- Steps that end at the first fault.
-- What a file gives is written as steps: each is taken where the steps before it gave something.
use Rattle.std.specs.Prelude.{Bool, true, false, Option, Some, None, Result, Ok, Err}

infixl 10 ◌>>=◌
abbrev pub ◌>>=◌ : {A B E : Type 0} → Result A E → (A → Result B E) → Result B E
Ok x >>= f = f x
Err e >>= f = Err e

-- a test that must hold
abbrev pub must : {E : Type 0} → E → Bool → Result Bool E
must e true = Ok true
must e false = Err e

-- something that must be there
abbrev pub or_fault : {A E : Type 0} → E → Option A → Result A E
or_fault e (Some x) = Ok x
or_fault e None = Err e
