-- Forms: how a value is spelt as bytes, and what is read at the front of bytes, or why reading stops.
-- A form says both at once, so that a format is one expression made of the forms below.
use Rattle.std.specs.Prelude.{ℕ, zero, suc, nat_lt, if◌then◌else◌, List, [], ◌∷◌, ◌++◌, length, take, drop, bytes_eq, Option, Some, None, Result, Ok, Err}
use Rattle.std.specs.Int.{Width, byte_len, from_le_bytes, to_le_bytes}
use Rattle.trace_file.specs.declared.fault.TraceFault.{TraceFault}
use Rattle.trace_file.specs.declared.halt.Halt.{Halt}
use Rattle.trace_file.specs.declared.halt.Halt.TheVariants.{Memory, Short, Fault}

-- a value and the bytes behind it, or why there is none
abbrev pub Reading : Type 0 → Type 0
Reading A = Result (A × List ℕ) Halt

pub record Form (A : Type 0) : Type 0 where
  pub spell : A → List ℕ
  pub read : List ℕ → Reading A

-- a step that is taken where the step before gave something
infixl 10 ◌>>=◌
abbrev pub ◌>>=◌ : {A B : Type 0} → Result A Halt → (A → Result B Halt) → Result B Halt
(Ok x) >>= f = f x
(Err why) >>= f = Err why

-- a number, the lowest byte first
abbrev pub number : Width → Form ℕ
number w = record {
  spell = λ n. to_le_bytes w n;
  read = λ bytes. if nat_lt (length bytes) (byte_len w) then Err Short else Ok (from_le_bytes w (take (byte_len w) bytes), drop (byte_len w) bytes);
}

-- so many bytes as they are
abbrev pub raw : ℕ → Form (List ℕ)
raw n = record {
  spell = λ bytes. bytes;
  read = λ bytes. if nat_lt (length bytes) n then Err Short else Ok (take n bytes, drop n bytes);
}

-- one after the other; what the second is may hang on the first
abbrev pub both : {A B : Type 0} → Form A → (A → Form B) → Form (A × B)
both f g = record {
  spell = λ x. f.spell x.0 ++ (g x.0).spell x.1;
  read = λ bytes. f.read bytes >>= λ a. (g a.0).read a.1 >>= λ b. Ok ((a.0, b.0), b.1);
}

abbrev pub unless : {A : Type 0} → Option TraceFault → A → Result A Halt
unless None x = Ok x
unless (Some fault) x = Err (Fault fault)

-- the part is tested for its own fault once it is read whole
abbrev pub checked : {A : Type 0} → (A → Option TraceFault) → Form A → Form A
checked fault f = record { spell = f.spell; read = λ bytes. f.read bytes >>= λ a. unless (fault a.0) a }

-- the same bytes, for what is made of a value and gives it back
abbrev pub seen : {A B : Type 0} → (A → B) → (B → A) → Form A → Form B
seen make parts f = record { spell = λ b. f.spell (parts b); read = λ bytes. f.read bytes >>= λ a. Ok (make a.0, a.1) }

-- behind these very bytes; where the bytes do not begin so, the fault
abbrev pub behind : {A : Type 0} → List ℕ → TraceFault → Form A → Form A
behind text fault f = record {
  spell = λ a. text ++ f.spell a;
  read = λ bytes. if bytes_eq (take (length text) bytes) text then f.read (drop (length text) bytes) else Err (Fault fault);
}

abbrev pub short_is : {A : Type 0} → TraceFault → Result A Halt → Result A Halt
short_is fault (Ok x) = Ok x
short_is fault (Err Memory) = Err Memory
short_is fault (Err Short) = Err (Fault fault)
short_is fault (Err (Fault own)) = Err (Fault own)

-- where the bytes end inside it, the fault
abbrev pub whole : {A : Type 0} → TraceFault → Form A → Form A
whole fault f = record { spell = f.spell; read = λ bytes. short_is fault (f.read bytes) }

-- part k is a form that may hang on k and on s, which `next` makes of the parts before
module _ {A S : Type 0} (item : ℕ → S → Form A) (next : S → A → S) where
  unfoldable pub spell_items : ℕ → S → List A → List ℕ
  spell_items k s [] = []
  spell_items k s (a ∷ xs) = (item k s).spell a ++ spell_items (suc k) (next s a) xs

  unfoldable pub read_items : ℕ → ℕ → S → List ℕ → Reading (List A)
  read_items zero k s bytes = Ok ([], bytes)
  read_items (suc n) k s bytes = (item k s).read bytes >>= λ a. read_items n (suc k) (next s a.0) a.1 >>= λ rest. Ok (a.0 ∷ rest.0, rest.1)

-- n parts, numbered from k on
abbrev pub items : {A S : Type 0} → (ℕ → S → Form A) → (S → A → S) → ℕ → ℕ → S → Form (List A)
items item next n k s = record { spell = λ xs. spell_items item next k s xs; read = λ bytes. read_items item next n k s bytes }

-- n times the same
abbrev pub repeated_form : {A : Type 0} → ℕ → Form A → Form (List A)
repeated_form n f = items {S = Unit {0}} (λ _ _. f) (λ _ _. tt) n 0 tt

-- how many, and then so many parts
abbrev pub counted_items : {A S : Type 0} → Form ℕ → (ℕ → S → Form A) → (S → A → S) → S → Form (List A)
counted_items count item next s = seen (λ x. x.1) (λ xs. (length xs, xs)) (both count (λ n. items item next n 0 s))
