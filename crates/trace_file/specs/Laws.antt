-- Laws of the texts of traces.
use Rattle.std.specs.Prelude.{◌≡◌, ℕ, ◌≤◌, nat_lt, if◌then◌else◌, List, [], ◌++◌, length, Ok, Err}
use Rattle.trace_file.specs.declared.fault.TraceFault.TheVariants.{NotTrace, Truncated}
use Rattle.trace_file.specs.Trace.{Told, text_of_trace, trace_of}
use Rattle.trace_file.specs.Lawful.{IsLawfulTrace}

-- the text of a lawful trace is read as that trace
abbrev pub WrittenIsRead : Type 0
WrittenIsRead = (t : Told) → IsLawfulTrace t → trace_of (text_of_trace t) ≡ Ok t

-- where one text begins another, nothing follows, and the traces are one
abbrev pub NoTextBeginsAnother : Type 0
NoTextBeginsAnother = (a b : Told) (rest : List ℕ) → IsLawfulTrace a → IsLawfulTrace b → text_of_trace b ≡ text_of_trace a ++ rest → (rest ≡ []) × (a ≡ b)

-- a text that breaks off is no trace's: below 9 bytes it does not begin as one, and then it is cut short
abbrev pub ShorterIsRefused : Type 0
ShorterIsRefused = (t : Told) (front back : List ℕ) → IsLawfulTrace t → text_of_trace t ≡ front ++ back → 1 ≤ length back
    → trace_of front ≡ Err (if nat_lt (length front) 9 then NotTrace else Truncated (length front))
