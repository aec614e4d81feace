-- What a reader returned, against what the form gives: the same value, seen by a view, or the same cause.
-- Want of memory alone is free.
use Rattle.std.specs.Prelude.{◌≡◌, Result, Ok, Err}
use Rattle.trace_file.specs.declared.fault.TraceFault.{TraceFault}
use Rattle.trace_file.specs.declared.fault.TraceFault.TheVariants.{NoMemory}
use Rattle.trace_file.specs.declared.halt.Halt.{Halt}
use Rattle.trace_file.specs.declared.halt.Halt.TheVariants.{Memory}

abbrev pub Halts : {Y : Type 0} → Halt → Result Y Halt → Type 0
Halts Memory read = Unit {0}
Halts why read = read ≡ Err why

-- for a part
abbrev pub Gives : {X Y : Type 0} → (X → Y) → Result X Halt → Result Y Halt → Type 0
Gives view (Ok x) read = read ≡ Ok (view x)
Gives view (Err why) read = Halts why read

abbrev pub IsSameRefusal : {Y : Type 0} → TraceFault → Result Y TraceFault → Type 0
IsSameRefusal NoMemory read = Unit {0}
IsSameRefusal fault read = read ≡ Err fault

-- for a whole file
abbrev pub Answers : {X Y : Type 0} → (X → Y) → Result X TraceFault → Result Y TraceFault → Type 0
Answers view (Ok x) read = read ≡ Ok (view x)
Answers view (Err fault) read = IsSameRefusal fault read
