-- How faults of traces and scripts are printed: the number, the name, and the number that some hold.
-- Numbers and names are those of this project's table of faults.
use Rattle.std.specs.Prelude.{ℕ, List, ◌++◌, codes}
use Rattle.std.specs.Fmt.{decimal}
use Rattle.trace_file.specs.declared.fault.TraceFault.{TraceFault}
use Rattle.trace_file.specs.declared.fault.TraceFault.TheVariants.{NotTrace, Truncated, BadRun, BadEntry, Trailing, TooLarge, NoMemory, NotScript, BadVcpu, BadTail}

abbrev pub shown_trace_fault : TraceFault → List ℕ
shown_trace_fault NotTrace = codes "1 NotTrace"
shown_trace_fault (Truncated length) = codes "2 Truncated " ++ decimal length
shown_trace_fault (BadRun number) = codes "3 BadRun " ++ decimal number
shown_trace_fault (BadEntry number) = codes "4 BadEntry " ++ decimal number
shown_trace_fault Trailing = codes "5 Trailing"
shown_trace_fault TooLarge = codes "6 TooLarge"
shown_trace_fault NoMemory = codes "7 NoMemory"
shown_trace_fault (NotScript at) = codes "8 NotScript " ++ decimal at
shown_trace_fault (BadVcpu at) = codes "9 BadVcpu " ++ decimal at
shown_trace_fault BadTail = codes "10 BadTail"
