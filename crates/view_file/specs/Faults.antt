-- How faults of views are printed: the number, the name, and the range and the offset where no function starts.
-- Numbers and names are those of this project's table of faults.
use Rattle.std.specs.Prelude.{ℕ, List, ◌++◌, codes}
use Rattle.std.specs.Fmt.{decimal}
use Rattle.view_file.specs.declared.fault.ViewFault.{ViewFault}
use Rattle.view_file.specs.declared.fault.ViewFault.TheVariants.{NotJson, Shape, OtherText, UnknownFunction, TooManyApps, BadName, NoMemory}

abbrev pub shown_views_fault : ViewFault → List ℕ
shown_views_fault NotJson = codes "1 NotJson"
shown_views_fault Shape = codes "2 Shape"
shown_views_fault OtherText = codes "3 OtherText"
shown_views_fault (UnknownFunction at) = codes "4 UnknownFunction " ++ decimal at.range ++ codes " " ++ decimal at.offset
shown_views_fault TooManyApps = codes "5 TooManyApps"
shown_views_fault BadName = codes "6 BadName"
shown_views_fault NoMemory = codes "7 NoMemory"
