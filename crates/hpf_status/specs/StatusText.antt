-- The statuses that the program ends with, as numbers and as lines. This project defines them.
use Rattle.std.specs.Prelude.{ℕ, List, [], ◌∷◌, ◌++◌, codes, Option, Some, None}
use Rattle.std.specs.Fmt.{decimal}
use Rattle.hpf_status.specs.declared.status.Status.{Status}
use Rattle.hpf_status.specs.declared.status.Status.TheVariants.{Ok, Usage, MapRefused, InputRefused, PlanTooLarge, ReadFault, WriteFault, LoadFault, OutOfMemory}
use Rattle.hpf_status.specs.Names.{map_names, input_names, name_in}

-- the number that the program exits with
abbrev pub status_number : Status → ℕ
status_number Ok = 0
status_number (Usage code) = 1
status_number (MapRefused code line column) = 2
status_number (InputRefused code offset) = 3
status_number (PlanTooLarge elements) = 4
status_number ReadFault = 5
status_number WriteFault = 6
status_number LoadFault = 7
status_number OutOfMemory = 8

-- a blank and the name, where there is one
abbrev pub named : Option (List ℕ) → List ℕ
named None = []
named (Some name) = 32 ∷ name

-- what the command line looks like
abbrev pub usage : List ℕ
usage = codes "hpfturn ACTION MAP [NAME] [--workers N] [--stage N] [--proc N] [--seed N] [--frames N]"

-- the line for the reader of notes
abbrev pub status_text : Status → List ℕ
status_text Ok = []
status_text (Usage code) = codes "usage " ++ decimal code ++ codes ": " ++ usage ++ codes "\n"
status_text (MapRefused code line column) =
    codes "map refused " ++ decimal code ++ named (name_in map_names code) ++ codes " at " ++ decimal line
    ++ codes ":" ++ decimal column ++ codes "\n"
status_text (InputRefused code offset) =
    codes "input refused " ++ decimal code ++ named (name_in input_names code) ++ codes " at " ++ decimal offset
    ++ codes "\n"
status_text (PlanTooLarge elements) = codes "plan too large: " ++ decimal elements ++ codes " elements\n"
status_text ReadFault = codes "read fault\n"
status_text WriteFault = codes "write fault\n"
status_text LoadFault = codes "load fault\n"
status_text OutOfMemory = codes "out of memory\n"
