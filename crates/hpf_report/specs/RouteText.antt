-- A route as it is printed, and the planned number of elements (this project defines them).
use Rattle.std.specs.Prelude.{ℕ, List, ◌++◌, length, codes}
use Rattle.std.specs.Fmt.{decimal}
use Rattle.std.specs.List.{flat_map}
use Rattle.hpf_sched.specs.declared.step.Move.{Move}
use Rattle.hpf_sched.specs.declared.step.Step.{Step}
use Rattle.hpf_sched.specs.Moves.{runs}

-- the line of a route, as `hop 0 from 0 to 1 elements 8 runs 4`: its hop, its sender, its receiver, and how much goes
abbrev pub route_line : ℕ → ℕ → ℕ → List Move → List ℕ
route_line hop p q route = codes "hop " ++ decimal hop ++ codes " from " ++ decimal p ++ codes " to " ++ decimal q
    ++ codes " elements " ++ decimal (length route) ++ codes " runs " ++ decimal (length (runs route)) ++ codes "\n"

-- the line of a run, as `run 2 0 2`: the sender's place, the receiver's place, and the number of elements
abbrev pub run_line : Step → List ℕ
run_line step = codes "run " ++ decimal step.from ++ codes " " ++ decimal step.to ++ codes " " ++ decimal step.length ++ codes "\n"

-- the line of a route, and those of its runs in order
abbrev pub route_text : ℕ → ℕ → ℕ → List Move → List ℕ
route_text hop p q route = route_line hop p q route ++ flat_map run_line (runs route)

-- `planned 224`
abbrev pub planned_line : ℕ → List ℕ
planned_line elements = codes "planned " ++ decimal elements ++ codes "\n"
