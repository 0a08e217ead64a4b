-- The statuses that what was asked for ends with.
use Rattle.std.specs.Prelude.{Ok, Err}
use Rattle.hpf_frame.specs.declared.error.InputError.TheVariants as input
use Rattle.hpf_status.specs.declared.status.Status.{Status}
use Rattle.hpf_status.specs.declared.status.Status.TheVariants as status
use Rattle.hpf_stream.specs.declared.stop.Stop.TheVariants.{Input, Output}
use Rattle.hpf_stream.specs.Ends.{End}

-- how a flow ended
abbrev pub end_status : End → Status
end_status (Ok u) = status.Ok
end_status (Err (Input (input.Refused code offset))) = status.InputRefused code offset
end_status (Err (Input input.ReadFault)) = status.ReadFault
end_status (Err Output) = status.WriteFault

-- What was asked for ended so, or there was too little memory for it.
abbrev pub IsOfDeed : Status → Type 0
IsOfDeed (status.Usage code) = ⊥
IsOfDeed (status.MapRefused code line column) = ⊥
IsOfDeed status.LoadFault = ⊥
IsOfDeed (status.PlanTooLarge elements) = ⊥
IsOfDeed _ = Unit {0}
