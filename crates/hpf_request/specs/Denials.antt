-- The statuses by which nothing that was asked for is begun.
use Rattle.std.specs.Prelude.{◌≡◌, ◌≢◌, ◌⊎◌}
use Rattle.hpf_status.specs.declared.status.Status.{Status}
use Rattle.hpf_status.specs.declared.status.Status.TheVariants.{Usage, MapRefused, PlanTooLarge, LoadFault, OutOfMemory}

-- The words, the load or the text were refused, or there was too little memory.
abbrev pub IsDenial : Status → Type 0
IsDenial (Usage code) = Unit {0}
IsDenial (MapRefused code line column) = Unit {0}
IsDenial (PlanTooLarge elements) = Unit {0}
IsDenial LoadFault = Unit {0}
IsDenial OutOfMemory = Unit {0}
IsDenial _ = ⊥

-- The words alone denied it.
abbrev pub IsOfWords : Status → Type 0
IsOfWords (Usage code) = (code ≡ 1) ⊎ (code ≡ 9)
IsOfWords OutOfMemory = Unit {0}
IsOfWords _ = ⊥

-- The text denied it, or what the words ask of it can't be done.
abbrev pub IsOfText : Status → Type 0
IsOfText (Usage code) = (code ≢ 1) × (code ≢ 9)
IsOfText (MapRefused code line column) = Unit {0}
IsOfText (PlanTooLarge elements) = Unit {0}
IsOfText OutOfMemory = Unit {0}
IsOfText _ = ⊥
