-- How a call of the program ends.
use Rattle.std.specs.Prelude.{◌≡◌, ◌≢◌, ◌⊎◌, ℕ}
use Rattle.hpf_status.specs.declared.status.Status.{Status}
use Rattle.hpf_status.specs.declared.status.Status.TheVariants.{LoadFault, OutOfMemory, InputRefused}

-- The call has an answer: the map was loaded, and there was memory enough.
pub record IsAnswered (end : Status) : Type 0 where
  pub loaded : end ≢ LoadFault
  pub room : end ≢ OutOfMemory

-- The call has none.
abbrev pub IsUnanswered : Status → Type 0
IsUnanswered end = (end ≡ LoadFault) ⊎ (end ≡ OutOfMemory)

-- It ended so, or for want of memory.
abbrev pub OrMemory : Status → Type 0 → Type 0
OrMemory end P = P ⊎ (end ≡ OutOfMemory)

-- The input was refused.
abbrev pub IsRefusal : Status → Type 0
IsRefusal end = (code : ℕ) × (offset : ℕ) × (end ≡ InputRefused code offset)
