-- What a call that reads answers, and what it leaves of the source.
use Rattle.std.specs.Prelude.{◌≡◌, ℕ, ◌<◌, ◌≤◌, List, [], ◌∷◌, ◌++◌, length, Some, Result, Ok, Err, Bool, true, false}
use Rattle.hpf_io.specs.declared.failed.Failed.{Failed}
use Rattle.hpf_io.specs.States.{SourceState}
use Rattle.hpf_io.specs.Counts.{Rose}
use Rattle.hpf_io.specs.Bytes.{Takes, IsOver}
use Rattle.hpf_frame.specs.FrameFile.{number}
use Rattle.hpf_frame.specs.declared.error.InputError.{InputError}
use Rattle.hpf_frame.specs.declared.error.InputError.TheVariants.{Refused, ReadFault}
use Rattle.hpf_frame.specs.declared.error.Next.{Next}
use Rattle.hpf_frame.specs.declared.error.Next.TheVariants.{Frame, End}

-- Where the bytes were refused, P holds of the code and the offset.
abbrev pub OnRefused : {T : Type 0} → Result T InputError → (ℕ → ℕ → Type 0) → Type 0
OnRefused (Ok x) P = Unit {0}
OnRefused (Err (Refused code offset)) P = P code offset
OnRefused (Err ReadFault) P = Unit {0}

-- Where the source failed, P holds.
abbrev pub OnReadFault : {T : Type 0} → Result T InputError → Type 0 → Type 0
OnReadFault (Ok x) P = Unit {0}
OnReadFault (Err (Refused code offset)) P = Unit {0}
OnReadFault (Err ReadFault) P = P

-- With every other answer, P holds.
abbrev pub UnlessReadFault : {T : Type 0} → Result T InputError → Type 0 → Type 0
UnlessReadFault (Ok x) P = P
UnlessReadFault (Err (Refused code offset)) P = P
UnlessReadFault (Err ReadFault) P = Unit {0}

-- A fault of the source was counted, and nothing else.
pub record CountsFault {T : Type 0} (before now : ℕ) (result : Result T InputError) : Type 0 where
  pub failed : OnReadFault result (Rose before now)
  pub same : UnlessReadFault result (now ≡ before)
  pub later : before ≤ now

-- Fewer bytes than the limit were taken, and what the source held is wrong.
pub record TakesWrong (before after : SourceState) (limit : ℕ) (IsWrong : List ℕ → Type 0) : Type 0 where
  pub front : List ℕ
  pub few : length front < limit
  pub taken : Takes before after front
  pub wrong : (rest : List ℕ) → after.left ≡ Some rest → IsWrong (front ++ rest)

-- Where a frame was read, P holds.
abbrev pub OnFrame : Result Next InputError → Type 0 → Type 0
OnFrame (Ok Frame) P = P
OnFrame (Ok End) P = Unit {0}
OnFrame (Err e) P = Unit {0}

-- Where the end was read, P holds.
abbrev pub OnEnd : Result Next InputError → Type 0 → Type 0
OnEnd (Ok Frame) P = Unit {0}
OnEnd (Ok End) P = P
OnEnd (Err e) P = Unit {0}

-- Where no frame was read, P holds.
abbrev pub UnlessFrame : Result Next InputError → Type 0 → Type 0
UnlessFrame (Ok Frame) P = Unit {0}
UnlessFrame (Ok End) P = P
UnlessFrame (Err e) P = P

-- the mark and the number with which a record or the end begins
abbrev pub head_bytes : Next → ℕ → List ℕ
head_bytes Frame count = 1 ∷ number count
head_bytes End count = 0 ∷ number count

-- A front shorter than n was taken, and then the source ended.
pub record EndsWithin (before after : SourceState) (n : ℕ) : Type 0 where
  pub front : List ℕ
  pub few : length front < n
  pub taken : Takes before after front
  pub over : IsOver after

-- One byte was taken.
abbrev pub TakesOne : SourceState → SourceState → Type 0
TakesOne before after = (byte : ℕ) × Takes before after (byte ∷ [])

-- P of what was answered, Q of what was not
abbrev pub Whole : Result Bool Failed → Type 0 → Type 0 → Type 0
Whole (Ok true) P Q = P
Whole (Ok false) P Q = Q
Whole (Err e) P Q = Unit {0}
