-- What the program does, from the words of its command line to the number that it ends with.
use Rattle.std.specs.Prelude.{◌≡◌, ℕ, List, Result, Ok, Err}
use Rattle.hpf_io.specs.States.{LoaderState}
use Rattle.hpf_io.specs.Writes.{Writes}
use Rattle.hpf_io.specs.declared.failed.Failed.{Failed}
use Rattle.hpf_status.specs.Statuses.{words_status}
use Rattle.hpf_status.specs.StatusText.{status_number, status_text}
use Rattle.hpf_status.specs.declared.status.Status.{Status}
use Rattle.hpf_stream.specs.Outside.{Outside, Moment}
use Rattle.hpf_words.specs.declared.refusal.WordsError.{WordsError}
use Rattle.hpf_cmd.specs.Does.{Untouched}
use Rattle.hpf_cmd.specs.Promises.{Promises}

-- The call for these words kept its promises; or the words couldn't be read, and nothing was touched.
abbrev pub Called : {W L S K N : Type 0} → (W → List (List ℕ)) → (L → LoaderState) → Outside S K N → Result W WordsError
    → L → L → Moment S K N → Moment S K N → Status → Type 0
Called spelled l o (Ok words) before after was now end = Promises l o (spelled words) before after was now end
Called spelled l o (Err e) before after was now end =
    (end ≡ words_status e) × (after ≡ before) × Untouched was now

-- The call was made, and then the line that tells its end was written to notes, as far as notes took it. The answer is
-- the number of the end.
pub record Runs {W L S K N : Type 0} (spelled : W → List (List ℕ)) (l : L → LoaderState) (o : Outside S K N)
    (words : Result W WordsError) (before after : L) (was now : Moment S K N) (answer : ℕ) : Type 0 where
  pub end : Status
  pub called : Moment S K N
  pub call : Called spelled l o words before after was called end
  pub frames : now.frames ≡ called.frames
  pub out : now.out ≡ called.out
  pub told : (result : Result (Unit {0}) Failed)
      × Writes (o.notes called.notes) (o.notes now.notes) result (status_text end)
  pub number : answer ≡ status_number end
