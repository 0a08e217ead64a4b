-- Whose count of faults rose, by the status: that of the frames, of out or of notes. Where no row says so, none did.
use Rattle.std.specs.Prelude.{◌⊎◌, ℕ, List, length}
use Rattle.hpf_io.specs.Counts.{Rose}
use Rattle.hpf_io.specs.States.{IsSure}
use Rattle.hpf_request.specs.Deed.{Deed, ReadsFrames, TellsNotes}
use Rattle.hpf_status.specs.declared.status.Status.{Status}
use Rattle.hpf_status.specs.declared.status.Status.TheVariants.{ReadFault, WriteFault}
use Rattle.hpf_stream.specs.Outside.{Outside, Moment, FramesRise, OutRises, NotesRise, FramesStay, OutStays, NotesStay}

-- of frames at a write that failed nothing is said here
abbrev pub Causes : {S K N : Type 0} → Outside S K N → Moment S K N → Moment S K N → Status → Type 0
Causes o was now ReadFault = FramesRise o was now × OutStays o was now × NotesStay o was now
Causes o was now WriteFault = (OutRises o was now × NotesStay o was now) ⊎ (OutStays o was now × NotesRise o was now)
Causes o was now _ = FramesStay o was now × OutStays o was now × NotesStay o was now

-- No count rose of what the deed uses: of the frames where it reads them, of out, and of notes where it has lines for
-- them.
pub record NoneRises {S K N : Type 0} (o : Outside S K N) (was now : Moment S K N) (deed : Deed) : Type 0 where
  pub frames : ReadsFrames deed → ¬ Rose (o.frames was.frames).faults (o.frames now.frames).faults
  pub out : ¬ Rose (o.out was.out).faults (o.out now.out).faults
  pub notes : TellsNotes deed → ¬ Rose (o.notes was.notes).faults (o.notes now.notes).faults

-- Nothing that the deed uses can fail: no read did, out is sure to take the text, and notes the lines.
pub record IsSafe {S K N : Type 0} (o : Outside S K N) (was now : Moment S K N) (deed : Deed)
    (text lines : List ℕ) : Type 0 where
  pub frames : ReadsFrames deed → ¬ Rose (o.frames was.frames).faults (o.frames now.frames).faults
  pub out : IsSure (o.out was.out) (length text)
  pub notes : TellsNotes deed → IsSure (o.notes was.notes) (length lines)
