-- What comes of a flow, from what the source holds to what the sinks were given.
use Rattle.std.specs.Prelude.{◌≡◌, ◌⊎◌, ℕ, ℤ, List, length, Some, Ok, Err}
use Rattle.hpf_frame.specs.FrameFile.{Shape, IsFile}
use Rattle.hpf_frame.specs.declared.error.InputError.TheVariants.{Refused, ReadFault}
use Rattle.hpf_io.specs.States.{SourceState, IsSure}
use Rattle.hpf_stream.specs.declared.stop.Stop.TheVariants.{Input, Output}
use Rattle.hpf_stream.specs.Ends.{End, Ends}
use Rattle.hpf_stream.specs.Flow.{Flow, whole, Answers}
use Rattle.hpf_stream.specs.GivesAnswer.{GivesAnswer}
use Rattle.hpf_stream.specs.Outside.{Outside, Moment, FramesRise, OutRises, NotesRise, FramesStay, OutStays, NotesStay, NoFault, IsSafeFor}

-- The source tells what it held, and the answer to that is this text.
pub record HasAnswer (flow : Flow) (before after : SourceState) (text : List ℕ) : Type 0 where
  pub input : List ℕ
  pub rest : List ℕ
  pub held : before.left ≡ Some input
  pub left : after.left ≡ Some rest
  pub is : Answers flow input text

-- The source tells what it held, and that is the file of these frames.
pub record HeldFile (flow : Flow) (before after : SourceState) (shape : Shape) (frames : List (List ℤ)) : Type 0 where
  pub input : List ℕ
  pub rest : List ℕ
  pub held : before.left ≡ Some input
  pub left : after.left ≡ Some rest
  pub is : IsFile shape flow.enters frames input

-- The source tells what it held, and that is no file.
pub record HeldNoFile (flow : Flow) (before after : SourceState) : Type 0 where
  pub input : List ℕ
  pub rest : List ℕ
  pub held : before.left ≡ Some input
  pub left : after.left ≡ Some rest
  pub no_file : (shape : Shape) (frames : List (List ℤ)) → ¬ IsFile shape flow.enters frames input

-- The input was refused.
abbrev pub IsRefused : End → Type 0
IsRefused end = (code : ℕ) × (offset : ℕ) × (end ≡ Err (Input (Refused code offset)))

-- Whose count of faults rose, by how the flow ended: that of the frames, or that of one of the sinks, or none.
abbrev pub Counts : {S K N : Type 0} → Outside S K N → Moment S K N → Moment S K N → End → Type 0
Counts o was now (Ok u) = FramesStay o was now × OutStays o was now × NotesStay o was now
Counts o was now (Err (Input (Refused code offset))) = FramesStay o was now × OutStays o was now × NotesStay o was now
Counts o was now (Err (Input ReadFault)) = FramesRise o was now × OutStays o was now × NotesStay o was now
Counts o was now (Err Output) =
    (OutRises o was now × NotesStay o was now) ⊎ (OutStays o was now × NotesRise o was now)

-- A flow came to one of its ends, and a count rose that belongs to it; where a sink failed the source did not. Seen
-- from what the source held: what out was given is the answer to it, or a front of the answer; where out is sure to
-- take the answer, or notes its lines, it was the other that failed. It never gives up by itself: where no count
-- rose, a file goes through, and what is none is refused; and a file goes through where the sinks are sure to take
-- what is given for it.
pub record Streams {S K N : Type 0} (o : Outside S K N) (flow : Flow) (was now : Moment S K N) (end : End) : Type 0 where
  pub ends : Ends o flow was now end
  pub counts : Counts o was now end
  pub source_stays : end ≡ Err Output → FramesStay o was now
  pub answered : (text : List ℕ) → HasAnswer flow (o.frames was.frames) (o.frames now.frames) text
      → GivesAnswer (o.out was.out) (o.out now.out) text end
  pub sure_out : end ≡ Err Output
      → (text : List ℕ) → HasAnswer flow (o.frames was.frames) (o.frames now.frames) text
      → IsSure (o.out was.out) (length text) → NotesRise o was now × OutStays o was now
  pub sure_notes : end ≡ Err Output
      → (shape : Shape) (frames : List (List ℤ))
      → HeldFile flow (o.frames was.frames) (o.frames now.frames) shape frames
      → IsSure (o.notes was.notes) (length (flow.lines frames)) → OutRises o was now × (now.notes ≡ was.notes)
  pub complete : (shape : Shape) (frames : List (List ℤ))
      → HeldFile flow (o.frames was.frames) (o.frames now.frames) shape frames
      → NoFault o was now → end ≡ Ok tt
  pub refuses : HeldNoFile flow (o.frames was.frames) (o.frames now.frames) → NoFault o was now → IsRefused end
  pub sure : (shape : Shape) (frames : List (List ℤ))
      → HeldFile flow (o.frames was.frames) (o.frames now.frames) shape frames
      → IsSafeFor o was now (whole flow shape frames) (flow.lines frames) → end ≡ Ok tt
