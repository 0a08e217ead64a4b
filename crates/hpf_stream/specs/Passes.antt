-- One frame on its way from the source to the sink.
use Rattle.std.specs.Prelude.{◌≡◌, ◌+◌, ◌-◌, ◌^◌, ◌<◌, ℕ, ℤ, List, [], ◌∷◌, ◌++◌, length, Option, Result, Ok, Err, Bool, true, false}
use Rattle.hpf_io.specs.Bytes.{Takes, TakesFewer, IsOver}
use Rattle.hpf_io.specs.Writes.{Writes}
use Rattle.hpf_io.specs.declared.failed.Failed.{Failed}
use Rattle.hpf_frame.specs.declared.error.InputError.TheVariants.{Refused, ReadFault}
use Rattle.hpf_frame.specs.declared.error.Progress.{Progress}
use Rattle.hpf_frame.specs.FrameFile.{version_one, IsFrame, record_of, record_length, end_of}
use Rattle.hpf_frame.specs.Faults.{RecordFault}
use Rattle.hpf_frame.specs.Answers.{TakesWrong}
use Rattle.hpf_stream.specs.declared.stop.Stop.{Stop}
use Rattle.hpf_stream.specs.declared.stop.Stop.TheVariants.{Input, Output}
use Rattle.hpf_io.specs.States.{SourceState, SinkState}
use Rattle.hpf_stream.specs.Outside.{Rises, Stays}
use Rattle.hpf_stream.specs.Flow.{Flow}

-- The record with this number was read, and no more.
pub record Reads (size number : ℕ) (values : List ℤ) (old new : SourceState) : Type 0 where
  pub frame_is : IsFrame version_one size values
  pub few : number < 2 ^ 32 - 1
  pub taken : Takes old new (record_of version_one number values)
  pub counted : Stays old.faults new.faults

-- where the reading stands behind one frame more, of so many elements
abbrev pub one_further : ℕ → Progress → Progress
one_further size at = record { frames = at.frames + 1; offset = at.offset + record_length version_one size; live = true }

-- What came of the next frame. Next: it was read and its bytes were given. Over: the end was read. Wrong: neither is
-- there. Unread: the source failed. Unwritten: it was read, and out failed within its bytes.
pub data Passes (flow : Flow) (size : ℕ) (at_old at_new : Progress) (values : List ℤ) (frames_old frames_new : SourceState) (out_old out_new : SinkState) (result : Result Bool Stop) : Type 0 where
  Next : result ≡ Ok true → Reads size at_old.frames values frames_old frames_new → at_new ≡ one_further size at_old
      → Writes out_old out_new (Ok tt) (flow.frame version_one at_old.frames values)
      → Passes flow size at_old at_new values frames_old frames_new out_old out_new result
  Over : result ≡ Ok false → Takes frames_old frames_new (end_of at_old.frames) → IsOver frames_new
      → Stays frames_old.faults frames_new.faults
      → at_new.frames ≡ at_old.frames → out_new ≡ out_old
      → Passes flow size at_old at_new values frames_old frames_new out_old out_new result
  Wrong : (code offset : ℕ) → result ≡ Err (Input (Refused code offset))
      → TakesWrong frames_old frames_new (record_length version_one size) (λ held. RecordFault version_one size at_old.frames at_old.offset held code offset) → Stays frames_old.faults frames_new.faults
      → out_new ≡ out_old
      → Passes flow size at_old at_new values frames_old frames_new out_old out_new result
  Unread : result ≡ Err (Input ReadFault) → TakesFewer frames_old frames_new (record_length version_one size)
      → Rises frames_old.faults frames_new.faults
      → out_new ≡ out_old
      → Passes flow size at_old at_new values frames_old frames_new out_old out_new result
  Unwritten : result ≡ Err Output → Reads size at_old.frames values frames_old frames_new
      → (e : Failed) → Writes out_old out_new (Err e) (flow.frame version_one at_old.frames values)
      → Passes flow size at_old at_new values frames_old frames_new out_old out_new result
