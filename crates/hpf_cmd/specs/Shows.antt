-- What comes of a text that is printed.
use Rattle.std.specs.Prelude.{◌≡◌, ℕ, List}
use Rattle.hpf_io.specs.States.{SinkState}
use Rattle.hpf_status.specs.declared.status.Status.{Status}
use Rattle.hpf_status.specs.declared.status.Status.TheVariants as status
use Rattle.hpf_stream.specs.Outside.{Flushes, Fails}

-- It was given and flushed; or the sink failed.
pub data Shows (old new : SinkState) (text : List ℕ) (end : Status) : Type 0 where
  Shown : end ≡ status.Ok → Flushes old new text → Shows old new text end
  Unshown : end ≡ status.WriteFault → Fails old new text → Shows old new text end
