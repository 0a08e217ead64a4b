-- What was to be done, and what came of it.
use Rattle.std.specs.Prelude.{◌≡◌}
use Rattle.hpf_request.specs.Deed.{Deed, Print, Compose, Stream}
use Rattle.hpf_request.specs.Order.{Verdict, Granted, Denied}
use Rattle.hpf_status.specs.declared.status.Status.{Status}
use Rattle.hpf_stream.specs.Ends.{End}
use Rattle.hpf_stream.specs.Outside.{Outside, Moment}
use Rattle.hpf_stream.specs.Streams.{Streams}
use Rattle.hpf_cmd.specs.Ended.{end_status}
use Rattle.hpf_cmd.specs.Prints.{Prints, Composes}

-- a text was printed, or made, or a flow went through
abbrev pub Does : {S K N : Type 0} → Outside S K N → Moment S K N → Moment S K N → Deed → Status → Type 0
Does o was now (Print text lines) status = Prints o was now text lines status
Does o was now (Compose text) status = Composes o was now text status
Does o was now (Stream flow) status = (end : End) × Streams o flow was now end × (status ≡ end_status end)

-- Neither the frames nor out nor notes were touched.
pub record Untouched {S K N : Type 0} (was now : Moment S K N) : Type 0 where
  pub frames : now.frames ≡ was.frames
  pub out : now.out ≡ was.out
  pub notes : now.notes ≡ was.notes

-- What was asked for was done, as far as it came; or it was refused by this status, and nothing was touched.
abbrev pub Follows : {S K N : Type 0} → Outside S K N → Moment S K N → Moment S K N → Verdict → Status → Type 0
Follows o was now (Granted deed) end = Does o was now deed end
Follows o was now (Denied status) end = (end ≡ status) × Untouched was now
