-- What was given of the answer to what the source held, by how the flow ended.
use Rattle.std.specs.Prelude.{List, ℕ, Result, Ok, Err}
use Rattle.hpf_io.specs.States.{SinkState}
use Rattle.hpf_io.specs.Bytes.{Adds, AddsPrefix}
use Rattle.hpf_frame.specs.declared.error.InputError.TheVariants.{Refused, ReadFault}
use Rattle.hpf_stream.specs.declared.stop.Stop.{Stop}
use Rattle.hpf_stream.specs.declared.stop.Stop.TheVariants.{Input, Output}

-- all of it, where the flow went through or the input was refused, and a front of it otherwise
abbrev pub GivesAnswer : SinkState → SinkState → List ℕ → Result (Unit {0}) Stop → Type 0
GivesAnswer before after text (Ok u) = Adds before after text
GivesAnswer before after text (Err (Input (Refused code offset))) = Adds before after text
GivesAnswer before after text (Err (Input ReadFault)) = AddsPrefix before after text
GivesAnswer before after text (Err Output) = AddsPrefix before after text
