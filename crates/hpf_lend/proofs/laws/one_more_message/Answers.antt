use Rattle.std.specs.Prelude.{◌∷◌, []}
use Rattle.hpf_lend.specs.declared.message.Message.TheVariants.{Frame}
use Rattle.hpf_lend.proofs.Streams.{no_end, none_ends, stream_push, stream_end, homes_push, homes_ended, formed_push, formed_pushed, formed_end}
use Rattle.hpf_lend.proofs.laws.one_more_message.Goals as goal

pub returns-clause-none : goal.returns-clause-none
returns-clause-none c = λ messages. (no_end messages, none_ends messages)

pub returns-clause-frame : goal.returns-clause-frame
returns-clause-frame c = stream_push

pub returns-clause-end : goal.returns-clause-end
returns-clause-end c = stream_end

pub returns-clause-home : goal.returns-clause-home
returns-clause-home c = λ messages number buffer none. homes_push messages (Frame number buffer ∷ []) none

pub returns-clause-no_home : goal.returns-clause-no_home
returns-clause-no_home c = homes_ended

pub returns-clause-formed : goal.returns-clause-formed
returns-clause-formed c = λ size next number messages buffer none. (formed_pushed size next number messages buffer none, formed_push size next number messages buffer none)

pub returns-clause-formed_end : goal.returns-clause-formed_end
returns-clause-formed_end c = formed_end
