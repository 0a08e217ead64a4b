use Rattle.hpf_lend.proofs.Streams.{begins_refl, begins_trans, begins_applied, begins_shown, begins_prefix, begins_from_shown}
use Rattle.hpf_lend.proofs.laws.streams_begin.Goals as goal

pub returns-clause-itself : goal.returns-clause-itself
returns-clause-itself c = begins_refl

pub returns-clause-onward : goal.returns-clause-onward
returns-clause-onward c = begins_trans

pub returns-clause-applied : goal.returns-clause-applied
returns-clause-applied c = begins_applied

pub returns-clause-shown : goal.returns-clause-shown
returns-clause-shown c = begins_shown

pub returns-clause-messages : goal.returns-clause-messages
returns-clause-messages c = begins_prefix

pub returns-clause-parts : goal.returns-clause-parts
returns-clause-parts c = begins_from_shown
