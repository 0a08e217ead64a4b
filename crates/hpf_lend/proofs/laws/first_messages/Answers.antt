use Rattle.hpf_lend.proofs.Streams.{homes_prefix, formed_prefix, length-homes_of, length_homes, length_formed}
use Rattle.hpf_lend.proofs.laws.first_messages.Goals as goal

pub returns-clause-homes : goal.returns-clause-homes
returns-clause-homes c = homes_prefix

pub returns-clause-formed : goal.returns-clause-formed
returns-clause-formed c = formed_prefix

pub returns-clause-frames : goal.returns-clause-frames
returns-clause-frames c = length-homes_of

pub returns-clause-few : goal.returns-clause-few
returns-clause-few c = length_homes

pub returns-clause-one_end : goal.returns-clause-one_end
returns-clause-one_end c = length_formed
