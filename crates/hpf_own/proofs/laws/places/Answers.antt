use Rattle.hpf_own.proofs.Places.{one_way, place_in_part, place_in_bounds}
use Rattle.hpf_own.proofs.laws.places.Goals as goal

pub returns-clause-one_way : goal.returns-clause-one_way
returns-clause-one_way c = one_way

pub returns-clause-part : goal.returns-clause-part
returns-clause-part c = place_in_part

pub returns-clause-whole : goal.returns-clause-whole
returns-clause-whole c = place_in_bounds
