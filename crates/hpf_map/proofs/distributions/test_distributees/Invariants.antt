use Rattle.std.proofs.Common.{◌≡◌, take}
use Rattle.std.specs.List.{flat_map}
use Rattle.hpf_map.specs.Distributions.{distributee_breaches}
use Rattle.hpf_map.specs.Found.{least_with}
use Rattle.hpf_map.proofs.distributions.test_distributees.Given as goal

abbrev pub invariant-loop-distributee : goal.invariant-loop-distributee
invariant-loop-distributee l =
    l.breaches ≡ least_with l.initial.breaches (flat_map (distributee_breaches l.names l.count) (take l.distributee-index l.distributees))
