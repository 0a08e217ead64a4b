use Rattle.std.proofs.Common.{◌≡◌, take}
use Rattle.std.specs.List.{flat_map}
use Rattle.hpf_map.specs.Dealing.{sized_breaches}
use Rattle.hpf_map.specs.Found.{least_with}
use Rattle.hpf_map.specs.Seen.{seen}
use Rattle.hpf_map.specs.Spaces.{shape_of}
use Rattle.hpf_map.specs.declared.role.Role.TheVariants as role
use Rattle.hpf_map.proofs.dealing.test_each_sized.Given as goal

abbrev pub invariant-loop-distributee : goal.invariant-loop-distributee
invariant-loop-distributee l =
    l.breaches
    ≡ least_with l.initial.breaches
    (flat_map (λ distributee. sized_breaches (seen l.dealing) (shape_of (seen l.dealing).names role.Mapped distributee.word)) (take l.distributee-index l.distributees))
