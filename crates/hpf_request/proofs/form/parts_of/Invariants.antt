use Rattle.std.proofs.Common.{◌≡◌, [], map}
use Rattle.std.specs.List.{range_with_len}
use Rattle.hpf_request.specs.Form.{places_of}
use Rattle.hpf_request.specs.Parts.{holding_of}
use Rattle.hpf_request.proofs.form.parts_of.Given as goal

abbrev pub invariant-loop-p : goal.invariant-loop-p
invariant-loop-p l = l.parts.items ≡ map (λ p. holding_of [] (places_of l.mapping p)) (range_with_len 0 l.p)
