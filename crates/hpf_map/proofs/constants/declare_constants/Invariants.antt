use Rattle.hpf_syntax.specs.Plain.{constant_tree}
use Rattle.hpf_map.specs.Declarations.{with_constant, constant_breaches}
use Rattle.hpf_map.proofs.DeclareLemmas.{Threads}
use Rattle.hpf_map.proofs.constants.declare_constants.Given as goal

abbrev pub invariant-loop-constant : goal.invariant-loop-constant
invariant-loop-constant l =
    Threads constant_tree (with_constant l.common) (constant_breaches l.common) l.list l.constant-index
    l.initial.names l.names l.initial.breaches l.breaches
