use Rattle.hpf_syntax.specs.Plain.{declared_tree}
use Rattle.hpf_map.specs.Declarations.{with_declared, declared_breaches}
use Rattle.hpf_map.proofs.DeclareLemmas.{Threads}
use Rattle.hpf_map.proofs.declare.declare_all.Given as goal

abbrev pub invariant-loop-declared : goal.invariant-loop-declared
invariant-loop-declared l =
    Threads declared_tree (with_declared l.space l.common) (declared_breaches l.space l.common) l.list l.declared-index
    l.initial.names l.names l.initial.breaches l.breaches
