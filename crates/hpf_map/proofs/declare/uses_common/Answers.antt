use Rattle.std.proofs.Common.{◌≡◌, ◌==◌, true, length, sym, ap, ◌∙◌}
use Rattle.std.specs.Prelude.{nat_eq}
use Rattle.hpf_syntax.specs.Plain.{declared_tree}
use Rattle.hpf_map.proofs.DeclareLemmas.{some_at, count_seen}
use Rattle.hpf_map.proofs.declare.uses_common.Goals as goal

pub returns-then-is_empty : goal.returns-then-is_empty
returns-then-is_empty c =
    let none_own : (length (declared_tree c.declared-item.result).shape == 0) ≡ true =
    ap (λ n. nat_eq n 0) (count_seen c.declared-item.result.shape ∙ ap length (sym c.as_slice.ensures)) ∙ sym c.is_empty.ensures ∙ c.if-is_empty.true in
    some_at declared_tree (λ d. length d.shape == 0) c.args.list.now c.loop-declared.declared-index c.declared-item.result
    c.loop-declared-test.true c.declared-item.is none_own
