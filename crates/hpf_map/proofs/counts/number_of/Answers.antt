use Rattle.std.proofs.Common.{true, false, sym, ◌∙◌, arith}
use Rattle.hpf_map.specs.Program.{is_of}
use Rattle.hpf_map.proofs.DistributionLemmas.{count_more}
use Rattle.hpf_map.proofs.counts.number_of.Goals as goal
use Rattle.hpf_map.proofs.counts.number_of.Goals.{then-is_of, else-is_of}

pub loop-name-preserved : goal.loop-name-preserved
loop-name-preserved c =
    elim c.if-is_of.branch [
      | then-is_of w ↦ record {
        counted =
            w.number-is
            ∙ count_more (λ n. is_of c.args.space n.meaning) c.args.names.now c.loop-name.name-index c.name-item.result c.loop-name.number true
            c.loop-name-test.true c.name-item.is c.loop-name.invariant.counted (sym w.if-is_of.true ∙ c.is_of.ensures);
        few = omega (arith, w.number-is, c.loop-name.invariant.few);
      }
      | else-is_of w ↦ record {
        counted =
            w.number-is
            ∙ count_more (λ n. is_of c.args.space n.meaning) c.args.names.now c.loop-name.name-index c.name-item.result c.loop-name.number false
            c.loop-name-test.true c.name-item.is c.loop-name.invariant.counted (sym w.if-is_of.false ∙ c.is_of.ensures);
        few = omega (arith, w.number-is, c.loop-name.invariant.few);
      }
    ]
