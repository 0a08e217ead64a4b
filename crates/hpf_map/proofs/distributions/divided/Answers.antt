use Rattle.std.proofs.Common.{true, false, sym, ◌∙◌, arith}
use Rattle.hpf_map.proofs.DistributionLemmas.{divided_more}
use Rattle.hpf_map.proofs.distributions.divided.Goals as goal
use Rattle.hpf_map.proofs.distributions.divided.Goals.{then-divides, else-divides}

pub loop-format-preserved : goal.loop-format-preserved
loop-format-preserved c =
    elim c.if-divides.branch [
      | then-divides w ↦ record {
        counted =
            w.count-is
            ∙ divided_more c.args.formats.now c.loop-format.format-index c.format-item.result c.loop-format.count true
            c.loop-format-test.true c.format-item.is c.loop-format.invariant.counted (sym w.if-divides.true ∙ c.divides.ensures);
        few = omega (arith, w.count-is, c.loop-format.invariant.few);
      }
      | else-divides w ↦ record {
        counted =
            w.count-is
            ∙ divided_more c.args.formats.now c.loop-format.format-index c.format-item.result c.loop-format.count false
            c.loop-format-test.true c.format-item.is c.loop-format.invariant.counted (sym w.if-divides.false ∙ c.divides.ensures);
        few = omega (arith, w.count-is, c.loop-format.invariant.few);
      }
    ]
