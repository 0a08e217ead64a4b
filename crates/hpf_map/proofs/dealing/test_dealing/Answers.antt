use Rattle.std.proofs.Common.{true, false, sym, ◌∙◌, arith}
use Rattle.hpf_map.specs.Dealing.{breaches_at}
use Rattle.hpf_map.specs.Seen.{seen}
use Rattle.hpf_map.proofs.DistributionLemmas.{divided_more}
use Rattle.hpf_map.proofs.OverLemmas.{over_seen, each_ranged_more}
use Rattle.hpf_map.proofs.dealing.test_dealing.Goals as goal
use Rattle.hpf_map.proofs.dealing.test_dealing.Goals.{then-divides, else-divides}

pub test_format_at-requires : goal.test_format_at-requires
test_format_at-requires c = c.loop-k.invariant.dim ∙ sym (over_seen c.args.dealing.now.formats.now c.loop-k.k)

pub loop-k-preserved : goal.loop-k-preserved
loop-k-preserved c =
    let breaches = each_ranged_more (breaches_at (seen c.args.dealing.now) c.args.spans.now) c.loop-k.k _ _ _ c.loop-k.invariant.breaches c.test_format_at.ensures in
    elim c.if-divides.branch [
      | then-divides w ↦ record {
        dim =
            w.dim-is
            ∙ divided_more c.args.dealing.now.formats.now c.loop-k.k c.format-item.result c.loop-k.dim true
            c.loop-k-test.true c.format-item.is c.loop-k.invariant.dim (sym w.if-divides.true ∙ c.divides.ensures);
        few = omega (arith, w.dim-is, c.loop-k.invariant.few);
        breaches = breaches;
      }
      | else-divides w ↦ record {
        dim =
            w.dim-is
            ∙ divided_more c.args.dealing.now.formats.now c.loop-k.k c.format-item.result c.loop-k.dim false
            c.loop-k-test.true c.format-item.is c.loop-k.invariant.dim (sym w.if-divides.false ∙ c.divides.ensures);
        few = omega (arith, w.dim-is, c.loop-k.invariant.few);
        breaches = breaches;
      }
    ]
