use Rattle.std.proofs.Common.{ap, arith}
use Rattle.std.proofs.Math.ListN.{get_or-eq_default}
use Rattle.hpf_map.specs.declared.way.Way.TheVariants.{Unmapped}
use Rattle.hpf_map.specs.Ways.{step, step_from}
use Rattle.hpf_map.proofs.WalkLemmas.{IsTable-none, IsTable-more, IsTable-whole}
use Rattle.hpf_map.proofs.walk.Walk.step.Goals as goal

pub loop-name-init : goal.loop-name-init
loop-name-init c = IsTable-none (step c.args.ways.now) _ c.new-targets.ensures.items

pub loop-name-preserved : goal.loop-name-preserved
loop-name-preserved c =
    IsTable-more c.step_from.result c.push.new.self.items c.loop-name.invariant c.in_ok-push.ensures.items c.step_from.ensures

pub returns : goal.returns
returns c = IsTable-whole c.loop-name.invariant
    (λ n past. let all = c.loop-name-test.false in ap (step_from n) (get_or-eq_default c.args.ways.now Unmapped (omega (arith, all))))
