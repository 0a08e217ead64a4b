use Rattle.std.proofs.Common.{◌==◌, ◌/◌, ◌%◌, length, refl}
use Rattle.hpf_map.specs.Ends.{target}
use Rattle.hpf_map.specs.Ways.{step}
use Rattle.hpf_map.proofs.WalkLemmas.{IsLeft-all, IsLeft-half, IsLeft-none}
use Rattle.hpf_map.proofs.walk.Walk.to_the_end.Goals as goal

pub loop-left-init : goal.loop-left-init
loop-left-init c =
    IsLeft-all (step c.args.ways.now) (target c.nowhere-walk.result) (target c.in_ok-stride.stride) (length c.args.ways.now) (length c.args.ways.now)
    refl c.nowhere-walk.ensures c.in_ok-stride.ensures

pub loop-left-preserved : goal.loop-left-preserved
loop-left-preserved c =
    IsLeft-half (target c.in_ok-walk.walk) (target c.in_ok-stride-2.stride) (c.loop-left.left / 2) (c.loop-left.left % 2 == 1) c.loop-left.invariant
    refl c.in_ok-walk.ensures c.in_ok-stride-2.ensures refl

pub returns : goal.returns
returns c = IsLeft-none c.args.ways.now c.loop-left.invariant c.loop-left-test.false
