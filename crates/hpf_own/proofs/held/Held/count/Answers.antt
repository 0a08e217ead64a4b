use Rattle.std.proofs.Common.{◌-◌, arith}
use Rattle.hpf_own.proofs.Sides.{before, counted, fewer}
use Rattle.hpf_own.proofs.held.Held.count.Goals as goal

pub overflow_mul-count : goal.overflow_mul-count
overflow_mul-count c =
    let sides = c.self.inside.sides.items in
    let b = before sides c.loop-d.d c.index.result.now (omega arith) (omega arith) c.index.ensures in
    let e = counted sides c.loop-d.d c.loop-d.count c.count-count.result c.index.result.now b c.loop-d.invariant.count c.count-count.ensures.count in
    let f = fewer sides (c.loop-d.d - 1) c.self.invariant.all_or_none c.self.invariant.few in
    omega arith

pub loop-d-preserved : goal.loop-d-preserved
loop-d-preserved c =
    let sides = c.self.inside.sides.items in
    let b = before sides c.loop-d.d c.index.result.now (omega arith) (omega arith) c.index.ensures in
    record {
      within = omega arith;
      count = counted sides c.loop-d.d c.loop-d.count c.count-count.result c.index.result.now b c.loop-d.invariant.count c.count-count.ensures.count;
    }
