use Rattle.std.proofs.Common.{◌≡◌, ◌*◌, [], sym, arith}
use Rattle.hpf_own.specs.Image.{positions}
use Rattle.hpf_own.specs.Owners.{holds_at}
use Rattle.hpf_own.proofs.Sets.{repeat_more, repeat_less}
use Rattle.hpf_own.proofs.image.BaseDim.set_below.Goals as goal
use Rattle.hpf_own.proofs.image.BaseDim.set_below.Goals.{then-holds, else-holds}

pub loop-c-preserved : goal.loop-c-preserved
loop-c-preserved c =
    let f = holds_at c.args.self.now.cut (positions c.args.self.now.image []) in
    let one : c.loop-c.c * 1 ≡ c.loop-c.c = omega arith in
    elim c.if-holds.branch [
      | then-holds w ↦
          let more = repeat_more f 1 1 c.loop-c.c c.loop-c.set (omega arith) (omega arith) (omega arith) c.loop-c.invariant (sym w.if-holds.ensures) in
          rw w.set-is (rw one at more)
      | else-holds w ↦
          rw w.set-is (repeat_less f 1 1 c.loop-c.c c.loop-c.set (omega arith) c.loop-c.invariant (sym w.if-holds.ensures))
    ]
