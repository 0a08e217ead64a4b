use Rattle.std.proofs.Common.{◌≡◌, ◌-◌, ◌^◌, length}
use Rattle.hpf_stream.proofs.SoFar.{SoFar}
use Rattle.hpf_stream.proofs.pass.pass_frames.Given as goal

abbrev pub invariant-loop : goal.invariant-loop
invariant-loop g l = record {
  size : length l.frame ≡ length l.fn.frame;
  same : g.C.Consumer.flow l.consumer ≡ g.C.Consumer.flow l.fn.consumer;
  so_far : SoFar (g.C.Consumer.flow l.fn.consumer) (g.C.Consumer.has_taken l.consumer)
      (g.S.Source.state l.fn.frames) (g.S.Source.state l.frames) (g.K.Sink.state l.fn.out) (g.K.Sink.state l.out) l.at;
}

abbrev pub decreases-loop : goal.decreases-loop
decreases-loop g l = 2 ^ 32 - l.at.frames
