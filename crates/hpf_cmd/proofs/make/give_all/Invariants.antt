use Rattle.std.proofs.Common.{◌≡◌, ℕ, ◌+◌, ◌≤◌, List, [], ◌++◌, length, take, Ok}
use Rattle.hpf_io.specs.Writes.{Writes}
use Rattle.hpf_cmd.proofs.make.give_all.Given as goal

abbrev pub invariant-loop-count : goal.invariant-loop-count
invariant-loop-count g l = record {
  front : List ℕ;
  given : Writes (g.K.Sink.state l.fn.out) (g.K.Sink.state l.out) (Ok tt) front;
  rest : l.fn.source ≡ front ++ (take l.count l.piece ++ l.source);
  within : l.count ≤ length l.piece;
  len : length l.piece ≡ 8192;
  over : l.count ≡ 0 → l.source ≡ [];
}

abbrev pub decreases-loop-count : goal.decreases-loop-count
decreases-loop-count g l = l.count + length l.source
