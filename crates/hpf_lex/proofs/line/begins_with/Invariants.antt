use Rattle.std.proofs.Common.{◌≡◌, drop}
use Rattle.hpf_lex.specs.Line.{begins_with}
use Rattle.hpf_lex.proofs.line.begins_with.Given as goal

abbrev pub invariant-loop-i : goal.invariant-loop-i
invariant-loop-i l = begins_with (drop l.i l.prefix) (drop l.i l.bytes) ≡ begins_with l.prefix l.bytes
