use Rattle.std.proofs.Common.{◌≡◌, ◌-◌, map, length, take, drop, replicate}
use Rattle.hpf_lex.specs.Bytes.{upper}
use Rattle.hpf_lex.proofs.word.Word.from_bytes.Given as goal

abbrev pub invariant-loop-i : goal.invariant-loop-i
invariant-loop-i l = record {
  size : length l.word ≡ 31;
  written : take l.i l.word ≡ map upper (take l.i l.bytes);
  zeros : drop l.i l.word ≡ replicate (31 - l.i) 0;
}
