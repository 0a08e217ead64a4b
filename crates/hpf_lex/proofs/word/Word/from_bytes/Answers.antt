use Rattle.std.proofs.Common.{◌≡◌, length, drop, replicate, ◌-◌, ℕ, subst, arith}
use Rattle.std.proofs.Math.ListN.{length-set}
use Rattle.hpf_lex.proofs.Words.{one_more, zeros_left, is_name-length, upper_written}
use Rattle.hpf_lex.proofs.word.Word.from_bytes.Goals as goal

pub loop-i-preserved : goal.loop-i-preserved
loop-i-preserved c =
    let few = is_name-length c.args.bytes.now cc in
    record {
      size = grind (arith, length-set);
      written = one_more c.loop-i.word c.args.bytes.now c.loop-i.i c.upper.result (omega arith) few (omega arith) c.upper.ensures c.loop-i.invariant.written;
      zeros = zeros_left c.loop-i.word c.loop-i.i c.upper.result (omega arith) c.loop-i.invariant.zeros;
    }

pub invariant_of-result : goal.invariant_of-result
invariant_of-result c =
    let few = is_name-length c.args.bytes.now cc in
    let all : c.loop-i.i ≡ length c.args.bytes.now = omega arith in
    record {
      size = c.loop-i.invariant.size;
      fits = few;
      upper_case = upper_written c.loop-i.word c.args.bytes.now c.loop-i.i all c.loop-i.invariant.written;
      zeros = subst (λ (n : ℕ). drop n c.loop-i.word ≡ replicate (31 - n) 0) all c.loop-i.invariant.zeros;
    }
