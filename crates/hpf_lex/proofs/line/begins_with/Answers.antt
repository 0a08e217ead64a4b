use Rattle.std.proofs.Common.{sym, ◌∙◌, arith}
use Rattle.hpf_lex.proofs.Lines.{begins_more, begins_not}
use Rattle.hpf_lex.proofs.line.begins_with.Goals as goal
use Rattle.hpf_lex.proofs.line.begins_with.Goals.{then-i-bytes-via-then-i-bytes, then-i-bytes-via-else-i-bytes+then-upper-sought}

pub returns-then-i-bytes : goal.returns-then-i-bytes
returns-then-i-bytes c =
    let no = begins_not c.args.prefix.now c.args.bytes.now c.loop-i.i c.loop-i-test.true
    (λ lt same. elim c.then-i-bytes.branch [
      | then-i-bytes-via-then-i-bytes w ↦ absurd (omega arith)
      | then-i-bytes-via-else-i-bytes+then-upper-sought w ↦ w.if-upper-sought.true (w.upper.ensures ∙ same)
    ]) in
    record { same = sym no ∙ c.loop-i.invariant }

pub loop-i-preserved : goal.loop-i-preserved
loop-i-preserved c =
    begins_more c.args.prefix.now c.args.bytes.now c.loop-i.i c.loop-i-test.true c.if-i-bytes.false (sym c.upper.ensures ∙ c.if-upper-sought.false) ∙ c.loop-i.invariant
