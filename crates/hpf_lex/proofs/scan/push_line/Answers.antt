use Rattle.std.proofs.Common.{refl}
use Rattle.hpf_lex.specs.Scanning.{line_marks, pending_line}
use Rattle.hpf_lex.proofs.Marks.{read-none}
use Rattle.hpf_lex.proofs.scan.push_line.Goals as goal

pub returns-in-None-clause-pushed : goal.returns-in-None-clause-pushed
unfolding line_marks pending_line
returns-in-None-clause-pushed c = rw (← c.in-None.ensures.part) (read-none c.args.tokens.now.items, refl)
