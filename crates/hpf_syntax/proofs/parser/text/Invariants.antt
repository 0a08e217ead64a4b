use Rattle.std.proofs.Common.{◌≡◌, ◌-◌, map}
use Rattle.hpf_syntax.specs.Plain.{item_tree}
use Rattle.hpf_syntax.specs.Statements.{statements_at, text_at}
use Rattle.hpf_syntax.proofs.parser.text.Given as goal

abbrev pub invariant-loop : goal.invariant-loop
invariant-loop l = statements_at 64 (l.end - l.counter) (map item_tree l.items) l.rest ≡ text_at 64 l.tokens
