use Rattle.std.proofs.Common.{Err}
use Rattle.hpf_lex.specs.declared.refusal.MapError.TheVariants.{Refused}
use Rattle.hpf_lex.proofs.Order.{too_long_read, tokens_come, fault_comes}
use Rattle.hpf_lex.proofs.scan.tokens.Goals as goal

pub returns-then-text-gt-MAX_TEXT-clause-refused : goal.returns-then-text-gt-MAX_TEXT-clause-refused
returns-then-text-gt-MAX_TEXT-clause-refused c = rw c.at.ensures (too_long_read c.args.text.now c.if-text-gt-MAX_TEXT.true)

pub returns-then-text-gt-MAX_TEXT-clause-only_tokens : goal.returns-then-text-gt-MAX_TEXT-clause-only_tokens
returns-then-text-gt-MAX_TEXT-clause-only_tokens c =
    λ tokens h. tokens_come c.args.text.now tokens (Err (Refused c.at.result)) (rw c.at.ensures (too_long_read c.args.text.now c.if-text-gt-MAX_TEXT.true)) h

pub returns-then-text-gt-MAX_TEXT-clause-only_fault : goal.returns-then-text-gt-MAX_TEXT-clause-only_fault
returns-then-text-gt-MAX_TEXT-clause-only_fault c =
    λ f h. fault_comes c.args.text.now f (Err (Refused c.at.result)) (rw c.at.ensures (too_long_read c.args.text.now c.if-text-gt-MAX_TEXT.true)) h
