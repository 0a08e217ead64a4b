use Rattle.std.proofs.Common.{◌≡◌, ◌++◌, ◌∷◌, [], true, false, sym}
use Rattle.hpf_lex.specs.declared.token.TokenKind.TheVariants.{End}
use Rattle.hpf_lex.specs.Statement.{bare_token, ends_open}
use Rattle.hpf_lex.specs.Views.{part_view}
use Rattle.hpf_lex.proofs.Marks.{none_read, one_read}
use Rattle.hpf_lex.proofs.Parts.{open_closing, shut_closing}
use Rattle.hpf_lex.proofs.scan.close.Goals as goal

pub returns-then-ends_open-clause-pushed : goal.returns-then-ends_open-clause-pushed
returns-then-ends_open-clause-pushed c =
    let is_open : ends_open (part_view c.args.part.now) ≡ true = cc in
    let closed = open_closing (part_view c.args.part.now) c.args.past is_open in
    ((none_read c.args.tokens.now.items c.args.past _ closed.0).0, rw c.own_text.ensures.text (sym closed.1))

pub returns-clause-pushed : goal.returns-clause-pushed
returns-clause-pushed c =
    let old = c.args.tokens.now.items in
    let past = c.args.past in
    let t = bare_token End past.line past.column in
    let is_shut : ends_open (part_view c.args.part.now) ≡ false = cc in
    let closed = shut_closing (part_view c.args.part.now) past is_shut in
    let pushed : c.push.new.self.items ≡ old ++ t ∷ [] = rw (← c.bare.ensures) c.in_ok-push.ensures.items in
    ((one_read old c.push.new.self.items past _ t 0 closed.0 pushed).0, sym closed.1)
