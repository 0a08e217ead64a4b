use Rattle.std.proofs.Common.{◌≡◌, false}
use Rattle.hpf_lex.specs.Statement.{same_form}
use Rattle.hpf_lex.specs.Views.{part_view}
use Rattle.hpf_lex.proofs.Parts.{left_dangling}
use Rattle.hpf_lex.proofs.scan.push_inner.Goals as goal

pub returns-then-not-same_form : goal.returns-then-not-same_form
returns-then-not-same_form c =
    let differ : same_form c.in-Some.pending.form c.args.part.now.form ≡ false = cc in
    rw (c.in-Some.is, c.dangling.ensures) (left_dangling c.in-Some.pending (part_view c.args.part.now) differ)
