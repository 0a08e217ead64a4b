use Rattle.std.proofs.Common.{◌∙◌, sym, refl}
use Rattle.hpf_lend.specs.KeepsBorrower.{borrowing}
use Rattle.hpf_lend.proofs.Waiting.{borrower_finds_nothing}
use Rattle.hpf_lend.proofs.borrower.Borrower.take.Goals as goal

pub returns-in-None-clause-answer : goal.returns-in-None-clause-answer
returns-in-None-clause-answer c =
    let n = c.in-None.ensures.none in
    borrower_finds_nothing (borrowing c.self.inside) c.args.self.now _ c.self.view_is n.1 (record {
      buffers = refl;
      received = n.0;
      known = n.2 ∙ sym n.1;
      hand = refl;
      returned = refl;
      kept = refl;
      fresh = n.3;
      forward = cc;
      back = refl;
    })
