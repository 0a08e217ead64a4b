use Rattle.std.proofs.Common.{◌∙◌, refl}
use Rattle.rtrb.specs.Ring.{sent}
use Rattle.hpf_lend.specs.KeepsLender.{lending}
use Rattle.hpf_lend.specs.Lending.{Lending}
use Rattle.hpf_lend.proofs.Lending.{Flushed, flushed}
use Rattle.hpf_lend.proofs.lender.Lender.flush.Goals as goal

abbrev after : goal.After-flush → Lending
after c = lending (record c.self.inside { outbox = c.flush.new.self })

flushes : (c : goal.After-flush) → Flushed (lending c.self.inside) (after c)
flushes c = record {
  stock = record { size = refl; shelf = refl; out = refl };
  taken = refl;
  strayed = refl;
  sent = c.flush.ensures.sent;
  last = (sent c.flush.new.self.ring, refl);
  fewer = c.flush.ensures.fewer;
}

pub invariant_of-self : goal.invariant_of-self
invariant_of-self c =
    let s = c.flush.ensures in
    let k = c.self.invariant in
    record {
      lawful = flushed (lending c.self.inside) _ k.lawful (flushes c);
      room = s.same.0.1 ∙ k.room;
      row = s.same.1 ∙ k.row;
      places = k.places;
      closed = rw s.sent k.closed;
    }

pub returns-clause-lawful : goal.returns-clause-lawful
returns-clause-lawful c = flushed (lending c.self.inside) _ c.self.invariant.lawful (flushes c)
