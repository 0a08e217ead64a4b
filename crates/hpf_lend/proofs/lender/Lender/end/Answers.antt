use Rattle.std.proofs.Common.{◌≡◌, ℕ, ◌+◌, ◌∙◌, refl, ap, arith, true, List, [], ◌∷◌, map}
use Rattle.rtrb.specs.Ring.{sent}
use Rattle.hpf_lend.specs.declared.message.Message.TheVariants.{End}
use Rattle.hpf_lend.specs.KeepsLender.{lending}
use Rattle.hpf_lend.specs.Lending.{Lending, number_of}
use Rattle.hpf_lend.specs.declared.message.Message.{Message}
use Rattle.hpf_lend.specs.Messages.{lent, ends}
use Rattle.hpf_lend.proofs.Lending.{EndsWith, ended_one, kept_short}
use Rattle.hpf_lend.proofs.Meeting.{ends-append, lent_ended}
use Rattle.hpf_lend.proofs.Histories.{same_history}
use Rattle.hpf_lend.proofs.lender.Lender.end.Goals as goal

pub send-requires : goal.send-requires
send-requires c =
    let k = c.self.invariant in
    let o : ends (lending c.self.inside).sent ≡ 0 = ap (λ (x : Lending). ends x.sent) c.self.view_is ∙ c.requires.unended in
    let s = kept_short (lending c.self.inside) k.lawful in
    let n = k.lawful.counted in
    let r = k.row in
    omega arith

-- the lender after it sent the end
abbrev after : goal.After-send → Lending
after c = lending (record c.self.inside { outbox = c.send.new.self; ended = true })

ends_with : (c : goal.After-send) → EndsWith (lending c.self.inside) (after c) c.args.kind
ends_with c = record {
  opened = ap (λ (x : Lending). ends x.sent) c.self.view_is ∙ c.requires.unended;
  straight = c.if-self.false;
  stock = record { size = refl; shelf = refl; out = refl };
  taken = refl;
  strayed = refl;
  sent = c.send.ensures.sent;
  last = (sent c.send.new.self.ring, refl);
  fewer = c.send.ensures.fewer;
}

pub invariant_of-self : goal.invariant_of-self
invariant_of-self c =
    let s = c.send.ensures in
    let k = c.self.invariant in
    let e = ends_with c in
    record {
      lawful = ended_one (lending c.self.inside) _ c.args.kind k.lawful e;
      room = s.same.0.1 ∙ k.room;
      row = s.same.1 ∙ k.row;
      places = k.places;
      closed = ap ends s.sent ∙ ends-append (lending c.self.inside).sent (End c.args.kind ∷ []) ∙ ap (λ (n : ℕ). n + 1) e.opened;
    }

pub returns-clause-lawful : goal.returns-clause-lawful
returns-clause-lawful c = ended_one (lending c.self.inside) _ c.args.kind c.self.invariant.lawful (ends_with c)

pub returns-clause-history : goal.returns-clause-history
returns-clause-history c =
    let x = lending c.self.inside in
    let e = lent_ended x.sent c.args.kind in
    rw (← c.self.view_is) (same_history x _ refl (ap (λ (ms : List Message). map number_of (lent ms)) c.send.ensures.sent ∙ ap (map number_of) e) refl)
