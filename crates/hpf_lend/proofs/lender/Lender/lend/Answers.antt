use Rattle.std.proofs.Common.{rules, ◌≡◌, ℕ, ◌+◌, ◌<◌, ◌∙◌, sym, refl, ap, arith, [], ◌∷◌, ◌++◌, length}
use Rattle.rtrb.specs.Ring.{sent, producer_capacity}
use Rattle.hpf_lend.specs.declared.message.Message.TheVariants.{Frame}
use Rattle.hpf_lend.specs.KeepsLender.{lending}
use Rattle.hpf_lend.specs.Lending.{Lending}
use Rattle.hpf_lend.specs.Messages.{ends}
use Rattle.hpf_lend.specs.Shelf.{homes}
use Rattle.hpf_lend.proofs.Shelves.{no_none, length_without, least_size}
use Rattle.hpf_lend.proofs.Lending.{LendsTo, lent_one, kept_short}
use Rattle.hpf_lend.proofs.Meeting.{ends-append}
use Rattle.hpf_lend.proofs.Histories.{seen_least, if_lends}
use Rattle.hpf_lend.proofs.lender.Lender.lend.Goals as goal

pub unreachable-requires : goal.unreachable-requires
unreachable-requires c =
    let h : 0 < homes (lending c.self.inside).shelf = (let e = ap (λ (x : Lending). homes x.shelf) c.self.view_is in let r = c.requires.home in omega arith) in
    no_none (lending c.self.inside).shelf h (sym c.take_least.ensures.value ∙ c.in-None.is)

pub send-requires : goal.send-requires
send-requires c =
    let k = c.self.invariant in
    let o : ends (lending c.self.inside).sent ≡ 0 = ap (λ (x : Lending). ends x.sent) c.self.view_is ∙ c.requires.unended in
    let s = kept_short (lending c.self.inside) k.lawful in
    let n = k.lawful.counted in
    let r = k.row in
    omega arith

-- the lender after it sent the buffer
abbrev after : goal.After-send → Lending
after c = lending (record c.self.inside { shelf = c.take_least.new.shelf; out = c.push_back_reserved.new.self; outbox = c.send.new.self })

lends : (c : goal.After-send) → LendsTo (lending c.self.inside) (after c) c.args.frame c.in-Some.buffer
lends c = record {
  first = sym c.take_least.ensures.value ∙ c.in-Some.is;
  straight = c.if-self.false;
  opened = ap (λ (x : Lending). ends x.sent) c.self.view_is ∙ c.requires.unended;
  size = refl;
  shelf = c.take_least.ensures.rest;
  out = c.push_back_reserved.ensures.items ∙ ap (λ (n : ℕ). c.self.inside.out.items ++ n ∷ []) c.number.ensures;
  sent = c.send.ensures.sent;
  last = (sent c.send.new.self.ring, refl);
  fewer = c.send.ensures.fewer;
  taken = refl;
  strayed = c.if-self.false;
}

same_length : (c : goal.After-send) → length c.take_least.new.shelf.items ≡ length c.self.inside.shelf.items
same_length c = ap length c.take_least.ensures.rest ∙ length_without c.self.inside.shelf.items

unended : (c : goal.After-send) → ends (after c).sent ≡ 0
unended c =
    let l = lends c in
    ap ends l.sent ∙ ends-append (lending c.self.inside).sent (Frame c.args.frame c.in-Some.buffer ∷ []) ∙ (let o = l.opened in omega arith)

pub invariant_of-self : goal.invariant_of-self
invariant_of-self c =
    let s = c.send.ensures.same in
    let k = c.self.invariant in
    let n = ap (λ (m : ℕ). m + 1) (sym (same_length c)) in
    record {
      lawful = lent_one (lending c.self.inside) _ c.args.frame c.in-Some.buffer k.lawful (lends c);
      room = s.0.1 ∙ k.room ∙ n;
      row = s.1 ∙ k.row ∙ n;
      places = c.push_back_reserved.ensures.capacity ∙ k.places ∙ sym (same_length c);
      closed = unended c ∙ sym (lends c).opened ∙ k.closed;
    }

pub returns-clause-lawful : goal.returns-clause-lawful
returns-clause-lawful c = lent_one (lending c.self.inside) _ c.args.frame c.in-Some.buffer c.self.invariant.lawful (lends c)

pub returns-clause-first : goal.returns-clause-first
returns-clause-first c = λ few _.
    let s = c.send.ensures in
    let n : producer_capacity c.send.new.self.ring ≡ producer_capacity c.self.inside.outbox.ring = s.same.0.1 in
    s.first (omega (arith, same_length c, c.self.invariant.room, n, few))

pub returns-clause-unended : goal.returns-clause-unended
returns-clause-unended c = unended c

pub returns-clause-least : goal.returns-clause-least
returns-clause-least c = seen_least (lending c.self.inside) c.args.self.now c.self.view_is c.self.invariant.lawful

pub returns-clause-end : goal.returns-clause-end
returns-clause-end c = rw (← c.self.view_is) (record { size = refl; buffers = same_length c; forward = cc; back = refl })

pub returns-clause-history : goal.returns-clause-history
returns-clause-history c = if_lends _ (lending c.self.inside) c.args.self.now _ c.args.frame c.in-Some.buffer c.self.view_is c.self.invariant.lawful (lends c)

pub returns-clause-answer : goal.returns-clause-answer
returns-clause-answer c =
    let x = lending c.self.inside in
    let first = (lends c).first in (
      c.in-Some.buffer,
      rw (← c.self.view_is) (record { first = first; size = least_size x.size 0 x.shelf c.in-Some.buffer c.self.invariant.lawful.shelved first; change = search rules }),
    )
