use Rattle.std.proofs.Common.{◌≡◌, ℕ, ◌+◌, ◌∙◌, sym, refl, ap, arith, drop, length, true, Some}
use Rattle.std.proofs.lemmas.List.{length-set}
use Rattle.hpf_lend.specs.KeepsLender.{lending}
use Rattle.hpf_lend.specs.Lending.{Lending}
use Rattle.hpf_lend.proofs.Lending.{ComesBack, Strays, in_range, came_back, strays}
use Rattle.hpf_lend.proofs.Histories.{comes_on, goes_on_as}
use Rattle.hpf_lend.proofs.Waiting.{lender_finds_nothing}
use Rattle.hpf_lend.proofs.lender.Lender.take_back.Goals as goal

pub put-requires : goal.put-requires
put-requires c =
    let y = c.if-comes_first.ensures.yes refl in
    in_range (lending c.self.inside) c.in-Some.buffer y.0 c.self.invariant.lawful y.1 y.2

-- the lender after the buffer came home
abbrev after : goal.After-put → Lending
after c = lending (record c.self.inside { shelf = c.put.new.shelf; out = c.pop_front.new.self; inbox = c.take_next.new.inbox; fresh = c.take_next.new.fresh })

comes : (c : goal.After-put) → ComesBack (lending c.self.inside) (after c) c.in-Some.buffer (c.if-comes_first.ensures.yes refl).0
comes c =
    let y = c.if-comes_first.ensures.yes refl in
    record {
      straight = c.if-self.false;
      longest = y.1;
      shaped = y.2;
      room = (let f = c.if-frames_in-len.false in let a = c.frames_in.ensures in let b = c.len.ensures in omega arith);
      size = refl;
      shelf = c.put.ensures;
      out = c.pop_front.ensures.rest ∙ ap (drop 1) y.1;
      sent = refl;
      kept = refl;
      taken = c.in-Some.ensures.taken;
      strayed = refl;
    }

pub invariant_of-self : goal.invariant_of-self
invariant_of-self c =
    let k = c.self.invariant in
    let x = lending c.self.inside in
    let same_length : length c.put.new.shelf.items ≡ length x.shelf = ap length c.put.ensures ∙ length-set x.shelf c.in-Some.buffer.number (Some c.in-Some.buffer) in
    record {
      lawful = came_back x _ c.in-Some.buffer _ k.lawful (comes c);
      room = k.room ∙ ap (λ (n : ℕ). n + 1) (sym same_length);
      row = k.row ∙ ap (λ (n : ℕ). n + 1) (sym same_length);
      places = c.pop_front.ensures.capacity ∙ k.places ∙ sym same_length;
      closed = k.closed;
    }

pub returns-then-comes_first-clause-lawful : goal.returns-then-comes_first-clause-lawful
returns-then-comes_first-clause-lawful c = came_back (lending c.self.inside) _ c.in-Some.buffer _ c.self.invariant.lawful (comes c)

pub returns-then-comes_first-clause-history : goal.returns-then-comes_first-clause-history
returns-then-comes_first-clause-history c = λ buffer home.
    let x = lending c.self.inside in
    goes_on_as x c.args.self.now _ c.in-Some.buffer buffer c.self.view_is c.in-Some.ensures.taken home (comes_on x _ c.in-Some.buffer _ c.self.invariant.lawful (comes c))

-- the lender after it strayed
abbrev astray : goal.After-drop-buffer-inside → Lending
astray c = lending (record c.self.inside { inbox = c.take_next.new.inbox; fresh = c.take_next.new.fresh; strayed = true })

strays_by : (c : goal.After-drop-buffer-inside) → Strays (lending c.self.inside) (astray c) c.in-Some.buffer
strays_by c = record {
  straight = c.if-self.false;
  other = c.if-comes_first.ensures.no refl;
  stock = record { size = refl; shelf = refl; out = refl };
  sent = refl;
  kept = refl;
  taken = c.in-Some.ensures.taken;
  strayed = refl;
}

pub invariant_of-self-else-comes_first : goal.invariant_of-self-else-comes_first
invariant_of-self-else-comes_first c =
    let k = c.self.invariant in
    record {
      lawful = strays (lending c.self.inside) _ c.in-Some.buffer k.lawful (strays_by c);
      room = k.room;
      row = k.row;
      places = k.places;
      closed = k.closed;
    }

pub returns-else-comes_first-clause-lawful : goal.returns-else-comes_first-clause-lawful
returns-else-comes_first-clause-lawful c = strays (lending c.self.inside) _ c.in-Some.buffer c.self.invariant.lawful (strays_by c)

pub returns-in-None-clause-answer : goal.returns-in-None-clause-answer
returns-in-None-clause-answer c =
    let n = c.in-None.ensures.none in
    lender_finds_nothing (lending c.self.inside) c.args.self.now _ c.self.view_is n.1 (record {
      size = refl;
      shelf = refl;
      out = refl;
      sent = refl;
      kept = refl;
      taken = n.0;
      known = n.2 ∙ sym n.1;
      strayed = refl;
      fresh = n.3;
      forward = refl;
      back = cc;
    })
