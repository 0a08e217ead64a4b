-- What two ends that meet know of each other, from the rings' order alone.
use Rattle.std.proofs.Common.{◌≡◌, ◌+◌, ◌≤◌, Bool, true, false, List, [], ◌∷◌, ◌++◌, map, length, refl, ap, sym, ◌∙◌, append_assoc, arith, length-append}
use Rattle.std.proofs.lemmas.List.{map-append, length-map, append_cancel_left, append-nil}
use mathlib.Core.List.{IsPrefix}
use Rattle.hpf_lend.specs.declared.message.Message.{Message}
use Rattle.hpf_lend.specs.declared.message.Message.TheVariants.{Frame, End}
use Rattle.hpf_lend.specs.declared.message.EndKind.{EndKind}
use Rattle.hpf_lend.specs.Plain.{Plain, home_of, home_with}
use Rattle.hpf_lend.specs.Messages.{lent, ends, IsClosed}
use Rattle.hpf_lend.specs.Lending.{Lending, IsLender}
use Rattle.hpf_lend.specs.Borrowing.{Borrowing, IsBorrower, HaveMet, IsPair, in_hand}
use Rattle.hpf_lend.specs.KeepsLender.{lending, KeepsLender}
use Rattle.hpf_lend.specs.KeepsBorrower.{borrowing, KeepsBorrower}
use Rattle.hpf_lend.specs.declared.lender.Lender.TheInside.{Inside as LenderInside}
use Rattle.hpf_lend.specs.declared.borrower.Borrower.TheInside.{Inside as BorrowerInside}
use Rattle.hpf_lend.specs.declared.outbox.Outbox.{Outbox}
use Rattle.hpf_lend.specs.Outbox.{sent_by, SameOutbox}
use Rattle.rtrb.specs.Ring.{received, known_items, producer_capacity, ConsumerLooked}
use Rattle.rtrb.specs.declared.consumer.Consumer.{Consumer}
use Rattle.rtrb.specs.declared.AnyItems.{AnyItems}
use Rattle.std.specs.declared.alloc.Global.{Global}

pub lent-append : (a b : List Message) → lent (a ++ b) ≡ lent a ++ lent b
lent-append [] b = refl
lent-append (Frame n x ∷ a) b = ap (λ (l : List Plain). x ∷ l) (lent-append a b)
lent-append (End k ∷ a) b = lent-append a b

-- an end is no buffer
pub lent_ended : (a : List Message) (kind : EndKind) → lent (a ++ End kind ∷ []) ≡ lent a
lent_ended a kind = lent-append a (End kind ∷ []) ∙ append-nil (lent a)

pub ends-append : (a b : List Message) → ends (a ++ b) ≡ ends a + ends b
ends-append [] b = omega arith
ends-append (Frame n x ∷ a) b = ends-append a b
ends-append (End k ∷ a) b = omega (arith, ends-append a b)

-- at most one end is there, and it is the last
pub one_end : (a : List Message) → IsClosed a → ends a ≤ 1
one_end [] is = omega arith
one_end (Frame n x ∷ a) is = one_end a is
one_end (End k ∷ []) is = omega arith
one_end (End k ∷ (m ∷ a)) is = absurd (cc)

-- where no end was sent, more may be
pub closed-append : (a b : List Message) → ends a ≡ 0 → IsClosed b → IsClosed (a ++ b)
closed-append [] b none is = is
closed-append (Frame n x ∷ a) b none is = closed-append a b none is
closed-append (End k ∷ a) b none is = absurd (omega (arith, none))

-- each message is a frame or an end
pub length-lent : (a : List Message) → length a ≡ length (lent a) + ends a
length-lent [] = refl
length-lent (Frame n x ∷ a) = omega (arith, length-lent a)
length-lent (End k ∷ a) = omega (arith, length-lent a)

not_true : (b : Bool) → (b ≡ true → ⊥) → b ≡ false
not_true true h = absurd (h refl)
not_true false h = refl

-- what waits for the borrower, and what waits for the lender
pub record Waiting (x : Lending) (y : Borrowing) (messages : List Message) (back : List Plain) : Type 0 where
  pub forward : y.received ++ messages ≡ x.sent
  pub returned : x.taken ++ back ≡ y.returned

-- all buffers that were lent: those taken back, those that wait for the lender, the one in hand, and those that wait for the borrower
pub lent_in_order : (x : Lending) (y : Borrowing) (ms : List Message) (bs : List Plain) → IsBorrower y → Waiting x y ms bs
    → lent x.sent ≡ x.taken ++ (bs ++ (lent (in_hand y.hand) ++ lent ms))
lent_in_order x y ms bs is w =
    let g = is.gathered.0 in
    let h = is.gathered.1 in
    let e : lent x.sent ≡ lent y.received ++ lent ms = ap lent (sym w.forward) ∙ lent-append y.received ms in
    let r : lent y.received ≡ y.returned ++ lent (in_hand y.hand) = ap lent h.received ∙ lent-append g (in_hand y.hand) ∙ ap (λ (l : List Plain). l ++ lent (in_hand y.hand)) (sym h.returned) in
    let s : lent x.sent ≡ ((x.taken ++ bs) ++ lent (in_hand y.hand)) ++ lent ms = e ∙ ap (λ (l : List Plain). l ++ lent ms) (r ∙ ap (λ (l : List Plain). l ++ lent (in_hand y.hand)) (sym w.returned)) in
    s ∙ simp append_assoc

pub record MeetFacts (x : Lending) (y : Borrowing) (ms : List Message) (bs : List Plain) : Type 0 where
  pub straight : x.strayed ≡ false
  pub on_their_way : length bs + length (lent (in_hand y.hand)) + length (lent ms) ≡ length x.out
  pub few_messages : length ms ≤ length x.shelf + 1
  pub few_back : length bs ≤ length x.shelf

pub meet_facts : (x : Lending) (y : Borrowing) (ms : List Message) (bs : List Plain) → IsLender x → IsBorrower y → Waiting x y ms bs → MeetFacts x y ms bs
meet_facts x y ms bs isx isy w =
    let rest = bs ++ (lent (in_hand y.hand) ++ lent ms) in
    let e : lent x.sent ≡ x.taken ++ rest = lent_in_order x y ms bs isy w in
    let p : IsPrefix (map home_of x.taken) (map home_of (lent x.sent)) = (map home_of rest, sym (ap (map home_of) e ∙ map-append home_of x.taken rest)) in
    let st : x.strayed ≡ false = not_true x.strayed (λ t. isx.astray t p) in
    let outs = map (home_with x.size) x.out in
    let a : length (map home_of x.taken) ≡ length x.taken = length-map x.taken home_of in
    let b : length outs ≡ length x.out = length-map x.out (home_with x.size) in
    let c : length (map home_of (lent x.sent)) ≡ length (lent x.sent) = length-map (lent x.sent) home_of in
    let l1 : length (map home_of (lent x.sent)) ≡ length (map home_of x.taken) + length outs =
    ap length (isx.straight st) ∙ length-append (map home_of x.taken) outs in
    let l2 : length (lent x.sent) ≡ length x.taken + (length bs + (length (lent (in_hand y.hand)) + length (lent ms))) =
    ap length e ∙ simp length-append in
    let way : length bs + length (lent (in_hand y.hand)) + length (lent ms) ≡ length x.out = omega arith in
    let n1 = length-lent ms in
    let n2 : ends x.sent ≡ ends y.received + ends ms = ap ends (sym w.forward) ∙ ends-append y.received ms in
    let n3 = one_end x.sent isx.closed in
    let n4 = isx.counted in
    record { straight = st; on_their_way = way; few_messages = omega arith; few_back = omega arith }

-- what `Outbox::show` gives
pub record Shown {T : Type 0} (o p : Outbox T) (c d : Consumer T Global AnyItems) : Type 0 where
  pub all_sent : sent_by p ≡ sent_by o
  pub same : SameOutbox o p
  pub looked : ConsumerLooked c d
  pub fifo : (received d ++ known_items d) ++ p.kept.items ≡ sent_by p

waits_in : {T : Type 0} (o p : Outbox T) (c d : Consumer T Global AnyItems) → Shown o p c d
    → received c ++ (known_items d ++ p.kept.items) ≡ sent_by o
waits_in {T} o p c d s =
    ap (λ (l : List T). l ++ (known_items d ++ p.kept.items)) (sym s.looked.1) ∙ sym (append_assoc (received d) (known_items d) p.kept.items) ∙ s.fifo ∙ s.all_sent

pub waiting : (l : LenderInside) (b : BorrowerInside) (p : Outbox Message) (d : Consumer Message Global AnyItems) (q : Outbox Plain) (e : Consumer Plain Global AnyItems)
    → Shown l.outbox p b.inbox d → Shown b.outbox q l.inbox e
    → Waiting (lending l) (borrowing b) (known_items d ++ p.kept.items) (known_items e ++ q.kept.items)
waiting l b p d q e s t = record { forward = waits_in l.outbox p b.inbox d s; returned = waits_in b.outbox q l.inbox e t }

-- the two ends after their meeting
pub record Brings (x z : Lending) (y w : Borrowing) : Type 0 where
  pub sent : z.sent ≡ x.sent
  pub out : z.out ≡ x.out
  pub taken : z.taken ≡ x.taken
  pub received : w.received ≡ y.received
  pub returned : w.returned ≡ y.returned
  pub hand : w.hand ≡ y.hand
  pub buffers : w.buffers ≡ length x.shelf
  pub forward : w.received ++ w.known ≡ z.sent
  pub back : z.taken ++ z.known ≡ w.returned
  pub lender_kept : z.kept ≡ []
  pub borrower_kept : w.kept ≡ []

pub have_met : (x z : Lending) (y w : Borrowing) (ms : List Message) (bs : List Plain) → MeetFacts x y ms bs → Waiting x y ms bs → Brings x z y w → HaveMet z w
have_met x z y w ms bs f h r =
    let e : w.known ≡ ms = append_cancel_left y.received w.known ms (ap (λ (l : List Message). l ++ w.known) (sym r.received) ∙ r.forward ∙ r.sent ∙ sym h.forward) in
    let d : z.known ≡ bs = append_cancel_left x.taken z.known bs (ap (λ (l : List Plain). l ++ z.known) (sym r.taken) ∙ r.back ∙ r.returned ∙ sym h.returned) in
    record {
      messages = sym r.forward;
      back = sym r.back;
      lender_kept = r.lender_kept;
      borrower_kept = r.borrower_kept;
      few_messages = rw (e, r.buffers) f.few_messages;
      on_their_way = rw (e, d, r.hand, r.out) f.on_their_way;
    }

-- the two ends of one pair have met halfway: each knows of what its ring holds
pub record Halfway (l : LenderInside) (b : BorrowerInside) (p : Outbox Message) (d : Consumer Message Global AnyItems) (q : Outbox Plain) (e : Consumer Plain Global AnyItems) : Type 0 where
  pub lender : KeepsLender l
  pub borrower : KeepsBorrower b
  pub pair : IsPair (lending l) (borrowing b)
  pub forward : Shown l.outbox p b.inbox d
  pub back : Shown b.outbox q l.inbox e

pub record Rooms (l : LenderInside) (b : BorrowerInside) (p : Outbox Message) (d : Consumer Message Global AnyItems) (q : Outbox Plain) (e : Consumer Plain Global AnyItems) : Type 0 where
  pub waits : Waiting (lending l) (borrowing b) (known_items d ++ p.kept.items) (known_items e ++ q.kept.items)
  pub facts : MeetFacts (lending l) (borrowing b) (known_items d ++ p.kept.items) (known_items e ++ q.kept.items)
  pub forward : length (sent_by p) ≤ length (received d) + producer_capacity p.ring
  pub back : length (sent_by q) ≤ length (received e) + producer_capacity q.ring

pub rooms : (l : LenderInside) (b : BorrowerInside) (p : Outbox Message) (d : Consumer Message Global AnyItems) (q : Outbox Plain) (e : Consumer Plain Global AnyItems)
    → Halfway l b p d q e → Rooms l b p d q e
rooms l b p d q e h =
    let ms = known_items d ++ p.kept.items in
    let bs = known_items e ++ q.kept.items in
    let w = waiting l b p d q e h.forward h.back in
    let f = meet_facts (lending l) (borrowing b) ms bs h.lender.lawful h.borrower.lawful w in
    let a : length (received b.inbox) + length ms ≡ length (sent_by l.outbox) = sym (length-append (received b.inbox) ms) ∙ ap length w.forward in
    let a' : length (received l.inbox) + length bs ≡ length (sent_by b.outbox) = sym (length-append (received l.inbox) bs) ∙ ap length w.returned in
    let r : length (received d) ≡ length (received b.inbox) = ap length h.forward.looked.1 in
    let r' : length (received e) ≡ length (received l.inbox) = ap length h.back.looked.1 in
    let s : length (sent_by p) ≡ length (sent_by l.outbox) = ap length h.forward.all_sent in
    let s' : length (sent_by q) ≡ length (sent_by b.outbox) = ap length h.back.all_sent in
    let n : producer_capacity p.ring ≡ producer_capacity l.outbox.ring = h.forward.same.0.1 in
    let n' : producer_capacity q.ring ≡ producer_capacity b.outbox.ring = h.back.same.0.1 in
    let k = h.lender.room in
    let k' = h.borrower.room in
    let m = f.few_messages in
    let m' = f.few_back in
    let v = h.pair.buffers in
    record { waits = w; facts = f; forward = omega arith; back = omega arith }

pub seen_pair : (l : LenderInside) (b : BorrowerInside) (x : Lending) (y : Borrowing) → lending l ≡ x → borrowing b ≡ y → IsPair x y → IsPair (lending l) (borrowing b)
seen_pair l b x y e f p = rw (e, f) p
