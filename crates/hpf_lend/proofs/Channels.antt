-- The ends of channels as workers have them.
use Rattle.std.specs.Prelude.{◌≡◌, ℕ, ◌+◌, ◌<◌, ◌≤◌, Bool, false, List, [], ◌∷◌, ◌++◌, length, map, take, Option, Some, None}
use Rattle.std.specs.List.{AllByRecursion}
use Rattle.std.proofs.Common.{refl, sym, ap, ◌∙◌, arith, subst, append-nil, length-append, inl, inr}
use Rattle.std.proofs.Math.Seq.{take-append_seam}
use Rattle.std.proofs.lemmas.Bool.{cases_lt}
use Rattle.std.proofs.lemmas.List.{map-append, length-map, nil_from_length}
use Rattle.hpf_lend.specs.declared.message.Message.{Message}
use Rattle.hpf_lend.specs.declared.message.Message.TheVariants.{Frame, End}
use Rattle.hpf_lend.specs.Plain.{Home, home_of, home_with}
use Rattle.hpf_lend.specs.Messages.{lent, ends, IsClosed}
use Rattle.hpf_lend.specs.Shelf.{times, homes}
use Rattle.hpf_lend.specs.Lending.{Lending, IsLender}
use Rattle.hpf_lend.specs.Borrowing.{Borrowing, IsBorrower, IsPair, HaveMet, in_hand}
use Rattle.hpf_lend.specs.Streams.{IsPrefix, homes_of, end_of}
use Rattle.hpf_lend.specs.Ends.{Entry, Exit, entry_of, exit_of, AreBuffers, LendsAt, BorrowsAt, AreJoined, KnowAll, EntryGoesOn, ExitGoesOn}
use Rattle.hpf_lend.proofs.Shelves.{one_if-same, away-le, away-past}
use Rattle.hpf_lend.proofs.Meeting.{length-lent}
use Rattle.hpf_lend.proofs.Prefixes.{prefix_trans}
use Rattle.hpf_lend.proofs.Streams.{no_end, length-homes_of, homes_push}

-- ---- a lender's end

-- where an end is the last message, all buffers that were lent stand in front of it
homes_closed : (messages : List Message) → IsClosed messages → homes_of messages ≡ map home_of (lent messages)
homes_closed [] is = refl
homes_closed (Frame number buffer ∷ messages) is = ap (λ (l : List Home). home_of buffer ∷ l) (homes_closed messages is)
homes_closed (End kind ∷ messages) is = ap (λ (l : List Message). map home_of (lent l)) (sym is)

others : (size x : ℕ) (out : List ℕ) → times x out ≡ 0 → AllByRecursion (λ (other : Home). ¬ (x ≡ other.number)) (map (home_with size) out)
others size x [] none = tt
others size x (y ∷ out) none = (λ same. absurd (omega (arith, none, one_if-same x y same)), others size x out (omega (arith, none)))

-- buffers that stand once at most, and have no number from n on
apart : (size n : ℕ) (out : List ℕ) → ((k : ℕ) → times k out ≤ 1) → ((k : ℕ) → n ≤ k → times k out ≡ 0) → AreBuffers n (map (home_with size) out)
apart size n [] once few = tt
apart size n (x ∷ out) once few =
    let here = one_if-same x x refl in
    let below : x < n = elim (cases_lt x n) [ inl b ↦ b | inr past ↦ absurd (omega (arith, here, few x past)) ] in
    (below, others size x out (omega (arith, here, once x)), apart size n out (λ k. omega (arith, once k)) (λ k past. omega (arith, few k past)))

pub lends_at : (x : Lending) (places : List ℕ) → IsLender x → LendsAt (exit_of places x)
lends_at x places is =
    let closed = homes_closed x.sent is.closed in
    record {
      lending = λ straight. record {
        out = map (home_with x.size) x.out;
        in_order = sym (is.straight straight) ∙ sym closed;
        apart = apart x.size (length x.shelf) x.out (λ k. omega (arith, is.places k, away-le x.shelf 0 k))
            (λ k past. is.places k ∙ away-past x.shelf 0 k (omega (arith, past)));
        few = omega (arith, length-map x.out (home_with x.size), is.counted);
      };
      strayed = λ astray p. is.astray astray (subst (λ (l : List Home). IsPrefix (map home_of x.taken) l) closed p);
    }

pub homes_left : (x : Lending) → IsLender x → x.strayed ≡ false → homes x.shelf + length (homes_of x.sent) ≡ length x.taken + length x.shelf
homes_left x is straight =
    omega (
      arith,
      is.counted,
      ap length (is.straight straight),
      length-append (map home_of x.taken) (map (home_with x.size) x.out),
      length-map x.taken home_of,
      length-map x.out (home_with x.size),
      ap length (homes_closed x.sent is.closed),
    )

pub all_came_home : (x : Lending) → IsLender x → x.strayed ≡ false → homes x.shelf ≡ length x.shelf → map home_of x.taken ≡ homes_of x.sent
all_came_home x is straight home =
    let none : x.out ≡ [] = nil_from_length x.out (omega (arith, is.counted, home)) in
    sym (homes_closed x.sent is.closed ∙ is.straight straight
    ∙ (ap (λ (l : List ℕ). map home_of x.taken ++ map (home_with x.size) l) none ∙ append-nil (map home_of x.taken)))

-- ---- a borrower's end

homes_all : (messages : List Message) → ends messages ≡ 0 → homes_of messages ≡ map home_of (lent messages)
homes_all [] none = refl
homes_all (Frame number buffer ∷ messages) none = ap (λ (l : List Home). home_of buffer ∷ l) (homes_all messages none)
homes_all (End kind ∷ messages) none = absurd (omega (arith, none))

one_in_hand : (hand : Option Message) → length (in_hand hand) ≤ 1
one_in_hand None = omega arith
one_in_hand (Some m) = omega arith

homes_received : (y : Borrowing) (is : IsBorrower y) → homes_of y.received ≡ map home_of y.returned ++ homes_of (in_hand y.hand)
homes_received y is =
    let g = is.gathered.0 in
    let h = is.gathered.1 in
    ap (λ (l : List Message). homes_of l) h.received ∙ homes_push g (in_hand y.hand) (no_end g h.frames)
    ∙ ap (λ (l : List Home). l ++ homes_of (in_hand y.hand)) (homes_all g h.frames ∙ ap (map home_of) (sym h.returned))

length_gathered : (y : Borrowing) (is : IsBorrower y) → length is.gathered.0 ≡ length y.returned
length_gathered y is = let h = is.gathered.1 in omega (arith, length-lent is.gathered.0, h.frames, ap length h.returned)

pub borrows_at : (y : Borrowing) (places : List ℕ) (lost : Bool) → IsBorrower y → BorrowsAt (entry_of places lost y)
borrows_at y places lost is =
    let received = homes_received y is in
    let many = length-map y.returned home_of in
    record {
      are_there = omega (arith, length-homes_of y.received, ap length received, length-append (map home_of y.returned) (homes_of (in_hand y.hand)), many);
      hand = omega (arith, ap length is.gathered.1.received, length-append is.gathered.0 (in_hand y.hand), length_gathered y is, one_in_hand y.hand);
      returned =
          sym (take-append_seam (map home_of y.returned) (homes_of (in_hand y.hand)))
          ∙ ap (λ (n : ℕ). take n (map home_of y.returned ++ homes_of (in_hand y.hand))) many ∙ ap (λ (l : List Home). take (length y.returned) l) (sym received);
    }

pub hand_is_last : (y : Borrowing) (message : Message) → IsBorrower y → y.hand ≡ Some message
    → (front : List Message) × (y.received ≡ front ++ message ∷ []) × (length front ≡ length y.returned) × (end_of front ≡ None)
hand_is_last y message is hand =
    let g = is.gathered.0 in
    let h = is.gathered.1 in
    (g, h.received ∙ ap (λ (o : Option Message). g ++ in_hand o) hand, length_gathered y is, no_end g h.frames)

pub nothing_in_hand : (y : Borrowing) → IsBorrower y → y.hand ≡ None → (length y.received ≡ length y.returned) × (end_of y.received ≡ None)
nothing_in_hand y is hand =
    let g = is.gathered.0 in
    let h = is.gathered.1 in
    let all : y.received ≡ g = h.received ∙ ap (λ (o : Option Message). g ++ in_hand o) hand ∙ append-nil g in
    (ap length all ∙ length_gathered y is, ap (λ (l : List Message). end_of l) all ∙ no_end g h.frames)

-- ---- two ends

pub know_all : (x : Lending) (y : Borrowing) (takes leads : List ℕ) (lost : Bool) → IsLender x → IsPair x y → HaveMet x y → KnowAll (exit_of takes x) (entry_of leads lost y)
know_all x y takes leads lost is pair met = record {
  messages = sym met.messages;
  homes = sym (map-append home_of x.taken x.known) ∙ ap (map home_of) (sym met.back);
  few_messages = omega (arith, met.few_messages, pair.buffers);
  few_homes = omega (arith, length-map x.known home_of, met.on_their_way, is.counted);
}

pub are_joined : (exit : Exit) (entry : Entry) → KnowAll exit entry → AreJoined exit entry
are_joined exit entry k = record { received = (entry.knows, k.messages); taken_back = (exit.knows, k.homes) }

pub entry_joined : (exit : Exit) (old new : Entry) → KnowAll exit old → EntryGoesOn old new → AreJoined exit new
entry_joined exit old new k g = record {
  received = (new.knows, g.received ∙ k.messages);
  taken_back = prefix_trans _ _ _ (exit.knows, k.homes) g.returned;
}

pub exit_joined : (old new : Exit) (entry : Entry) → KnowAll old entry → ExitGoesOn old new → AreJoined new entry
exit_joined old new entry k g = record {
  received = prefix_trans _ _ _ (entry.knows, k.messages) g.sent;
  taken_back = (new.knows, g.taken_back ∙ k.homes);
}
