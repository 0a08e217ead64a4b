-- A lender that hasn't strayed keeps the lending law.
use Rattle.std.proofs.Common.{◌≡◌, ℕ, zero, suc, ◌+◌, ◌≤◌, false, List, [], ◌∷◌, ◌++◌, map, length, refl, ap, sym, ◌∙◌, arith, Some, None, Option, inl, inr, ◌⊎◌, length-append, IfSome}
use Rattle.std.proofs.lemmas.List.{map-append, map_push, append-nil, append_assoc, append_cancel_left, length-set}
use Rattle.hpf_lend.specs.Calls.{ComesHome}
use Rattle.hpf_lend.specs.Plain.{Plain, Home, home_of, home_with}
use Rattle.hpf_lend.specs.Messages.{lent}
use Rattle.hpf_lend.specs.Shelf.{times, away, least}
use Rattle.hpf_lend.specs.Lending.{Lending, IsLender, number_of, numbers_lent, numbers_taken}
use Rattle.hpf_lend.specs.declared.message.Message.{Message}
use Rattle.hpf_lend.specs.declared.message.Message.TheVariants.{Frame}
use Rattle.hpf_lend.specs.History.{Lawful, IsLeastHome, Event, lent_in, back_in, MayFollow, IsLegal, IsLegalAfter, IsHistory, GoesOnWith, KeepsHistory, Lent, Back}
use Rattle.hpf_lend.proofs.Shelves.{times-append, away-le, away-past, least-others, length_without}
use Rattle.hpf_lend.proofs.Meeting.{lent-append}
use Rattle.hpf_lend.proofs.Lending.{LendsTo, lent_one, ComesBack, came_back}

first-home : (l : List Plain) → map (λ (p : Home). p.number) (map home_of l) ≡ map number_of l
first-home [] = refl
first-home (b ∷ l) = ap (λ (ns : List ℕ). b.number ∷ ns) (first-home l)

first-sized : (size : ℕ) (l : List ℕ) → map (λ (p : Home). p.number) (map (home_with size) l) ≡ l
first-sized size [] = refl
first-sized size (k ∷ l) = ap (λ (ns : List ℕ). k ∷ ns) (first-sized size l)

-- what was lent is what was taken back, and then what is out
pub lent_is : (x : Lending) → IsLender x → x.strayed ≡ false → numbers_lent x ≡ numbers_taken x ++ x.out
lent_is x is straight =
    let f : Home → ℕ = λ p. p.number in
    sym (first-home (lent x.sent)) ∙ ap (map f) (is.straight straight) ∙ map-append f (map home_of x.taken) (map (home_with x.size) x.out)
    ∙ ap (λ (l : List ℕ). l ++ map f (map (home_with x.size) x.out)) (first-home x.taken) ∙ ap (λ (l : List ℕ). numbers_taken x ++ l) (first-sized x.size x.out)

-- each was lent as often as it was taken back, and once more where it is missing at home
pub count_is : (x : Lending) (k : ℕ) → IsLender x → x.strayed ≡ false → times k (numbers_lent x) ≡ times k (numbers_taken x) + away 0 x.shelf k
count_is x k is straight =
    ap (times k) (lent_is x is straight) ∙ times-append k (numbers_taken x) x.out ∙ ap (λ (n : ℕ). times k (numbers_taken x) + n) (is.places k)

one_or_none : (n : ℕ) → n ≤ 1 → (n ≡ 0) ⊎ (n ≡ 1)
one_or_none zero h = inl refl
one_or_none (suc zero) h = inr refl
one_or_none (suc (suc n)) h = absurd (omega arith)

pub keeps_law : (x : Lending) → IsLender x → x.strayed ≡ false → Lawful (length x.shelf) (numbers_lent x) (numbers_taken x)
keeps_law x is straight =
    let e = lent_is x is straight in
    let count : (k : ℕ) → times k (numbers_lent x) ≡ times k (numbers_taken x) + away 0 x.shelf k = λ k. count_is x k is straight in
    record {
      home_or_out = λ k _. elim (one_or_none (away 0 x.shelf k) (away-le x.shelf 0 k)) [ inl z ↦ inl (omega (arith, count k)) | inr o ↦ inr (omega (arith, count k)) ];
      no_other = λ k past. (let z : away 0 x.shelf k ≡ 0 = away-past x.shelf 0 k (omega arith) in omega (arith, count k));
      in_order = (x.out, sym e);
      few = (let a : length (numbers_lent x) ≡ length (numbers_taken x) + length x.out = ap length e ∙ length-append (numbers_taken x) x.out in let b = is.counted in omega arith);
    }

pub least_is_home : (x : Lending) (b : Plain) → IsLender x → x.strayed ≡ false → least x.shelf ≡ Some b
    → IsLeastHome (length x.shelf) (numbers_lent x) (numbers_taken x) b.number
least_is_home x b is straight first =
    let count : (k : ℕ) → times k (numbers_lent x) ≡ times k (numbers_taken x) + away 0 x.shelf k = λ k. count_is x k is straight in
    let o = least-others x.size 0 x.shelf b is.shelved first in
    record {
      numbered = (let h = o.1 in omega arith);
      home = (let h = o.0 in omega (arith, count b.number));
      least = λ j below same. (let h : away 0 x.shelf j ≡ 1 = o.2 j (omega arith) below in omega (arith, count j));
    }

-- ---- histories

goes_on : (n : ℕ) (before events : List Event) (e : Event) → IsLegalAfter n before events → MayFollow n (before ++ events) e
    → Lawful n (lent_in (before ++ (events ++ e ∷ []))) (back_in (before ++ (events ++ e ∷ []))) → IsLegalAfter n before (events ++ e ∷ [])
goes_on n before [] e legal next after = (legal, rw append-nil at next, after)
goes_on n before (x ∷ events) e legal next after =
    let s : (before ++ x ∷ []) ++ events ≡ before ++ (x ∷ events) = append_assoc before (x ∷ []) events in
    let t : (before ++ x ∷ []) ++ (events ++ e ∷ []) ≡ before ++ (x ∷ (events ++ e ∷ [])) = append_assoc before (x ∷ []) (events ++ e ∷ []) in
    (legal.0, legal.1, goes_on n (before ++ x ∷ []) events e legal.2 (rw s next) (rw t after))

pub history_goes_on : (n : ℕ) (events : List Event) (e : Event) → IsLegal n events → MayFollow n events e
    → Lawful n (lent_in (events ++ e ∷ [])) (back_in (events ++ e ∷ [])) → IsLegal n (events ++ e ∷ [])
history_goes_on n events e legal next after = goes_on n [] events e legal next after

-- ---- for the contracts, at the value that a lender is seen as

abbrev pub LendsLeastHome : Lending → Option Plain → Type 0
LendsLeastHome x o = IfSome o (λ b. x.strayed ≡ false → IsLeastHome (length x.shelf) (numbers_lent x) (numbers_taken x) b.number)

if_least : (x : Lending) (o : Option Plain) → least x.shelf ≡ o → IsLender x → LendsLeastHome x o
if_least x None e is = tt
if_least x (Some b) e is = λ s. least_is_home x b is s e

pub seen_least : (x y : Lending) → x ≡ y → IsLender x → LendsLeastHome y (least y.shelf)
seen_least x y e is = rw (← e) (if_least x (least x.shelf) refl is)

pub seen_law : (x y : Lending) → x ≡ y → IsLender x → y.strayed ≡ false → Lawful (length y.shelf) (numbers_lent y) (numbers_taken y)
seen_law x y e is = rw (← e) (keeps_law x is)

-- ---- what each call does to a history

lent_in-append : (events : List Event) (e : Event) → lent_in (events ++ e ∷ []) ≡ lent_in events ++ lent_in (e ∷ [])
lent_in-append [] e = refl
lent_in-append (Lent k ∷ events) e = ap (λ (l : List ℕ). k ∷ l) (lent_in-append events e)
lent_in-append (Back k ∷ events) e = lent_in-append events e

back_in-append : (events : List Event) (e : Event) → back_in (events ++ e ∷ []) ≡ back_in events ++ back_in (e ∷ [])
back_in-append [] e = refl
back_in-append (Lent k ∷ events) e = back_in-append events e
back_in-append (Back k ∷ events) e = ap (λ (l : List ℕ). k ∷ l) (back_in-append events e)

-- a lender that goes on from another by one event
pub record Continues (x z : Lending) (e : Event) : Type 0 where
  pub lawful : IsLender z
  pub strayed : z.strayed ≡ false
  pub shelf : length z.shelf ≡ length x.shelf
  pub lent : numbers_lent z ≡ numbers_lent x ++ lent_in (e ∷ [])
  pub back : numbers_taken z ≡ numbers_taken x ++ back_in (e ∷ [])

continues : (x z : Lending) (e : Event) → Continues x z e → ((events : List Event) → IsHistory events x → MayFollow (length x.shelf) events e) → GoesOnWith e x z
continues x z e g next = λ events h.
    let lent : lent_in (events ++ e ∷ []) ≡ numbers_lent z = lent_in-append events e ∙ ap (λ (l : List ℕ). l ++ lent_in (e ∷ [])) h.lent ∙ sym g.lent in
    let back : back_in (events ++ e ∷ []) ≡ numbers_taken z = back_in-append events e ∙ ap (λ (l : List ℕ). l ++ back_in (e ∷ [])) h.back ∙ sym g.back in
    let law = keeps_law z g.lawful g.strayed in
    record {
      lent = lent;
      back = back;
      legal = rw g.shelf (history_goes_on (length x.shelf) events e h.legal (next events h) (rw (lent, back, ← g.shelf) law));
    }

pub lends_on : (x z : Lending) (frame : ℕ) (b : Plain) → IsLender x → LendsTo x z frame b → GoesOnWith (Lent b.number) x z
lends_on x z frame b is g =
    continues x z (Lent b.number) (record {
      lawful = lent_one x z frame b is g;
      strayed = g.strayed;
      shelf = ap length g.shelf ∙ length_without x.shelf;
      lent = ap (map number_of) (ap lent g.sent ∙ lent-append x.sent (Frame frame b ∷ [])) ∙ map_push number_of (lent x.sent) b;
      back = ap (map number_of) g.taken ∙ sym (append-nil (numbers_taken x));
    }) (λ events h. rw (h.lent, h.back) (least_is_home x b is g.straight g.first))

pub comes_on : (x z : Lending) (b : Plain) (rest : List ℕ) → IsLender x → ComesBack x z b rest → GoesOnWith (Back b.number) x z
comes_on x z b rest is g =
    continues x z (Back b.number) (record {
      lawful = came_back x z b rest is g;
      strayed = g.strayed ∙ g.straight;
      shelf = ap length g.shelf ∙ length-set x.shelf b.number (Some b);
      lent = ap (λ (ms : List Message). map number_of (lent ms)) g.sent ∙ sym (append-nil (numbers_lent x));
      back = ap (map number_of) g.taken ∙ map_push number_of x.taken b;
    }) (λ events h. tt)

-- a lender with the same numbers has the same history
pub same_history : (x z : Lending) → length z.shelf ≡ length x.shelf → numbers_lent z ≡ numbers_lent x → numbers_taken z ≡ numbers_taken x → KeepsHistory x z
same_history x z shelf lent back = λ events h. record { lent = h.lent ∙ sym lent; back = h.back ∙ sym back; legal = rw shelf h.legal }

pub no_history : (x : Lending) → x.sent ≡ [] → x.taken ≡ [] → IsHistory [] x
no_history x sent taken = record {
  lent = rw sent refl;
  back = rw taken refl;
  legal = record {
    home_or_out = λ k _. inl refl;
    no_other = λ k _. refl;
    in_order = ([], refl);
    few = omega arith;
  };
}

-- at the value that a lender is seen as; the buffer that came home is the last of those taken
pub goes_on_as : (x y z : Lending) (b c : Plain) → x ≡ y → z.taken ≡ x.taken ++ b ∷ [] → ComesHome y z c → GoesOnWith (Back b.number) x z → GoesOnWith (Back c.number) y z
goes_on_as x y z b c e taken comes goes =
    let t : z.taken ≡ y.taken ++ c ∷ [] = ap (λ (w : Lending). w.taken) comes.change in
    let same : x.taken ≡ y.taken = ap (λ (w : Lending). w.taken) e in
    let l : b ∷ [] ≡ c ∷ [] = append_cancel_left x.taken (b ∷ []) (c ∷ []) (sym taken ∙ t ∙ ap (λ (l : List Plain). l ++ c ∷ []) (sym same)) in
    let n : b.number ≡ c.number = cc in
    rw (← e, ← n) goes

at_least : (x : Lending) (b : Plain) (o : Option Plain) (P : ℕ → Type 0) → least x.shelf ≡ Some b → least x.shelf ≡ o → P b.number → IfSome o (λ c. P c.number)
at_least x b None P first is p = absurd (let e : Some b ≡ None = sym first ∙ is in cc)
at_least x b (Some c) P first is p = (let e : Some b ≡ Some c = sym first ∙ is in let n : b ≡ c = cc in rw (← n) p)

pub if_lends : (A : Type 0) (x y z : Lending) (frame : ℕ) (b : Plain) → x ≡ y → IsLender x → LendsTo x z frame b → IfSome (least y.shelf) (λ c. A → GoesOnWith (Lent c.number) y z)
if_lends A x y z frame b e is g =
    rw (← e) (at_least x b (least x.shelf) (λ n. A → GoesOnWith (Lent n) x z) g.first refl (λ _. lends_on x z frame b is g))
