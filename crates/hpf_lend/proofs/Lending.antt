-- What each call leaves of a lender.
use Rattle.std.proofs.Common.{◌≡◌, ℕ, suc, ◌+◌, ◌<◌, ◌≤◌, Bool, true, false, List, [], ◌∷◌, ◌++◌, map, length, refl, ap, sym, ◌∙◌, append_assoc, arith, length-append, Some, Option, ℤ}
use Rattle.std.proofs.Math.ListN.{set}
use Rattle.std.proofs.lemmas.List.{map_push, append_cancel_left, length-set, append-nil}
use Rattle.hpf_lend.specs.declared.message.Message.{Message}
use Rattle.hpf_lend.specs.declared.message.Message.TheVariants.{Frame, End}
use Rattle.hpf_lend.specs.declared.message.EndKind.{EndKind}
use Rattle.hpf_lend.specs.Plain.{Plain, Home, home_of, home_with}
use Rattle.hpf_lend.specs.Messages.{lent, ends}
use Rattle.hpf_lend.specs.Shelf.{times, away, homes, least, without_least, with_least_values, IsShelf}
use Rattle.hpf_lend.specs.Lending.{Lending, IsLender}
use Rattle.hpf_lend.proofs.Shelves.{one_if, one_if-same, times-append, without, with_home, all_home, shelved_values, away-values, homes-values, length-values}
use Rattle.hpf_lend.proofs.Meeting.{lent-append, ends-append, closed-append, length-lent}

-- of two ends of one list, the shorter ends the longer
pub shorter_end : {T : Type 0} (a b k l : List T) → a ++ k ≡ b ++ l → length l ≤ length k → (moved : List T) × (k ≡ moved ++ l)
shorter_end [] b k l e h = (b, e)
shorter_end (x ∷ a) [] k l e h =
    absurd (let n : length (x ∷ a) + length k ≡ length l = sym (length-append (x ∷ a) k) ∙ ap length e in omega arith)
shorter_end (x ∷ a) (y ∷ b) k l e h = shorter_end a b k l (cc) h

-- what is kept after something was added, and what the ring then took
pub record Keeps (old new added : List Message) (all : List Message) : Type 0 where
  pub sent : (front : List Message) × (all ≡ front ++ old)
  pub last : (front : List Message) × (all ++ added ≡ front ++ new)
  pub fewer : length new ≤ length old + length added

pub lent_of_kept : (old new added all : List Message) → Keeps old new added all → length (lent new) ≤ length (lent old) + length (lent added)
lent_of_kept old new added all k =
    let e : (k.sent.0 ++ (old ++ added)) ≡ k.last.0 ++ new =
    sym (append_assoc k.sent.0 old added) ∙ ap (λ (l : List Message). l ++ added) (sym k.sent.1) ∙ k.last.1 in
    let n : length (old ++ added) ≡ length old + length added = length-append old added in
    let f = k.fewer in
    let m = shorter_end k.sent.0 k.last.0 (old ++ added) new e (omega arith) in
    let g : lent (old ++ added) ≡ lent m.0 ++ lent new = ap lent m.1 ∙ lent-append m.0 new in
    let h : length (lent (old ++ added)) ≡ length (lent m.0) + length (lent new) = ap length g ∙ length-append (lent m.0) (lent new) in
    let i : length (lent (old ++ added)) ≡ length (lent old) + length (lent added) = ap length (lent-append old added) ∙ length-append (lent old) (lent added) in
    omega arith

-- how many messages may be kept
pub kept_short : (x : Lending) → IsLender x → length x.kept ≤ length x.out + ends x.sent
kept_short x is =
    let a = length-lent x.kept in
    let b : ends x.sent ≡ ends is.last.0 + ends x.kept = ap ends is.last.1 ∙ ends-append is.last.0 x.kept in
    let h = is.held in
    omega arith

-- ---- lend

pub record LendsTo (x z : Lending) (frame : ℕ) (buffer : Plain) : Type 0 where
  pub first : least x.shelf ≡ Some buffer
  pub straight : x.strayed ≡ false
  pub opened : ends x.sent ≡ 0
  pub size : z.size ≡ x.size
  pub shelf : z.shelf ≡ without_least x.shelf
  pub out : z.out ≡ x.out ++ buffer.number ∷ []
  pub sent : z.sent ≡ x.sent ++ Frame frame buffer ∷ []
  pub last : (front : List Message) × (z.sent ≡ front ++ z.kept)
  pub fewer : length z.kept ≤ length x.kept + 1
  pub taken : z.taken ≡ x.taken
  pub strayed : z.strayed ≡ false

not_both : (b : Bool) → b ≡ false → b ≡ true → ⊥
not_both true e h = cc
not_both false e h = cc

pub lent_one : (x z : Lending) (frame : ℕ) (buffer : Plain) → IsLender x → LendsTo x z frame buffer → IsLender z
lent_one x z frame buffer is g =
    let w = without x.size 0 x.shelf buffer is.shelved g.first in
    let shelf : length z.shelf ≡ length x.shelf = ap length g.shelf ∙ w.same_length in
    let homes_left : homes z.shelf + 1 ≡ homes x.shelf = ap (λ (n : ℕ). n + 1) (ap homes g.shelf) ∙ w.fewer in
    let out : length z.out ≡ length x.out + 1 = ap length g.out ∙ length-append x.out (buffer.number ∷ []) in
    let counted = is.counted in
    let some = is.some in
    let few = is.few in
    let held = is.held in
    let k = lent_of_kept x.kept z.kept (Frame frame buffer ∷ []) x.sent (record { sent = is.last; last = (g.last.0, sym g.sent ∙ g.last.1); fewer = g.fewer }) in
    let e : ends z.sent ≡ ends x.sent + 0 = ap ends g.sent ∙ ends-append x.sent (Frame frame buffer ∷ []) in
    let opened = g.opened in
    record {
      some = omega arith;
      few = omega arith;
      shelved = rw (g.shelf, g.size) w.shelved;
      places = λ k.
          (let a : times k z.out ≡ times k x.out + times k (buffer.number ∷ []) = ap (times k) g.out ∙ times-append k x.out (buffer.number ∷ []) in
          let b : away 0 z.shelf k ≡ away 0 x.shelf k + one_if k buffer.number = ap (λ (s : List (Option Plain)). away 0 s k) g.shelf ∙ w.missing k in
          omega (arith, is.places k));
      counted = omega arith;
      straight = λ _.
          ap (map home_of) (ap lent g.sent ∙ lent-append x.sent (Frame frame buffer ∷ [])) ∙ map_push home_of (lent x.sent) buffer
          ∙ ap (λ (l : List Home). l ++ home_of buffer ∷ []) (is.straight g.straight)
          ∙ append_assoc (map home_of x.taken) (map (home_with x.size) x.out) (home_of buffer ∷ [])
          ∙ ap (λ (l : List Home). map home_of x.taken ++ l) (ap (λ (s : Home). map (home_with x.size) x.out ++ s ∷ []) w.shaped ∙ sym (map_push (home_with x.size) x.out buffer.number))
          ∙ rw (g.taken, g.size, g.out) refl;
      astray = λ t. absurd (not_both z.strayed g.strayed t);
      last = g.last;
      held = omega arith;
      closed = rw g.sent (closed-append x.sent (Frame frame buffer ∷ []) g.opened tt);
    }

-- the same buffers are at home and out
pub record SameStock (x z : Lending) : Type 0 where
  pub size : z.size ≡ x.size
  pub shelf : z.shelf ≡ x.shelf
  pub out : z.out ≡ x.out

-- ---- end

pub record EndsWith (x z : Lending) (kind : EndKind) : Type 0 where
  pub opened : ends x.sent ≡ 0
  pub straight : x.strayed ≡ false
  pub stock : SameStock x z
  pub taken : z.taken ≡ x.taken
  pub strayed : z.strayed ≡ x.strayed
  pub sent : z.sent ≡ x.sent ++ End kind ∷ []
  pub last : (front : List Message) × (z.sent ≡ front ++ z.kept)
  pub fewer : length z.kept ≤ length x.kept + 1

pub ended_one : (x z : Lending) (kind : EndKind) → IsLender x → EndsWith x z kind → IsLender z
ended_one x z kind is g =
    let sent = g.sent in
    let k = lent_of_kept x.kept z.kept (End kind ∷ []) x.sent (record { sent = is.last; last = (g.last.0, sym sent ∙ g.last.1); fewer = g.fewer }) in
    let e : ends z.sent ≡ ends x.sent + 1 = ap ends sent ∙ ends-append x.sent (End kind ∷ []) in
    let l : lent z.sent ≡ lent x.sent = ap lent sent ∙ lent-append x.sent (End kind ∷ []) ∙ append-nil (lent x.sent) in
    let opened = g.opened in
    let shelf = g.stock.shelf in
    let out = g.stock.out in
    let taken = g.taken in
    let size = g.stock.size in
    let strayed = g.strayed in
    record {
      some = rw shelf is.some;
      few = rw shelf is.few;
      shelved = rw (shelf, size) is.shelved;
      places = λ k. rw (shelf, out) (is.places k);
      counted = rw (shelf, out) is.counted;
      straight = λ _. rw (l, taken, size, out) (is.straight g.straight);
      astray = λ t. absurd (not_both x.strayed g.straight (sym strayed ∙ t));
      last = g.last;
      held = rw out (let h = is.held in omega arith);
      closed = rw sent (closed-append x.sent (End kind ∷ []) g.opened refl);
    }

-- ---- flush

pub record Flushed (x z : Lending) : Type 0 where
  pub stock : SameStock x z
  pub taken : z.taken ≡ x.taken
  pub strayed : z.strayed ≡ x.strayed
  pub sent : z.sent ≡ x.sent
  pub last : (front : List Message) × (z.sent ≡ front ++ z.kept)
  pub fewer : length z.kept ≤ length x.kept

pub flushed : (x z : Lending) → IsLender x → Flushed x z → IsLender z
flushed x z is g =
    let sent = g.sent in
    let m = shorter_end is.last.0 g.last.0 x.kept z.kept (sym is.last.1 ∙ sym sent ∙ g.last.1) g.fewer in
    let n : length (lent x.kept) ≡ length (lent m.0) + length (lent z.kept) = ap length (ap lent m.1 ∙ lent-append m.0 z.kept) ∙ length-append (lent m.0) (lent z.kept) in
    let shelf = g.stock.shelf in
    let out = g.stock.out in
    let taken = g.taken in
    let size = g.stock.size in
    let strayed = g.strayed in
    record {
      some = rw shelf is.some;
      few = rw shelf is.few;
      shelved = rw (shelf, size) is.shelved;
      places = λ k. rw (shelf, out) (is.places k);
      counted = rw (shelf, out) is.counted;
      straight = λ t. rw (sent, taken, size, out) (is.straight (sym strayed ∙ t));
      astray = λ t. rw (sent, taken) (is.astray (sym strayed ∙ t));
      last = g.last;
      held = rw out (let h = is.held in omega arith);
      closed = rw sent is.closed;
    }

-- ---- take back

is_out : (x : Lending) (buffer : Plain) (rest : List ℕ) → IsLender x → x.out ≡ buffer.number ∷ rest → 1 ≤ away 0 x.shelf (0 + buffer.number)
is_out x buffer rest is longest =
    let n = buffer.number in
    let a : times n x.out ≡ one_if n n + times n rest = ap (times n) longest in
    let b : one_if n n ≡ 1 = one_if-same n n refl in
    let z : 0 + n ≡ n = omega arith in
    let c : away 0 x.shelf (0 + n) ≡ away 0 x.shelf n = ap (away 0 x.shelf) z in
    omega (arith, is.places n)

-- the place of a buffer that comes home
pub in_range : (x : Lending) (buffer : Plain) (rest : List ℕ) → IsLender x → x.out ≡ buffer.number ∷ rest → home_of buffer ≡ home_with x.size buffer.number → buffer.number < length x.shelf
in_range x buffer rest is longest shaped =
    let zn : buffer.number ≡ 0 + buffer.number = omega arith in
    (with_home x.size 0 buffer.number x.shelf buffer is.shelved (shaped ∙ ap (home_with x.size) zn) (is_out x buffer rest is longest)).in_range

pub record ComesBack (x z : Lending) (buffer : Plain) (rest : List ℕ) : Type 0 where
  pub straight : x.strayed ≡ false
  pub longest : x.out ≡ buffer.number ∷ rest
  pub shaped : home_of buffer ≡ home_with x.size buffer.number
  pub room : length (lent x.kept) < length x.out
  pub size : z.size ≡ x.size
  pub shelf : z.shelf ≡ set x.shelf buffer.number (Some buffer)
  pub out : z.out ≡ rest
  pub sent : z.sent ≡ x.sent
  pub kept : z.kept ≡ x.kept
  pub taken : z.taken ≡ x.taken ++ buffer ∷ []
  pub strayed : z.strayed ≡ x.strayed

pub came_back : (x z : Lending) (buffer : Plain) (rest : List ℕ) → IsLender x → ComesBack x z buffer rest → IsLender z
came_back x z buffer rest is g =
    let n = buffer.number in
    let there = is_out x buffer rest is g.longest in
    let zn : n ≡ 0 + n = omega arith in
    let w = with_home x.size 0 n x.shelf buffer is.shelved (g.shaped ∙ ap (home_with x.size) zn) there in
    let shelf = g.shelf in
    let out = g.out in
    let taken = g.taken in
    let size = g.size in
    let strayed = g.strayed in
    let sent = g.sent in
    let kept = g.kept in
    let same_length : length z.shelf ≡ length x.shelf = ap length shelf ∙ length-set x.shelf n (Some buffer) in
    let more : homes z.shelf ≡ homes x.shelf + 1 = ap homes shelf ∙ w.more in
    let outs : length x.out ≡ suc (length rest) = ap length g.longest in
    let some = is.some in
    let few = is.few in
    let counted = is.counted in
    let room = g.room in
    record {
      some = omega arith;
      few = omega arith;
      shelved = rw (shelf, size) w.shelved;
      places = λ k.
          (let a : times k x.out ≡ one_if k n + times k rest = ap (times k) g.longest in
          let b : away 0 z.shelf k ≡ away 0 (set x.shelf n (Some buffer)) k = ap (λ (s : List (Option Plain)). away 0 s k) shelf in
          let d : one_if k (0 + n) ≡ one_if k n = ap (one_if k) (sym zn) in
          let f : times k z.out ≡ times k rest = ap (times k) out in
          omega (arith, is.places k, w.missing k));
      counted = (let f : length z.out ≡ length rest = ap length out in omega arith);
      straight = λ _.
          rw (sent, taken, size, out) (is.straight g.straight
          ∙ ap (λ (l : List ℕ). map home_of x.taken ++ map (home_with x.size) l) g.longest
          ∙ ap (λ (s : Home). map home_of x.taken ++ s ∷ map (home_with x.size) rest) (sym g.shaped)
          ∙ sym (append_assoc (map home_of x.taken) (home_of buffer ∷ []) (map (home_with x.size) rest))
          ∙ ap (λ (l : List Home). l ++ map (home_with x.size) rest) (sym (map_push home_of x.taken buffer)));
      astray = λ t. absurd (not_both x.strayed g.straight (sym strayed ∙ t));
      last = rw (sent, kept) is.last;
      held = (let f : length z.out ≡ length rest = ap length out in let h : length (lent z.kept) ≡ length (lent x.kept) = ap (λ (l : List Message). length (lent l)) kept in omega arith);
      closed = rw sent is.closed;
    }

pub record Strays (x z : Lending) (buffer : Plain) : Type 0 where
  pub straight : x.strayed ≡ false
  pub other : (rest : List ℕ) (longest : ℕ) → x.out ≡ longest ∷ rest → home_of buffer ≡ home_with x.size longest → ⊥
  pub stock : SameStock x z
  pub sent : z.sent ≡ x.sent
  pub kept : z.kept ≡ x.kept
  pub taken : z.taken ≡ x.taken ++ buffer ∷ []
  pub strayed : z.strayed ≡ true

no_prefix : (size : ℕ) (out : List ℕ) (s : Home) (t : List Home) → ((rest : List ℕ) (longest : ℕ) → out ≡ longest ∷ rest → s ≡ home_with size longest → ⊥) → s ∷ t ≡ map (home_with size) out → ⊥
no_prefix size [] s t other e = cc
no_prefix size (n ∷ out) s t other e = other out n refl (cc)

pub strays : (x z : Lending) (buffer : Plain) → IsLender x → Strays x z buffer → IsLender z
strays x z buffer is g =
    let shelf = g.stock.shelf in
    let out = g.stock.out in
    let taken = g.taken in
    let size = g.stock.size in
    let strayed = g.strayed in
    let sent = g.sent in
    let kept = g.kept in
    record {
      some = rw shelf is.some;
      few = rw shelf is.few;
      shelved = rw (shelf, size) is.shelved;
      places = λ k. rw (shelf, out) (is.places k);
      counted = rw (shelf, out) is.counted;
      straight = λ t. absurd (not_both z.strayed t strayed);
      astray = rw (sent, taken) (λ _ p.
          no_prefix x.size x.out (home_of buffer) p.0 g.other (append_cancel_left (map home_of x.taken) (home_of buffer ∷ p.0) (map (home_with x.size) x.out)
          (sym (append_assoc (map home_of x.taken) (home_of buffer ∷ []) p.0) ∙ ap (λ (l : List Home). l ++ p.0) (sym (map_push home_of x.taken buffer)) ∙ p.1 ∙ is.straight g.straight)));
      last = rw (sent, kept) is.last;
      held = rw (kept, out) is.held;
      closed = rw sent is.closed;
    }

-- ---- new

pub record Starting (x : Lending) : Type 0 where
  pub few : (1 ≤ length x.shelf) × (length x.shelf ≤ 8)
  pub shelved : IsShelf x.size 0 x.shelf
  pub at_home : homes x.shelf ≡ length x.shelf
  pub out : x.out ≡ []
  pub sent : x.sent ≡ []
  pub kept : x.kept ≡ []
  pub taken : x.taken ≡ []
  pub strayed : x.strayed ≡ false

pub started : (x : Lending) → Starting x → IsLender x
started x s =
    let o : length x.out ≡ 0 = ap length s.out in
    let h = s.at_home in
    record {
      some = s.few.0;
      few = s.few.1;
      shelved = s.shelved;
      places = λ k. ap (times k) s.out ∙ sym (all_home x.size 0 x.shelf s.at_home k);
      counted = omega arith;
      straight = λ _. rw (s.sent, s.taken, s.out) refl;
      astray = λ t. absurd (not_both x.strayed s.strayed t);
      last = ([], s.sent ∙ sym s.kept);
      held = rw (s.kept, s.out) (omega arith);
      closed = rw s.sent tt;
    }

-- ---- the values of a buffer at home

pub record Written (x z : Lending) (values : List ℤ) : Type 0 where
  pub size : z.size ≡ x.size
  pub shelf : z.shelf ≡ with_least_values x.shelf values
  pub out : z.out ≡ x.out
  pub sent : z.sent ≡ x.sent
  pub kept : z.kept ≡ x.kept
  pub taken : z.taken ≡ x.taken
  pub strayed : z.strayed ≡ x.strayed

pub written : (x z : Lending) (values : List ℤ) → IsLender x → Written x z values → IsLender z
written x z values is w =
    let n : length z.shelf ≡ length x.shelf = ap length w.shelf ∙ length-values x.shelf values in
    let h : homes z.shelf ≡ homes x.shelf = ap homes w.shelf ∙ homes-values x.shelf values in
    record {
      some = rw n is.some;
      few = rw n is.few;
      shelved = rw (w.shelf, w.size) (shelved_values x.size 0 x.shelf values is.shelved);
      places = λ k. ap (times k) w.out ∙ is.places k ∙ sym (ap (λ (s : List (Option Plain)). away 0 s k) w.shelf ∙ away-values 0 x.shelf values k);
      counted = rw (w.out, h, n) is.counted;
      straight = λ t. rw (w.sent, w.taken, w.size, w.out) (is.straight (sym w.strayed ∙ t));
      astray = λ t. rw (w.sent, w.taken) (is.astray (sym w.strayed ∙ t));
      last = rw (w.sent, w.kept) is.last;
      held = rw (w.kept, w.out) is.held;
      closed = rw w.sent is.closed;
    }

pub home_at : (x y : Lending) (s t : ℕ) → x ≡ y → 0 < homes y.shelf → 0 < homes x.shelf
home_at x y s t e h = rw e h
