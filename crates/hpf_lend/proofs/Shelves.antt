-- Lemmas on shelves.
use Rattle.std.proofs.Common.{◌≡◌, ℕ, zero, suc, ◌+◌, ◌<◌, ◌≤◌, ◌==◌, true, if◌then◌else◌, List, [], ◌∷◌, ◌++◌, take, drop, length, refl, ap, sym, ◌∙◌, arith, Some, None, Option, get_or, drop-cons, inl, inr, ℤ, is_some}
use Rattle.std.specs.List.{length_refill}
use Rattle.std.proofs.Math.ListN.{set}
use Rattle.std.proofs.lemmas.List.{set_split, get_or_default, length_push}
use Rattle.std.proofs.lemmas.Bool.Decides.{nat_tests}
use Rattle.std.proofs.lemmas.Bool.{cases_eq}
use Rattle.hpf_lend.specs.Plain.{Plain, Home, home_of, home_with}
use Rattle.hpf_lend.specs.declared.message.Message.{Message}
use Rattle.hpf_lend.specs.declared.message.Message.TheVariants.{Frame, End}
use Rattle.hpf_lend.specs.Messages.{lent}
use Rattle.hpf_lend.specs.Shelf.{times, away, homes, least, with_values, with_least_values, IsLeastAt, without_least, IsShelf}

-- the places before this one are empty, and the shelf is as it was
pub record Skips (old new : List (Option Plain)) (place : ℕ) : Type 0 where
  pub same : new ≡ old
  pub least_later : least (drop place old) ≡ least old
  pub rest_later : take place old ++ without_least (drop place old) ≡ without_least old

pub homes_le : (shelf : List (Option Plain)) → homes shelf ≤ length shelf
homes_le [] = omega arith
homes_le (None ∷ shelf) = omega (arith, homes_le shelf)
homes_le (Some b ∷ shelf) = omega (arith, homes_le shelf)

least_there : (shelf : List (Option Plain)) (place : ℕ) (b : Plain) → place < length shelf → take place shelf ++ without_least (drop place shelf) ≡ without_least shelf
    → get_or shelf place None ≡ Some b → set shelf place None ≡ without_least shelf
least_there shelf place b in_range rest found =
    let e : drop place shelf ≡ Some b ∷ drop (suc place) shelf =
    drop-cons shelf place None in_range ∙ ap (λ (o : Option Plain). o ∷ drop (suc place) shelf) found in
    set_split shelf place None in_range ∙ sym (ap (λ (l : List (Option Plain)). take place shelf ++ without_least l) e) ∙ rest

pub taken_least : (old new : List (Option Plain)) (place : ℕ) (b : Plain) (found after : Option Plain) → Skips old new place → place < length new
    → after ≡ None → found ≡ get_or new place found → get_or new place found ≡ Some b → set new place after ≡ without_least old
taken_least old new place b found after s in_range emptied here is =
    let g : get_or new place None ≡ Some b = get_or_default new place None found in_range ∙ is in
    let h : take place new ++ without_least (drop place new) ≡ without_least new =
    (let e = s.same in rw e s.rest_later) in
    rw emptied (least_there new place b in_range h g ∙ ap without_least s.same)

-- ---- counts

abbrev pub one_if : ℕ → ℕ → ℕ
one_if k x = if k == x then 1 else 0

pub one_if-same : (k x : ℕ) → k ≡ x → one_if k x ≡ 1
one_if-same k x e = grind (arith, nat_tests)

pub one_if-other : (k x : ℕ) → (k ≡ x → ⊥) → one_if k x ≡ 0
one_if-other k x n = grind (arith, nat_tests)

pub times-append : (k : ℕ) (xs ys : List ℕ) → times k (xs ++ ys) ≡ times k xs + times k ys
times-append k [] ys = omega arith
times-append k (x ∷ xs) ys = omega (arith, times-append k xs ys)

-- no number below the first is missing
pub away-below : (shelf : List (Option Plain)) (first k : ℕ) → k < first → away first shelf k ≡ 0
away-below [] first k h = refl
away-below (None ∷ shelf) first k h =
    let a : one_if k first ≡ 0 = one_if-other k first (λ e. omega arith) in
    omega (arith, away-below shelf (first + 1) k (omega arith))
away-below (Some b ∷ shelf) first k h = away-below shelf (first + 1) k (omega arith)

pub away-le : (shelf : List (Option Plain)) (first k : ℕ) → away first shelf k ≤ 1
away-le [] first k = omega arith
away-le (None ∷ shelf) first k =
    elim (cases_eq k first) [
      | inl e ↦ (let b : away (first + 1) shelf k ≡ 0 = away-below shelf (first + 1) k (omega arith) in let a : one_if k first ≡ 1 = one_if-same k first e in omega arith)
      | inr n ↦ (let a : one_if k first ≡ 0 = one_if-other k first n in omega (arith, away-le shelf (first + 1) k))
    ]
away-le (Some b ∷ shelf) first k = away-le shelf (first + 1) k

-- what the shelf is without the least buffer
pub record Without (size first : ℕ) (shelf : List (Option Plain)) (b : Plain) : Type 0 where
  pub missing : (k : ℕ) → away first (without_least shelf) k ≡ away first shelf k + one_if k b.number
  pub fewer : homes (without_least shelf) + 1 ≡ homes shelf
  pub same_length : length (without_least shelf) ≡ length shelf
  pub shelved : IsShelf size first (without_least shelf)
  pub shaped : home_of b ≡ home_with size b.number
  pub above : first ≤ b.number

pub without : (size first : ℕ) (shelf : List (Option Plain)) (b : Plain) → IsShelf size first shelf → least shelf ≡ Some b → Without size first shelf b
without size first [] b is l = absurd (cc)
without size first (None ∷ shelf) b is l =
    let h = without size (first + 1) shelf b is l in
    record {
      missing = λ k. omega (arith, h.missing k);
      fewer = h.fewer;
      same_length = ap suc h.same_length;
      shelved = h.shelved;
      shaped = h.shaped;
      above = (let a = h.above in omega arith);
    }
without size first (Some c ∷ shelf) b is l =
    let e : c ≡ b = cc in
    let n : b.number ≡ first = ap (λ (p : Plain). p.number) (sym e) ∙ ap (λ (p : Home). p.number) is.0 in
    record {
      missing = λ k. (let a : one_if k b.number ≡ one_if k first = ap (one_if k) n in omega arith);
      fewer = omega arith;
      same_length = refl;
      shelved = is.1;
      shaped = rw (← e) (is.0 ∙ ap (home_with size) (sym (ap (λ (p : Home). p.number) is.0)));
      above = omega arith;
    }

-- what the shelf is with a buffer that comes home
pub record With (size first i : ℕ) (shelf : List (Option Plain)) (b : Plain) : Type 0 where
  pub missing : (k : ℕ) → away first (set shelf i (Some b)) k + one_if k (first + i) ≡ away first shelf k
  pub more : homes (set shelf i (Some b)) ≡ homes shelf + 1
  pub shelved : IsShelf size first (set shelf i (Some b))
  pub in_range : i < length shelf

pub with_home : (size first i : ℕ) (shelf : List (Option Plain)) (b : Plain) → IsShelf size first shelf → home_of b ≡ home_with size (first + i) → 1 ≤ away first shelf (first + i) → With size first i shelf b
with_home size first i [] b is s a = absurd (omega arith)
with_home size first zero (None ∷ shelf) b is s a =
    record {
      missing = λ k. (let z : first + 0 ≡ first = omega arith in let e : one_if k (first + 0) ≡ one_if k first = ap (one_if k) z in omega arith);
      more = omega arith;
      shelved = (s ∙ ap (home_with size) (let z : first + 0 ≡ first = omega arith in z), is);
      in_range = omega arith;
    }
with_home size first (suc i) (None ∷ shelf) b is s a =
    let z : first + suc i ≡ (first + 1) + i = omega arith in
    let o : one_if (first + suc i) first ≡ 0 = one_if-other (first + suc i) first (λ e. omega arith) in
    let a' : 1 ≤ away (first + 1) shelf ((first + 1) + i) = (let q = ap (away (first + 1) shelf) z in omega arith) in
    let h = with_home size (first + 1) i shelf b is (s ∙ ap (home_with size) z) a' in
    record {
      missing = λ k. (let e : one_if k (first + suc i) ≡ one_if k ((first + 1) + i) = ap (one_if k) z in omega (arith, h.missing k));
      more = h.more;
      shelved = h.shelved;
      in_range = (let r = h.in_range in omega arith);
    }
with_home size first zero (Some c ∷ shelf) b is s a =
    absurd (omega (arith, away-below shelf (first + 1) (first + 0) (omega arith)))
with_home size first (suc i) (Some c ∷ shelf) b is s a =
    let z : first + suc i ≡ (first + 1) + i = omega arith in
    let a' : 1 ≤ away (first + 1) shelf ((first + 1) + i) = (let q = ap (away (first + 1) shelf) z in omega arith) in
    let h = with_home size (first + 1) i shelf b is.1 (s ∙ ap (home_with size) z) a' in
    record {
      missing = λ k. (let e : one_if k (first + suc i) ≡ one_if k ((first + 1) + i) = ap (one_if k) z in omega (arith, h.missing k));
      more = (let r = h.more in omega arith);
      shelved = (is.0, h.shelved);
      in_range = (let r = h.in_range in omega arith);
    }

pub some_home : (shelf : List (Option Plain)) → 0 < homes shelf → (b : Plain) × (least shelf ≡ Some b)
some_home [] h = absurd (omega arith)
some_home (None ∷ shelf) h = some_home shelf h
some_home (Some b ∷ shelf) h = (b, refl)

pub no_none : (shelf : List (Option Plain)) → 0 < homes shelf → least shelf ≡ None → ⊥
no_none [] h e = omega arith
no_none (None ∷ shelf) h e = no_none shelf h e
no_none (Some b ∷ shelf) h e = cc

pub frames_le : (ms : List Message) → length (lent ms) ≤ length ms
frames_le [] = omega arith
frames_le (Frame n b ∷ ms) = omega (arith, frames_le ms)
frames_le (End k ∷ ms) = omega (arith, frames_le ms)

-- a shelf that has all its buffers, so many
pub record Filled (size count : ℕ) (shelf : List (Option Plain)) : Type 0 where
  pub shelved : IsShelf size 0 shelf
  pub at_home : homes shelf ≡ count
  pub same_length : length shelf ≡ count

homes-push : (shelf : List (Option Plain)) (b : Plain) → homes (shelf ++ Some b ∷ []) ≡ homes shelf + 1
homes-push [] b = refl
homes-push (None ∷ shelf) b = homes-push shelf b
homes-push (Some c ∷ shelf) b = omega (arith, homes-push shelf b)

shelved-push : (size first : ℕ) (shelf : List (Option Plain)) (b : Plain) → IsShelf size first shelf → home_of b ≡ home_with size (first + length shelf) → IsShelf size first (shelf ++ Some b ∷ [])
shelved-push size first [] b is e = (e ∙ ap (home_with size) (let z : first + 0 ≡ first = omega arith in z), tt)
shelved-push size first (None ∷ shelf) b is e = shelved-push size (first + 1) shelf b is (e ∙ ap (home_with size) (let z : first + suc (length shelf) ≡ (first + 1) + length shelf = omega arith in z))
shelved-push size first (Some c ∷ shelf) b is e = (is.0, shelved-push size (first + 1) shelf b is.1 (e ∙ ap (home_with size) (let z : first + suc (length shelf) ≡ (first + 1) + length shelf = omega arith in z)))

pub filled_more : (size count : ℕ) (shelf : List (Option Plain)) (b : Plain) → Filled size count shelf → home_of b ≡ home_with size count → Filled size (count + 1) (shelf ++ Some b ∷ [])
filled_more size count shelf b f e = record {
  shelved = shelved-push size 0 shelf b f.shelved (e ∙ ap (home_with size) (let h = f.same_length in let z : count ≡ 0 + length shelf = omega arith in z));
  at_home = (let h = homes-push shelf b in let g = f.at_home in omega arith);
  same_length = (let h = length_push shelf (Some b) in let g = f.same_length in omega arith);
}

pub all_home : (size first : ℕ) (shelf : List (Option Plain)) → homes shelf ≡ length shelf → (k : ℕ) → away first shelf k ≡ 0
all_home size first [] h k = refl
all_home size first (None ∷ shelf) h k = absurd (omega (arith, homes_le shelf))
all_home size first (Some b ∷ shelf) h k = all_home size (first + 1) shelf (omega arith) k

-- the places before this one are empty
pub record Passes (shelf : List (Option Plain)) (place : ℕ) : Type 0 where
  pub homes_later : homes (drop place shelf) ≡ homes shelf
  pub least_later : least (drop place shelf) ≡ least shelf
  pub written_later : (values : List ℤ) → take place shelf ++ with_least_values (drop place shelf) values ≡ with_least_values shelf values

is_a_buffer : (o : Option Plain) → is_some o ≡ true → (b : Plain) × (o ≡ Some b)
is_a_buffer None e = absurd (cc)
is_a_buffer (Some b) e = (b, refl)

pub least_at : (shelf : List (Option Plain)) (place : ℕ) (found : Option Plain) → Passes shelf place → place < length shelf
    → found ≡ get_or shelf place found → is_some found ≡ true → IsLeastAt shelf place
least_at shelf place found p in_range here some =
    let b = is_a_buffer found some in
    let g : get_or shelf place None ≡ Some b.0 = get_or_default shelf place None found in_range ∙ sym here ∙ b.1 in
    let e : drop place shelf ≡ Some b.0 ∷ drop (suc place) shelf =
    drop-cons shelf place None in_range ∙ ap (λ (o : Option Plain). o ∷ drop (suc place) shelf) g in
    record {
      buffer = b.0;
      in_range = in_range;
      here = g;
      first = sym p.least_later ∙ ap least e;
      written = λ values. sym (p.written_later values) ∙ ap (λ (l : List (Option Plain)). take place shelf ++ with_least_values l values) e ∙ sym (set_split shelf place (Some (with_values b.0 values)) in_range);
    }

pub shelved_values : (size first : ℕ) (shelf : List (Option Plain)) (values : List ℤ) → IsShelf size first shelf → IsShelf size first (with_least_values shelf values)
shelved_values size first [] values is = is
shelved_values size first (None ∷ shelf) values is = shelved_values size (first + 1) shelf values is
shelved_values size first (Some b ∷ shelf) values is =
    (ap (λ (n : ℕ). home_with n b.number) (sym (length_refill (length b.values) b.values values refl)) ∙ is.0, is.1)

pub away-values : (first : ℕ) (shelf : List (Option Plain)) (values : List ℤ) (k : ℕ) → away first (with_least_values shelf values) k ≡ away first shelf k
away-values first [] values k = refl
away-values first (None ∷ shelf) values k = ap (λ (n : ℕ). one_if k first + n) (away-values (first + 1) shelf values k)
away-values first (Some b ∷ shelf) values k = refl

pub homes-values : (shelf : List (Option Plain)) (values : List ℤ) → homes (with_least_values shelf values) ≡ homes shelf
homes-values [] values = refl
homes-values (None ∷ shelf) values = homes-values shelf values
homes-values (Some b ∷ shelf) values = refl

pub length-values : (shelf : List (Option Plain)) (values : List ℤ) → length (with_least_values shelf values) ≡ length shelf
length-values [] values = refl
length-values (None ∷ shelf) values = ap suc (length-values shelf values)
length-values (Some b ∷ shelf) values = refl

-- what the whole shelf is, where the buffer at the least place was lent for writing
pub written_at : (shelf : List (Option Plain)) (place : ℕ) (found : Option Plain) (lent_out : Plain) → IsLeastAt shelf place
    → found ≡ get_or shelf place found → found ≡ Some lent_out → (least shelf ≡ Some lent_out) × ((values : List ℤ) → set shelf place (Some (with_values lent_out values)) ≡ with_least_values shelf values)
written_at shelf place found lent_out l here some =
    let e : Some l.buffer ≡ Some lent_out = sym l.here ∙ get_or_default shelf place None found l.in_range ∙ sym here ∙ some in
    let b : l.buffer ≡ lent_out = cc in
    (l.first ∙ e, λ values. ap (λ (p : Plain). set shelf place (Some (with_values p values))) (sym b) ∙ sym (l.written values))

-- no number past the shelf is missing
pub away-past : (shelf : List (Option Plain)) (first k : ℕ) → first + length shelf ≤ k → away first shelf k ≡ 0
away-past [] first k h = refl
away-past (None ∷ shelf) first k h =
    let a : one_if k first ≡ 0 = one_if-other k first (λ e. omega arith) in
    omega (arith, away-past shelf (first + 1) k (omega arith))
away-past (Some b ∷ shelf) first k h = away-past shelf (first + 1) k (omega arith)

omega_above : (a b : ℕ) → (b ≡ a → ⊥) → a ≤ b → a + 1 ≤ b
omega_above a b n h = grind arith

-- the least buffer is at home, and each with a lower number is missing
pub least-others : (size first : ℕ) (shelf : List (Option Plain)) (b : Plain) → IsShelf size first shelf → least shelf ≡ Some b
    → (away first shelf b.number ≡ 0) × (b.number < first + length shelf) × ((j : ℕ) → first ≤ j → j < b.number → away first shelf j ≡ 1)
least-others size first [] b is l = absurd (cc)
least-others size first (None ∷ shelf) b is l =
    let h = least-others size (first + 1) shelf b is l in
    let w = without size (first + 1) shelf b is l in
    let up = w.above in
    let o : one_if b.number first ≡ 0 = one_if-other b.number first (λ e. omega arith) in (
      omega (arith, h.0),
      omega (arith, h.1),
      λ j from below. elim (cases_eq j first) [
        | inl e ↦ (let s : one_if j first ≡ 1 = one_if-same j first e in let r : away (first + 1) shelf j ≡ 0 = away-below shelf (first + 1) j (omega arith) in omega arith)
        | inr n ↦ (let s : one_if j first ≡ 0 = one_if-other j first n in let lt : first + 1 ≤ j = omega_above first j n from in omega (arith, h.2 j lt below))
      ],
    )
least-others size first (Some c ∷ shelf) b is l =
    let e : c ≡ b = cc in
    let n : b.number ≡ first = ap (λ (p : Plain). p.number) (sym e) ∙ ap (λ (p : Home). p.number) is.0 in (
      (let z : away (first + 1) shelf first ≡ 0 = away-below shelf (first + 1) first (omega arith) in ap (away (first + 1) shelf) n ∙ z),
      omega arith,
      λ j from below. absurd (omega arith),
    )

pub length_without : (shelf : List (Option Plain)) → length (without_least shelf) ≡ length shelf
length_without [] = refl
length_without (None ∷ shelf) = ap suc (length_without shelf)
length_without (Some b ∷ shelf) = refl

pub least_size : (size first : ℕ) (shelf : List (Option Plain)) (b : Plain) → IsShelf size first shelf → least shelf ≡ Some b → length b.values ≡ size
least_size size first shelf b is l = ap (λ (h : Home). h.size) (without size first shelf b is l).shaped
