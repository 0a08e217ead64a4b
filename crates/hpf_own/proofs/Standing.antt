-- Laws of what a processor owns and holds.
use Rattle.std.proofs.Common.{◌≡◌, ℕ, zero, suc, ◌+◌, ◌<◌, ◌≤◌, ◌↔◌, Bool, true, false, ◌&&◌, List, [], ◌∷◌, ◌++◌, length, filter, get_or, take, drop, slice_get, Some, All, Contains, ℤ, pos, ◌+ℤ◌, ◌-ℤ◌, ◌≤ℤ◌, refl, sym, ap, ◌∙◌, inl, inr, arith, subst, take-append-drop, length-append}
use Rattle.std.specs.Int.RustNames.{int_le}
use Rattle.std.proofs.lemmas.Int.{ints}
use Rattle.std.proofs.lemmas.Bool.{and_parts, and_from}
use Rattle.std.proofs.lemmas.List.{get_or_at, get_or_append_left, length_push}
use Rattle.std.proofs.lemmas.List.Elements.{All-head, All-tail, filter-append, filter_more, Contains-get_or}
use Rattle.std.proofs.lemmas.List.Folds.{list_any_at, Any-from_list_any}
use Rattle.std.proofs.lemmas.Option.{slice_get-get_or, slice_get_within, get_or_from_slice_get}
use Rattle.hpf_num.specs.Runs.{is_near}
use Rattle.hpf_own.specs.declared.widths.Width.{Width}
use Rattle.hpf_own.specs.KeptLists.{no_width}
use Rattle.hpf_own.specs.Space.{indices, product, LiesIn}
use Rattle.hpf_own.specs.Image.{subscript}
use Rattle.hpf_own.specs.Mapping.{PlainMapping, IsMapping}
use Rattle.hpf_own.specs.Owners.{owns}
use Rattle.hpf_own.specs.Held.{Part, IsMadeOf, is_around, is_held, owned_part}
use Rattle.hpf_own.proofs.Indices.{LiesIn-length}
use Rattle.hpf_own.proofs.Numbers.{some_owner}
use Rattle.hpf_own.proofs.Only.{same_test}
use Rattle.hpf_own.proofs.Order.{Chooses, choices_only, choices_has, indices_has}
use Rattle.hpf_own.proofs.Sides.{chosen_at}

-- ---- subscripts that stand in a dimension
-- a choice with this item, where each list has one
choose_any : (lists : List (List ℤ)) → All (λ xs. 1 ≤ length xs) lists → (index : List ℤ) × Chooses lists index
choose_any [] some = ([], tt)
choose_any (items ∷ rest) some =
    let here = All-head (λ (xs : List ℤ). 1 ≤ length xs) items rest some in
    let others = choose_any rest (All-tail (λ (xs : List ℤ). 1 ≤ length xs) items rest some) in
    (get_or items 0 (pos 0) ∷ others.0, (Contains-get_or items 0 (pos 0) here, others.1))

choose_with : (lists : List (List ℤ)) (d : ℕ) (i : ℤ) → All (λ xs. 1 ≤ length xs) lists → d < length lists → Contains (get_or lists d []) i → (index : List ℤ) × Chooses lists index × (subscript index d ≡ i)
choose_with [] d i some below h = absurd (omega arith)
choose_with (items ∷ rest) zero i some below h =
    let others = choose_any rest (All-tail (λ (xs : List ℤ). 1 ≤ length xs) items rest some) in
    (i ∷ others.0, (h, others.1), refl)
choose_with (items ∷ rest) (suc d) i some below h =
    let here = All-head (λ (xs : List ℤ). 1 ≤ length xs) items rest some in
    let others = choose_with rest d i (All-tail (λ (xs : List ℤ). 1 ≤ length xs) items rest some) (omega arith) h in
    (get_or items 0 (pos 0) ∷ others.0, (Contains-get_or items 0 (pos 0) here, others.1), others.2)

pub standing : (part : Part) (sides : List (List ℤ)) (d : ℕ) (i : ℤ) → IsMadeOf part sides → d < length sides → Contains (get_or sides d []) i ↔ ((index : List ℤ) × Contains part.indices index × (subscript index d ≡ i))
standing part sides d i made below = (
  λ h. elim made.all_or_none [
    | inl some ↦
        let found = choose_with sides d i some below h in
        (found.0, subst (λ (xs : List (List ℤ)). Contains xs found.0) (sym made.every) (choices_has sides found.0 found.1), found.2)
    | inr none ↦ let empty = none d [] below in absurd (omega (arith, h.1))
  ],
  λ h.
      let inside = subst (λ (xs : List (List ℤ)). Contains xs h.0) made.every h.1 in
      let chosen = subst (Chooses sides) inside.2 (choices_only sides inside.0 h.0 i inside.1) in
      subst (Contains (get_or sides d [])) h.2 (chosen_at sides h.0 d (pos 0) chosen below),
)

-- ---- places
-- what passes stands where so many before it pass
pub kept_at : {A : Type 0} (p : A → Bool) (xs : List A) (place : ℕ) (e : A) → place < length xs → p (get_or xs place e) ≡ true → slice_get (filter p xs) (length (filter p (take place xs))) ≡ Some (get_or xs place e)
kept_at {A} p xs place e below passes =
    let x = get_or xs place e in
    let before = filter p (take place xs) in
    let rest = filter p (drop (place + 1) xs) in
    let more : filter p (take (place + 1) xs) ≡ before ++ x ∷ [] = filter_more p xs place e below ∙ rw passes refl in
    let whole : filter p xs ≡ (before ++ x ∷ []) ++ rest =
    ap (filter p) (sym (take-append-drop (place + 1) xs)) ∙ filter-append p (take (place + 1) xs) (drop (place + 1) xs) ∙ ap (λ (ys : List A). ys ++ rest) more in
    let long : length before < length (before ++ x ∷ []) = omega (arith, length_push before x) in
    let at : get_or ((before ++ x ∷ []) ++ rest) (length before) e ≡ x =
    get_or_append_left (before ++ x ∷ []) rest e (length before) long ∙ get_or_at before x [] e (length before) refl in
    rw whole (slice_get-get_or ((before ++ x ∷ []) ++ rest) (length before) e (omega (arith, length-append (before ++ x ∷ []) rest)) ∙ ap (λ (y : A). Some y) at)

kept_has : {A : Type 0} (p : A → Bool) (xs : List A) (x : A) → Contains xs x → p x ≡ true → Contains (filter p xs) x
kept_has {A} p xs x h passes =
    let at = kept_at p xs h.0 x h.1 (ap p h.2 ∙ passes) in
    let k = length (filter p (take h.0 xs)) in
    (k, slice_get_within (filter p xs) k _ at, get_or_from_slice_get (filter p xs) k _ x at ∙ h.2)

-- each element is in some part
pub some_part : (m : PlainMapping) (index : List ℤ) → IsMapping m → LiesIn m.bounds index → (p : ℕ) × (p < product m.procs) × Contains (owned_part m p).indices index
some_part m index is lies =
    let o = some_owner m index is lies in
    (o.0, o.1, kept_has (owns m o.0) (indices m.bounds) index (indices_has m.bounds index lies) o.2)

-- ---- shadows
true_le : (x y : ℤ) → x ≤ℤ y → int_le x y ≡ true
true_le x y h = grind (arith, ints)

le_true : (x y : ℤ) → int_le x y ≡ true → x ≤ℤ y
le_true x y h = grind (arith, ints)

near_itself : (low high : ℕ) (i : ℤ) → is_near low high i i ≡ true
near_itself low high i =
    and_from (int_le (i -ℤ pos low) i) (int_le i (i +ℤ pos high)) (true_le (i -ℤ pos low) i (omega (arith, ints))) (true_le i (i +ℤ pos high) (omega (arith, ints)))

around_itself : (widths : List Width) (index : List ℤ) → length widths ≡ length index → is_around widths index index ≡ true
around_itself [] [] h = refl
around_itself [] (i ∷ index) h = absurd (omega arith)
around_itself (w ∷ widths) [] h = absurd (omega arith)
around_itself (w ∷ widths) (i ∷ index) h = and_from _ _ (near_itself w.low w.high i) (around_itself widths index (omega arith))

-- what is owned is held
pub owned_held : (m : PlainMapping) (p : ℕ) (index : List ℤ) → IsMapping m → LiesIn m.bounds index → owns m p index ≡ true → is_held m p index ≡ true
owned_held m p index is lies h =
    let at = indices_has m.bounds index lies in
    let test : List ℤ → Bool = λ other. owns m p other && is_around m.shadow other index in
    let here : test index ≡ true = and_from (owns m p index) (is_around m.shadow index index) h (around_itself m.shadow index (is.one_width ∙ sym (LiesIn-length m.bounds index lies))) in
    list_any_at test (indices m.bounds) at.0 index at.1 (ap test at.2 ∙ here)

near_only : (j i : ℤ) → is_near 0 0 j i ≡ true → j ≡ i
near_only j i h =
    let b = and_parts (int_le (j -ℤ pos 0) i) (int_le i (j +ℤ pos 0)) h in
    let x = le_true (j -ℤ pos 0) i b.0 in
    let y = le_true i (j +ℤ pos 0) b.1 in
    omega (arith, ints)

false_true : false ≡ true → ⊥
false_true h = absurd (cc)

around_only : (widths : List Width) (other index : List ℤ) → All (λ w. w ≡ no_width) widths → is_around widths other index ≡ true → other ≡ index
around_only [] [] [] none h = refl
around_only [] [] (i ∷ index) none h = absurd (false_true h)
around_only [] (j ∷ other) index none h = absurd (false_true h)
around_only (w ∷ widths) [] index none h = absurd (false_true h)
around_only (w ∷ widths) (j ∷ other) [] none h = absurd (false_true h)
around_only (w ∷ widths) (j ∷ other) (i ∷ index) none h =
    let b = and_parts (is_near w.low w.high j i) (is_around widths other index) h in
    let zero_width : w ≡ no_width = All-head (λ (w : Width). w ≡ no_width) w widths none in
    let here : j ≡ i = near_only j i (subst (λ (v : Width). is_near v.low v.high j i ≡ true) zero_width b.0) in
    let rest = around_only widths other index (All-tail (λ (w : Width). w ≡ no_width) w widths none) b.1 in
    cc

-- with no shadow nothing else is
pub no_shadow : (m : PlainMapping) (p : ℕ) (index : List ℤ) → IsMapping m → All (λ w. w ≡ no_width) m.shadow → LiesIn m.bounds index → is_held m p index ≡ owns m p index
no_shadow m p index is none lies =
    same_test _ _
    (λ h.
    let f = Any-from_list_any (λ other. owns m p other && is_around m.shadow other index) (indices m.bounds) h in
    let b = and_parts (owns m p f.1) (is_around m.shadow f.1 index) f.4 in
    subst (λ (i : List ℤ). owns m p i ≡ true) (around_only m.shadow f.1 index none b.1) b.0)
    (λ h. owned_held m p index is lies h)
