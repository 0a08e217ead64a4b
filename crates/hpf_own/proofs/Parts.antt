-- What a processor owns and holds is a box.
use Rattle.std.proofs.Common.{◌≡◌, ℕ, suc, ◌+◌, ◌/◌, ◌%◌, ◌<◌, ◌≤◌, Bool, true, false, ◌&&◌, cond, List, [], ◌∷◌, ◌++◌, length, map, filter, get_or, drop, take, All, Option, Some, None, ℤ, pos, ◌+ℤ◌, ◌*ℤ◌, refl, sym, ap, ◌∙◌, inl, inr, arith, subst, eq-eqb, Result, IfOk}
use Rattle.std.specs.List.{list_any, find}
use Rattle.std.proofs.lemmas.Bool.{false≢true, cases_eq, ne_eqb}
use Rattle.std.proofs.lemmas.List.{get_or-map, nil_from_length, length-drop, length-map, take_all}
use Rattle.std.proofs.lemmas.List.Elements.{All-filter, filter_agree}
use Rattle.hpf_num.specs.declared.run.Run.{Run}
use Rattle.hpf_num.specs.Run.{integers, LiesWithin}
use Rattle.hpf_num.specs.Runs.{is_near, widened}
use Rattle.hpf_own.specs.declared.image.Image.{Image}
use Rattle.hpf_own.specs.declared.image.Image.TheVariants.{Along, Fixed, Spread}
use Rattle.hpf_own.specs.declared.image.Cut.{Cut}
use Rattle.hpf_own.specs.declared.image.BaseDim.{BaseDim}
use Rattle.hpf_own.specs.declared.widths.Width.{Width}
use Rattle.hpf_own.specs.KeptLists.{no_run as no_bound, no_width}
use Rattle.hpf_own.specs.Space.{choices, indices, product, LiesIn, size_of}
use Rattle.hpf_own.specs.Image.{positions}
use Rattle.hpf_own.specs.Mapping.{PlainMapping, IsMapping, FollowsBelow, divides}
use Rattle.hpf_own.specs.Owners.{owns, holds_of, holds_at}
use Rattle.hpf_own.specs.Held.{Part, is_around, is_held}
use Rattle.hpf_own.specs.Side.{side_in, side_of, side_over, at_each, is_side, side}
use Rattle.hpf_own.proofs.Boxes.{pass, passing, filter_agree_all, filter-all, filter_both, filter-choices, filter_fewer, pass_from, pass_at, any_filter, passing_more, length-passing}
use Rattle.hpf_own.proofs.Choices.{list_any-same, list_any-map, list_any-flat_map, list_any-and, list_any-and_left}
use Rattle.hpf_own.proofs.Digits.{digits, passes, passes_from, passes_at, passes-drop}
use Rattle.hpf_own.proofs.Each.{owns_digits, owns_from}
use Rattle.hpf_own.proofs.Indices.{LiesIn-length}
use Rattle.hpf_own.proofs.Only.{same_test}
use Rattle.hpf_own.proofs.Order.{indices_only, length-indices}
use Rattle.hpf_own.specs.Limits.{element_limit}

-- ---- one dimension of the arrangement after another
passes_same : (ns : List ℕ) (f g : ℕ → ℕ → Bool) (k : ℕ) → ((e c : ℕ) → f e c ≡ g e c) → passes ns f k ≡ passes ns g k
passes_same [] f g k h = refl
passes_same (n ∷ ns) f g k h =
    rw (h 0 (k % n), passes_same ns (λ e. f (suc e)) (λ e. g (suc e)) (k / n) (λ e c. h (suc e) c)) refl

at_each-passes : (ns : List ℕ) (f : ℕ → ℕ → Bool) (k : ℕ) → passes ns f k ≡ at_each ns f k
at_each-passes [] f k = refl
at_each-passes (n ∷ ns) f k = ap (λ (b : Bool). f 0 (k % n) && b) (at_each-passes ns (λ e. f (suc e)) (k / n))

-- the subscripts that are left, and the tests that they have still to pass
pub record IsNarrowed (m : PlainMapping) (p d : ℕ) (sizes : List ℕ) (e rest : ℕ) (left : List ℤ) : Type 0 where
  pub within : All (LiesWithin (get_or m.bounds d no_bound)) left
  pub kept : filter (λ x. passes (drop e sizes) (λ j. side_over m.dims d x (e + j)) rest) left ≡ filter (λ x. passes sizes (side_over m.dims d x) p) (integers (get_or m.bounds d no_bound))

pub narrowed_none : (m : PlainMapping) (p d : ℕ) (sizes : List ℕ) (left : List ℤ) → All (LiesWithin (get_or m.bounds d no_bound)) left → left ≡ integers (get_or m.bounds d no_bound) → IsNarrowed m p d sizes 0 p left
narrowed_none m p d sizes left within is =
    record {
      within = within;
      kept = filter_agree (λ x. passes sizes (λ j. side_over m.dims d x (0 + j)) p) (λ x. passes sizes (side_over m.dims d x) p) (λ x. passes_same sizes (λ j. side_over m.dims d x (0 + j)) (side_over m.dims d x) p (λ j c. ap (λ (i : ℕ). side_over m.dims d x i c) (let z : 0 + j ≡ j = omega arith in z))) left
          ∙ ap (filter (λ x. passes sizes (side_over m.dims d x) p)) is;
    }

pub narrowed_more : (m : PlainMapping) (p d : ℕ) (sizes : List ℕ) (e rest : ℕ) (left after : List ℤ) → e < length sizes → IsNarrowed m p d sizes e rest left → after ≡ filter (λ x. side_over m.dims d x e (rest % get_or sizes e 0)) left → IsNarrowed m p d sizes (e + 1) (rest / get_or sizes e 0) after
narrowed_more m p d sizes e rest left after below h is =
    let A : ℤ → Bool = λ x. side_over m.dims d x e (rest % get_or sizes e 0) in
    let B : ℤ → Bool = λ x. passes (drop (e + 1) sizes) (λ j. side_over m.dims d x (e + 1 + j)) (rest / get_or sizes e 0) in
    record {
      within = subst (All (LiesWithin (get_or m.bounds d no_bound))) (sym is) (All-filter A (LiesWithin (get_or m.bounds d no_bound)) left h.within);
      kept = ap (filter B) is ∙ sym (filter_both A B left)
          ∙ sym (filter_agree (λ x. passes (drop e sizes) (λ j. side_over m.dims d x (e + j)) rest) (λ x. A x && B x) (λ x. passes-drop sizes (side_over m.dims d x) e rest below) left)
          ∙ h.kept;
    }

pub narrowed_all : (m : PlainMapping) (p d : ℕ) (sizes : List ℕ) (e rest : ℕ) (left : List ℤ) → length sizes ≤ e → sizes ≡ m.procs → IsNarrowed m p d sizes e rest left → left ≡ side m p d
narrowed_all m p d sizes e rest left end same h =
    let none : drop e sizes ≡ [] = nil_from_length (drop e sizes) (omega (arith, length-drop e sizes)) in
    let run = integers (get_or m.bounds d no_bound) in
    sym (filter-all left)
    ∙ ap (λ (ns : List ℕ). filter (λ x. passes ns (λ j. side_over m.dims d x (e + j)) rest) left) (sym none)
    ∙ h.kept
    ∙ ap (λ (ns : List ℕ). filter (λ x. passes ns (side_over m.dims d x) p) run) same
    ∙ filter_agree (λ x. passes m.procs (side_over m.dims d x) p) (is_side m p d) (λ x. at_each-passes m.procs (side_over m.dims d x) p) run

-- ---- all dimensions of the array
-- an element that lies at a coordinate does so by each of its subscripts
side_in_from : (image : Image) (cut : Cut) (index : List ℤ) (d c : ℕ) → holds_at cut (positions image index) c ≡ true → side_in d (get_or index d (pos 0)) c image cut ≡ true
side_in_from (Along k a b) cut index d c h =
    elim (cases_eq k d) [
      | inl same ↦ rw (eq-eqb k d same) (subst (λ (i : ℕ). holds_at cut ((a *ℤ get_or index i (pos 0) +ℤ b) ∷ []) c ≡ true) same h)
      | inr other ↦ rw (ne_eqb k d other) refl
    ]
side_in_from (Fixed n) cut index d c h = h
side_in_from (Spread first step count) cut index d c h = h

side_of_from : (o : Option BaseDim) (index : List ℤ) (d c : ℕ) → holds_of index c o ≡ true → side_of d (get_or index d (pos 0)) c o ≡ true
side_of_from None index d c h = absurd (false≢true h)
side_of_from (Some dim) index d c h = side_in_from dim.image dim.cut index d c h

-- and where each subscript allows it, it does
holds_in_from : (image : Image) (cut : Cut) (index : List ℤ) (c : ℕ) → FollowsBelow (length index) image → 1 ≤ length index → ((d : ℕ) → d < length index → side_in d (get_or index d (pos 0)) c image cut ≡ true) → holds_at cut (positions image index) c ≡ true
holds_in_from (Along k a b) cut index c follows some h =
    rw (eq-eqb k k refl) at (h k follows)
holds_in_from (Fixed n) cut index c follows some h = h 0 some
holds_in_from (Spread first step count) cut index c follows some h = h 0 some

holds_of_from : (o : Option BaseDim) (index : List ℤ) (c : ℕ) → ((dim : BaseDim) → o ≡ Some dim → FollowsBelow (length index) dim.image) → 1 ≤ length index → ((d : ℕ) → d < length index → side_of d (get_or index d (pos 0)) c o ≡ true) → holds_of index c o ≡ true
holds_of_from None index c follows some h = h 0 some
holds_of_from (Some dim) index c follows some h = holds_in_from dim.image dim.cut index c (follows dim refl) some h

find_past : (p : BaseDim → Bool) (y : BaseDim) (ys : List BaseDim) (b : Bool) → p y ≡ b → find p (y ∷ ys) ≡ cond b (Some y) (find p ys)
find_past p y ys b e = rw e refl

find_here : (P : BaseDim → Type 0) (p : BaseDim → Bool) (y : BaseDim) (ys : List BaseDim) (x : BaseDim) (b : Bool) → p y ≡ b → ((k : ℕ) (d : BaseDim) → k < length (y ∷ ys) → P (get_or (y ∷ ys) k d)) → find p (y ∷ ys) ≡ Some x → (find p ys ≡ Some x → P x) → P x
find_here P p y ys x true t h e later =
    let same : y ≡ x = let z : Some y ≡ Some x = sym (find_past p y ys true t) ∙ e in cc in
    subst P same (h 0 y (omega arith))
find_here P p y ys x false t h e later = later (sym (find_past p y ys false t) ∙ e)

find_all : (P : BaseDim → Type 0) (p : BaseDim → Bool) (xs : List BaseDim) (x : BaseDim) → ((k : ℕ) (d : BaseDim) → k < length xs → P (get_or xs k d)) → find p xs ≡ Some x → P x
find_all P p [] x h e = absurd (let z : None ≡ Some x = e in cc)
find_all P p (y ∷ ys) x h e = find_here P p y ys x (p y) refl h e (λ z. find_all P p ys x (λ k d below. h (suc k) d (omega arith)) z)

owns-pass : (m : PlainMapping) (p : ℕ) (index : List ℤ) → IsMapping m → p < product m.procs → LiesIn m.bounds index → owns m p index ≡ pass (is_side m p) index
owns-pass m p index is below lies =
    let long = LiesIn-length m.bounds index lies in
    let rank = is.bounds.short.some in
    same_test _ _
    (λ h. pass_from (is_side m p) index (pos 0)
    (λ d within. sym (at_each-passes m.procs (side_over m.dims d (get_or index d (pos 0))) p)
    ∙ passes_from m.procs (side_over m.dims d (get_or index d (pos 0))) p
    (λ e inside. side_of_from (find (λ dim. divides e dim.cut) m.dims) index d (get_or (digits m.procs p) e 0) (owns_digits m p index is.dims below h e inside))))
    (λ h. owns_from m p index is.dims below
    (λ e inside. holds_of_from (find (λ dim. divides e dim.cut) m.dims) index (get_or (digits m.procs p) e 0)
    (λ dim found. find_all (λ d. FollowsBelow (length index) d.image) (λ dim. divides e dim.cut) m.dims dim (λ k d less. subst (λ (r : ℕ). FollowsBelow r (get_or m.dims k d).image) (sym long) (is.dims.followed k d less)) found)
    (omega arith)
    (λ d within.
    let each = pass_at (is_side m p) index d (pos 0) h within in
    passes_at m.procs (side_over m.dims d (get_or index d (pos 0))) p e (at_each-passes m.procs (side_over m.dims d (get_or index d (pos 0))) p ∙ each) inside)))

-- what a processor owns is a box
pub owned_box : (m : PlainMapping) (p : ℕ) → IsMapping m → p < product m.procs → choices (passing (is_side m p) (map integers m.bounds)) ≡ filter (owns m p) (indices m.bounds)
owned_box m p is below =
    sym (filter_agree_all (owns m p) (pass (is_side m p)) (indices m.bounds) (λ k d less. owns-pass m p _ is below (indices_only m.bounds k d less))
    ∙ filter-choices (is_side m p) (map integers m.bounds))

-- a box within the bounds is no larger than they
pub box_fewer : (f : ℕ → ℤ → Bool) (bounds : List Run) (n : ℕ) → size_of bounds ≤ n → length (choices (passing f (map integers bounds))) ≤ n
box_fewer f bounds n few =
    let e = ap (λ (xs : List (List ℤ)). length xs) (filter-choices f (map integers bounds)) in
    omega (arith, e, filter_fewer (pass f) (indices bounds), length-indices bounds)

-- ---- the shadow
-- whether a subscript lies within the widths of one that is owned
abbrev pub near : List Width → List (List ℤ) → ℕ → ℤ → Bool
near widths lists d i = list_any (λ j. is_near (get_or widths d no_width).low (get_or widths d no_width).high j i) (get_or lists d [])

any_around : (widths : List Width) (lists : List (List ℤ)) (index : List ℤ) → length widths ≡ length lists → length index ≡ length lists → list_any (λ other. is_around widths other index) (choices lists) ≡ pass (near widths lists) index
any_around [] [] [] h k = refl
any_around [] [] (i ∷ index) h k = absurd (omega arith)
any_around [] (l ∷ lists) index h k = absurd (omega arith)
any_around (w ∷ widths) [] index h k = absurd (omega arith)
any_around (w ∷ widths) (l ∷ lists) [] h k = absurd (omega arith)
any_around (w ∷ widths) (l ∷ lists) (i ∷ index) h k =
    let p : List ℤ → Bool = λ other. is_around (w ∷ widths) other (i ∷ index) in
    let put : List ℤ → List (List ℤ) = λ chosen. map (λ j. j ∷ chosen) l in
    let n : Bool = list_any (λ j. is_near w.low w.high j i) l in
    list_any-flat_map p put (choices lists)
    ∙ list_any-same (λ chosen. list_any p (put chosen)) (λ chosen. n && is_around widths chosen index)
    (λ chosen. list_any-map p (λ j. j ∷ chosen) l ∙ list_any-and (λ j. is_near w.low w.high j i) (is_around widths chosen index) l) (choices lists)
    ∙ list_any-and_left (λ chosen. is_around widths chosen index) n (choices lists)
    ∙ ap (λ (b : Bool). n && b) (any_around widths lists index (omega arith) (omega arith))

-- what a processor holds is a box
pub held_box : (m : PlainMapping) (p : ℕ) (lists : List (List ℤ)) → IsMapping m → length lists ≡ length m.bounds → choices lists ≡ filter (owns m p) (indices m.bounds) → choices (passing (near m.shadow lists) (map integers m.bounds)) ≡ filter (is_held m p) (indices m.bounds)
held_box m p lists is rank owned =
    sym (filter_agree_all (is_held m p) (pass (near m.shadow lists)) (indices m.bounds)
    (λ k d less.
    let index = get_or (indices m.bounds) k d in
    let long = LiesIn-length m.bounds index (indices_only m.bounds k d less) in
    let around : List ℤ → Bool = λ other. is_around m.shadow other index in
    any_filter (owns m p) around (indices m.bounds)
    ∙ ap (list_any around) (sym owned)
    ∙ any_around m.shadow lists index (is.one_width ∙ sym rank) (long ∙ sym rank))
    ∙ filter-choices (near m.shadow lists) (map integers m.bounds))

-- ---- the lists of a part, one dimension after another
pub sides_more : (f : ℕ → ℤ → Bool) (bounds : List Run) (d : ℕ) (side : List ℤ) (before after : List (List ℤ)) → d < length bounds → side ≡ filter (f d) (integers (get_or bounds d no_bound)) → before ≡ passing f (take d (map integers bounds)) → after ≡ before ++ side ∷ [] → after ≡ passing f (take (d + 1) (map integers bounds))
sides_more f bounds d side before after below is so_far more =
    let all = map integers bounds in
    let within : d < length all = omega (arith, length-map bounds integers) in
    let here : get_or all d [] ≡ integers (get_or bounds d no_bound) = get_or-map integers bounds d no_bound [] below in
    let next : passing f (take (d + 1) all) ≡ passing f (take d all) ++ filter (f d) (integers (get_or bounds d no_bound)) ∷ [] = passing_more f all d within ∙ ap (λ (xs : List ℤ). passing f (take d all) ++ filter (f d) xs ∷ []) here in
    more ∙ ap (λ (xs : List (List ℤ)). xs ++ side ∷ []) so_far ∙ ap (λ (xs : List ℤ). passing f (take d all) ++ xs ∷ []) is ∙ sym next

pub sides_all : (f : ℕ → ℤ → Bool) (bounds : List Run) (d : ℕ) (sides : List (List ℤ)) → length bounds ≤ d → sides ≡ passing f (take d (map integers bounds)) → sides ≡ passing f (map integers bounds)
sides_all f bounds d sides end so_far =
    so_far ∙ ap (passing f) (take_all d (map integers bounds) (omega (arith, length-map bounds integers)))

pub sides_rank : (f : ℕ → ℤ → Bool) (bounds : List Run) (sides : List (List ℤ)) → sides ≡ passing f (map integers bounds) → length sides ≡ length bounds
sides_rank f bounds sides is =
    ap (λ (xs : List (List ℤ)). length xs) is ∙ length-passing f (map integers bounds) ∙ length-map bounds integers

pub sides_few : (f : ℕ → ℤ → Bool) (m : PlainMapping) (sides : List (List ℤ)) → IsMapping m → sides ≡ passing f (map integers m.bounds) → length (choices sides) ≤ element_limit
sides_few f m sides is all =
    let e = ap (λ (xs : List (List ℤ)). length (choices xs)) all in
    let few = box_fewer f m.bounds element_limit is.limits.elements in
    omega arith

-- what is made of them
pub part_is : {E : Type 0} (r : Result Part E) (sides : List (List ℤ)) (n : ℕ) (xs : List (List ℤ)) → length sides ≡ n → choices sides ≡ xs → IfOk r (λ part. part ≡ record { rank = length sides; indices = choices sides }) → IfOk r (λ part. part ≡ record { rank = n; indices = xs })
part_is {E} r sides n xs rank every ok =
    let make : ℕ → List (List ℤ) → Part = λ k ys. record { rank = k; indices = ys } in
    let e : make (length sides) (choices sides) ≡ make n xs = ap (λ (k : ℕ). make k (choices sides)) rank ∙ ap (make n) every in
    subst (λ (p : Part). IfOk r (λ part. part ≡ p)) e ok

-- a list that was widened is what lies near
pub near_is : (widths : List Width) (lists : List (List ℤ)) (d low high : ℕ) (side wide : List ℤ) (run bound : Run) → low ≡ (get_or widths d no_width).low → high ≡ (get_or widths d no_width).high → get_or lists d [] ≡ side → run ≡ bound → wide ≡ widened side low high run → wide ≡ filter (near widths lists d) (integers bound)
near_is widths lists d low high side wide run bound a b at same is =
    is ∙ ap (λ (n : ℕ). widened side n high run) a ∙ ap (λ (n : ℕ). widened side (get_or widths d no_width).low n run) b
    ∙ ap (λ (xs : List ℤ). widened xs (get_or widths d no_width).low (get_or widths d no_width).high run) (sym at)
    ∙ ap (λ (r : Run). filter (near widths lists d) (integers r)) same
