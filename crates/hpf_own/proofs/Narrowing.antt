-- Narrowing the subscripts of one dimension.
use Rattle.std.proofs.Common.{◌≡◌, ◌==◌, ℕ, ◌<◌, Bool, true, false, ◌&&◌, ◌||◌, cond, List, [], ◌∷◌, length, filter, get_or, All, Contains, ℤ, ◌+ℤ◌, ◌*ℤ◌, ◌≤ℤ◌, refl, sym, ap, ◌∙◌, arith, subst, Result, IfOk}
use Rattle.std.specs.Int.RustNames.{int_le}
use Rattle.std.specs.Ordering.{int_eq}
use Rattle.std.proofs.lemmas.Int.{ints}
use Rattle.std.proofs.lemmas.Bool.{and_from}
use Rattle.std.proofs.lemmas.Bool.Decides.{Decides-int_eq}
use Rattle.std.proofs.lemmas.List.Elements.{filter_passes}
use Rattle.std.proofs.lemmas.List.Folds.{list_any_at, Any-from_list_any}
use Rattle.hpf_num.specs.declared.run.Run.{Run}
use Rattle.hpf_num.specs.Run.{integers, LiesWithin}
use Rattle.hpf_num.specs.Runs.{has, IsInLimits, common}
use Rattle.hpf_dist.specs.Axis.{Divided}
use Rattle.hpf_dist.specs.Spread.{IsPosition, owner_at}
use Rattle.hpf_dist.specs.Shares.{is_share, shares}
use Rattle.hpf_own.specs.declared.image.Image.TheVariants.{Along}
use Rattle.hpf_own.specs.KeptLists.{no_run as no_bound}
use Rattle.hpf_own.specs.Image.{subscript}
use Rattle.hpf_own.specs.Mapping.{CanLead, AreInLimits}
use Rattle.hpf_own.proofs.Boxes.{any_filter, filter_agree_all}
use Rattle.hpf_own.proofs.Leads.{index_at}
use Rattle.hpf_own.proofs.Only.{same_test}
use Rattle.hpf_own.proofs.Order.{integers_has}

pub filter_constant : {A : Type 0} (t : Bool) (xs : List A) → filter (λ _. t) xs ≡ cond t xs []
filter_constant true [] = refl
filter_constant false [] = refl
filter_constant {A} true (x ∷ xs) = ap (λ (ys : List A). x ∷ ys) (filter_constant true xs)
filter_constant false (x ∷ xs) = filter_constant false xs

pub or_false : (t : Bool) → t ≡ (t || false)
or_false true = refl
or_false false = refl

-- what a filter has of a list's members passes
pub has_filter : (p : ℤ → Bool) (xs : List ℤ) (x : ℤ) → Contains xs x → has (filter p xs) x ≡ p x
has_filter p xs x h =
    same_test _ _
    (λ t.
    let f = Any-from_list_any (λ j. int_eq j x) (filter p xs) t in
    let same : f.1 ≡ x = (Decides-int_eq f.1 x).0 f.4 in
    let passes : p f.1 ≡ true = ap p (sym f.3) ∙ filter_passes p xs f.0 f.1 f.2 in
    subst (λ (y : ℤ). p y ≡ true) same passes)
    (λ t. sym (any_filter p (λ j. int_eq j x) xs)
    ∙ list_any_at (λ j. p j && int_eq j x) xs h.0 x h.1 (and_from _ _ (ap p h.2 ∙ t) ((Decides-int_eq _ x).1 h.2)))

true_le : (x y : ℤ) → x ≤ℤ y → int_le x y ≡ true
true_le x y h = grind (arith, ints)

share_is : (axis : Divided) (c : ℕ) (u : ℤ) → IsPosition axis u → is_share axis c u ≡ ((owner_at axis u == c) || false)
share_is axis c u h = rw (true_le axis.low u h.low, true_le u axis.high h.high) (or_false (owner_at axis u == c))

-- the subscripts whose position is owned are met by those of a linear image
pub along_narrowed : (axis : Divided) (bounds : List Run) (dim : ℕ) (a b : ℤ) (c : ℕ) (side : List ℤ) → CanLead (Along dim a b) axis bounds → All (LiesWithin (get_or bounds dim no_bound)) side → common side (shares axis c a b (get_or bounds dim no_bound)) ≡ filter (λ x. (owner_at axis (a *ℤ x +ℤ b) == c) || false) side
along_narrowed axis bounds dim a b c side h within =
    let run = get_or bounds dim no_bound in
    let p : ℤ → Bool = λ x. is_share axis c (a *ℤ x +ℤ b) in
    filter_agree_all (has (filter p (integers run))) (λ x. (owner_at axis (a *ℤ x +ℤ b) == c) || false) side
    (λ k d below.
    let x = get_or side k d in
    let lies = within k d below in
    let found = index_at bounds dim x h.ordered h.followed lies in
    let position : IsPosition axis (a *ℤ subscript found.0 dim +ℤ b) = h.within found.0 found.1 0 x (omega arith) in
    let here : IsPosition axis (a *ℤ x +ℤ b) = subst (λ (y : ℤ). IsPosition axis (a *ℤ y +ℤ b)) found.2 position in
    has_filter p (integers run) x (integers_has run x lies) ∙ share_is axis c (a *ℤ x +ℤ b) here)

-- bounds within the limits are runs within them
pub limits_at : (bounds : List Run) (d : ℕ) → AreInLimits bounds → d < length bounds → IsInLimits (get_or bounds d no_bound)
limits_at bounds d h below = record { least = h.least d no_bound below; greatest = h.greatest d no_bound below }

-- so the code's list is the filter
pub met : {E : Type 0} (r : Result (List ℤ) E) (axis : Divided) (bounds : List Run) (dim d : ℕ) (a b : ℤ) (c : ℕ) (side shared : List ℤ) → CanLead (Along dim a b) axis bounds → dim ≡ d → All (LiesWithin (get_or bounds d no_bound)) side → shared ≡ shares axis c a b (get_or bounds d no_bound) → IfOk r (λ runs. runs ≡ common side shared) → IfOk r (λ runs. runs ≡ filter (λ x. (owner_at axis (a *ℤ x +ℤ b) == c) || false) side)
met {E} r axis bounds dim d a b c side shared h same within is ok =
    let run = get_or bounds d no_bound in
    let there : All (LiesWithin (get_or bounds dim no_bound)) side = subst (λ (k : ℕ). All (LiesWithin (get_or bounds k no_bound)) side) (sym same) within in
    let n = along_narrowed axis bounds dim a b c side h there in
    let e : common side shared ≡ filter (λ x. (owner_at axis (a *ℤ x +ℤ b) == c) || false) side =
    ap (common side) is ∙ ap (λ (k : ℕ). common side (shares axis c a b (get_or bounds k no_bound))) (sym same) ∙ n in
    subst (λ (xs : List ℤ). IfOk r (λ runs. runs ≡ xs)) e ok
