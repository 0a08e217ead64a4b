-- Statements are of one form at most.
use Rattle.std.proofs.Common.{◌≡◌, ℕ, ◌-◌, ◌<◌, List, [], ◌∷◌, length, map, get_or, Some, None, sym, ap, ◌∙◌, arith, subst}
use Rattle.std.specs.List.{All, filter, range_with_len}
use Rattle.std.specs.Prelude.{slice_get}
use Rattle.hpf_map.specs.declared.program.Stage.{Stage}
use Rattle.hpf_map.specs.Program.{Maps, array_place}
use Rattle.hpf_num.specs.declared.run.Run.{Run}
use Rattle.hpf_num.specs.Run.{extent}
use Rattle.hpf_own.specs.Mapping.{PlainMapping}
use Rattle.hpf_own.specs.Held.{is_held}
use Rattle.hpf_own.specs.Space.{indices, product}
use Rattle.hpf_syntax.specs.Plain.{ItemTree}
use Rattle.hpf_request.specs.Form.{Form, IsFormOf, form_of, places_of, holds_place}
use Rattle.hpf_request.proofs.Alike.{OnlyIndices, IsSame, alike, same_held, map_in_range, filter_in_range}

-- ---- the first stage

first_array : (xs ys : List Stage) (x y : Stage) → slice_get xs 0 ≡ Some x → slice_get ys 0 ≡ Some y → map (λ (s : Stage). s.array) xs ≡ map (λ (s : Stage). s.array) ys → x.array ≡ y.array
first_array [] ys x y e f same = absurd (let no : None ≡ Some x = e in cc)
first_array (a ∷ xs) [] x y e f same = absurd (let no : None ≡ Some y = f in cc)
first_array (a ∷ xs) (b ∷ ys) x y e f same =
    let one : a ≡ x = (let is : Some a ≡ Some x = e in cc) in
    let two : b ≡ y = (let is : Some b ≡ Some y = f in cc) in
    let heads : a.array ≡ b.array = cc in
    sym (ap (λ (s : Stage). s.array) one) ∙ (heads ∙ ap (λ (s : Stage). s.array) two)

first_meets : (P : Stage → Type 0) (xs : List Stage) (x : Stage) → slice_get xs 0 ≡ Some x → All P xs → P x
first_meets P [] x e all = absurd (let no : None ≡ Some x = e in cc)
first_meets P (a ∷ xs) x e all = let one : a ≡ x = (let is : Some a ≡ Some x = e in cc) in subst P one (all 0 a (omega arith))

-- ---- one form

same_places : OnlyIndices → (m w : PlainMapping) (p : ℕ) → IsSame m w → p < product m.procs → places_of m p ≡ places_of w p
same_places only m w p same below =
    filter_in_range (holds_place m p) (holds_place w p) 1 (length (indices m.bounds))
    (λ place least most.
    same_held only m w p (get_or (indices m.bounds) (place - 1) []) same below
    ∙ ap (λ (runs : List Run). is_held w p (get_or (indices runs) (place - 1) [])) same.bounds)
    ∙ ap (λ (runs : List Run). filter (holds_place w p) (range_with_len 1 (length (indices runs)))) same.bounds

pub same_form : OnlyIndices → (m w : PlainMapping) → IsSame m w → form_of m ≡ form_of w
same_form only m w same =
    let extents : map extent m.bounds ≡ map extent w.bounds = ap (λ (runs : List Run). map extent runs) same.bounds in
    let parts : map (places_of m) (range_with_len 0 (product m.procs)) ≡ map (places_of w) (range_with_len 0 (product w.procs)) =
    map_in_range (places_of m) (places_of w) 0 (product m.procs) (λ p least most. same_places only m w p same (omega arith))
    ∙ ap (λ (sizes : List ℕ). map (places_of w) (range_with_len 0 (product sizes))) same.procs in
    made (map extent m.bounds) (map extent w.bounds) _ _ extents parts
  where
    form : List ℕ → List (List ℕ) → Form
    form extents parts = record { extents = extents; parts = parts }

    made : (a b : List ℕ) (s t : List (List ℕ)) → a ≡ b → s ≡ t → form a s ≡ form b t
    made a b s t e h = ap (λ (x : List ℕ). form x s) e ∙ ap (λ (x : List (List ℕ)). form b x) h

pub one_form : OnlyIndices → (items : List ItemTree) (f g : Form) → IsFormOf items f → IsFormOf items g → f ≡ g
one_form only items f g x y =
    let arrays = first_array x.program.stages y.program.stages x.stage y.stage x.first y.first (x.is_program.arrays ∙ sym y.is_program.arrays) in
    let first = first_meets (λ (s : Stage). Maps items (array_place items s.array) (Some s.mapping)) x.program.stages x.stage x.first x.is_program.stages in
    let second = first_meets (λ (s : Stage). Maps items (array_place items s.array) (Some s.mapping)) y.program.stages y.stage y.first y.is_program.stages in
    let same = alike items (array_place items y.stage.array) (Some x.stage.mapping) (Some y.stage.mapping)
    (subst (λ (word : List ℕ). Maps items (array_place items word) (Some x.stage.mapping)) arrays first) second in
    x.form_is ∙ (same_form only x.stage.mapping y.stage.mapping same ∙ sym y.form_is)
