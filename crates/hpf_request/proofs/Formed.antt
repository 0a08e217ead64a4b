-- The form of a mapped array is one that can run.
use Rattle.std.proofs.Common.{◌≡◌, ℕ, suc, ◌+◌, ◌*◌, ◌<◌, Bool, true, List, [], ◌∷◌, ◌++◌, length, map, get_or, Contains, ℤ, pos, negsuc, ◌≤ℤ◌, ◌+ℤ◌, ◌-ℤ◌, Some, Result, Ok, Err, IfOk, refl, sym, ap, ◌∙◌, arith, subst}
use Rattle.std.specs.List.{All, AllByRecursion, filter, range_with_len}
use Rattle.std.specs.Int.{IsInRange}
use Rattle.std.specs.Prelude.{slice_get}
use Rattle.std.proofs.lemmas.Int.{ints}
use Rattle.std.proofs.lemmas.List.{length-map}
use Rattle.std.proofs.lemmas.List.Elements.{All-contains, All-filter, All-map, All-same, Contains-get_or}
use Rattle.std.proofs.lemmas.List.FromFn.{length-range_with_len, map-range_with_len_more}
use Rattle.hpf_frame.specs.FrameFile.{AreExtents, elements}
use Rattle.hpf_map.specs.declared.program.Stage.{Stage}
use Rattle.hpf_map.specs.Program.{PlainProgram, IsProgram}
use Rattle.hpf_syntax.specs.Plain.{ItemTree}
use Rattle.hpf_num.specs.declared.run.Run.{Run}
use Rattle.hpf_num.specs.Run.{extent, or_zero}
use Rattle.hpf_own.specs.Held.{Part, owned_part, held_part, is_held}
use Rattle.hpf_own.specs.Mapping.{PlainMapping, IsMapping}
use Rattle.hpf_own.specs.Owners.{numbers, owns, IsWhole}
use Rattle.hpf_own.specs.Space.{indices, product, size_of}
use Rattle.hpf_request.specs.Form.{Form, IsFormOf, form_of, places_of, holds_place}
use Rattle.hpf_request.specs.Parts.{Holding, AreParts, HaveTaken, IsWithin, holding_of, places}
use Rattle.hpf_request.proofs.Grown.{AreParts-places}
use Rattle.hpf_request.proofs.Alike.{OnlyIndices}
use Rattle.hpf_request.proofs.Placed.{StandOnce, index_at, placed, range_in}

-- ---- all elements

-- a filter that all pass
keep_all : {A : Type 0} (f : A → Bool) (xs : List A) → All (λ x. f x ≡ true) xs → filter f xs ≡ xs
keep_all f [] all = refl
keep_all f (x ∷ xs) all =
    let first : f x ≡ true = all 0 x (omega arith) in
    let rest = keep_all f xs (λ k d below. all (suc k) d (omega arith)) in
    rw first (ap (λ ys. x ∷ ys) rest)

-- one processor that owns all of an array owns each of its elements
pub whole_part : OnlyIndices → (bounds : List Run) (m : PlainMapping) → IsWhole bounds m
    → owned_part m 0 ≡ (let all : Part = record { rank = length bounds; indices = indices bounds } in all)
whole_part only bounds m whole =
    let kept : filter (owns m 0) (indices bounds) ≡ indices bounds =
    keep_all (owns m 0) (indices bounds) (λ k d below. whole.all (get_or (indices bounds) k d) (only bounds k d below)) in
    ap (λ (runs : List Run). let part : Part = record { rank = length runs; indices = filter (owns m 0) (indices runs) } in part) whole.same
    ∙ ap (λ (all : List (List ℤ)). let part : Part = record { rank = length bounds; indices = all } in part) kept

-- as many as the extents multiplied
pub elements_product : (extents : List ℕ) → product extents ≡ elements extents
elements_product [] = refl
elements_product (n ∷ extents) = ap (λ (e : ℕ). n * e) (elements_product extents)

-- ---- the extents

positive : (z : ℤ) → pos 1 ≤ℤ z → 0 < or_zero z
positive (pos n) h = omega (arith, ints)
positive (negsuc n) h = absurd (omega (arith, ints))

positives : (bounds : List Run) → All (λ run. run.low ≤ℤ run.high) bounds → AllByRecursion (λ e. 0 < e) (map extent bounds)
positives [] all = tt
positives (run ∷ bounds) all =
    let ordered = all 0 run (omega arith) in
    (positive (run.high -ℤ run.low +ℤ pos 1) (omega (arith, ints, ordered)), positives bounds (λ k d below. all (suc k) d (omega arith)))

pub extents_are : (m : PlainMapping) → IsMapping m → AreExtents (map extent m.bounds)
extents_are m is =
    let many = length-map m.bounds extent in
    record {
      some = omega (arith, many, is.bounds.short.some);
      few = omega (arith, many, is.bounds.short.few);
      positive = positives m.bounds is.bounds.ordered;
      within = omega (arith, elements_product (map extent m.bounds), is.limits.elements);
    }

-- ---- one part

in_filter : {A : Type 0} (f : A → Bool) (xs : List A) (x : A) → Contains (filter f xs) x → Contains xs x
in_filter f xs x h = All-contains (λ y. Contains xs y) (filter f xs) x (All-filter f (λ y. Contains xs y) xs (λ k d below. Contains-get_or xs k d below)) h

-- what a processor holds is among all
pub held_among : (m : PlainMapping) (p : ℕ) (all held : Part) → all ≡ (let whole : Part = record { rank = length m.bounds; indices = indices m.bounds } in whole) → held ≡ held_part m p
    → (index : List ℤ) → Contains held.indices index → Contains all.indices index
held_among m p all held all_is held_is index h =
    subst (λ (z : Part). Contains z.indices index) (sym all_is) (in_filter (is_held m p) (indices m.bounds) index (subst (λ (z : Part). Contains z.indices index) held_is h))

abbrev holding : List ℕ → ℕ → Holding
holding positions mark = record { positions = positions; mark = mark }

-- a part with the places of what a processor holds
pub part_is : (m : PlainMapping) (p : ℕ) (all held : Part) (part : Holding) → all ≡ (let whole : Part = record { rank = length m.bounds; indices = indices m.bounds } in whole) → held ≡ held_part m p → StandOnce (indices m.bounds)
    → part.mark ≡ 0 → IsWithin (length all.indices) part → map (index_at all.indices) part.positions ≡ held.indices → part ≡ holding_of [] (places_of m p)
part_is m p all held part all_is held_is once unmarked within places_are =
    let positions = placed (indices m.bounds) (is_held m p) part.positions once (subst (λ (z : Part). IsWithin (length z.indices) part) all_is within)
    (subst (λ (z : Part). map (index_at z.indices) part.positions ≡ held.indices) all_is places_are ∙ ap (λ (z : Part). z.indices) held_is) in
    ap (holding part.positions) unmarked ∙ ap (λ (ps : List ℕ). holding ps 0) positions

-- ---- the parts

-- one part more
pub parts_push : (m : PlainMapping) (p : ℕ) (old new : List Holding) (part : Holding) → old ≡ map (λ q. holding_of [] (places_of m q)) (range_with_len 0 p) → part ≡ holding_of [] (places_of m p) → new ≡ old ++ part ∷ []
    → new ≡ map (λ q. holding_of [] (places_of m q)) (range_with_len 0 (p + 1))
parts_push m p old new part so_far is gives =
    gives
    ∙ (ap (λ (xs : List Holding). xs ++ part ∷ []) so_far
    ∙ (ap (λ (x : Holding). map (λ q. holding_of [] (places_of m q)) (range_with_len 0 p) ++ x ∷ []) is
    ∙ sym (map-range_with_len_more (λ q. holding_of [] (places_of m q)) 0 p p (omega arith))))

each_part : (m : PlainMapping) (ps : List ℕ) → map (λ q. holding_of [] (places_of m q)) ps ≡ map (holding_of []) (map (places_of m) ps)
each_part m [] = refl
each_part m (p ∷ ps) = ap (λ (xs : List Holding). holding_of [] (places_of m p) ∷ xs) (each_part m ps)

-- there is one for each processor
pub all_parts : (m : PlainMapping) (n : ℕ) (parts : List Holding) → parts ≡ map (λ q. holding_of [] (places_of m q)) (range_with_len 0 n) → n ≡ product m.procs → AreParts (map (places_of m) (numbers m.procs)) [] parts
all_parts m n parts is many = record { in_order = is ∙ (ap (λ (k : ℕ). map (λ q. holding_of [] (places_of m q)) (range_with_len 0 k)) many ∙ each_part m (numbers m.procs)) }

places_within : (m : PlainMapping) (u p : ℕ) → length (indices m.bounds) ≡ u → All (IsInRange 1 u) (places_of m p)
places_within m u p many =
    subst (λ (n : ℕ). All (IsInRange 1 n) (places_of m p)) many
    (All-filter (holds_place m p) (IsInRange 1 (length (indices m.bounds))) (range_with_len 1 (length (indices m.bounds))) (range_in (length (indices m.bounds))))

all_within : (m : PlainMapping) (u : ℕ) (ps : List ℕ) → length (indices m.bounds) ≡ u → All (IsWithin u) (map (holding_of []) (map (places_of m) ps))
all_within m u ps many =
    All-map (IsWithin u) (holding_of []) (map (places_of m) ps)
    (All-map (λ positions. All (IsInRange 1 u) positions) (places_of m) ps (λ k d below. places_within m u (get_or ps k d) many))

pub has_taken : (m : PlainMapping) (extents : List ℕ) (parts : List Holding) → IsMapping m → length (indices m.bounds) ≡ size_of m.bounds → extents ≡ map extent m.bounds
    → AreParts (map (places_of m) (numbers m.procs)) [] parts → HaveTaken extents parts []
has_taken m extents parts is size extents_is are =
    let many : length (indices m.bounds) ≡ elements (map extent m.bounds) = size ∙ elements_product (map extent m.bounds) in
    subst (λ (es : List ℕ). HaveTaken es parts []) (sym extents_is)
    (record {
      extents_are = extents_are m is;
      procs =
          omega (
            arith,
            is.procs.few,
            ap length are.in_order,
            length-map (map (places_of m) (numbers m.procs)) (holding_of []),
            length-map (numbers m.procs) (places_of m),
            length-range_with_len 0 (product m.procs),
          );
      within = All-same (IsWithin (elements (map extent m.bounds))) parts (map (holding_of []) (map (places_of m) (numbers m.procs))) are.in_order (all_within m _ (numbers m.procs) many);
      parts_are = subst (λ (lists : List (List ℕ)). AreParts lists [] parts) (sym (AreParts-places _ _ _ are)) are;
    })

abbrev form : List ℕ → List (List ℕ) → Form
form extents parts = record { extents = extents; parts = parts }

-- the form that is made of both
pub form_is : (m : PlainMapping) (extents : List ℕ) (parts : List Holding) → extents ≡ map extent m.bounds → AreParts (map (places_of m) (numbers m.procs)) [] parts → form extents (places parts) ≡ form_of m
form_is m extents parts extents_is are = ap (λ (es : List ℕ). form es (places parts)) extents_is ∙ ap (λ (lists : List (List ℕ)). form (map extent m.bounds) lists) (AreParts-places _ _ _ are)

-- ---- the form of statements

-- what one processor owns of an array, where it is all
pub whole_is : {E : Type 0} → OnlyIndices → (given bounds : List Run) (m : PlainMapping) (r : Result Part E) → given ≡ bounds → IsWhole given m → IfOk r (λ part. part ≡ owned_part m 0)
    → IfOk r (λ part. part ≡ (let all : Part = record { rank = length bounds; indices = indices bounds } in all))
whole_is only given bounds m (Ok part) same whole is =
    is ∙ (whole_part only given m whole ∙ ap (λ (runs : List Run). let all : Part = record { rank = length runs; indices = indices runs } in all) same)
whole_is only given bounds m (Err e) same whole is = tt

-- so many elements has the form
pub counted : (m : PlainMapping) (all : Part) (count : ℕ) → all ≡ (let whole : Part = record { rank = length m.bounds; indices = indices m.bounds } in whole) → length (indices m.bounds) ≡ elements (map extent m.bounds) → count ≡ length all.indices
    → count ≡ elements (form_of m).extents
counted m all count is size many = many ∙ (ap (λ (z : Part). length z.indices) is ∙ size)

-- the form of the first stage is that of the statements
pub form_of_first : (items : List ItemTree) (program : PlainProgram) (stage : Stage) (f : Form) → IsProgram items program → slice_get program.stages 0 ≡ Some stage → f ≡ form_of stage.mapping → IsFormOf items f
form_of_first items program stage f is first form_is' = record { program = program; is_program = is; stage = stage; first = first; form_is = form_is' }
