-- Moves of a box of subscripts, dimension by dimension.
use Rattle.std.proofs.Common.{◌≡◌, ℕ, zero, suc, ◌+◌, Bool, true, false, ◌&&◌, cond, List, [], ◌∷◌, ◌++◌, length, map, filter, get_or, drop, ℤ, refl, sym, ap, ◌∙◌, arith}
use Rattle.std.specs.List.{flat_map}
use Rattle.std.proofs.lemmas.List.{map-append, drop_more, drop_all}
use Rattle.std.proofs.lemmas.List.Elements.{filter-append}
use Rattle.hpf_own.specs.Space.{choices}
use Rattle.hpf_sched.specs.declared.step.Move.{Move}
use Rattle.hpf_sched.specs.Lines.{plus, no_move, crossed, box_moves}

-- the lists of a subscript of each of so many dimensions
abbrev pub boxes : (ℕ → List ℤ) → ℕ → ℕ → List (List ℤ)
boxes sides d zero = [] ∷ []
boxes sides d (suc k) = flat_map (λ chosen. map (λ i. i ∷ chosen) (sides d)) (boxes sides (d + 1) k)

pub choices_boxes : (lists : List (List ℤ)) (d k : ℕ) → d + k ≡ length lists → choices (drop d lists) ≡ boxes (λ j. get_or lists j []) d k
choices_boxes lists d zero e = rw (drop_all d lists (omega arith)) refl
choices_boxes lists d (suc k) e = rw (drop_more lists d [] (omega arith), choices_boxes lists (d + 1) k (omega arith)) refl

-- whether each subscript passes the test of its dimension
abbrev pub pass : (ℕ → ℤ → Bool) → ℕ → List ℤ → Bool
pass test d [] = true
pass test d (i ∷ index) = test d i && pass test (d + 1) index

-- what the subscripts add up to
abbrev pub total : (ℕ → ℤ → Move) → ℕ → List ℤ → Move
total value d [] = no_move
total value d (i ∷ index) = plus (total value (d + 1) index) (value d i)

line_here : {A : Type 0} (f : A → Move) (g : Move → Move) (v : ℤ → Move) (t b : Bool) (x : A) (xs : List A) (i : ℤ) (is : List ℤ) → f x ≡ g (v i) → map f xs ≡ cond b (map g (map v is)) [] → map f (cond (t && b) (x ∷ xs) xs) ≡ cond b (map g (map v (cond t (i ∷ is) is))) []
line_here f g v true true x xs i is e h = rw (e, h) refl
line_here f g v true false x xs i is e h = h
line_here f g v false true x xs i is e h = h
line_here f g v false false x xs i is e h = h

none_there : (b : Bool) → cond b [] [] ≡ (let none : List Move = [] in none)
none_there true = refl
none_there false = refl

one_line : (test : ℕ → ℤ → Bool) (value : ℕ → ℤ → Move) (d : ℕ) (chosen side : List ℤ) → map (total value d) (filter (pass test d) (map (λ i. i ∷ chosen) side)) ≡ cond (pass test (d + 1) chosen) (map (plus (total value (d + 1) chosen)) (map (value d) (filter (test d) side))) []
one_line test value d chosen [] = sym (none_there (pass test (d + 1) chosen))
one_line test value d chosen (i ∷ side) =
    line_here (total value d) (plus (total value (d + 1) chosen)) (value d) (test d i) (pass test (d + 1) chosen) (i ∷ chosen) (filter (pass test d) (map (λ i. i ∷ chosen) side)) i (filter (test d) side) refl (one_line test value d chosen side)

crossed_here : (value : ℕ → ℤ → Move) (d : ℕ) (b : Bool) (chosen : List ℤ) (rest : List (List ℤ)) (side : List Move) → cond b (map (plus (total value d chosen)) side) [] ++ crossed (map (total value d) rest) side ≡ crossed (map (total value d) (cond b (chosen ∷ rest) rest)) side
crossed_here value d true chosen rest side = refl
crossed_here value d false chosen rest side = refl

lines_here : (test : ℕ → ℤ → Bool) (value : ℕ → ℤ → Move) (d : ℕ) (side : List ℤ) (box : List (List ℤ)) → map (total value d) (filter (pass test d) (flat_map (λ chosen. map (λ i. i ∷ chosen) side) box)) ≡ crossed (map (total value (d + 1)) (filter (pass test (d + 1)) box)) (map (value d) (filter (test d) side))
lines_here test value d side [] = refl
lines_here test value d side (chosen ∷ box) =
    let put : List ℤ → List (List ℤ) = λ chosen. map (λ i. i ∷ chosen) side in
    let moves = map (value d) (filter (test d) side) in
    ap (map (total value d)) (filter-append (pass test d) (put chosen) (flat_map put box))
    ∙ map-append (total value d) (filter (pass test d) (put chosen)) (filter (pass test d) (flat_map put box))
    ∙ ap (λ (ms : List Move). ms ++ map (total value d) (filter (pass test d) (flat_map put box))) (one_line test value d chosen side)
    ∙ ap (λ (ms : List Move). cond (pass test (d + 1) chosen) (map (plus (total value (d + 1) chosen)) moves) [] ++ ms) (lines_here test value d side box)
    ∙ crossed_here value (d + 1) (pass test (d + 1) chosen) chosen (filter (pass test (d + 1)) box) moves

-- the moves of a box are the totals of those that pass
pub box_moves_are : (test : ℕ → ℤ → Bool) (value : ℕ → ℤ → Move) (sides : ℕ → List ℤ) (d k : ℕ) → box_moves (λ j. map (value j) (filter (test j) (sides j))) d k ≡ map (total value d) (filter (pass test d) (boxes sides d k))
box_moves_are test value sides d zero = refl
box_moves_are test value sides d (suc k) =
    ap (λ (lines : List Move). crossed lines (map (value d) (filter (test d) (sides d)))) (box_moves_are test value sides (d + 1) k)
    ∙ sym (lines_here test value d (sides d) (boxes sides (d + 1) k))
