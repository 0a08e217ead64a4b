-- Marks grow by a value, and by a frame.
use Rattle.std.proofs.Common.{◌≡◌, ℕ, ◌+◌, ◌-◌, ◌*◌, ◌^◌, ◌<◌, ◌%◌, ℤ, pos, negsuc, ◌+ℤ◌, ◌*ℤ◌, suc, List, [], ◌∷◌, ◌++◌, length, get_or, take, sym, ap, ◌∙◌, arith, SFits, w64, subst, add-zero}
use Rattle.std.proofs.Math.IntN.{+ℤ_assoc, +ℤ_idl, +ℤ_idr}
use Rattle.std.proofs.lemmas.Int.{int_wrap-add_left, int_wrap-add_right, int_wrap-mul_left, int_wrap_fits, of_z-to_z, to_z-of_z, SFits-int_wrap}
use Rattle.std.proofs.lemmas.List.{map_more, length-map, length-take-le}
use Rattle.std.specs.Int.{int_wrap, int_rem_euclid, cast_unsigned, cast_signed}
use Rattle.std.specs.Prelude.{unsigned_abs}
use Rattle.hpf_request.specs.Part.{values_at}
use Rattle.hpf_request.specs.Mark.{weighted, weighted_frames, mark_of}

-- one further value
pub weighted-push : (weight place : ℕ) (values : List ℤ) (value : ℤ) → weighted weight place (values ++ value ∷ []) ≡ weighted weight place values +ℤ (pos (weight * (place + length values)) *ℤ value)
weighted-push weight place [] value =
    simp add-zero (+ℤ_idr (pos (weight * place) *ℤ value) ∙ sym (+ℤ_idl (pos (weight * place) *ℤ value)))
weighted-push weight place (x ∷ xs) value =
    let rest = weighted-push weight (place + 1) xs value in
    let same : place + 1 + length xs ≡ place + length (x ∷ xs) = omega arith in
    ap (λ (z : ℤ). (pos (weight * place) *ℤ x) +ℤ z) (subst (λ (n : ℕ). weighted weight (place + 1) (xs ++ value ∷ []) ≡ weighted weight (place + 1) xs +ℤ (pos (weight * n) *ℤ value)) same rest)
    ∙ sym (+ℤ_assoc (pos (weight * place) *ℤ x) (weighted weight (place + 1) xs) (pos (weight * (place + length (x ∷ xs))) *ℤ value))

-- one further frame
pub weighted_frames-push : (number : ℕ) (positions : List ℕ) (frames : List (List ℤ)) (frame : List ℤ) → weighted_frames number positions (frames ++ frame ∷ []) ≡ weighted_frames number positions frames +ℤ weighted (number + length frames) 1 (values_at frame positions)
weighted_frames-push number positions [] frame =
    simp add-zero (+ℤ_idr (weighted number 1 (values_at frame positions)) ∙ sym (+ℤ_idl (weighted number 1 (values_at frame positions))))
weighted_frames-push number positions (f ∷ fs) frame =
    let rest = weighted_frames-push (number + 1) positions fs frame in
    let same : number + 1 + length fs ≡ number + length (f ∷ fs) = omega arith in
    ap (λ (z : ℤ). weighted number 1 (values_at f positions) +ℤ z) (subst (λ (n : ℕ). weighted_frames (number + 1) positions (fs ++ frame ∷ []) ≡ weighted_frames (number + 1) positions fs +ℤ weighted n 1 (values_at frame positions)) same rest)
    ∙ sym (+ℤ_assoc (weighted number 1 (values_at f positions)) (weighted_frames (number + 1) positions fs) (weighted (number + length (f ∷ fs)) 1 (values_at frame positions)))

-- modulo 2^64
abbrev pub remainder : ℤ → ℕ
remainder z = unsigned_abs (int_rem_euclid z (pos (2 ^ 64)))

remainder_below : (z : ℤ) → remainder z < 2 ^ 64
remainder_below (pos a) = omega arith
remainder_below (negsuc a) = omega arith

-- the bits of a wrapped number are its remainder
wrapped_is : (z : ℤ) → cast_unsigned w64 (int_wrap w64 z) ≡ remainder z
unfolding int_wrap
wrapped_is z = of_z-to_z w64 (remainder z) (remainder_below z)

wrapped_bits : (s : ℤ) → SFits w64 s → int_wrap w64 (pos (cast_unsigned w64 s)) ≡ s
unfolding int_wrap
wrapped_bits (pos m) fits = int_wrap_fits w64 (pos m) fits
wrapped_bits (negsuc m) fits =
    let small : (2 ^ 64 - suc m) % 2 ^ 64 ≡ 2 ^ 64 - suc m = omega arith in
    ap (λ (n : ℕ). cast_signed w64 n) small ∙ to_z-of_z w64 (negsuc m) fits

-- a mark that is kept as a signed number takes in a term
pub mark_taken_in : (s term : ℤ) → SFits w64 s → cast_unsigned w64 (int_wrap w64 (s +ℤ term)) ≡ remainder (pos (cast_unsigned w64 s) +ℤ term)
mark_taken_in s term fits =
    let left : int_wrap w64 (pos (cast_unsigned w64 s) +ℤ term) ≡ int_wrap w64 (s +ℤ term) =
    sym (int_wrap-add_left w64 (pos (cast_unsigned w64 s)) term) ∙ ap (λ (z : ℤ). int_wrap w64 (z +ℤ term)) (wrapped_bits s fits) in
    ap (λ (z : ℤ). cast_unsigned w64 z) (sym left) ∙ wrapped_is (pos (cast_unsigned w64 s) +ℤ term)

-- the mark over one further frame
pub mark_of-push : (positions : List ℕ) (frames : List (List ℤ)) (frame : List ℤ) → mark_of positions (frames ++ frame ∷ []) ≡ remainder (pos (mark_of positions frames) +ℤ weighted (length frames + 1) 1 (values_at frame positions))
mark_of-push positions frames frame =
    let sum = weighted_frames 1 positions frames in
    let term = weighted (length frames + 1) 1 (values_at frame positions) in
    let same : 1 + length frames ≡ length frames + 1 = omega arith in
    let all : weighted_frames 1 positions (frames ++ frame ∷ []) ≡ sum +ℤ term =
    weighted_frames-push 1 positions frames frame ∙ ap (λ (n : ℕ). sum +ℤ weighted n 1 (values_at frame positions)) same in
    let kept = mark_taken_in (int_wrap w64 sum) term (SFits-int_wrap w64 sum) in
    ap (λ (z : ℤ). remainder z) all
    ∙ (sym (wrapped_is (sum +ℤ term))
    ∙ (ap (λ (z : ℤ). cast_unsigned w64 z) (sym (int_wrap-add_left w64 sum term))
    ∙ (kept ∙ ap (λ (n : ℕ). remainder (pos n +ℤ term)) (wrapped_is sum))))

-- a loop's step: the value at the next position, weighted
pub mark_more : (start : ℤ) (number : ℕ) (frame : List ℤ) (positions : List ℕ) (i : ℕ) (value : ℤ)
    → i < length positions
    → value ≡ get_or frame (get_or positions i 0 - 1) (pos 0)
    → int_wrap w64 (int_wrap w64 (start +ℤ weighted number 1 (values_at frame (take i positions))) +ℤ (int_wrap w64 (pos (number * (i + 1))) *ℤ value))
    ≡ int_wrap w64 (start +ℤ weighted number 1 (values_at frame (take (i + 1) positions)))
mark_more start number frame positions i value within is =
    let front = values_at frame (take i positions) in
    let sum = weighted number 1 front in
    let weight : ℤ = pos (number * (i + 1)) in
    let longer : values_at frame (take (i + 1) positions) ≡ front ++ value ∷ [] =
    map_more (λ (position : ℕ). get_or frame (position - 1) (pos 0)) positions i 0 within ∙ ap (λ (v : ℤ). front ++ v ∷ []) (sym is) in
    let many : length front ≡ i = length-map (take i positions) (λ (position : ℕ). get_or frame (position - 1) (pos 0)) ∙ length-take-le i positions (omega arith) in
    let place : 1 + length front ≡ i + 1 = omega arith in
    let next : weighted number 1 (values_at frame (take (i + 1) positions)) ≡ sum +ℤ (weight *ℤ value) =
    ap (λ (vs : List ℤ). weighted number 1 vs) longer ∙ (weighted-push number 1 front value ∙ ap (λ (n : ℕ). sum +ℤ (pos (number * n) *ℤ value)) place) in
    let so_far = start +ℤ sum in
    let unwrapped : int_wrap w64 (so_far +ℤ (int_wrap w64 weight *ℤ value)) ≡ int_wrap w64 (so_far +ℤ (weight *ℤ value)) =
    sym (int_wrap-add_right w64 so_far (int_wrap w64 weight *ℤ value))
    ∙ (ap (λ (z : ℤ). int_wrap w64 (so_far +ℤ z)) (int_wrap-mul_left w64 weight value)
    ∙ int_wrap-add_right w64 so_far (weight *ℤ value)) in
    int_wrap-add_left w64 so_far (int_wrap w64 weight *ℤ value)
    ∙ (unwrapped
    ∙ ap (λ (z : ℤ). int_wrap w64 z) (+ℤ_assoc start sum (weight *ℤ value) ∙ ap (λ (z : ℤ). start +ℤ z) (sym next)))

-- the same, by what the code computes
pub mark_step : (start mark weight value result : ℤ) (number : ℕ) (frame : List ℤ) (positions : List ℕ) (i : ℕ)
    → i < length positions
    → value ≡ get_or frame (get_or positions i 0 - 1) (pos 0)
    → weight ≡ int_wrap w64 (pos (number * (i + 1)))
    → mark ≡ int_wrap w64 (start +ℤ weighted number 1 (values_at frame (take i positions)))
    → result ≡ int_wrap w64 (mark +ℤ (weight *ℤ value))
    → result ≡ int_wrap w64 (start +ℤ weighted number 1 (values_at frame (take (i + 1) positions)))
mark_step start mark weight value result number frame positions i within is weighs so_far gives =
    gives
    ∙ (ap (λ (m : ℤ). int_wrap w64 (m +ℤ (weight *ℤ value))) so_far
    ∙ (ap (λ (w : ℤ). int_wrap w64 (int_wrap w64 (start +ℤ weighted number 1 (values_at frame (take i positions))) +ℤ (w *ℤ value))) weighs
    ∙ mark_more start number frame positions i value within is))
