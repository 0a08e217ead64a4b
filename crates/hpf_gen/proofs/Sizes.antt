-- Numbers of elements.
use Rattle.std.proofs.Common.{◌≡◌, ℕ, zero, suc, ◌+◌, ◌*◌, ◌<◌, ◌≤◌, ◌^◌, List, [], ◌∷◌, length, get_or, drop, arith, sym, ap, ◌∙◌, refl}
use Rattle.std.proofs.Math.Nat.{one-le-mul, mul_assoc, le-mul_of_pos_right}
use Rattle.std.specs.List.{AllByRecursion}
use Rattle.hpf_frame.specs.FrameFile.{elements}

-- extents of at least 1 have some element, and so have those behind some of them
pub some_elements : (extents : List ℕ) → AllByRecursion (λ extent. 0 < extent) extents → 1 ≤ elements extents
some_elements [] h = omega arith
some_elements (x ∷ xs) h = one-le-mul (omega (arith, h.0)) (some_elements xs h.1)

some_behind : (extents : List ℕ) (i : ℕ) → AllByRecursion (λ extent. 0 < extent) extents → 1 ≤ elements (drop i extents)
some_behind extents zero h = some_elements extents h
some_behind [] (suc i) h = omega arith
some_behind (x ∷ xs) (suc i) h = some_behind xs i h.1

-- an extent, and those behind it
elements_at : (extents : List ℕ) (i d : ℕ) → i < length extents → elements (drop i extents) ≡ get_or extents i d * elements (drop (suc i) extents)
elements_at [] i d h = absurd (omega arith)
elements_at (x ∷ xs) zero d h = refl
elements_at (x ∷ xs) (suc i) d h = elements_at xs i d (omega arith)

-- the product so far, and the extents left
pub product_more : (extents : List ℕ) (i d size : ℕ) → i < length extents → size * elements (drop i extents) ≡ elements extents → (size * get_or extents i d) * elements (drop (i + 1) extents) ≡ elements extents
product_more extents i d size h so_far =
    let next : suc i ≡ i + 1 = omega arith in
    let at : elements (drop i extents) ≡ get_or extents i d * elements (drop (i + 1) extents) = elements_at extents i d h ∙ ap (λ (k : ℕ). get_or extents i d * elements (drop k extents)) next in
    mul_assoc size (get_or extents i d) (elements (drop (i + 1) extents)) ∙ ap (λ (n : ℕ). size * n) (sym at) ∙ so_far

pub product_fits : (extents : List ℕ) (i d size : ℕ) → i < length extents → AllByRecursion (λ extent. 0 < extent) extents → size * elements (drop i extents) ≡ elements extents → size * get_or extents i d ≤ elements extents
product_fits extents i d size h positive so_far =
    let more = product_more extents i d size h so_far in
    let one = some_behind extents (i + 1) positive in
    omega (arith, more, le-mul_of_pos_right {m = elements (drop (i + 1) extents)} (size * get_or extents i d) (omega (arith, one)))
