-- Products of sizes.
use Rattle.std.proofs.Common.{◌≡◌, ℕ, zero, suc, ◌+◌, ◌*◌, ◌<◌, ◌≤◌, List, [], ◌∷◌, ◌++◌, length, All, get_or, take, arith, sym, ap, ◌∙◌, subst, mul_assoc}
use Rattle.std.proofs.Math.Nat.{mul-le-mul}
use Rattle.std.proofs.lemmas.List.{take_more}
use Rattle.std.proofs.lemmas.List.Elements.{All-head, All-tail, All-more, All-take}
use Rattle.hpf_own.specs.Space.{product}
use Rattle.hpf_dist.specs.Limits.{processor_limit}

-- the product of so many sizes, none of which is 0
pub record IsCounted (sizes : List ℕ) (i count : ℕ) : Type 0 where
  pub is : count ≡ product (take i sizes)
  pub some : All (λ size. 1 ≤ size) (take i sizes)
  pub least : 1 ≤ count
  pub few : count ≤ processor_limit

pub product-append : (ns ms : List ℕ) → product (ns ++ ms) ≡ product ns * product ms
product-append [] ms = omega arith
product-append (n ∷ ns) ms = ap (λ (p : ℕ). n * p) (product-append ns ms) ∙ sym (mul_assoc n (product ns) (product ms))

pub product-push : (ns : List ℕ) (n : ℕ) → product (ns ++ n ∷ []) ≡ product ns * n
product-push ns n = product-append ns (n ∷ []) ∙ ap (λ (p : ℕ). product ns * p) (omega arith)

pub product-some : (ns : List ℕ) → All (λ size. 1 ≤ size) ns → 1 ≤ product ns
product-some [] h = omega arith
product-some (n ∷ ns) h = mul-le-mul (All-head (λ size. 1 ≤ size) n ns h) (product-some ns (All-tail (λ size. 1 ≤ size) n ns h))

-- a front has no greater product
pub product-take : (ns : List ℕ) (k : ℕ) → All (λ size. 1 ≤ size) ns → product (take k ns) ≤ product ns
product-take ns zero h = product-some ns h
product-take [] (suc k) h = omega arith
product-take (n ∷ ns) (suc k) h = mul-le-mul (let same : n ≤ n = omega arith in same) (product-take ns k (All-tail (λ size. 1 ≤ size) n ns h))

pub product_more : (sizes : List ℕ) (i : ℕ) → i < length sizes → product (take (i + 1) sizes) ≡ product (take i sizes) * get_or sizes i 0
product_more sizes i lt = ap product (take_more sizes i 0 lt) ∙ product-push (take i sizes) (get_or sizes i 0)

-- one of them is no greater
pub product-one : (ns : List ℕ) (k : ℕ) → All (λ size. 1 ≤ size) ns → k < length ns → get_or ns k 0 ≤ product ns
product-one [] k h below = absurd (omega arith)
product-one (n ∷ ns) zero h below =
    let rest = product-some ns (All-tail (λ size. 1 ≤ size) n ns h) in
    omega (arith, mul-le-mul (let same : n ≤ n = omega arith in same) rest)
product-one (n ∷ ns) (suc k) h below =
    let rest = product-one ns k (All-tail (λ size. 1 ≤ size) n ns h) (omega arith) in
    omega (arith, mul-le-mul (All-head (λ size. 1 ≤ size) n ns h) (let same : product ns ≤ product ns = omega arith in same))

some_factor : (count size : ℕ) → (count * size ≡ 0 → ⊥) → 1 ≤ size
some_factor count zero h = absurd (h (omega arith))
some_factor count (suc n) h = omega arith

pub count_more : (sizes : List ℕ) (i count size : ℕ) → i < length sizes → IsCounted sizes i count → size ≡ get_or sizes i 0 → (count * size ≡ 0 → ⊥) → count * size ≤ processor_limit → IsCounted sizes (i + 1) (count * size)
count_more sizes i count size lt h e some few =
    let one = some_factor count size some in
    record {
      is = rw (e, h.is) (sym (product_more sizes i lt));
      some = All-more (λ n. 1 ≤ n) sizes i 0 lt h.some (subst (λ (n : ℕ). 1 ≤ n) e one);
      least = omega arith;
      few = few;
    }

-- so many processors are too many, or none
pub count_bounds : (sizes : List ℕ) (i count size : ℕ) → i < length sizes → IsCounted sizes i count → size ≡ get_or sizes i 0 → All (λ n. 1 ≤ n) sizes → product sizes ≤ processor_limit → (1 ≤ count * size) × (count * size ≤ processor_limit)
count_bounds sizes i count size lt h e all few =
    let is : count * size ≡ product (take (i + 1) sizes) = rw (e, h.is) (sym (product_more sizes i lt)) in
    let least = product-some (take (i + 1) sizes) (All-take (λ n. 1 ≤ n) (i + 1) sizes all) in
    let most = product-take sizes (i + 1) all in
    (omega arith, omega arith)
