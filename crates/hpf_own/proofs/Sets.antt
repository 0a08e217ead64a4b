-- The set of the owners, one dimension after another.
use Rattle.std.proofs.Common.{◌≡◌, ℕ, zero, suc, ◌+◌, ◌-◌, ◌*◌, ◌/◌, ◌%◌, ◌^◌, ◌<◌, ◌≤◌, Bool, true, false, cond, ◌&&◌, ltb, List, length, get_or, take, ℤ, bit_or, arith, sym, ap, ◌∙◌, subst, refl, mul_comm, lit<, inl, inr}
use Rattle.std.specs.Int.{bit_at}
use Rattle.std.proofs.lemmas.Nat.Bits.{bit_at_or, bit_at_cat_low, bit_at_cat_high, bit_at_above, bit_at-zero, bit_at-pow_other}
use Rattle.std.proofs.lemmas.Nat.{pow_pos, pow_below, shl_whole, shl_below, or_lt, mod_below}
use Rattle.std.proofs.Math.Seq.{take-length}
use Rattle.std.proofs.lemmas.List.{take_more, length-take-le}
use Rattle.std.proofs.lemmas.List.Elements.{All-nil}
use Rattle.std.proofs.lemmas.Bool.{cases_lt, lt-ltb, le-ltb}
use Rattle.std.proofs.Math.Nat.{div-add-mod, mul-le-mul_left}
use Rattle.hpf_own.specs.declared.image.BaseDim.{BaseDim}
use Rattle.hpf_own.specs.Space.{product}
use Rattle.hpf_own.specs.Lists.{IsSizes}
use Rattle.hpf_own.specs.Mapping.{PlainMapping, IsMapping}
use Rattle.hpf_own.specs.Owners.{holds, owns}
use Rattle.hpf_own.specs.OwnerSet.{bit_of, IsSetOf, IsRepeated}
use Rattle.hpf_own.proofs.Digits.{passes, passes-push}
use Rattle.hpf_own.proofs.Each.{owns-passes}
use Rattle.hpf_own.proofs.Products.{IsCounted, count_more, count_bounds}
use Rattle.hpf_dist.specs.Limits.{processor_limit}

-- the sets of the numbers that pass in the first dimensions
pub record IsSoFar (dims : List BaseDim) (index : List ℤ) (sizes : List ℕ) (e stride set : ℕ) : Type 0 where
  pub counted : IsCounted sizes e stride
  pub is : IsSetOf (passes (take e sizes) (holds dims index)) stride set

shifted_low : (set n k : ℕ) → k < n → bit_at (set * 2 ^ n) k ≡ 0
shifted_low set n k h =
    ap (λ (x : ℕ). bit_at x k) (let z : set * 2 ^ n ≡ set * 2 ^ n + 0 = omega arith in z) ∙ bit_at_cat_low set n 0 k h ∙ bit_at-zero k

shifted_high : (set n k : ℕ) → n ≤ k → bit_at (set * 2 ^ n) k ≡ bit_at set (k - n)
shifted_high set n k h =
    ap (λ (x : ℕ). bit_at x k) (let z : set * 2 ^ n ≡ set * 2 ^ n + 0 = omega arith in z) ∙ bit_at_cat_high set n 0 k (pow_pos n) h

-- the value of a bit where the coordinate comes before the next one, is it, or comes after
none_above : (f : ℕ → Bool) (q c b : ℕ) → c ≤ q → cond (ltb q c && f q) b 0 ≡ 0
none_above f q c b h = rw (le-ltb q c h) refl

some_below : (f : ℕ → Bool) (q c b : ℕ) → q < c → cond (ltb q c && f q) b 0 ≡ cond (f q) b 0
some_below f q c b h = rw (lt-ltb q c h) refl

times_more : (stride c : ℕ) → stride * (c + 1) ≡ stride * c + stride
times_more stride c = omega arith

powers : {n i j : ℕ} → n < 2 ^ i → i ≤ j → n < 2 ^ j
powers {n} {i} {j} h k =
    elim (cases_lt i j) [
      | inl less ↦ omega (arith, pow_below i j less)
      | inr more ↦ subst (λ (x : ℕ). n < 2 ^ x) (let z : i ≡ j = omega arith in z) h
    ]

-- the next coordinate adds the set, so many strides further
pub repeat_more : (f : ℕ → Bool) (set stride c all : ℕ) → 1 ≤ stride → (c + 1) * stride ≤ processor_limit → set < 2 ^ stride → IsRepeated f set stride c all → f c ≡ true → IsRepeated f set stride (c + 1) (bit_or all (set * 2 ^ (c * stride) % 2 ^ 64))
repeat_more f set stride c all some few small h holds =
    let n = c * stride in
    let whole : set * 2 ^ n % 2 ^ 64 ≡ set * 2 ^ n = shl_whole set stride n 64 small (omega arith) in
    record {
      bits = λ k.
          let q = k / stride in
          let r = k % stride in
          let is : stride * q + r ≡ k = div-add-mod k stride in
          let inside : r < stride = mod_below k stride some in
          let both = ap (λ (x : ℕ). bit_at (bit_or all x) k) whole ∙ bit_at_or all (set * 2 ^ n) k in
          both ∙ elim (cases_lt q c) [
            | inl less ↦
                let earlier : k < n = omega (arith, mul-le-mul_left stride (let z : q + 1 ≤ c = omega arith in z), mul_comm stride c) in
                rw (shifted_low set n k earlier, h.bits k, some_below f q c (bit_at set r) less, some_below f q (c + 1) (bit_at set r) (omega arith)) (omega arith)
            | inr more ↦
                elim (cases_lt c q) [
                  | inl beyond ↦
                      let later : n + stride ≤ k = omega (arith, mul-le-mul_left stride (let z : c + 1 ≤ q = omega arith in z), mul_comm stride c) in
                      rw (shifted_high set n k (omega arith), bit_at_above set stride (k - n) small (omega arith), h.bits k, none_above f q c (bit_at set r) more, none_above f q (c + 1) (bit_at set r) (omega arith)) (omega arith)
                  | inr at ↦
                      let same : q ≡ c = omega arith in
                      let place : k - n ≡ r = omega (arith, ap (λ (x : ℕ). stride * x) same, mul_comm stride c) in
                      rw (shifted_high set n k (omega (arith, ap (λ (x : ℕ). stride * x) same, mul_comm stride c)), place, h.bits k, none_above f q c (bit_at set r) more, some_below f q (c + 1) (bit_at set r) (omega arith), ap f same ∙ holds) (omega arith)
                ]
          ];
      below = rw (whole, times_more stride c)
          (or_lt (stride * c + stride) all (set * 2 ^ n) (powers h.below (omega arith))
          (subst (λ (x : ℕ). set * 2 ^ n < 2 ^ x) (let z : stride + n ≡ stride * c + stride = omega (arith, mul_comm stride c) in z) (shl_below set stride n small)));
    }

pub repeat_less : (f : ℕ → Bool) (set stride c all : ℕ) → 1 ≤ stride → IsRepeated f set stride c all → f c ≡ false → IsRepeated f set stride (c + 1) all
repeat_less f set stride c all some h holds =
    record {
      bits = λ k.
          let q = k / stride in
          let r = k % stride in
          h.bits k ∙ elim (cases_lt q c) [
            | inl less ↦ some_below f q c (bit_at set r) less ∙ sym (some_below f q (c + 1) (bit_at set r) (omega arith))
            | inr more ↦
                elim (cases_lt c q) [
                  | inl beyond ↦ none_above f q c (bit_at set r) more ∙ sym (none_above f q (c + 1) (bit_at set r) (omega arith))
                  | inr at ↦
                      let same : q ≡ c = omega arith in
                      none_above f q c (bit_at set r) more ∙ sym (some_below f q (c + 1) (bit_at set r) (omega arith) ∙ rw (ap f same ∙ holds) refl)
                ]
          ];
      below = rw times_more (powers h.below (omega arith));
    }

only_zero : (k : ℕ) → bit_at 1 k ≡ bit_of (ltb k 1 && true)
only_zero zero = refl
only_zero (suc k) =
    bit_at-pow_other 0 (suc k) (λ e. absurd (omega arith)) ∙ sym (ap (λ (t : Bool). bit_of (t && true)) (le-ltb (suc k) 1 (omega arith)))

-- before the first dimension there is one number, which passes
pub so_far_none : (dims : List BaseDim) (index : List ℤ) (sizes : List ℕ) → IsSoFar dims index sizes 0 1 1
so_far_none dims index sizes =
    record {
      counted = record { is = refl; some = All-nil (λ size. 1 ≤ size); least = omega arith; few = omega arith };
      is = record { bits = only_zero; below = lit< tt };
    }

bits_of_both : (a b : Bool) → cond (true && a) (bit_of (true && b)) 0 ≡ bit_of (true && (b && a))
bits_of_both true true = refl
bits_of_both true false = refl
bits_of_both false true = refl
bits_of_both false false = refl

-- one dimension more
pub so_far_more : (dims : List BaseDim) (index : List ℤ) (sizes : List ℕ) (e stride set size repeated : ℕ) → IsSizes sizes → e < length sizes → size ≡ get_or sizes e 0 → IsSoFar dims index sizes e stride set → IsRepeated (holds dims index e) set stride size repeated → IsSoFar dims index sizes (e + 1) (stride * size) repeated
so_far_more dims index sizes e stride set size repeated are within same h r =
    let b = count_bounds sizes e stride size within h.counted same are.some are.few in
    let f = holds dims index in
    let front = take e sizes in
    let many : length front ≡ e = length-take-le e sizes (omega arith) in
    record {
      counted = count_more sizes e stride size within h.counted same (λ z. omega arith) b.1;
      is = record {
        bits = λ k.
            let q = k / stride in
            let j = k % stride in
            let inside : j < stride = mod_below k stride h.counted.least in
            let place : stride * q + j ≡ k = div-add-mod k stride in
            let front_bit : bit_at set j ≡ bit_of (true && passes front f j) = h.is.bits j ∙ ap (λ (t : Bool). bit_of (t && passes front f j)) (lt-ltb j stride inside) in
            r.bits k ∙ elim (cases_lt q size) [
              | inl less ↦
                  let lower : k < stride * size = omega (arith, mul-le-mul_left stride (let z : q + 1 ≤ size = omega arith in z)) in
                  let pushed : passes (take (e + 1) sizes) f k ≡ (passes front f j && f e q) =
                  let moved : k ≡ j + q * product front = omega (arith, mul_comm stride q, ap (λ (x : ℕ). q * x) h.counted.is) in
                  let low : j < product front = subst (λ (x : ℕ). j < x) h.counted.is inside in
                  ap (λ (x : ℕ). passes (take (e + 1) sizes) f x) moved
                  ∙ rw (take_more sizes e 0 within, ← same) (passes-push front size f j q low h.counted.some less) ∙ ap (λ (i : ℕ). passes front f j && f i q) many in
                  rw (lt-ltb q size less, lt-ltb k (stride * size) lower, front_bit, pushed) (bits_of_both (f e q) (passes front f j))
              | inr more ↦
                  let higher : stride * size ≤ k = omega (arith, mul-le-mul_left stride more) in
                  rw (le-ltb q size more, le-ltb k (stride * size) higher) refl
            ];
        below = r.below;
      };
    }

-- all dimensions: the owners
pub so_far_all : (m : PlainMapping) (index : List ℤ) (sizes : List ℕ) (e stride set : ℕ) → IsMapping m → sizes ≡ m.procs → e ≡ length sizes → IsSoFar m.dims index sizes e stride set → IsSetOf (λ p. owns m p index) (product m.procs) set
so_far_all m index sizes e stride set is same end h =
    let whole : take e sizes ≡ m.procs = rw end (take-length sizes) ∙ same in
    let count : stride ≡ product m.procs = h.counted.is ∙ ap product whole in
    record {
      bits = λ k.
          h.is.bits k
          ∙ ap (λ (n : ℕ). bit_of (ltb k n && passes (take e sizes) (holds m.dims index) k)) count
          ∙ ap (λ (ns : List ℕ). bit_of (ltb k (product m.procs) && passes ns (holds m.dims index) k)) whole
          ∙ elim (cases_lt k (product m.procs)) [
            | inl less ↦ ap (λ (b : Bool). bit_of (ltb k (product m.procs) && b)) (sym (owns-passes m k index is.dims less))
            | inr more ↦ rw (le-ltb k (product m.procs) more) refl
          ];
      below = subst (λ (n : ℕ). set < 2 ^ n) count h.is.below;
    }
