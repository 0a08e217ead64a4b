-- A number that is made of the least coordinates, one dimension after another.
use Rattle.std.proofs.Common.{◌≡◌, ℕ, ◌+◌, ◌*◌, ◌<◌, true, List, [], ◌∷◌, ◌++◌, length, get_or, take, ℤ, arith, sym, ap, ◌∙◌, subst, refl, mul_comm, inl, inr}
use Rattle.std.proofs.lemmas.List.{take_more, length-take-le, get_or_append_left}
use Rattle.std.proofs.Math.Seq.{take-length, get_or-append_seam}
use Rattle.std.proofs.lemmas.Bool.{cases_lt}
use Rattle.std.proofs.lemmas.Nat.{mul-add-lt}
use Rattle.hpf_own.specs.declared.image.BaseDim.{BaseDim}
use Rattle.hpf_own.specs.Space.{product}
use Rattle.hpf_own.specs.Mapping.{PlainMapping, IsMapping}
use Rattle.hpf_own.specs.Owners.{holds, owns, sender, IsLeast}
use Rattle.hpf_own.proofs.Sending.{sender_from}
use Rattle.hpf_own.specs.Lists.{IsSizes}
use Rattle.hpf_own.proofs.Digits.{digits, digits-push, length-digits}
use Rattle.hpf_own.proofs.Products.{IsCounted, count_more, count_bounds}

pub record IsLeading (dims : List BaseDim) (index : List ℤ) (sizes : List ℕ) (e stride number : ℕ) : Type 0 where
  pub counted : IsCounted sizes e stride
  pub below : number < stride
  pub least : (j : ℕ) → j < e → IsLeast (holds dims index j) (get_or (digits (take e sizes) number) j 0)

last_digit : (ds : List ℕ) (c e : ℕ) → length ds ≡ e → get_or (ds ++ c ∷ []) e 0 ≡ c
last_digit ds c e many = rw (← many) (get_or-append_seam ds c [] 0)

-- one dimension more
pub lead_more : (dims : List BaseDim) (index : List ℤ) (sizes : List ℕ) (e stride number c size : ℕ) → IsSizes sizes → e < length sizes → size ≡ get_or sizes e 0 → IsLeading dims index sizes e stride number → IsLeast (holds dims index e) c → c < size → IsLeading dims index sizes (e + 1) (stride * size) (number + c * stride)
lead_more dims index sizes e stride number c size are within same h least below =
    let b = count_bounds sizes e stride size within h.counted same are.some are.few in
    let front = take e sizes in
    let lower : number < product front = subst (λ (s : ℕ). number < s) h.counted.is h.below in
    let pushed : digits (take (e + 1) sizes) (number + c * stride) ≡ digits front number ++ c ∷ [] =
    rw (take_more sizes e 0 within, h.counted.is, ← same) (digits-push front size number c lower h.counted.some below) in
    let many : length (digits front number) ≡ e = length-digits front number ∙ length-take-le e sizes (omega arith) in
    record {
      counted = count_more sizes e stride size within h.counted same (λ z. omega arith) b.1;
      below = omega (arith, mul-add-lt c stride number size below h.below, mul_comm c stride);
      least = λ j less.
          elim (cases_lt j e) [
            | inl before ↦ rw (pushed, get_or_append_left (digits front number) (c ∷ []) 0 j (omega arith)) (h.least j before)
            | inr at ↦
                let is : j ≡ e = omega arith in
                rw (is, pushed, last_digit (digits front number) c e many) least
          ];
    }

-- the same in a loop over the sizes of a mapping
pub lead_step : (m : PlainMapping) (index : List ℤ) (sizes : List ℕ) (e stride number c : ℕ) → IsMapping m → sizes ≡ m.procs → e < length sizes → IsLeading m.dims index sizes e stride number → IsLeast (holds m.dims index e) c → c < get_or m.procs e 0 → IsLeading m.dims index sizes (e + 1) (stride * get_or sizes e 0) (number + c * stride)
lead_step m index sizes e stride number c is same within h least below =
    let are : IsSizes sizes = subst IsSizes (sym same) is.procs in
    let at : get_or m.procs e 0 ≡ get_or sizes e 0 = ap (λ (ns : List ℕ). get_or ns e 0) (sym same) in
    lead_more m.dims index sizes e stride number c (get_or sizes e 0) are within refl h least (omega arith)

-- at the end the number is the sender's
pub leading_is : (m : PlainMapping) (index : List ℤ) (sizes : List ℕ) (e stride number : ℕ) → IsMapping m → sizes ≡ m.procs → e ≡ length sizes → IsLeading m.dims index sizes e stride number → (number < product m.procs) × ((owns m number index ≡ true) × (sender m index ≡ number))
leading_is m index sizes e stride number is same end h =
    let whole : take e sizes ≡ m.procs = rw end (take-length sizes) ∙ same in
    let below : number < product m.procs = subst (λ (ns : List ℕ). number < product ns) whole (subst (λ (s : ℕ). number < s) h.counted.is h.below) in
    let many : e ≡ length m.procs = end ∙ ap length same in
    (below, sender_from m number index is.dims below (λ j within. subst (λ (ns : List ℕ). IsLeast (holds m.dims index j) (get_or (digits ns number) j 0)) whole (h.least j (omega arith))))
