-- The mapping of an array, from its images in its ultimate base.
use Rattle.std.proofs.Common.{◌≡◌, ℕ, zero, suc, ◌+◌, ◌-◌, ◌*◌, ◌^◌, ◌<◌, ◌≤◌, List, [], ◌∷◌, length, map, get_or, All, replicate, pos, neg_ℤ, ◌+ℤ◌, ◌-ℤ◌, ◌≤ℤ◌, unsigned_abs, arith, sym, ap, ◌∙◌, refl, mul_assoc}
use Rattle.std.specs.Prelude.{fold}
use Rattle.std.proofs.lemmas.Bool.{ltb-false}
use Rattle.std.proofs.lemmas.Int.{ints}
use Rattle.std.proofs.lemmas.List.{get_or_default, length-map, length-replicate}
use Rattle.std.proofs.lemmas.List.Elements.{All-map, All-head, All-tail}
use Rattle.std.proofs.Math.Nat.{mul-le-mul}
use Rattle.hpf_dist.specs.Axis.{AreProcs}
use Rattle.hpf_num.specs.declared.run.Run.{Run}
use Rattle.hpf_num.specs.Run as run
use Rattle.hpf_num.specs.Run.{or_zero}
use Rattle.hpf_own.specs.Lists.{IsShort, IsBounds, IsSizes}
use Rattle.hpf_own.specs.KeptLists.{no_width}
use Rattle.hpf_own.specs.Mapping.{AreInLimits}
use Rattle.hpf_own.specs.Space.{product, size_of}
use Rattle.hpf_map.specs.declared.name.Space.TheVariants.{Array, Arrangement}
use Rattle.hpf_map.specs.declared.name.Span.{Span}
use Rattle.hpf_map.specs.Alignments.{no_span, Ordered}
use Rattle.hpf_map.specs.Composed.{AreSound}
use Rattle.hpf_map.specs.Shapes.{extent, elements, max_array}
use Rattle.hpf_map.specs.Sound.{IsSoundSpan, IsSoundShape}
use Rattle.hpf_map.specs.Spaces.{run_of}

pub short_shadow : (n : ℕ) → 1 ≤ n → n ≤ 7 → IsShort (replicate n no_width)
short_shadow n some few =
    let long : length (replicate n no_width) ≡ n = length-replicate n no_width in
    record { some = omega arith; few = omega arith }

-- ---- how many elements

-- as the mapping of an array counts the integers of its bounds
pub run_extent : (s : Span) → s.low ≤ℤ s.high → run.extent (run_of s) ≡ extent s
run_extent s order =
    let is : (s.high -ℤ s.low) +ℤ pos 1 ≡ pos (unsigned_abs (s.high -ℤ s.low) + 1) = omega (arith, ints) in
    ap or_zero is

elements_from : (a : ℕ) (spans : List Span) → fold (λ n s. n * extent s) a spans ≡ a * product (map extent spans)
elements_from a [] = omega arith
elements_from a (s ∷ spans) = elements_from (a * extent s) spans ∙ mul_assoc a (extent s) (product (map extent spans))

elements_are : (spans : List Span) → elements spans ≡ product (map extent spans)
elements_are spans =
    let all = elements_from 1 spans in
    omega (arith, all)

runs_size : (spans : List Span) → Ordered spans → size_of (map run_of spans) ≡ product (map extent spans)
runs_size [] h = refl
runs_size (s ∷ spans) h =
    ap (λ n. n * size_of (map run_of spans)) (run_extent s (All-head (λ t. t.low ≤ℤ t.high) s spans h))
    ∙ ap (λ n. extent s * n) (runs_size spans (All-tail (λ t. t.low ≤ℤ t.high) s spans h))

-- ---- the bounds of an array

module _ (array : List Span) (is : IsSoundShape Array (length array) array) where
  pub array_sound : AreSound array
  array_sound d below = let s : IsSoundSpan max_array (get_or array d no_span) = is.each d no_span below in s.sound

  array_ordered : Ordered array
  array_ordered k d below = let s : IsSoundSpan max_array (get_or array k d) = is.each k d below in s.sound.order

  pub array_bounds : IsBounds (map run_of array)
  array_bounds =
      let long : length (map run_of array) ≡ length array = length-map array run_of in
      let some : 1 ≤ length array = is.some in
      let few : length array ≤ 7 = is.few in
      record {
        short = record { some = omega arith; few = omega arith };
        ordered = All-map (λ (r : Run). r.low ≤ℤ r.high) run_of array array_ordered;
      }

  extent_fits : (k : ℕ) (d : Span) → k < length array → run.extent (run_of (get_or array k d)) ≤ 2 ^ 24
  extent_fits k d below =
      let s : IsSoundSpan max_array (get_or array k d) = is.each k d below in
      let few : extent (get_or array k d) ≤ 16777216 = s.extent in
      let same : run.extent (run_of (get_or array k d)) ≡ extent (get_or array k d) = run_extent (get_or array k d) s.sound.order in
      omega (arith, few, same)

  elements_fit : size_of (map run_of array) ≤ 2 ^ 24
  elements_fit =
      let few : elements array ≤ 16777216 = ltb-false max_array (elements array) is.fits in
      let same : size_of (map run_of array) ≡ elements array = runs_size array array_ordered ∙ sym (elements_are array) in
      omega (arith, few, same)

  pub array_limits : AreInLimits (map run_of array)
  array_limits = record {
    least = All-map (λ (r : Run). neg_ℤ (pos (2 ^ 31 - 1)) ≤ℤ r.low) run_of array (λ k d below. let s : IsSoundSpan max_array (get_or array k d) = is.each k d below in s.sound.near.least);
    greatest = All-map (λ (r : Run). r.high ≤ℤ pos (2 ^ 31 - 1)) run_of array (λ k d below. let s : IsSoundSpan max_array (get_or array k d) = is.each k d below in s.sound.near.greatest);
    extents = All-map (λ (r : Run). run.extent r ≤ 2 ^ 24) run_of array extent_fits;
    elements = elements_fit;
  }

-- ---- the sizes of an arrangement

pub target_sizes : (target : List Span) → IsSoundShape Arrangement (length target) target → IsSizes (map extent target)
target_sizes target is =
    let long : length (map extent target) ≡ length target = length-map target extent in
    let some : 1 ≤ length target = is.some in
    let most : length target ≤ 7 = is.few in
    let few : elements target ≤ 64 = ltb-false 64 (elements target) is.fits in
    let same : elements target ≡ product (map extent target) = elements_are target in
    record {
      short = record { some = omega arith; few = omega arith };
      some = All-map (λ (n : ℕ). 1 ≤ n) extent target (λ k d below. omega arith);
      few = omega (arith, few, same);
    }

-- ---- one dimension

some_product : (sizes : List ℕ) → All (λ n. 1 ≤ n) sizes → 1 ≤ product sizes
some_product [] some = omega arith
some_product (n ∷ sizes) some =
    mul-le-mul (All-head (λ n. 1 ≤ n) n sizes some) (some_product sizes (All-tail (λ n. 1 ≤ n) n sizes some))

factor_small : (sizes : List ℕ) (e : ℕ) → All (λ n. 1 ≤ n) sizes → e < length sizes → get_or sizes e 0 ≤ product sizes
factor_small [] e some below = absurd (omega arith)
factor_small (n ∷ sizes) zero some below =
    let rest = some_product sizes (All-tail (λ n. 1 ≤ n) n sizes some) in
    omega (arith, mul-le-mul (let same : n ≤ n = omega arith in same) rest)
factor_small (n ∷ sizes) (suc e) some below =
    let rest = factor_small sizes e (All-tail (λ n. 1 ≤ n) n sizes some) (omega arith) in
    omega (arith, mul-le-mul (All-head (λ n. 1 ≤ n) n sizes some) rest)

pub dim_procs : (sizes : List ℕ) (e d : ℕ) → IsSizes sizes → e < length sizes → AreProcs (get_or sizes e d)
dim_procs sizes e d are below =
    let least : 1 ≤ get_or sizes e d = are.some e d below in
    let same : get_or sizes e d ≡ get_or sizes e 0 = get_or_default sizes e d 0 below in
    let most : get_or sizes e 0 ≤ product sizes = factor_small sizes e are.some below in
    let few : product sizes ≤ 64 = are.few in
    record { least = least; greatest = omega arith }
