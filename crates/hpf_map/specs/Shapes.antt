-- Bounds and shapes (Fortran 90, explicit-shape arrays; this project sets the limits).
use Rattle.std.specs.Prelude.{ℕ, ◌+◌, ◌*◌, List, [], ◌∷◌, ◌++◌, length, map, Bool, false, ◌||◌, Option, Some, None, option_and_then, if◌then◌else◌, ℤ, pos, ◌-ℤ◌, int_lt, nat_lt, nat_le, unsigned_abs, fold, drop}
use Rattle.std.specs.List.{flat_map}
use Rattle.hpf_lex.specs.declared.refusal.MapRefusal.{MapRefusal}
use Rattle.hpf_syntax.specs.declared.tree.At.{At}
use Rattle.hpf_syntax.specs.Plain.{Tree, BoundTree}
use Rattle.hpf_map.specs.declared.constraint.Constraint.TheVariants.{Empty, Limit}
use Rattle.hpf_map.specs.declared.name.Name.{Name}
use Rattle.hpf_map.specs.declared.name.Space.{Space}
use Rattle.hpf_map.specs.declared.name.Space.TheVariants.{Array, Template, Arrangement}
use Rattle.hpf_map.specs.declared.name.Span.{Span}
use Rattle.hpf_map.specs.Constraint.{breach, breach_if}
use Rattle.hpf_map.specs.Gathered.{all_of}
use Rattle.hpf_map.specs.Values.{value, expression_breaches, maybe_expression_breaches, place_of}

-- how many integers lie from low to high, for low at most high
abbrev pub extent : Span → ℕ
extent s = unsigned_abs (s.high -ℤ s.low) + 1

-- how many indices there are
abbrev pub elements : List Span → ℕ
elements spans = fold (λ n s. n * extent s) 1 spans

-- ---- limits

-- the greatest extent that is no array's
abbrev pub max_extent : ℕ
max_extent = 2147483647

-- the greatest extent of an array, and how many elements it may have
abbrev pub max_array : ℕ
max_array = 16777216

-- how many bounds a shape may have
abbrev pub max_bounds : ℕ
max_bounds = 7

-- the greatest extent of a dimension
abbrev pub extent_limit : Space → ℕ
extent_limit Array = max_array
extent_limit Template = max_extent
extent_limit Arrangement = max_extent

-- more elements than an array may have, or more processors than an arrangement
abbrev pub is_too_large : Space → List Span → Bool
is_too_large Array spans = nat_lt max_array (elements spans)
is_too_large Template spans = false
is_too_large Arrangement spans = nat_lt 64 (elements spans)

-- the same of a shape that may not be free
abbrev pub is_oversized : Space → Option (List Span) → Bool
is_oversized space None = false
is_oversized space (Some spans) = is_too_large space spans

-- ---- one bound

-- the place of a bound: that of its first expression
abbrev pub bound_place : Option Tree → Tree → At
bound_place None high = place_of high
bound_place (Some low) high = place_of low

-- an upper bound below the lower one, or else an extent above the limit
abbrev pub order_breaches : ℕ → At → Span → List MapRefusal
order_breaches limit at s =
    if int_lt s.high s.low then breach Empty at ∷ [] else breach_if (nat_lt limit (extent s)) Limit at

-- the bounds, where they are in order and their extent within the limit
abbrev pub span_within : ℕ → Span → Option Span
span_within limit s = if int_lt s.high s.low || nat_lt limit (extent s) then None else Some s

-- bounds with these values, where both have one
abbrev pub both : Option ℤ → Option ℤ → Option Span
both None high = None
both (Some low) None = None
both (Some low) (Some high) = Some (record { low = low; high = high })

-- the breaches of bounds, where both have a value
abbrev pub found_order : ℕ → At → Option Span → List MapRefusal
found_order limit at None = []
found_order limit at (Some s) = order_breaches limit at s

module _ (before : List Name) where
  -- a lower bound that isn't written is 1
  abbrev pub low_value : Option Tree → Option ℤ
  low_value None = Some (pos 1)
  low_value (Some e) = value before e

  -- the bounds of a dimension, where they are free
  unfoldable pub span : ℕ → BoundTree → Option Span
  span limit b = option_and_then (span_within limit) (both (low_value b.low) (value before b.high))

  unfoldable pub bound_breaches : ℕ → BoundTree → List MapRefusal
  bound_breaches limit b =
      maybe_expression_breaches before b.low ++ expression_breaches before b.high
      ++ found_order limit (bound_place b.low b.high) (both (low_value b.low) (value before b.high))

-- ---- shapes

-- the first bound that is too many
abbrev pub first_of_more : List BoundTree → List MapRefusal
first_of_more [] = []
first_of_more (b ∷ bs) = breach Limit (bound_place b.low b.high) ∷ []

module _ (before : List Name) where
  -- the shape, where it has at most seven bounds and each is free
  unfoldable pub shape : ℕ → List BoundTree → Option (List Span)
  shape limit bounds = if nat_le (length bounds) max_bounds then all_of (map (span before limit) bounds) else None

  -- the breaches in all bounds, and the eighth bound
  unfoldable pub shape_breaches : ℕ → List BoundTree → List MapRefusal
  shape_breaches limit bounds = flat_map (bound_breaches before limit) bounds ++ first_of_more (drop max_bounds bounds)
