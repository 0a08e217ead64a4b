-- The least and the greatest of values (this project defines it).
use Rattle.std.specs.Prelude.{◌≡◌, List, Bool, false, Option, Some, None, ℤ, int_lt}
use Rattle.std.specs.List.{list_any}
use Rattle.hpf_map.specs.declared.name.Span.{Span}

abbrev pub begins_below : Option Span → ℤ → Bool
begins_below None b = false
begins_below (Some range) b = int_lt range.low b

abbrev pub ends_above : Option Span → ℤ → Bool
ends_above None b = false
ends_above (Some range) b = int_lt b range.high

-- Some value is below or above another number where the least or the greatest one is.
pub record HasRange (values : List ℤ) (range : Option Span) : Type 0 where
  pub below : (b : ℤ) → list_any (λ v. int_lt v b) values ≡ begins_below range b
  pub above : (b : ℤ) → list_any (λ v. int_lt b v) values ≡ ends_above range b
