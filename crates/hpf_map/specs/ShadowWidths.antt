-- The widths that a SHADOW gives, where these names are declared before it (High Performance Fortran 2.0, Approved Extensions
-- for Data Mapping, SHADOW: `w` stands for `w:w`).
use Rattle.std.specs.Prelude.{ℕ, List, [], ◌∷◌, ◌++◌, map, Bool, false, Option, Some, None, option_and_then, if◌then◌else◌, ℤ, pos, int_lt, unsigned_abs}
use Rattle.hpf_lex.specs.declared.refusal.MapRefusal.{MapRefusal}
use Rattle.hpf_own.specs.declared.widths.Width.{Width}
use Rattle.hpf_syntax.specs.Plain.{Tree, WidthTree, ItemTree, Shadow}
use Rattle.hpf_map.specs.declared.constraint.Constraint.TheVariants as constraint
use Rattle.hpf_map.specs.declared.name.Name.{Name}
use Rattle.hpf_map.specs.Constraint.{breach_if}
use Rattle.hpf_map.specs.Declarations.{threaded, names_after}
use Rattle.hpf_map.specs.Gathered.{all_of}
use Rattle.hpf_map.specs.Values.{value, expression_breaches, place_of}

-- a width in elements, where the value isn't negative
abbrev pub not_negative : ℤ → Option ℕ
not_negative v = if int_lt v (pos 0) then None else Some (unsigned_abs v)

abbrev pub is_negative : Option ℤ → Bool
is_negative None = false
is_negative (Some v) = int_lt v (pos 0)

abbrev pub both_widths : Option ℕ → Option ℕ → Option Width
both_widths None high = None
both_widths (Some low) None = None
both_widths (Some low) (Some high) = Some (record { low = low; high = high })

module _ (before : List Name) where
  -- what one expression gives, where it is free
  abbrev pub one_width : Tree → Option ℕ
  one_width e = option_and_then not_negative (value before e)

  -- an upper width that isn't written is the lower one
  abbrev pub high_width : Option ℕ → Option Tree → Option ℕ
  high_width low None = low
  high_width low (Some e) = one_width e

  -- the widths along a dimension, where both are free
  unfoldable pub width_of : WidthTree → Option Width
  width_of w = both_widths (one_width w.low) (high_width (one_width w.low) w.high)

  -- the breaches in an expression, or that its value is negative
  unfoldable pub one_width_breaches : Tree → List MapRefusal
  one_width_breaches e = expression_breaches before e ++ breach_if (is_negative (value before e)) constraint.Shadow (place_of e)

  abbrev pub maybe_width_breaches : Option Tree → List MapRefusal
  maybe_width_breaches None = []
  maybe_width_breaches (Some e) = one_width_breaches e

  unfoldable pub width_breaches : WidthTree → List MapRefusal
  width_breaches w = one_width_breaches w.low ++ maybe_width_breaches w.high

  -- the widths that a statement gives, where each is free; none of one that isn't a SHADOW
  abbrev pub statement_shadow : ItemTree → Option (List Width)
  statement_shadow (Shadow shadowed widths) = all_of (map width_of widths)
  statement_shadow item = None

-- the widths that each statement gives, behind the names that are declared before it
unfoldable pub all_shadow_widths : List ItemTree → List (Option (List Width))
all_shadow_widths items = threaded names_after (λ before item. statement_shadow before item ∷ []) [] items
