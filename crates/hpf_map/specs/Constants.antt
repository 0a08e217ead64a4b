-- Named constants (Fortran 90, PARAMETER attribute; this project has arrays of one dimension alone).
use Rattle.std.specs.Prelude.{List, length, map, Bool, true, false, not, ◌||◌, ◌==◌, Option, Some, None, is_some, ℤ, nat_lt}
use Rattle.std.specs.List.{flat_map}
use Rattle.hpf_lex.specs.declared.refusal.MapRefusal.{MapRefusal}
use Rattle.hpf_syntax.specs.Plain.{ValueTree, One, Many}
use Rattle.hpf_map.specs.declared.given.Given.{Given}
use Rattle.hpf_map.specs.declared.given.Given.TheVariants as given
use Rattle.hpf_map.specs.declared.name.Meaning.{Meaning}
use Rattle.hpf_map.specs.declared.name.Meaning.TheVariants as meaning
use Rattle.hpf_map.specs.declared.name.Name.{Name}
use Rattle.hpf_map.specs.declared.name.Span.{Span}
use Rattle.hpf_map.specs.Gathered.{all_of}
use Rattle.hpf_map.specs.Shapes.{elements}
use Rattle.hpf_map.specs.Values.{value, expression_breaches}

module _ (before : List Name) where
  -- what is given, which is none where a value in it has a breach
  abbrev pub given_of : ValueTree → Given
  given_of (One e) = given.One (value before e)
  given_of (Many es) = given.Many (all_of (map (value before) es))

  -- the breaches in what is given
  unfoldable pub value_breaches : ValueTree → List MapRefusal
  value_breaches (One e) = expression_breaches before e
  value_breaches (Many es) = flat_map (expression_breaches before) es

-- whether a list has another length than the extent of its only dimension
abbrev pub misfits : List Span → Option (List ℤ) → Bool
misfits spans None = false
misfits spans (Some values) = not (length values == elements spans)

-- What is wrong about a constant with no shape, or with a shape that is none where it isn't free: a list and no shape, a
-- shape and no list, a rank above 1, or a list of another length.
abbrev pub breaks_rank : (has_shape : Bool) → Option (List Span) → Given → Bool
breaks_rank false shape (given.One value) = false
breaks_rank false shape (given.Many values) = is_some values
breaks_rank true None what = false
breaks_rank true (Some spans) (given.One value) = true
breaks_rank true (Some spans) (given.Many values) = nat_lt 1 (length spans) || misfits spans values

-- the one value, or the list
abbrev pub one_given : Given → Option ℤ
one_given (given.One value) = value
one_given (given.Many values) = None

abbrev pub list_given : Given → Option (List ℤ)
list_given (given.One value) = None
list_given (given.Many values) = values

-- the list of a constant with a shape, where that is free too
abbrev pub list_within : Option (List Span) → Given → Option (List ℤ)
list_within None what = None
list_within (Some spans) what = list_given what

-- what a constant is, which holds nothing where the name isn't free
abbrev pub constant_meaning : (has_shape free : Bool) → Option (List Span) → Given → Meaning
constant_meaning false true shape what = meaning.Constant (one_given what)
constant_meaning false false shape what = meaning.Constant None
constant_meaning true true shape what = meaning.List (list_within shape what)
constant_meaning true false shape what = meaning.List None
