-- The values of expressions, where these names are declared before (Fortran 90, initialization expressions; this project
-- limits their range). An expression has a value where no name and no operator in it has a breach.
use Rattle.std.specs.Prelude.{ℕ, List, [], ◌++◌, Bool, false, not, ◌&&◌, Option, Some, None, option_and_then, if◌then◌else◌, ℤ, pos, neg_ℤ, ◌+ℤ◌, ◌-ℤ◌, ◌*ℤ◌, int_le}
use Rattle.hpf_lex.specs.declared.refusal.MapRefusal.{MapRefusal}
use Rattle.hpf_syntax.specs.declared.tree.At.{At}
use Rattle.hpf_syntax.specs.Plain.{Tree, Number, Name, Neg, Plus, Minus, Times}
use Rattle.hpf_map.specs.declared.constraint.Constraint.TheVariants.{Limit}
use Rattle.hpf_map.specs.declared.name.Meaning.{Meaning}
use Rattle.hpf_map.specs.declared.name.Meaning.TheVariants.{Constant}
use Rattle.hpf_map.specs.declared.name.Name as name
use Rattle.hpf_map.specs.declared.values.Operator.{Operator}
use Rattle.hpf_map.specs.declared.values.Operator.TheVariants as operator
use Rattle.hpf_map.specs.Constraint.{breach_if}
use Rattle.hpf_map.specs.Known.{known}
use Rattle.hpf_map.specs.Uses.{name_breaches, nothing_hidden}

-- the greatest value, and that of a number in a text
abbrev pub greatest : ℕ
greatest = 2147483647

-- from -(2^31-1) to 2^31-1
unfoldable pub in_range : ℤ → Bool
in_range v = int_le (neg_ℤ (pos greatest)) v && int_le v (pos greatest)

abbrev pub ranged : ℤ → Option ℤ
ranged v = if in_range v then Some v else None

abbrev pub operation : Operator → ℤ → ℤ → ℤ
operation operator.Plus a b = a +ℤ b
operation operator.Minus a b = a -ℤ b
operation operator.Times a b = a *ℤ b

-- the value of an operator, where both operands have one and it is in range
abbrev pub combined : (ℤ → ℤ → ℤ) → Option ℤ → Option ℤ → Option ℤ
combined op None b = None
combined op (Some a) None = None
combined op (Some a) (Some b) = ranged (op a b)

-- whether both operands have a value, and that of the operator leaves the range
abbrev pub leaves : (ℤ → ℤ → ℤ) → Option ℤ → Option ℤ → Bool
leaves op None b = false
leaves op (Some a) None = false
leaves op (Some a) (Some b) = not (in_range (op a b))

-- the value of a named constant without a shape, where it is free
abbrev pub constant_value : Meaning → Option ℤ
constant_value (Constant value) = value
constant_value other = None

module _ (before : List name.Name) where
  -- the value of a name in an expression, where it is a constant that has one
  abbrev pub word_value : List ℕ → Option ℤ
  word_value word = option_and_then (λ n. constant_value n.meaning) (known before word)

  -- the value of an expression, where it is free
  unfoldable pub value : Tree → Option ℤ
  value (Number at n) = ranged (pos n)
  value (Name at word) = word_value word
  value (Neg at e) = option_and_then (λ v. ranged (neg_ℤ v)) (value e)
  value (Plus at a b) = combined (operation operator.Plus) (value a) (value b)
  value (Minus at a b) = combined (operation operator.Minus) (value a) (value b)
  value (Times at a b) = combined (operation operator.Times) (value a) (value b)

  -- The operators whose values leave the range. (A number of a text is always in range, and a negation never leaves it.)
  unfoldable pub operator_breaches : Tree → List MapRefusal
  operator_breaches (Number at n) = breach_if (not (in_range (pos n))) Limit at
  operator_breaches (Name at word) = []
  operator_breaches (Neg at e) = operator_breaches e
  operator_breaches (Plus at a b) =
      operator_breaches a ++ operator_breaches b ++ breach_if (leaves (operation operator.Plus) (value a) (value b)) Limit at
  operator_breaches (Minus at a b) =
      operator_breaches a ++ operator_breaches b ++ breach_if (leaves (operation operator.Minus) (value a) (value b)) Limit at
  operator_breaches (Times at a b) =
      operator_breaches a ++ operator_breaches b ++ breach_if (leaves (operation operator.Times) (value a) (value b)) Limit at

  -- all breaches in an expression
  unfoldable pub expression_breaches : Tree → List MapRefusal
  expression_breaches e = name_breaches before nothing_hidden e ++ operator_breaches e

  abbrev pub maybe_expression_breaches : Option Tree → List MapRefusal
  maybe_expression_breaches None = []
  maybe_expression_breaches (Some e) = expression_breaches e

-- the place of an expression: its first number, name or minus sign before a term
abbrev pub place_of : Tree → At
place_of (Number at n) = at
place_of (Name at word) = at
place_of (Neg at e) = at
place_of (Plus at a b) = place_of a
place_of (Minus at a b) = place_of a
place_of (Times at a b) = place_of a
