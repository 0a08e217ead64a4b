-- Subscripts of ALIGN as linear forms `a*I+b`, made from the leaves up (High Performance Fortran 2.0, Data Mapping, ALIGN;
-- this project limits the range of both numbers).
use Rattle.std.specs.Prelude.{ℕ, List, [], ◌++◌, Bool, false, not, ◌&&◌, Option, Some, None, is_some, option_map, option_and_then, if◌then◌else◌, ℤ, pos, neg_ℤ, ◌+ℤ◌, ◌-ℤ◌, ◌*ℤ◌}
use Rattle.std.specs.Option.{option_or}
use Rattle.hpf_lex.specs.declared.refusal.MapRefusal.{MapRefusal}
use Rattle.hpf_syntax.specs.Plain.{Tree, Number, Name, Neg, Plus, Minus, Times}
use Rattle.hpf_map.specs.declared.constraint.Constraint.TheVariants.{Limit}
use Rattle.hpf_map.specs.declared.subscript.Linear.{Linear}
use Rattle.hpf_map.specs.declared.name.Name as name
use Rattle.hpf_map.specs.declared.values.Operator.{Operator}
use Rattle.hpf_map.specs.declared.values.Operator.TheVariants as operator
use Rattle.hpf_map.specs.Constraint.{breach_if}
use Rattle.hpf_map.specs.Values.{in_range, ranged, word_value}

-- a number without a dummy
abbrev pub constant_form : ℤ → Linear
constant_form v = record { dummy = None; coefficient = pos 0; constant = v }

-- a dummy by itself
abbrev pub dummy_form : List ℕ → Linear
dummy_form word = record { dummy = Some word; coefficient = pos 1; constant = pos 0 }

-- both numbers of a form are in range
abbrev pub is_ranged : Linear → Bool
is_ranged f = in_range f.coefficient && in_range f.constant

abbrev pub ranged_form : Linear → Option Linear
ranged_form f = if is_ranged f then Some f else None

-- a form with its sign turned round
abbrev pub negated_form : Linear → Linear
negated_form f = record { dummy = f.dummy; coefficient = neg_ℤ f.coefficient; constant = neg_ℤ f.constant }

-- what an operator makes of two forms of which one has no dummy
abbrev pub form_operation : Operator → Linear → Linear → Linear
form_operation operator.Plus f g =
    record { dummy = option_or f.dummy g.dummy; coefficient = f.coefficient +ℤ g.coefficient; constant = f.constant +ℤ g.constant }
form_operation operator.Minus f g =
    record { dummy = option_or f.dummy g.dummy; coefficient = f.coefficient -ℤ g.coefficient; constant = f.constant -ℤ g.constant }
form_operation operator.Times f g = record {
  dummy = option_or f.dummy g.dummy;
  coefficient = if is_some f.dummy then f.coefficient *ℤ g.constant else f.constant *ℤ g.coefficient;
  constant = f.constant *ℤ g.constant;
}

-- Two operands that both have a dummy make no linear form.
abbrev pub have_dummies : Linear → Linear → Bool
have_dummies f g = is_some f.dummy && is_some g.dummy

abbrev pub combined_forms : Operator → Option Linear → Option Linear → Option Linear
combined_forms op None g = None
combined_forms op (Some f) None = None
combined_forms op (Some f) (Some g) = if have_dummies f g then None else ranged_form (form_operation op f g)

-- whether both operands have a form, and one of the two numbers at the operator leaves the range
abbrev pub form_leaves : Operator → Option Linear → Option Linear → Bool
form_leaves op None g = false
form_leaves op (Some f) None = false
form_leaves op (Some f) (Some g) = not (have_dummies f g) && not (is_ranged (form_operation op f g))

module _ (before : List name.Name) (hides : List ℕ → Bool) where
  -- a dummy hides a declared name
  abbrev pub word_form : List ℕ → Option Linear
  word_form word = if hides word then Some (dummy_form word) else option_map constant_form (word_value before word)

  -- the linear form of an expression, where it has one
  unfoldable pub form : Tree → Option Linear
  form (Number at n) = option_map constant_form (ranged (pos n))
  form (Name at word) = word_form word
  form (Neg at e) = option_and_then (λ f. ranged_form (negated_form f)) (form e)
  form (Plus at a b) = combined_forms operator.Plus (form a) (form b)
  form (Minus at a b) = combined_forms operator.Minus (form a) (form b)
  form (Times at a b) = combined_forms operator.Times (form a) (form b)

  -- The operators at which a form leaves the range. (A number of a text is always in range, and a negation never leaves it.)
  unfoldable pub form_breaches : Tree → List MapRefusal
  form_breaches (Number at n) = breach_if (not (in_range (pos n))) Limit at
  form_breaches (Name at word) = []
  form_breaches (Neg at e) = form_breaches e
  form_breaches (Plus at a b) =
      form_breaches a ++ form_breaches b ++ breach_if (form_leaves operator.Plus (form a) (form b)) Limit at
  form_breaches (Minus at a b) =
      form_breaches a ++ form_breaches b ++ breach_if (form_leaves operator.Minus (form a) (form b)) Limit at
  form_breaches (Times at a b) =
      form_breaches a ++ form_breaches b ++ breach_if (form_leaves operator.Times (form a) (form b)) Limit at
