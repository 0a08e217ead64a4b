-- Rows of shadows, worked out by hand.
use Rattle.std.proofs.Common.{◌≡◌, ℕ, pos, true, List, [], ◌∷◌, Some, None, refl}
use Rattle.hpf_own.specs.KeptLists.{no_width}
use Rattle.hpf_syntax.specs.declared.tree.At.{At}
use Rattle.hpf_syntax.specs.declared.tree.Spot.{Spot}
use Rattle.hpf_syntax.specs.Plain.{Tree, Number, Neg, ItemTree, Shadow}
use Rattle.hpf_map.specs.declared.constraint.Constraint.TheVariants as broken
use Rattle.hpf_map.specs.declared.name.Meaning.TheVariants as meaning
use Rattle.hpf_map.specs.declared.name.Name.{Name}
use Rattle.hpf_map.specs.declared.name.Space.{Space}
use Rattle.hpf_map.specs.declared.name.Space.TheVariants.{Array, Template}
use Rattle.hpf_map.specs.Constraint.{breach}
use Rattle.hpf_map.specs.Declarations.{names_after}
use Rattle.hpf_map.specs.Gathered.{all_of}
use Rattle.hpf_map.specs.Known.{known}
use Rattle.hpf_map.specs.Shadows.{shadow_breaches, statement_shadow_uses, shadowed_twice_breaches, shadows_breaches, first_shadow, shadow_at}
use Rattle.hpf_map.specs.ShadowWidths.{width_of, one_width_breaches, width_breaches, all_shadow_widths}
use Rattle.hpf_map.specs.Uses.{name_breaches}
use Rattle.hpf_map.specs.Values.{in_range, value, operator_breaches, expression_breaches}
use Rattle.hpf_map.specs.Ways.{used_place}

abbrev on : ℕ → ℕ → At
on line column = record { line = line; column = column }

abbrev spot : List ℕ → ℕ → ℕ → Spot
spot word line column = record { word = word; at = on line column }

abbrev A : List ℕ
A = 65 ∷ []

abbrev B : List ℕ
B = 66 ∷ []

abbrev T : List ℕ
T = 84 ∷ []

-- a name with four elements
abbrev four : Space → List ℕ → Name
four what word = record { word = word; free = true; meaning = meaning.Shaped what (record { count = 1; shape = Some (record { low = pos 1; high = pos 4 } ∷ []) }) }

-- two arrays and a template
abbrev names : List Name
names = four Array A ∷ four Array B ∷ four Template T ∷ []

abbrev number : ℕ → ℕ → ℕ → Tree
number line column n = Number (on line column) n

-- SHADOW (1) :: A, A
twice : shadows_breaches names (Shadow (spot A 1 21 ∷ spot A 1 24 ∷ []) (record { low = number 1 15 1; high = None } ∷ []) ∷ []) ≡ breach broken.Shadow (on 1 24) ∷ []
unfolding shadows_breaches shadow_breaches shadowed_twice_breaches statement_shadow_uses known used_place
twice = refl

-- SHADOW T(1)
of_a_template : shadows_breaches names (Shadow (spot T 1 14 ∷ []) (record { low = number 1 16 1; high = None } ∷ []) ∷ []) ≡ breach broken.Shadow (on 1 14) ∷ []
unfolding shadows_breaches shadow_breaches shadowed_twice_breaches statement_shadow_uses known used_place
of_a_template = refl

-- SHADOW A(1, 1)
too_many_widths : shadows_breaches names (Shadow (spot A 1 14 ∷ []) (record { low = number 1 16 1; high = None } ∷ record { low = number 1 19 1; high = None } ∷ []) ∷ []) ≡ breach broken.Rank (on 1 14) ∷ []
unfolding shadows_breaches shadow_breaches shadowed_twice_breaches statement_shadow_uses known used_place
too_many_widths = refl

-- `-1` and `1:-2`
negative : width_breaches [] (record { low = Neg (on 1 16) (number 1 17 1); high = None }) ≡ breach broken.Shadow (on 1 16) ∷ []
unfolding width_breaches one_width_breaches expression_breaches name_breaches operator_breaches value in_range
negative = refl

negative_above : width_breaches [] (record { low = number 1 16 1; high = Some (Neg (on 1 18) (number 1 19 2)) }) ≡ breach broken.Shadow (on 1 18) ∷ []
unfolding width_breaches one_width_breaches expression_breaches name_breaches operator_breaches value in_range
negative_above = refl

-- SHADOW A(1:2), then SHADOW A(3)
abbrev items : List ItemTree
items = Shadow (spot A 1 14 ∷ []) (record { low = number 1 16 1; high = Some (number 1 18 2) } ∷ []) ∷ Shadow (spot A 2 14 ∷ []) (record { low = number 2 16 3; high = None } ∷ []) ∷ []

first_counts : shadow_at names items 0 1 ≡ Some (record { low = 1; high = 2 } ∷ [])
unfolding shadow_at first_shadow statement_shadow_uses known used_place all_shadow_widths names_after all_of width_of value in_range
first_counts = refl

no_shadow : shadow_at names items 1 1 ≡ Some (no_width ∷ [])
unfolding shadow_at first_shadow statement_shadow_uses known used_place
no_shadow = refl
