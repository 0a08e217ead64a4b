-- Rows that the definitions give by themselves: the first breach of some statements, worked out by hand.
use Rattle.std.proofs.Common.{◌≡◌, ℕ, Bool, true, List, [], ◌∷◌, None, Result, Ok, Err, refl}
use Rattle.std.specs.Prelude.{is_ok}
use Rattle.hpf_lex.specs.declared.refusal.MapRefusal.{MapRefusal}
use Rattle.hpf_syntax.specs.declared.tree.At.{At}
use Rattle.hpf_syntax.specs.declared.tree.Spot.{Spot}
use Rattle.hpf_syntax.specs.Plain.{Tree, Number, Name, Neg, Plus, BoundTree, DeclaredTree, One, Many, ItemTree, Variables, Constants, Processors, Template, Align, Input, Plain}
use Rattle.hpf_map.specs.declared.name.Name as name
use Rattle.hpf_map.specs.Layers.{judged, breaches_in, names_of, ordered_breaches}
use Rattle.hpf_map.specs.Known.{known, declare}
use Rattle.hpf_map.specs.Uses.{use_breaches, name_breaches}
use Rattle.hpf_map.specs.Values.{in_range, value, operator_breaches, expression_breaches}
use Rattle.hpf_map.specs.Gathered.{all_of}
use Rattle.hpf_map.specs.Shapes.{span, bound_breaches, shape, shape_breaches}
use Rattle.hpf_map.specs.Constants.{value_breaches}
use Rattle.hpf_map.specs.Declarations.{naming_breaches, shaped_name, declared_dimensions, with_declared, declared_breaches, has_wrong_rank, constant_name, with_constant, constant_breaches, names_after, declaration_breaches}
use Rattle.hpf_map.specs.Expressions.{format_breaches, operation_breaches, align_expression_breaches, directive_breaches}
use Rattle.hpf_map.specs.ShadowWidths.{width_breaches}
use Rattle.hpf_map.specs.Subscripts.{subscripts_of}
use Rattle.hpf_map.specs.Found.{least_with}

-- places, names and statements
abbrev on : ℕ → ℕ → At
on line column = record { line = line; column = column }

abbrev spot : List ℕ → ℕ → ℕ → Spot
spot word line column = record { word = word; at = on line column }

abbrev upper : Tree → BoundTree
upper e = record { low = None; high = e }

abbrev declared : List ℕ → ℕ → ℕ → List BoundTree → DeclaredTree
declared word line column bounds = record { name = spot word line column; shape = bounds }

abbrev told : ℕ → ℕ → ℕ → Result (List name.Name) MapRefusal
told code line column = Err (record { code = code; line = line; column = column })

abbrev A : List ℕ
A = 65 ∷ []

abbrev N : List ℕ
N = 78 ∷ []

abbrev T : List ℕ
T = 84 ∷ []

-- whether statements have no breach
abbrev directive_is_free : List ItemTree → Bool
directive_is_free items = is_ok (judged items)

-- nothing is declared where there is no statement
no_statement : judged [] ≡ Ok []
unfolding least_with breaches_in names_of ordered_breaches known declare use_breaches name_breaches in_range value operator_breaches expression_breaches all_of span bound_breaches shape shape_breaches value_breaches naming_breaches shaped_name declared_dimensions with_declared declared_breaches has_wrong_rank constant_name with_constant constant_breaches names_after declaration_breaches format_breaches width_breaches operation_breaches directive_breaches
no_statement = refl

-- INTEGER A, A
twice : judged (Variables [] (declared A 1 9 [] ∷ declared A 1 12 [] ∷ []) ∷ []) ≡ told 21 1 12
unfolding least_with breaches_in names_of ordered_breaches known declare use_breaches name_breaches in_range value operator_breaches expression_breaches all_of span bound_breaches shape shape_breaches value_breaches naming_breaches shaped_name declared_dimensions with_declared declared_breaches has_wrong_rank constant_name with_constant constant_breaches names_after declaration_breaches format_breaches width_breaches operation_breaches directive_breaches
twice = refl

-- INTEGER A(A)
own_shape : judged (Variables [] (declared A 1 9 (upper (Name (on 1 11) A) ∷ []) ∷ []) ∷ []) ≡ told 23 1 11
unfolding least_with breaches_in names_of ordered_breaches known declare use_breaches name_breaches in_range value operator_breaches expression_breaches all_of span bound_breaches shape shape_breaches value_breaches naming_breaches shaped_name declared_dimensions with_declared declared_breaches has_wrong_rank constant_name with_constant constant_breaches names_after declaration_breaches format_breaches width_breaches operation_breaches directive_breaches
own_shape = refl

-- INTEGER, PARAMETER :: N = N
own_value : judged (Constants [] (record { name = spot N 1 23; shape = []; value = One (Name (on 1 27) N) } ∷ []) ∷ []) ≡ told 22 1 27
unfolding least_with breaches_in names_of ordered_breaches known declare use_breaches name_breaches in_range value operator_breaches expression_breaches all_of span bound_breaches shape shape_breaches value_breaches naming_breaches shaped_name declared_dimensions with_declared declared_breaches has_wrong_rank constant_name with_constant constant_breaches names_after declaration_breaches format_breaches width_breaches operation_breaches directive_breaches
own_value = refl

-- INTEGER, DIMENSION(A) :: A
common_shape : judged (Variables (upper (Name (on 1 20) A) ∷ []) (declared A 1 26 [] ∷ []) ∷ []) ≡ told 22 1 20
unfolding least_with breaches_in names_of ordered_breaches known declare use_breaches name_breaches in_range value operator_breaches expression_breaches all_of span bound_breaches shape shape_breaches value_breaches naming_breaches shaped_name declared_dimensions with_declared declared_breaches has_wrong_rank constant_name with_constant constant_breaches names_after declaration_breaches format_breaches width_breaches operation_breaches directive_breaches
common_shape = refl

-- !HPF$ ALIGN A WITH T, then INTEGER A(4), then !HPF$ TEMPLATE T(4): each name may be declared later
later_in_a_directive : directive_is_free (Align (spot A 1 13 ∷ []) None (spot T 1 20) None ∷ Variables [] (declared A 2 9 (upper (Number (on 2 11) 4) ∷ []) ∷ []) ∷ Template (declared T 3 16 (upper (Number (on 3 18) 4) ∷ []) ∷ []) ∷ []) ≡ true
unfolding least_with breaches_in names_of ordered_breaches known declare use_breaches name_breaches in_range value operator_breaches expression_breaches all_of span bound_breaches shape shape_breaches value_breaches naming_breaches shaped_name declared_dimensions with_declared declared_breaches has_wrong_rank constant_name with_constant constant_breaches names_after declaration_breaches format_breaches width_breaches operation_breaches directive_breaches align_expression_breaches subscripts_of
later_in_a_directive = refl

-- INTEGER, PARAMETER :: N = (/ 1 /)
a_list_without_a_shape : judged (Constants [] (record { name = spot N 1 23; shape = []; value = Many (Number (on 1 30) 1 ∷ []) } ∷ []) ∷ []) ≡ told 24 1 23
unfolding least_with breaches_in names_of ordered_breaches known declare use_breaches name_breaches in_range value operator_breaches expression_breaches all_of span bound_breaches shape shape_breaches value_breaches naming_breaches shaped_name declared_dimensions with_declared declared_breaches has_wrong_rank constant_name with_constant constant_breaches names_after declaration_breaches format_breaches width_breaches operation_breaches directive_breaches
a_list_without_a_shape = refl

-- INTEGER, PARAMETER :: N(3) = (/ 1, T /): the unknown name alone
an_unknown_value_in_a_list : judged (Constants [] (record { name = spot N 1 23; shape = upper (Number (on 1 25) 3) ∷ []; value = Many (Number (on 1 33) 1 ∷ Name (on 1 36) T ∷ []) } ∷ []) ∷ []) ≡ told 22 1 36
unfolding least_with breaches_in names_of ordered_breaches known declare use_breaches name_breaches in_range value operator_breaches expression_breaches all_of span bound_breaches shape shape_breaches value_breaches naming_breaches shaped_name declared_dimensions with_declared declared_breaches has_wrong_rank constant_name with_constant constant_breaches names_after declaration_breaches format_breaches width_breaches operation_breaches directive_breaches
an_unknown_value_in_a_list = refl

-- INTEGER, PARAMETER :: N(3) = T: a shape and no list
an_unknown_value_without_a_list : judged (Constants [] (record { name = spot N 1 23; shape = upper (Number (on 1 25) 3) ∷ []; value = One (Name (on 1 30) T) } ∷ []) ∷ []) ≡ told 24 1 23
unfolding least_with breaches_in names_of ordered_breaches known declare use_breaches name_breaches in_range value operator_breaches expression_breaches all_of span bound_breaches shape shape_breaches value_breaches naming_breaches shaped_name declared_dimensions with_declared declared_breaches has_wrong_rank constant_name with_constant constant_breaches names_after declaration_breaches format_breaches width_breaches operation_breaches directive_breaches
an_unknown_value_without_a_list = refl

-- INTEGER A(-1)
out_of_order : judged (Variables [] (declared A 1 9 (upper (Neg (on 1 11) (Number (on 1 12) 1)) ∷ []) ∷ []) ∷ []) ≡ told 25 1 11
unfolding least_with breaches_in names_of ordered_breaches known declare use_breaches name_breaches in_range value operator_breaches expression_breaches all_of span bound_breaches shape shape_breaches value_breaches naming_breaches shaped_name declared_dimensions with_declared declared_breaches has_wrong_rank constant_name with_constant constant_breaches names_after declaration_breaches format_breaches width_breaches operation_breaches directive_breaches
out_of_order = refl

-- INTEGER, PARAMETER :: N = 2147483647+1
the_greatest_value : judged (Constants [] (record { name = spot N 1 23; shape = []; value = One (Plus (on 1 37) (Number (on 1 27) 2147483647) (Number (on 1 38) 1)) } ∷ []) ∷ []) ≡ told 26 1 37
unfolding least_with breaches_in names_of ordered_breaches known declare use_breaches name_breaches in_range value operator_breaches expression_breaches all_of span bound_breaches shape shape_breaches value_breaches naming_breaches shaped_name declared_dimensions with_declared declared_breaches has_wrong_rank constant_name with_constant constant_breaches names_after declaration_breaches format_breaches width_breaches operation_breaches directive_breaches
the_greatest_value = refl

-- INTEGER A(4096, 4097)
too_many_elements : judged (Variables [] (declared A 1 9 (upper (Number (on 1 11) 4096) ∷ upper (Number (on 1 17) 4097) ∷ []) ∷ []) ∷ []) ≡ told 26 1 9
unfolding least_with breaches_in names_of ordered_breaches known declare use_breaches name_breaches in_range value operator_breaches expression_breaches all_of span bound_breaches shape shape_breaches value_breaches naming_breaches shaped_name declared_dimensions with_declared declared_breaches has_wrong_rank constant_name with_constant constant_breaches names_after declaration_breaches format_breaches width_breaches operation_breaches directive_breaches
too_many_elements = refl

-- !PIPE$ INPUT A, then !HPF$ PROCESSORS A(65): not free, so its use is tested no further
too_many_processors : judged (Input (on 1 8) (spot A 1 14) None Plain ∷ Processors (declared A 2 18 (upper (Number (on 2 20) 65) ∷ []) ∷ []) ∷ []) ≡ told 26 2 18
unfolding least_with breaches_in names_of ordered_breaches known declare use_breaches name_breaches in_range value operator_breaches expression_breaches all_of span bound_breaches shape shape_breaches value_breaches naming_breaches shaped_name declared_dimensions with_declared declared_breaches has_wrong_rank constant_name with_constant constant_breaches names_after declaration_breaches format_breaches width_breaches operation_breaches directive_breaches
too_many_processors = refl

-- !PIPE$ INPUT A, then !HPF$ PROCESSORS A(0): free but for its bounds
an_arrangement_as_input : judged (Input (on 1 8) (spot A 1 14) None Plain ∷ Processors (declared A 2 18 (upper (Number (on 2 20) 0) ∷ []) ∷ []) ∷ []) ≡ told 23 1 14
unfolding least_with breaches_in names_of ordered_breaches known declare use_breaches name_breaches in_range value operator_breaches expression_breaches all_of span bound_breaches shape shape_breaches value_breaches naming_breaches shaped_name declared_dimensions with_declared declared_breaches has_wrong_rank constant_name with_constant constant_breaches names_after declaration_breaches format_breaches width_breaches operation_breaches directive_breaches
an_arrangement_as_input = refl
