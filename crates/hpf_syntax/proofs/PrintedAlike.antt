-- Statements that are alike are printed alike: no text depends on a place.
use Rattle.std.proofs.Common.{◌≡◌, ℕ, Bool, ◌||◌, List, [], ◌∷◌, ◌++◌, map, Option, Some, None, refl, sym, ap, ◌∙◌}
use Rattle.std.specs.Prelude.{codes, option_map}
use Rattle.std.specs.List.{flat_map}
use Rattle.hpf_syntax.specs.declared.tree.Spot.{Spot}
use Rattle.hpf_syntax.specs.declared.tree.SourceItem.{SourceItem}
use Rattle.hpf_syntax.specs.declared.tree.SourceItem.TheVariants as source
use Rattle.hpf_syntax.specs.Plain.{Tree, Number, Name, Neg, Plus, Minus, Times, One, Many, FormatTree, Star, Block, Cyclic, GenBlock, Indirect, SubTree, AnyPlace, OnePlace, Triplet, Plain, Add, Mul, Prefix, Stencil, ItemTree, ImplicitNone, Variables, Constants, Processors, Template, Distribute, Align, Shadow, Input, Stage}
use Rattle.hpf_syntax.specs.Canonical.{parenthesized, guarded, listed, optional, name_text, is_sum, is_product, expression_text, colon_text, argument_text, array_text, low_text, bound_text, shape_text, declared_text, value_text, constant_text, dimension_text, before_variables, format_text, source_text, sub_text, width_text, formats_text, widths_text, sources_text, subs_text, onto_text, with_text, of_names, permute_text, buffers_text, operation_text, statement_text, line_text, canonical}
use Rattle.hpf_syntax.specs.Placeless.{bare_name, bare, bare_bound, bare_declared, bare_value, bare_constant, bare_format, bare_source, bare_sub, bare_width, bare_operation, bare_item, AreAlike}

-- ---- lists and what may be absent

-- texts that don't see what f changes
abbrev Same : {A : Type 0} → (A → List ℕ) → (A → A) → Type 0
Same {A} text f = (x : A) → text (f x) ≡ text x

same_listed : {A : Type 0} (text : A → List ℕ) (f : A → A) → Same text f → Same (listed text) (map f)
same_listed text f same [] = refl
same_listed text f same (x ∷ []) = same x
same_listed text f same (x ∷ y ∷ ys) = let here = same x in let there = same_listed text f same (y ∷ ys) in cc

same_optional : {A : Type 0} (before : List ℕ) (text : A → List ℕ) (f : A → A) → Same text f → Same (optional before text) (option_map f)
same_optional before text f same None = refl
same_optional before text f same (Some x) = ap (λ (bytes : List ℕ). before ++ bytes) (same x)

same_in_parentheses : {A : Type 0} (text : A → List ℕ) (f : A → A) → Same text f → Same (λ (list : List A). parenthesized (listed text list)) (map f)
same_in_parentheses text f same list = ap parenthesized (same_listed text f same list)

-- ---- expressions

same_sum : (e : Tree) → is_sum (bare e) ≡ is_sum e
same_sum (Number at n) = refl
same_sum (Name at word) = refl
same_sum (Neg at e) = refl
same_sum (Plus at a b) = refl
same_sum (Minus at a b) = refl
same_sum (Times at a b) = refl

same_product : (e : Tree) → is_product (bare e) ≡ is_product e
same_product (Number at n) = refl
same_product (Name at word) = refl
same_product (Neg at e) = refl
same_product (Plus at a b) = refl
same_product (Minus at a b) = refl
same_product (Times at a b) = refl

same_guarded : (a b : Bool) (x y : List ℕ) → a ≡ b → x ≡ y → guarded a x ≡ guarded b y
same_guarded a b x y p q = ap (λ (needed : Bool). guarded needed x) p ∙ ap (λ (bytes : List ℕ). guarded b bytes) q

same_signed : (a b x y : List ℕ) (sign : List ℕ) → a ≡ b → x ≡ y → a ++ (sign ++ x) ≡ b ++ (sign ++ y)
same_signed a b x y sign p q = cc

pub same_expression : (e : Tree) → expression_text (bare e) ≡ expression_text e
same_expression (Number at n) = refl
same_expression (Name at word) = refl
same_expression (Neg at e) =
    ap (λ (bytes : List ℕ). codes "-" ++ bytes) (same_guarded (is_sum (bare e)) (is_sum e) (expression_text (bare e)) (expression_text e) (same_sum e) (same_expression e))
same_expression (Plus at a b) =
    same_signed (expression_text (bare a)) (expression_text a) (guarded (is_sum (bare b)) (expression_text (bare b))) (guarded (is_sum b) (expression_text b)) (codes "+")
    (same_expression a) (same_guarded (is_sum (bare b)) (is_sum b) (expression_text (bare b)) (expression_text b) (same_sum b) (same_expression b))
same_expression (Minus at a b) =
    same_signed (expression_text (bare a)) (expression_text a) (guarded (is_sum (bare b)) (expression_text (bare b))) (guarded (is_sum b) (expression_text b)) (codes "-")
    (same_expression a) (same_guarded (is_sum (bare b)) (is_sum b) (expression_text (bare b)) (expression_text b) (same_sum b) (same_expression b))
same_expression (Times at a b) =
    let either : (is_sum (bare b) || is_product (bare b)) ≡ (is_sum b || is_product b) =
    ap (λ (s : Bool). s || is_product (bare b)) (same_sum b) ∙ ap (λ (p : Bool). is_sum b || p) (same_product b) in
    same_signed (guarded (is_sum (bare a)) (expression_text (bare a))) (guarded (is_sum a) (expression_text a))
    (guarded (is_sum (bare b) || is_product (bare b)) (expression_text (bare b))) (guarded (is_sum b || is_product b) (expression_text b)) (codes "*")
    (same_guarded (is_sum (bare a)) (is_sum a) (expression_text (bare a)) (expression_text a) (same_sum a) (same_expression a))
    (same_guarded (is_sum (bare b) || is_product (bare b)) (is_sum b || is_product b) (expression_text (bare b)) (expression_text b) either (same_expression b))

same_expressions : (es : List Tree) → listed expression_text (map bare es) ≡ listed expression_text es
same_expressions = same_listed expression_text bare same_expression

same_colon : Same colon_text (option_map bare)
same_colon = same_optional (codes ":") expression_text bare same_expression

same_maybe : (before : List ℕ) → Same (optional before expression_text) (option_map bare)
same_maybe before = same_optional before expression_text bare same_expression

same_argument : Same argument_text bare
same_argument e = ap parenthesized (same_expression e)

same_array : Same array_text (map bare)
same_array es = ap (λ (bytes : List ℕ). codes "(/ " ++ (bytes ++ codes " /)")) (same_expressions es)

-- ---- declarations

same_low : Same low_text (option_map bare)
same_low None = refl
same_low (Some e) = ap (λ (bytes : List ℕ). bytes ++ codes ":") (same_expression e)

same_bound : Same bound_text bare_bound
same_bound b = let low = same_low b.low in let high = same_expression b.high in cc

same_shape : Same shape_text (map bare_bound)
same_shape [] = refl
same_shape (b ∷ bs) = same_in_parentheses bound_text bare_bound same_bound (b ∷ bs)

same_declared : Same declared_text bare_declared
same_declared d = ap (λ (bytes : List ℕ). name_text d.name ++ bytes) (same_shape d.shape)

same_value : Same value_text bare_value
same_value (One e) = same_expression e
same_value (Many es) = same_array es

same_constant : Same constant_text bare_constant
same_constant c = let shape = same_shape c.shape in let value = same_value c.value in cc

same_dimension : Same dimension_text (map bare_bound)
same_dimension [] = refl
same_dimension (b ∷ bs) = ap (λ (bytes : List ℕ). codes ", DIMENSION" ++ bytes) (same_shape (b ∷ bs))

same_before : Same before_variables (map bare_bound)
same_before [] = refl
same_before (b ∷ bs) = ap (λ (bytes : List ℕ). bytes ++ codes " :: ") (same_dimension (b ∷ bs))

-- ---- directives

same_format : Same format_text bare_format
same_format (Star at) = refl
same_format (Block at None) = refl
same_format (Block at (Some e)) = ap (λ (bytes : List ℕ). codes "BLOCK" ++ bytes) (same_argument e)
same_format (Cyclic at None) = refl
same_format (Cyclic at (Some e)) = ap (λ (bytes : List ℕ). codes "CYCLIC" ++ bytes) (same_argument e)
same_format (GenBlock at name) = refl
same_format (Indirect at name) = refl

same_source : Same source_text bare_source
same_source (source.Colon at) = refl
same_source (source.Star at) = refl
same_source (source.Dummy name) = refl

same_sub : Same sub_text bare_sub
same_sub (AnyPlace at) = refl
same_sub (OnePlace e) = same_expression e
same_sub (Triplet at low high step) =
    let first = same_maybe [] low in let last = same_maybe [] high in let by = same_colon step in cc

same_width : Same width_text bare_width
same_width w = let low = same_expression w.low in let high = same_colon w.high in cc

same_name : Same name_text bare_name
same_name name = refl

same_names : Same (listed name_text) (map bare_name)
same_names = same_listed name_text bare_name same_name

same_formats : Same formats_text (map bare_format)
same_formats = same_in_parentheses format_text bare_format same_format

same_widths : Same widths_text (map bare_width)
same_widths = same_in_parentheses width_text bare_width same_width

same_sources : (before : List ℕ) → Same (sources_text before) (option_map (map bare_source))
same_sources before = same_optional before (λ (list : List SourceItem). parenthesized (listed source_text list)) (map bare_source) (same_in_parentheses source_text bare_source same_source)

same_subs : Same subs_text (option_map (map bare_sub))
same_subs = same_optional [] (λ (list : List SubTree). parenthesized (listed sub_text list)) (map bare_sub) (same_in_parentheses sub_text bare_sub same_sub)

same_onto : Same onto_text (option_map bare_name)
same_onto = same_optional (codes " ONTO ") name_text bare_name same_name

same_of_names : (names : List Spot) (behind behind' alone alone' : List ℕ) → behind ≡ behind' → alone ≡ alone' → of_names (map bare_name names) behind alone ≡ of_names names behind' alone'
same_of_names [] behind behind' alone alone' p q = ap (λ (bytes : List ℕ). bytes ++ codes " :: ") q
same_of_names (name ∷ []) behind behind' alone alone' p q = ap (λ (bytes : List ℕ). codes " " ++ (name_text name ++ bytes)) p
same_of_names (name ∷ other ∷ others) behind behind' alone alone' p q = let listed_so = same_names (name ∷ other ∷ others) in cc

-- ---- pipelines

same_permute : Same permute_text (option_map (map bare))
same_permute = same_optional (codes " PERMUTE") (λ (list : List Tree). parenthesized (listed expression_text list)) (map bare) (same_in_parentheses expression_text bare same_expression)

same_buffers : Same buffers_text (option_map bare)
same_buffers = same_optional (codes " BUFFERS") argument_text bare same_argument

same_operation : Same operation_text bare_operation
same_operation Plain = refl
same_operation (Add at e) = ap (λ (bytes : List ℕ). codes " ADD" ++ bytes) (same_argument e)
same_operation (Mul at e) = ap (λ (bytes : List ℕ). codes " MUL" ++ bytes) (same_argument e)
same_operation (Prefix at e) = ap (λ (bytes : List ℕ). codes " PREFIX" ++ bytes) (same_argument e)
same_operation (Stencil at e weights) = let width = same_expression e in let list = same_array weights in cc

-- ---- statements

same_declared_list : Same (listed declared_text) (map bare_declared)
same_declared_list = same_listed declared_text bare_declared same_declared

same_constants : Same (listed constant_text) (map bare_constant)
same_constants = same_listed constant_text bare_constant same_constant

same_said : (formats : List FormatTree) (onto : Option Spot) → formats_text (map bare_format formats) ++ onto_text (option_map bare_name onto) ≡ formats_text formats ++ onto_text onto
same_said formats onto = let list = same_formats formats in let name = same_onto onto in cc

same_with : (base : Spot) (subs : Option (List SubTree)) → with_text (bare_name base) (option_map (map bare_sub) subs) ≡ with_text base subs
same_with base subs = ap (λ (bytes : List ℕ). codes " WITH " ++ (name_text base ++ bytes)) (same_subs subs)

same_aligned : (before : List ℕ) (sources : Option (List SourceItem)) (base : Spot) (subs : Option (List SubTree)) → sources_text before (option_map (map bare_source) sources) ++ with_text (bare_name base) (option_map (map bare_sub) subs) ≡ sources_text before sources ++ with_text base subs
same_aligned before sources base subs = let list = same_sources before sources in let there = same_with base subs in cc

same_statement : Same statement_text bare_item
same_statement (ImplicitNone at) = refl
same_statement (Variables common names) =
    let before = same_before common in let list = same_declared_list names in cc
same_statement (Constants common names) =
    let dimension = same_dimension common in let list = same_constants names in cc
same_statement (Processors names) = ap (λ (bytes : List ℕ). codes "!HPF$ PROCESSORS " ++ bytes) (same_declared_list names)
same_statement (Template names) = ap (λ (bytes : List ℕ). codes "!HPF$ TEMPLATE " ++ bytes) (same_declared_list names)
same_statement (Distribute names formats onto) =
    let said : List ℕ = formats_text formats ++ onto_text onto in
    let bare_said : List ℕ = formats_text (map bare_format formats) ++ onto_text (option_map bare_name onto) in
    ap (λ (bytes : List ℕ). codes "!HPF$ DISTRIBUTE" ++ bytes)
    (same_of_names names bare_said said (codes " " ++ bare_said) (codes " " ++ said) (same_said formats onto) (ap (λ (bytes : List ℕ). codes " " ++ bytes) (same_said formats onto)))
same_statement (Align names sources base subs) =
    ap (λ (bytes : List ℕ). codes "!HPF$ ALIGN" ++ bytes)
    (same_of_names names
    (sources_text (codes "") (option_map (map bare_source) sources) ++ with_text (bare_name base) (option_map (map bare_sub) subs)) (sources_text (codes "") sources ++ with_text base subs)
    (sources_text (codes " ") (option_map (map bare_source) sources) ++ with_text (bare_name base) (option_map (map bare_sub) subs)) (sources_text (codes " ") sources ++ with_text base subs)
    (same_aligned (codes "") sources base subs) (same_aligned (codes " ") sources base subs))
same_statement (Shadow names widths) =
    ap (λ (bytes : List ℕ). codes "!HPF$ SHADOW" ++ bytes)
    (same_of_names names (widths_text (map bare_width widths)) (widths_text widths) (codes " " ++ widths_text (map bare_width widths)) (codes " " ++ widths_text widths)
    (same_widths widths) (ap (λ (bytes : List ℕ). codes " " ++ bytes) (same_widths widths)))
same_statement (Input at name buffers op) =
    let count = same_buffers buffers in let what = same_operation op in cc
same_statement (Stage at name permute buffers op) =
    let order = same_permute permute in let count = same_buffers buffers in let what = same_operation op in cc

pub same_line : (item : ItemTree) → line_text (bare_item item) ≡ line_text item
same_line item = ap (λ (bytes : List ℕ). bytes ++ codes "\n") (same_statement item)

-- ---- texts

same_lines : (xs : List ItemTree) → flat_map line_text (map bare_item xs) ≡ flat_map line_text xs
same_lines [] = refl
same_lines (x ∷ xs) =
    ap (λ (bytes : List ℕ). bytes ++ flat_map line_text (map bare_item xs)) (same_line x) ∙ ap (λ (bytes : List ℕ). line_text x ++ bytes) (same_lines xs)

pub canonical_bare : (xs : List ItemTree) → canonical (map bare_item xs) ≡ canonical xs
unfolding canonical
canonical_bare xs = same_lines xs

pub alike_text : (xs ys : List ItemTree) → AreAlike xs ys → canonical xs ≡ canonical ys
alike_text xs ys alike = sym (canonical_bare xs) ∙ ap canonical alike ∙ canonical_bare ys
