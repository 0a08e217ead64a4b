-- What statements declare, name by name (Fortran 90, INTEGER and PARAMETER; High Performance Fortran 2.0, Data Mapping,
-- PROCESSORS and TEMPLATE).
use Rattle.std.specs.Prelude.{ℕ, List, [], ◌∷◌, ◌++◌, length, Bool, not, ◌||◌, ◌==◌, Option, Some, None, is_some, if◌then◌else◌, fold}
use Rattle.std.specs.List.{list_any}
use Rattle.hpf_lex.specs.declared.refusal.MapRefusal.{MapRefusal}
use Rattle.hpf_syntax.specs.declared.tree.Spot.{Spot}
use Rattle.hpf_syntax.specs.Plain.{BoundTree, DeclaredTree, ConstantTree, ItemTree, Variables, Constants, Processors, Template}
use Rattle.hpf_map.specs.declared.constraint.Constraint.TheVariants.{Twice, Rank, Limit}
use Rattle.hpf_map.specs.declared.name.Dimensions.{Dimensions}
use Rattle.hpf_map.specs.declared.name.Meaning.{Meaning}
use Rattle.hpf_map.specs.declared.name.Meaning.TheVariants.{Scalar, Shaped}
use Rattle.hpf_map.specs.declared.name.Name.{Name}
use Rattle.hpf_map.specs.declared.name.Space.{Space}
use Rattle.hpf_map.specs.declared.name.Space.TheVariants as space
use Rattle.hpf_map.specs.declared.name.Span.{Span}
use Rattle.hpf_map.specs.Constraint.{breach, breach_if}
use Rattle.hpf_map.specs.Known.{known, declare, is_full}
use Rattle.hpf_map.specs.Shapes.{shape, shape_breaches, extent_limit, max_extent, is_oversized}
use Rattle.hpf_map.specs.Constants.{given_of, value_breaches, breaks_rank, constant_meaning}

-- What each of a list gives, where each changes what the next stands behind.
abbrev pub threaded : {S A B : Type 0} → (S → A → S) → (S → A → List B) → S → List A → List B
threaded next give s [] = []
threaded next give s (x ∷ xs) = give s x ++ threaded next give (next s x) xs

-- a name that is declared already, or that is the first too many
unfoldable pub naming_breaches : List Name → Spot → List MapRefusal
naming_breaches before name =
    if is_some (known before name.word) then breach Twice name.at ∷ [] else breach_if (is_full before) Limit name.at

-- what bounds give, behind these names
abbrev pub dimensions_of : ℕ → List Name → List BoundTree → Dimensions
dimensions_of limit before bounds = record { count = length bounds; shape = shape before limit bounds }

-- a name's own bounds take the place of the common ones
abbrev pub chosen : Dimensions → Dimensions → Dimensions
chosen common own = if own.count == 0 then common else own

-- ---- variables, templates and arrangements

-- a name with these bounds, or a scalar without any
abbrev pub meaning_with : Space → ℕ → Option (List Span) → Meaning
meaning_with what count bounds = if count == 0 then Scalar else Shaped what (record { count = count; shape = bounds })

-- it isn't free where it is the first too many or has too many elements, and then holds no shape
unfoldable pub shaped_name : Space → Dimensions → List Name → List ℕ → Name
shaped_name what bounds before word =
    let free = not (is_full before || is_oversized what bounds.shape) in
    record { word = word; free = free; meaning = meaning_with what bounds.count (if free then bounds.shape else None) }

-- Inside its own bounds a name is declared already, and holds no shape.
abbrev pub inside : Space → List Name → DeclaredTree → List Name
inside what before d =
    before ++ shaped_name what (record { count = length d.shape; shape = None }) before d.name.word ∷ []

abbrev pub own_dimensions : Space → List Name → DeclaredTree → Dimensions
own_dimensions what before d = dimensions_of (extent_limit what) (inside what before d) d.shape

module _ (what : Space) (common : Dimensions) where
  unfoldable pub declared_dimensions : List Name → DeclaredTree → Dimensions
  declared_dimensions before d = chosen common (own_dimensions what before d)

  -- the names after one is declared
  unfoldable pub with_declared : List Name → DeclaredTree → List Name
  with_declared before d = declare before (shaped_name what (declared_dimensions before d) before d.name.word)

  unfoldable pub declared_breaches : List Name → DeclaredTree → List MapRefusal
  declared_breaches before d =
      naming_breaches before d.name
      ++ shape_breaches (inside what before d) (extent_limit what) d.shape
      ++ breach_if (is_oversized what (declared_dimensions before d).shape) Limit d.name.at

-- ---- named constants, which aren't declared yet inside their own bounds and value

module _ (common : Dimensions) where
  abbrev pub constant_dimensions : List Name → ConstantTree → Dimensions
  constant_dimensions before d = chosen common (dimensions_of max_extent before d.shape)

  -- whether a constant's bounds and what it is given don't go together
  unfoldable pub has_wrong_rank : List Name → ConstantTree → Bool
  has_wrong_rank before d =
      breaks_rank (not ((constant_dimensions before d).count == 0)) (constant_dimensions before d).shape (given_of before d.value)

  -- A name that is the first too many, or whose rank is wrong, isn't free.
  unfoldable pub constant_name : List Name → ConstantTree → Name
  constant_name before d =
      let free = not (is_full before || has_wrong_rank before d) in
      record {
        word = d.name.word;
        free = free;
        meaning =
            constant_meaning (not ((constant_dimensions before d).count == 0)) free (constant_dimensions before d).shape
            (given_of before d.value);
      }

  unfoldable pub with_constant : List Name → ConstantTree → List Name
  with_constant before d = declare before (constant_name before d)

  unfoldable pub constant_breaches : List Name → ConstantTree → List MapRefusal
  constant_breaches before d =
      naming_breaches before d.name
      ++ shape_breaches before max_extent d.shape
      ++ value_breaches before d.value
      ++ breach_if (has_wrong_rank before d) Rank d.name.at

-- ---- statements

-- no common bounds
abbrev pub no_dimensions : Dimensions
no_dimensions = record { count = 0; shape = Some [] }

-- Common bounds are those of an array where some variable has none of its own
abbrev pub common_limit : List DeclaredTree → ℕ
common_limit names = if list_any (λ d. length d.shape == 0) names then extent_limit space.Array else max_extent

-- the names that are declared after a statement
unfoldable pub names_after : List Name → ItemTree → List Name
names_after before (Variables common names) =
    fold (with_declared space.Array (dimensions_of (common_limit names) before common)) before names
names_after before (Constants common names) = fold (with_constant (dimensions_of max_extent before common)) before names
names_after before (Processors names) = fold (with_declared space.Arrangement no_dimensions) before names
names_after before (Template names) = fold (with_declared space.Template no_dimensions) before names
names_after before item = before

-- the breaches in what a statement declares
module _ (before : List Name) where
  unfoldable pub declaration_breaches : ItemTree → List MapRefusal
  declaration_breaches (Variables common names) =
      let bounds = dimensions_of (common_limit names) before common in
      shape_breaches before (common_limit names) common
      ++ threaded (with_declared space.Array bounds) (declared_breaches space.Array bounds) before names
  declaration_breaches (Constants common names) =
      let bounds = dimensions_of max_extent before common in
      shape_breaches before max_extent common
      ++ threaded (with_constant bounds) (constant_breaches bounds) before names
  declaration_breaches (Processors names) =
      threaded (with_declared space.Arrangement no_dimensions) (declared_breaches space.Arrangement no_dimensions) before names
  declaration_breaches (Template names) =
      threaded (with_declared space.Template no_dimensions) (declared_breaches space.Template no_dimensions) before names
  declaration_breaches item = []
