-- Uses of names: where nothing declares a name, and where it is declared as something else (High Performance Fortran 2.0,
-- Data Mapping, DISTRIBUTE, ALIGN and PROCESSORS; Fortran 90, initialization expressions).
use Rattle.std.specs.Prelude.{ℕ, List, [], ◌∷◌, ◌++◌, Bool, true, false, not, ◌&&◌, Option, Some, None, if◌then◌else◌}
use Rattle.std.specs.List.{flat_map, list_any}
use Rattle.std.specs.Ordering.{nat_cmp, is_eq}
use Rattle.std.specs.Cmp.Lexicographic.{slice_cmp}
use Rattle.hpf_lex.specs.declared.refusal.MapRefusal.{MapRefusal}
use Rattle.hpf_syntax.specs.declared.tree.At.{At}
use Rattle.hpf_syntax.specs.declared.tree.Spot.{Spot}
use Rattle.hpf_syntax.specs.declared.tree.SourceItem.{SourceItem}
use Rattle.hpf_syntax.specs.declared.tree.SourceItem.TheVariants as source
use Rattle.hpf_syntax.specs.Plain.{Tree, Number, Name, Neg, Plus, Minus, Times, SubTree, AnyPlace, OnePlace, Triplet, FormatTree, GenBlock, Indirect, ItemTree, Distribute, Align, Shadow, Input, Stage}
use Rattle.hpf_map.specs.declared.constraint.Constraint.TheVariants.{Unknown, Kind}
use Rattle.hpf_map.specs.declared.name.Meaning.{Meaning}
use Rattle.hpf_map.specs.declared.name.Meaning.TheVariants as meaning
use Rattle.hpf_map.specs.declared.name.Name as name
use Rattle.hpf_map.specs.declared.name.Space.TheVariants as space
use Rattle.hpf_map.specs.declared.role.Role.{Role}
use Rattle.hpf_map.specs.declared.role.Role.TheVariants as role
use Rattle.hpf_map.specs.Constraint.{breach, breach_if}
use Rattle.hpf_map.specs.Known.{known}

-- whether a name with this meaning is what the role asks for
abbrev pub suits : Role → Meaning → Bool
suits role.Value (meaning.Constant value) = true
suits role.List (meaning.List values) = true
suits role.Array (meaning.Shaped space.Array dimensions) = true
suits role.Mapped (meaning.Shaped space.Array dimensions) = true
suits role.Mapped (meaning.Shaped space.Template dimensions) = true
suits role.Target (meaning.Shaped space.Arrangement dimensions) = true
suits role what = false

-- A use of a word of which this is known. A name that isn't free is tested no further.
unfoldable pub use_breaches : Role → At → Option name.Name → List MapRefusal
use_breaches role at None = breach Unknown at ∷ []
use_breaches role at (Some name) = breach_if (name.free && not (suits role name.meaning)) Kind at

-- ---- in expressions, where these names are declared before

module _ (before : List name.Name) where
  -- the names in an expression, but for those that are hidden
  unfoldable pub name_breaches : (List ℕ → Bool) → Tree → List MapRefusal
  name_breaches hides (Number at n) = []
  name_breaches hides (Name at word) = if hides word then [] else use_breaches role.Value at (known before word)
  name_breaches hides (Neg at e) = name_breaches hides e
  name_breaches hides (Plus at a b) = name_breaches hides a ++ name_breaches hides b
  name_breaches hides (Minus at a b) = name_breaches hides a ++ name_breaches hides b
  name_breaches hides (Times at a b) = name_breaches hides a ++ name_breaches hides b

  -- the same, if there is an expression
  abbrev pub maybe_name_breaches : (List ℕ → Bool) → Option Tree → List MapRefusal
  maybe_name_breaches hides None = []
  maybe_name_breaches hides (Some e) = name_breaches hides e

  -- a subscript of ALIGN
  abbrev pub subscript_breaches : (List ℕ → Bool) → SubTree → List MapRefusal
  subscript_breaches hides (AnyPlace at) = []
  subscript_breaches hides (OnePlace e) = name_breaches hides e
  subscript_breaches hides (Triplet at low high step) =
      maybe_name_breaches hides low ++ maybe_name_breaches hides high ++ maybe_name_breaches hides step

-- no name is hidden
abbrev pub nothing_hidden : List ℕ → Bool
nothing_hidden word = false

-- A dummy of ALIGN hides a declared name in the subscripts of its directive.
abbrev pub is_dummy : List ℕ → SourceItem → Bool
is_dummy word (source.Colon at) = false
is_dummy word (source.Star at) = false
is_dummy word (source.Dummy dummy) = is_eq (slice_cmp nat_cmp word dummy.word)

-- whether a word is a dummy of a directive with these sources
abbrev pub dummies : Option (List SourceItem) → List ℕ → Bool
dummies None word = false
dummies (Some sources) word = list_any (is_dummy word) sources

-- ---- in directives, where these names are declared anywhere

module _ (names : List name.Name) where
  -- a use of a name where it stands
  abbrev pub spot_breaches : Role → Spot → List MapRefusal
  spot_breaches role spot = use_breaches role spot.at (known names spot.word)

  -- the name in ONTO, if there is one
  abbrev pub onto_breaches : Option Spot → List MapRefusal
  onto_breaches None = []
  onto_breaches (Some target) = spot_breaches role.Target target

  -- the name in GEN_BLOCK and INDIRECT
  abbrev pub format_name_breaches : FormatTree → List MapRefusal
  format_name_breaches (GenBlock at lengths) = spot_breaches role.List lengths
  format_name_breaches (Indirect at places) = spot_breaches role.List places
  format_name_breaches format = []

  -- all names of a statement that stand in no expression
  abbrev pub item_use_breaches : ItemTree → List MapRefusal
  item_use_breaches (Distribute distributees formats onto) =
      flat_map (spot_breaches role.Mapped) distributees ++ flat_map format_name_breaches formats ++ onto_breaches onto
  item_use_breaches (Align alignees sources base subs) = flat_map (spot_breaches role.Array) alignees ++ spot_breaches role.Mapped base
  item_use_breaches (Shadow shadowed widths) = flat_map (spot_breaches role.Mapped) shadowed
  item_use_breaches (Input at array buffers op) = spot_breaches role.Array array
  item_use_breaches (Stage at array permute buffers op) = spot_breaches role.Array array
  item_use_breaches item = []
