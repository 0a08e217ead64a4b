-- What the subscripts of an ALIGN say, and the breaches in them by themselves.
use Rattle.std.specs.Prelude.{ℕ, List, [], ◌∷◌, ◌++◌, map, Bool, true, false, Option, Some, None, option_map, option_and_then, if◌then◌else◌, is_none, ℤ}
use Rattle.std.specs.List.{flat_map}
use Rattle.hpf_lex.specs.declared.refusal.MapRefusal.{MapRefusal}
use Rattle.hpf_syntax.specs.declared.tree.SourceItem.{SourceItem}
use Rattle.hpf_syntax.specs.Plain.{Tree, SubTree, AnyPlace, OnePlace, Triplet, ItemTree, Align}
use Rattle.hpf_map.specs.declared.subscript.Linear.{Linear}
use Rattle.hpf_map.specs.declared.name.Name.{Name}
use Rattle.hpf_map.specs.declared.subscript.Subscript.{Subscript}
use Rattle.hpf_map.specs.declared.subscript.Subscript.TheVariants as subscript
use Rattle.hpf_map.specs.Declarations.{threaded, names_after}
use Rattle.hpf_map.specs.Dummies.{source_breaches, subscript_dummy_breaches}
use Rattle.hpf_map.specs.Gathered.{all_of}
use Rattle.hpf_map.specs.Linear.{form, form_breaches}
use Rattle.hpf_map.specs.Uses.{dummies}

-- a form without a dummy
abbrev pub constant_of : Linear → Option ℤ
constant_of f = if is_none f.dummy then Some f.constant else None

-- the subscript that a form is
abbrev pub linear_subscript : Linear → Subscript
linear_subscript f = subscript.Linear f.dummy f.coefficient f.constant

-- the triplet of these parts, where each is free
abbrev pub triplet_of : Option (Option ℤ) → Option (Option ℤ) → Option (Option ℤ) → Option Subscript
triplet_of None high step = None
triplet_of (Some low) None step = None
triplet_of (Some low) (Some high) None = None
triplet_of (Some low) (Some high) (Some step) = Some (subscript.Triplet low high step)

module _ (before : List Name) (hides : List ℕ → Bool) where
  -- A part of a triplet: none where it isn't free, and else what it says, which is none where it isn't written.
  abbrev pub part : Option Tree → Option (Option ℤ)
  part None = Some None
  part (Some e) = option_map Some (option_and_then constant_of (form before hides e))

  -- what a subscript says, where it is free
  unfoldable pub subscript_of : SubTree → Option Subscript
  subscript_of (AnyPlace at) = Some subscript.Any
  subscript_of (OnePlace e) = option_map linear_subscript (form before hides e)
  subscript_of (Triplet at low high step) = triplet_of (part low) (part high) (part step)

  abbrev pub maybe_form_breaches : Option Tree → List MapRefusal
  maybe_form_breaches None = []
  maybe_form_breaches (Some e) = form_breaches before hides e

  -- the operators in a subscript at which a form leaves the range
  unfoldable pub subscript_form_breaches : SubTree → List MapRefusal
  subscript_form_breaches (AnyPlace at) = []
  subscript_form_breaches (OnePlace e) = form_breaches before hides e
  subscript_form_breaches (Triplet at low high step) =
      maybe_form_breaches low ++ maybe_form_breaches high ++ maybe_form_breaches step

abbrev pub is_empty : {A : Type 0} → List A → Bool
is_empty [] = true
is_empty (x ∷ xs) = false

module _ (hides : List ℕ → Bool) where
  -- all breaches of dummies in an ALIGN
  abbrev pub dummy_breaches : Option (List SourceItem) → Option (List SubTree) → List MapRefusal
  dummy_breaches sources subs = source_breaches sources ++ subscript_dummy_breaches hides subs

module _ (before : List Name) (hides : List ℕ → Bool) where
  abbrev pub said : Option (List SubTree) → Option (List Subscript)
  said None = Some []
  said (Some subs) = all_of (map (subscript_of before hides) subs)

  -- What the subscripts of an ALIGN say, where each is free and no dummy has a breach. Nothing where none are written.
  unfoldable pub subscripts_of : Option (List SourceItem) → Option (List SubTree) → Option (List Subscript)
  subscripts_of sources subs = if is_empty (dummy_breaches hides sources subs) then said subs else None

  abbrev pub forms_breaches : Option (List SubTree) → List MapRefusal
  forms_breaches None = []
  forms_breaches (Some subs) = flat_map (subscript_form_breaches before hides) subs

module _ (before : List Name) where
  -- what the subscripts of a statement say; nothing of one that isn't an ALIGN
  abbrev pub statement_subscripts : ItemTree → Option (List Subscript)
  statement_subscripts (Align alignees sources base subs) = subscripts_of before (dummies sources) sources subs
  statement_subscripts item = None

-- the same of each statement, behind the names that are declared before it
unfoldable pub all_subscripts : List ItemTree → List (Option (List Subscript))
all_subscripts items = threaded names_after (λ before item. statement_subscripts before item ∷ []) [] items
