-- Where the dummies of an ALIGN stand (High Performance Fortran 2.0, Data Mapping, ALIGN: an align dummy stands once among
-- the sources and in one subscript at most, there once).
use Rattle.std.specs.Prelude.{ℕ, List, [], ◌∷◌, ◌++◌, drop, Bool, Option, Some, None, if◌then◌else◌}
use Rattle.std.specs.List.{flat_map, list_any}
use Rattle.std.specs.Ordering.{nat_cmp, is_eq}
use Rattle.std.specs.Cmp.Lexicographic.{slice_cmp}
use Rattle.hpf_lex.specs.declared.refusal.MapRefusal.{MapRefusal}
use Rattle.hpf_syntax.specs.declared.tree.At.{At}
use Rattle.hpf_syntax.specs.declared.tree.Spot.{Spot}
use Rattle.hpf_syntax.specs.declared.tree.SourceItem.{SourceItem}
use Rattle.hpf_syntax.specs.declared.tree.SourceItem.TheVariants as source
use Rattle.hpf_syntax.specs.Plain.{Tree, Number, Name, Neg, Plus, Minus, Times, SubTree, AnyPlace, OnePlace, Triplet}
use Rattle.hpf_map.specs.declared.constraint.Constraint.TheVariants.{DummyTwice, NotLinear}
use Rattle.hpf_map.specs.Constraint.{breach_if, breaches_at}
use Rattle.hpf_map.specs.Declarations.{threaded}

-- the dummy of a source, if it is one
abbrev pub source_dummy : SourceItem → List Spot
source_dummy (source.Colon at) = []
source_dummy (source.Star at) = []
source_dummy (source.Dummy dummy) = dummy ∷ []

-- how many dummies a subscript may have
abbrev pub allowed_dummies : SubTree → ℕ
allowed_dummies (AnyPlace at) = 0
allowed_dummies (OnePlace e) = 1
allowed_dummies (Triplet at low high step) = 0

module _ (hides : List ℕ → Bool) where
  -- a name, where it is a dummy
  abbrev pub dummy_at : At → List ℕ → List Spot
  dummy_at at word = if hides word then record { word = word; at = at } ∷ [] else []

  -- the dummies in an expression, in the order of the text
  unfoldable pub dummies_in : Tree → List Spot
  dummies_in (Number at n) = []
  dummies_in (Name at word) = dummy_at at word
  dummies_in (Neg at e) = dummies_in e
  dummies_in (Plus at a b) = dummies_in a ++ dummies_in b
  dummies_in (Minus at a b) = dummies_in a ++ dummies_in b
  dummies_in (Times at a b) = dummies_in a ++ dummies_in b

  abbrev pub maybe_dummies_in : Option Tree → List Spot
  maybe_dummies_in None = []
  maybe_dummies_in (Some e) = dummies_in e

  -- the dummies in a subscript
  unfoldable pub subscript_dummies : SubTree → List Spot
  subscript_dummies (AnyPlace at) = []
  subscript_dummies (OnePlace e) = dummies_in e
  subscript_dummies (Triplet at low high step) = maybe_dummies_in low ++ maybe_dummies_in high ++ maybe_dummies_in step

  -- those that are too many: all but one of an expression, and all of a triplet
  unfoldable pub surplus_dummies : SubTree → List Spot
  surplus_dummies sub = drop (allowed_dummies sub) (subscript_dummies sub)

  abbrev pub linear_breaches : SubTree → List MapRefusal
  linear_breaches sub = breaches_at NotLinear (surplus_dummies sub)

-- whether a word is one of these
abbrev pub stands_among : List Spot → List ℕ → Bool
stands_among spots word = list_any (λ spot. is_eq (slice_cmp nat_cmp word spot.word)) spots

-- those that pass for seen already
abbrev pub seen_breaches : (List ℕ → Bool) → List Spot → List MapRefusal
seen_breaches is_seen spots = flat_map (λ spot. breach_if (is_seen spot.word) DummyTwice spot.at) spots

module _ {A : Type 0} (dummies : A → List Spot) where
  -- whether a word is a dummy of one of these
  abbrev pub stands_in : List A → List ℕ → Bool
  stands_in xs word = list_any (λ x. stands_among (dummies x) word) xs

  -- Each dummy stands in one of these at most. (Where it stands in a later one, the first time there comes first.)
  abbrev pub twice_breaches : List A → List MapRefusal
  twice_breaches xs = threaded (λ earlier x. earlier ++ x ∷ []) (λ earlier x. seen_breaches (stands_in earlier) (dummies x)) [] xs

abbrev pub source_breaches : Option (List SourceItem) → List MapRefusal
source_breaches None = []
source_breaches (Some sources) = twice_breaches source_dummy sources

-- all breaches of dummies in an ALIGN whose sources hide these words
abbrev pub subscript_dummy_breaches : (List ℕ → Bool) → Option (List SubTree) → List MapRefusal
subscript_dummy_breaches hides None = []
subscript_dummy_breaches hides (Some subs) =
    twice_breaches (subscript_dummies hides) subs ++ flat_map (linear_breaches hides) subs
