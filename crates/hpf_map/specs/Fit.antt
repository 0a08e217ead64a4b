-- What holds of names and of the subscripts of an ALIGN where no statement has a breach.
use Rattle.std.specs.Prelude.{◌≡◌, ℕ, true, List, All, Option, Some, is_some, slice_get, IfSome, ℤ}
use Rattle.hpf_syntax.specs.declared.tree.SourceItem.{SourceItem}
use Rattle.hpf_map.specs.declared.name.Meaning.{Meaning}
use Rattle.hpf_map.specs.declared.name.Meaning.TheVariants as meaning
use Rattle.hpf_map.specs.declared.name.Name.{Name}
use Rattle.hpf_map.specs.declared.subscript.Subscript.{Subscript}
use Rattle.hpf_map.specs.declared.subscript.Subscript.TheVariants as subscript
use Rattle.hpf_map.specs.Sound.{IsInRange}
use Rattle.hpf_map.specs.Uses.{dummies}

-- what a name holds is there
abbrev pub IsWhole : Meaning → Type 0
IsWhole meaning.Scalar = Unit {0}
IsWhole (meaning.Shaped what dimensions) = is_some dimensions.shape ≡ true
IsWhole (meaning.Constant value) = is_some value ≡ true
IsWhole (meaning.List values) = is_some values ≡ true

-- a name without a breach
pub record IsFree (n : Name) : Type 0 where
  pub free : n.free ≡ true
  pub whole : IsWhole n.meaning

-- the numbers of a subscript are in range, and its dummy is one of these sources
abbrev pub IsFit : Option (List SourceItem) → Subscript → Type 0
IsFit sources subscript.Any = Unit {0}
IsFit sources (subscript.Linear dummy a b) = IsInRange a × IsInRange b × IfSome dummy (λ word. dummies sources word ≡ true)
IsFit sources (subscript.Triplet low high step) = IfSome low IsInRange × IfSome high IsInRange × IfSome step IsInRange

-- no word is the dummy of two subscripts
abbrev pub AreApart : List Subscript → Type 0
AreApart said = (e f : ℕ) (word : List ℕ) (a b c d : ℤ) → slice_get said e ≡ Some (subscript.Linear (Some word) a b)
    → slice_get said f ≡ Some (subscript.Linear (Some word) c d) → e ≡ f

-- subscripts of an ALIGN with these sources, without a breach
pub record AreFit (sources : Option (List SourceItem)) (said : List Subscript) : Type 0 where
  pub each : All (IsFit sources) said
  pub apart : AreApart said
