-- What holds of all names that statements declare: constants are in range, and shapes are as their kinds allow.
use Rattle.std.specs.Prelude.{ℕ, ◌≡◌, ◌≤◌, List, length, All, IfSome, true, false, ℤ}
use Rattle.hpf_map.specs.declared.name.Meaning.{Meaning}
use Rattle.hpf_map.specs.declared.name.Meaning.TheVariants as meaning
use Rattle.hpf_map.specs.declared.name.Name.{Name}
use Rattle.hpf_map.specs.declared.name.Space.{Space}
use Rattle.hpf_map.specs.declared.name.Span.{Span}
use Rattle.hpf_map.specs.Alignments.{Ordered}
use Rattle.hpf_map.specs.Composed.{IsSound, AreSound}
use Rattle.hpf_map.specs.Shapes.{extent, extent_limit, max_bounds, is_too_large}
use Rattle.hpf_map.specs.Values.{in_range}

-- bounds that this limit allows
pub record IsSoundSpan (limit : ℕ) (s : Span) : Type 0 where
  pub sound : IsSound s
  pub extent : extent s ≤ limit

-- a shape of so many bounds, which the kind of its name allows
pub record IsSoundShape (what : Space) (count : ℕ) (spans : List Span) : Type 0 where
  pub size : length spans ≡ count
  pub some : 1 ≤ count
  pub few : count ≤ max_bounds
  pub each : All (IsSoundSpan (extent_limit what)) spans
  pub fits : is_too_large what spans ≡ false

abbrev pub IsInRange : ℤ → Type 0
IsInRange v = in_range v ≡ true

abbrev pub IsSoundMeaning : Meaning → Type 0
IsSoundMeaning meaning.Scalar = Unit {0}
IsSoundMeaning (meaning.Shaped what dimensions) = IfSome dimensions.shape (IsSoundShape what dimensions.count)
IsSoundMeaning (meaning.Constant value) = IfSome value IsInRange
IsSoundMeaning (meaning.List values) = Unit {0}

abbrev pub AreSoundNames : List Name → Type 0
AreSoundNames names = All (λ n. IsSoundMeaning n.meaning) names

-- what a shape has of that, whatever its kind
pub record AreGood (spans : List Span) : Type 0 where
  pub some : 1 ≤ length spans
  pub few : length spans ≤ max_bounds
  pub sound : AreSound spans
  pub ordered : Ordered spans
