-- A breach of a constraint, at its place. This project defines the codes.
use Rattle.std.specs.Prelude.{ℕ, Bool, true, false, List, [], ◌∷◌}
use Rattle.std.specs.List.{flat_map}
use Rattle.hpf_lex.specs.declared.refusal.MapRefusal.{MapRefusal}
use Rattle.hpf_syntax.specs.declared.tree.At.{At}
use Rattle.hpf_syntax.specs.declared.tree.Spot.{Spot}
use Rattle.hpf_map.specs.declared.constraint.Constraint.{Constraint}
use Rattle.hpf_map.specs.declared.constraint.Constraint.TheVariants.{Twice, Unknown, Kind, Rank, Empty, Limit, BlockTooSmall, WidthZero, LengthCount, NegativeLength, LengthSum, PlaceCount, PlaceValue, NoArrangement, MappedTwice, DummyTwice, NotLinear, Unlike, Outside, Cycle, Shadow, Pipeline}

abbrev pub code_of : Constraint → ℕ
code_of Twice = 21
code_of Unknown = 22
code_of Kind = 23
code_of Rank = 24
code_of Empty = 25
code_of Limit = 26
code_of BlockTooSmall = 27
code_of WidthZero = 28
code_of LengthCount = 29
code_of NegativeLength = 30
code_of LengthSum = 31
code_of PlaceCount = 32
code_of PlaceValue = 33
code_of NoArrangement = 34
code_of MappedTwice = 35
code_of DummyTwice = 36
code_of NotLinear = 37
code_of Unlike = 38
code_of Outside = 39
code_of Cycle = 40
code_of Shadow = 41
code_of Pipeline = 42

-- the refusal of a text that breaks a constraint at this place
abbrev pub breach : Constraint → At → MapRefusal
breach constraint at = record { code = code_of constraint; line = at.line; column = at.column }

-- a breach where the constraint is broken, and none else
abbrev pub breach_if : Bool → Constraint → At → List MapRefusal
breach_if true constraint at = breach constraint at ∷ []
breach_if false constraint at = []

-- a breach at each of these names
abbrev pub breaches_at : Constraint → List Spot → List MapRefusal
breaches_at constraint spots = flat_map (λ spot. breach constraint spot.at ∷ []) spots
