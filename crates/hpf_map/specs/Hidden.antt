-- The words of dummies, as a set.
use Rattle.std.specs.Prelude.{ℕ, List, Bool, false, Option, Some, None}
use Rattle.std.specs.BTreeSet.{BTreeSet, contains}
use Rattle.std.specs.Ordering.{nat_cmp}
use Rattle.std.specs.Cmp.Lexicographic.{slice_cmp}

-- whether a word is among them, if there are any
abbrev pub hides : Option (BTreeSet (List ℕ)) → List ℕ → Bool
hides None word = false
hides (Some words) word = contains (slice_cmp nat_cmp) words word
