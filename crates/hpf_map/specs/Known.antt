-- The names that are declared at some point of a text: each once, as its first declaration makes it, in the order of the
-- text (High Performance Fortran 2.0, Data Mapping, and Fortran 90, scoping; this project limits their number).
use Rattle.std.specs.Prelude.{ℕ, List, [], ◌∷◌, ◌++◌, length, Bool, Option, is_some, ◌==◌, if◌then◌else◌}
use Rattle.std.specs.List.{find}
use Rattle.std.specs.Ordering.{nat_cmp, is_eq}
use Rattle.std.specs.Cmp.Lexicographic.{slice_cmp}
use Rattle.hpf_map.specs.declared.name.Name.{Name}

abbrev pub is_named : List ℕ → Name → Bool
is_named word name = is_eq (slice_cmp nat_cmp word name.word)

-- what is known of a word, if it is declared
unfoldable pub known : List Name → List ℕ → Option Name
known names word = find (is_named word) names

-- one more name, where it isn't declared yet
unfoldable pub declare : List Name → Name → List Name
declare names name = if is_some (known names name.word) then names else names ++ name ∷ []

abbrev pub max_names : ℕ
max_names = 1024

-- whether the next name is the first that is too many
abbrev pub is_full : List Name → Bool
is_full names = length names == max_names
