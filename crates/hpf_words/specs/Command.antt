-- The one command whose words are read, as `clap` speaks of it. This project defines it.
use Rattle.std.specs.Prelude.{◌≡◌, ℕ, List, [], pos, true, Some, codes}
use Rattle.clap.specs.Words.{App, Row, Rule, Text, matches_of, new_app, new_rule, with_rule, fault_of}
use Rattle.clap.specs.declared.builder.value_parser.ValueParser.{ValueParser}
use Rattle.clap.specs.declared.builder.value_parser.ValueParser.TheVariants as values

-- a positional that has to be there
abbrev pub required_rule : Text → Rule
required_rule name = record (new_rule name) { required = true }

-- an option `--name` that takes a value of this kind
abbrev pub number_rule : Text → ValueParser → Rule
number_rule name taken = record (new_rule name) { long = Some name; parser = Some taken }

-- the numbers from one to another, as `clap` reads them
abbrev pub numbers : ℕ → ℕ → ValueParser
numbers least most = values.Signed (pos least) (pos most)

-- the command: two positionals that have to be there, one that may be, and five options; nothing has a default
abbrev pub hpfturn : App
hpfturn =
    with_rule (with_rule (with_rule (with_rule (with_rule
    (with_rule (with_rule (with_rule (new_app (codes "hpfturn"))
    (required_rule (codes "ACTION")))
    (required_rule (codes "MAP")))
    (new_rule (codes "NAME")))
    (number_rule (codes "workers") (numbers 1 64)))
    (number_rule (codes "stage") (numbers 0 15)))
    (number_rule (codes "proc") (numbers 0 63)))
    (number_rule (codes "seed") (numbers 0 4294967295)))
    (number_rule (codes "frames") (numbers 0 4294967295))

-- The words are taken: no step of `clap`'s parse of them fails for this command.
unfoldable pub AreTaken : List Text → Type 0
AreTaken words = fault_of hpfturn words ≡ []

-- what `clap` finds in words that it takes: for each argument that is there its values
unfoldable pub found_in : List Text → List Row
found_in words = matches_of hpfturn words
