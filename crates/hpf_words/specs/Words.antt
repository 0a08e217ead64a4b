-- The words of the command line.
use Rattle.std.specs.Prelude.{◌≡◌, List, Some, codes}
use Rattle.clap.specs.Words.{Row, Text, first_of}
use Rattle.hpf_words.specs.declared.asked.Asked.{Asked}
use Rattle.hpf_words.specs.Command.{AreTaken, found_in}
use Rattle.hpf_words.specs.Given.{given_of}
use Rattle.hpf_words.specs.Table.{spelling, IsMet}

-- What `clap` found is the word for the action, the name of the map, and besides what meets the row of the action.
pub record IsFound (rows : List Row) (asked : Asked) (map : Text) : Type 0 where
  pub action_is : first_of (codes "ACTION") rows ≡ Some (spelling asked)
  pub map_is : first_of (codes "MAP") rows ≡ Some map
  pub met : IsMet asked (given_of rows)

-- The words ask for this of the map of this name: they are taken, and it is found in them.
pub record AsksFor (words : List Text) (asked : Asked) (map : Text) : Type 0 where
  pub taken : AreTaken words
  pub found : IsFound (found_in words) asked map
