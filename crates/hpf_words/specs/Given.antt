-- What is given on a command line besides the action and the map, as `clap` has it.
use Rattle.std.specs.Prelude.{◌≡◌, ◌≤◌, ℕ, List, map, Option, Some, codes, option_map}
use Rattle.std.specs.Char.{to_ascii_uppercase}
use Rattle.std.specs.Str.Parse.{IsNumeral, digits_value, without_leading_plus}
use Rattle.clap.specs.Words.{Row, Text, first_of, one_of, one_text}
use Rattle.clap.specs.declared.parser.matches.Found.{Found}
use Rattle.hpf_words.specs.declared.given.Given.{Given}

-- the number that a text says, in decimal digits behind an optional plus
abbrev pub said_by : Text → ℕ
said_by text = digits_value 10 (without_leading_plus text)

-- the number of an option, where it is there
abbrev pub number_of : Text → List Row → Option ℕ
number_of option rows = option_map said_by (one_of option rows)

-- what is given: the name of an array, with letters in upper case, and the numbers of the options
abbrev pub given_of : List Row → Given
given_of rows = record {
  name = option_map (map to_ascii_uppercase) (first_of (codes "NAME") rows);
  processor = number_of (codes "proc") rows;
  stage = number_of (codes "stage") rows;
  frames = number_of (codes "frames") rows;
  seed = number_of (codes "seed") rows;
  workers = number_of (codes "workers") rows;
}

-- The text says a number from one to another.
pub record Says (least most : ℕ) (text : Text) : Type 0 where
  pub numeral : IsNumeral 10 (without_leading_plus text)
  pub low : least ≤ said_by text
  pub high : said_by text ≤ most

-- The option says such a number where it is there.
abbrev pub SaysIn : Found → Text → ℕ → ℕ → Type 0
SaysIn found option least most = (text : Text) → one_text found option ≡ Some text → Says least most text

-- a number of 32 bits
abbrev pub IsNumber : Found → Text → Type 0
IsNumber found option = SaysIn found option 0 4294967295

-- Each option that is there says a number in its range.
pub record HasNumbers (found : Found) : Type 0 where
  pub processor : SaysIn found (codes "proc") 0 63
  pub stage : SaysIn found (codes "stage") 0 15
  pub frames : SaysIn found (codes "frames") 0 4294967295
  pub seed : SaysIn found (codes "seed") 0 4294967295
  pub workers : SaysIn found (codes "workers") 1 64
