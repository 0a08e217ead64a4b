-- The words of the command line, as far as what they ask for is built.
use Rattle.std.specs.Prelude.{◌≡◌, ℕ, List, Option, Some, None, map, String, string_bytes}
use Rattle.hpf_words.specs.declared.asked.Asked.{Asked}
use Rattle.hpf_words.specs.declared.asked.Asked.TheVariants as asked
use Rattle.hpf_words.specs.Words.{AsksFor}
use Rattle.hpf_request.specs.declared.words.Action.{Action}
use Rattle.hpf_request.specs.declared.words.Action.TheVariants as action

-- the bytes of each word
abbrev pub spelled : {Y : Type 0} → List (String Y) → List (List ℕ)
spelled words = map string_bytes words

-- the action that is asked for, where it is built
abbrev pub built : Asked → Option Action
built asked.Check = Some action.Check
built asked.Show = Some action.Show
built (asked.Owners name) = Some (action.Owners name)
built (asked.Local name processor) = Some (action.Local name processor)
built (asked.Run workers) = Some action.Run
built (asked.Make frames seed) = Some (action.Make frames seed)
built _ = None

-- The words ask for this action, which is built, of the map of this name.
pub record Asks (words : List (List ℕ)) (action : Action) (map : List ℕ) : Type 0 where
  pub asked : Asked
  pub asks : AsksFor words asked map
  pub is_built : built asked ≡ Some action
