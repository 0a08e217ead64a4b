-- The breach that comes first of those that were found (by line, column and code).
use Rattle.std.specs.Prelude.{List, ◌++◌, Option, option_to_list}
use Rattle.hpf_lex.specs.declared.refusal.MapRefusal.{MapRefusal}
use Rattle.hpf_lex.specs.Order.{least}

-- the one that comes first of an earlier one, if there is one, and these
unfoldable pub least_with : Option MapRefusal → List MapRefusal → Option MapRefusal
least_with earlier found = least (option_to_list earlier ++ found)
