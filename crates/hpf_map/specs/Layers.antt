-- What a text declares, and which of its names, values, shapes, lists and widths break a constraint.
use Rattle.std.specs.Prelude.{◌≡◌, List, [], ◌++◌, Option, Some, None, Result, Ok, Err, fold}
use Rattle.std.specs.List.{flat_map}
use Rattle.hpf_lex.specs.declared.refusal.MapRefusal.{MapRefusal}
use Rattle.hpf_lex.specs.declared.refusal.MapError.{MapError}
use Rattle.hpf_lex.specs.declared.refusal.MapError.TheVariants as answer
use Rattle.hpf_lex.specs.Order.{least}
use Rattle.hpf_syntax.specs.Plain.{ItemTree}
use Rattle.hpf_map.specs.declared.name.Name.{Name}
use Rattle.hpf_map.specs.Declarations.{threaded, names_after, declaration_breaches}
use Rattle.hpf_map.specs.Expressions.{directive_breaches}
use Rattle.hpf_map.specs.Uses.{item_use_breaches}

-- all names that the statements declare
unfoldable pub names_of : List ItemTree → List Name
names_of items = fold names_after [] items

-- the breaches in a statement that speak of what is declared before
unfoldable pub ordered_breaches : List Name → ItemTree → List MapRefusal
ordered_breaches before item = directive_breaches before item ++ declaration_breaches before item

-- all breaches in names, values, shapes, lists and widths
unfoldable pub breaches_in : List ItemTree → List MapRefusal
breaches_in items = threaded names_after ordered_breaches [] items ++ flat_map (item_use_breaches (names_of items)) items

-- the names of a text without a breach, or the breach that comes first
abbrev pub judged : List ItemTree → Result (List Name) MapRefusal
judged items = judge (least (breaches_in items)) where
  judge : Option MapRefusal → Result (List Name) MapRefusal
  judge None = Ok (names_of items)
  judge (Some first) = Err first

-- the result is that judgement, unless memory ran out
abbrev pub Judges : Result (List Name) MapError → Result (List Name) MapRefusal → Type 0
Judges (Ok names) judgement = judgement ≡ Ok names
Judges (Err (answer.Refused r)) judgement = judgement ≡ Err r
Judges (Err (answer.Memory e)) judgement = Unit {0}
