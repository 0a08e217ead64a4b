-- Which mapping texts are refused, and where.
use Rattle.std.specs.Prelude.{◌≡◌, List, ◌++◌, Option, Some, None, Result, Ok, Err, if◌then◌else◌}
use Rattle.std.specs.List.{flat_map}
use Rattle.hpf_lex.specs.declared.refusal.MapError.{MapError}
use Rattle.hpf_lex.specs.declared.refusal.MapError.TheVariants as answer
use Rattle.hpf_lex.specs.declared.refusal.MapRefusal.{MapRefusal}
use Rattle.hpf_lex.specs.Order.{least}
use Rattle.hpf_syntax.specs.Plain.{ItemTree}
use Rattle.hpf_map.specs.declared.program.Need.{Need}
use Rattle.hpf_map.specs.Alignments.{align_breaches}
use Rattle.hpf_map.specs.Built.{are_built, not_built}
use Rattle.hpf_map.specs.Dealing.{formats_breaches}
use Rattle.hpf_map.specs.Distributions.{distribute_breaches}
use Rattle.hpf_map.specs.Layers.{names_of, breaches_in}
use Rattle.hpf_map.specs.Paired.{each_with}
use Rattle.hpf_map.specs.Pipeline.{pipeline_breaches}
use Rattle.hpf_map.specs.Program.{PlainProgram, IsProgram}
use Rattle.hpf_map.specs.Shadows.{shadows_breaches}
use Rattle.hpf_map.specs.Stages.{stages_breaches}
use Rattle.hpf_map.specs.Subscripts.{all_subscripts}
use Rattle.hpf_map.specs.Ways.{ways_of, mapped_twice_breaches, first_uses, cycle_breaches}
use Rattle.hpf_map.specs.Widths.{all_widths}

-- all breaches in a text, for what is needed: in names, values, shapes, lists and widths, in alignments, in distributions and
-- their formats, of names that are mapped twice or on a cycle, in the lines of the pipeline, of names that are shadowed, and
-- of lines beside those in front of them
unfoldable pub all_breaches : Need → List ItemTree → List MapRefusal
all_breaches need items =
    breaches_in items
    ++ each_with (align_breaches (names_of items)) items (all_subscripts items)
    ++ flat_map (distribute_breaches (names_of items)) items
    ++ each_with (formats_breaches (names_of items)) items (all_widths items)
    ++ mapped_twice_breaches (names_of items) items
    ++ flat_map (cycle_breaches (ways_of (names_of items) items)) (first_uses (names_of items) items)
    ++ pipeline_breaches need (names_of items) items
    ++ shadows_breaches (names_of items) items
    ++ stages_breaches (names_of items) items

-- the refusal of a text: that it has a form that isn't built, or else the breach that comes first
unfoldable pub refusal : Need → List ItemTree → Option MapRefusal
refusal need items = if are_built items then least (all_breaches need items) else Some not_built

-- The result of resolving a text: the program of a text without a refusal, and else exactly its refusal, unless memory ran out.
abbrev pub Resolves : Result PlainProgram MapError → Need → List ItemTree → Type 0
Resolves (Ok program) need items = (refusal need items ≡ None) × IsProgram items program
Resolves (Err (answer.Refused r)) need items = refusal need items ≡ Some r
Resolves (Err (answer.Memory e)) need items = Unit {0}
