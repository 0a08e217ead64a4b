-- The stages of a run. Frames go through one stage so far: this project builds the others later.
use Rattle.std.specs.Prelude.{List, Bool, true, false, Option, Some, if◌then◌else◌}
use Rattle.std.specs.List.{list_any}
use Rattle.hpf_lex.specs.declared.refusal.MapRefusal.{MapRefusal}
use Rattle.hpf_map.specs.declared.program.Need.TheVariants.{Pipeline}
use Rattle.hpf_map.specs.Built.{not_built}
use Rattle.hpf_map.specs.Refusal.{refusal}
use Rattle.hpf_syntax.specs.Plain.{ItemTree, ImplicitNone, Variables, Constants, Processors, Template, Distribute, Align, Shadow, Input, Stage}

-- whether a statement is a STAGE line
abbrev pub is_stage : ItemTree → Bool
is_stage (ImplicitNone at) = false
is_stage (Variables common names) = false
is_stage (Constants common names) = false
is_stage (Processors names) = false
is_stage (Template names) = false
is_stage (Distribute names formats onto) = false
is_stage (Align names sources base subs) = false
is_stage (Shadow names widths) = false
is_stage (Input at name buffers op) = false
is_stage (Stage at name permute buffers op) = true

abbrev pub has_stage : List ItemTree → Bool
has_stage items = list_any is_stage items

-- the refusal of statements whose frames are to run: that they have a STAGE line, or else that of what they mean
abbrev pub run_refusal : List ItemTree → Option MapRefusal
run_refusal items = if has_stage items then Some not_built else refusal Pipeline items
