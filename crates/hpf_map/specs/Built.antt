-- The forms of statements that are built. This project builds the others later.
use Rattle.std.specs.Prelude.{List, Bool, true, false}
use Rattle.std.specs.List.{list_all}
use Rattle.hpf_lex.specs.declared.refusal.MapRefusal.{MapRefusal}
use Rattle.hpf_syntax.specs.Plain.{OpTree, Plain, Add, Mul, Prefix, Stencil, ItemTree, ImplicitNone, Variables, Constants, Processors, Template, Distribute, Align, Shadow, Input, Stage}

abbrev pub is_plain : OpTree → Bool
is_plain Plain = true
is_plain (Add at e) = false
is_plain (Mul at e) = false
is_plain (Prefix at e) = false
is_plain (Stencil at e weights) = false

-- no operation
abbrev pub is_built : ItemTree → Bool
is_built (ImplicitNone at) = true
is_built (Variables common names) = true
is_built (Constants common names) = true
is_built (Processors names) = true
is_built (Template names) = true
is_built (Distribute names formats onto) = true
is_built (Align names sources base subs) = true
is_built (Shadow names widths) = true
is_built (Input at name buffers op) = is_plain op
is_built (Stage at name permute buffers op) = is_plain op

abbrev pub are_built : List ItemTree → Bool
are_built items = list_all is_built items

-- the refusal of a text with another form
abbrev pub not_built : MapRefusal
not_built = record { code = 9; line = 1; column = 1 }
