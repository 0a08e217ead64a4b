-- What the program's own structs stand for.
use Rattle.hpf_lex.specs.declared.line.LinePart.{LinePart}
use Rattle.hpf_lex.specs.Line.{Part}

-- a part without where its bytes lie in memory
abbrev pub part_view : LinePart → Part
part_view p = record { form = p.form; line = p.line; start = p.start; column = p.column; text = p.text.now }
