-- Which of several refusals of a text is the one that is told: the least by line, then column, then code (this project
-- defines it).
use Rattle.std.specs.Prelude.{Bool, ◌&&◌, ◌||◌, nat_lt, ◌==◌, if◌then◌else◌, List, [], ◌∷◌, Option, Some, None}
use Rattle.hpf_lex.specs.declared.refusal.MapRefusal.{MapRefusal}

-- an earlier line, or an earlier column of one line
abbrev pub stands_before : MapRefusal → MapRefusal → Bool
stands_before f g = nat_lt f.line g.line || ((f.line == g.line) && nat_lt f.column g.column)

-- one place
abbrev pub stands_with : MapRefusal → MapRefusal → Bool
stands_with f g = (f.line == g.line) && (f.column == g.column)

-- an earlier place, or a lesser code at one place
abbrev pub comes_before : MapRefusal → MapRefusal → Bool
comes_before f g = stands_before f g || (stands_with f g && nat_lt f.code g.code)

-- the one of two refusals that comes first
abbrev pub least_of : MapRefusal → Option MapRefusal → MapRefusal
least_of f None = f
least_of f (Some g) = if comes_before g f then g else f

-- the refusal that comes first
abbrev pub least : List MapRefusal → Option MapRefusal
least [] = None
least (f ∷ others) = Some (least_of f (least others))
