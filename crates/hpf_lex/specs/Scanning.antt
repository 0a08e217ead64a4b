-- What the functions that go over a text's parts promise each other.
use Rattle.std.specs.Prelude.{◌≡◌, ◌+◌, if◌then◌else◌, List, [], ◌∷◌, ◌++◌, length, Option, Some, None, Result, Ok, Err}
use Rattle.hpf_lex.specs.declared.place.Place.{Place}
use Rattle.hpf_lex.specs.declared.refusal.Fault.TheVariants.{DanglingContinuation}
use Rattle.hpf_lex.specs.declared.refusal.MapRefusal.{MapRefusal}
use Rattle.hpf_lex.specs.declared.refusal.MapError.{MapError}
use Rattle.hpf_lex.specs.declared.refusal.MapError.TheVariants as errors
use Rattle.hpf_lex.specs.declared.scan.Pending.{Pending}
use Rattle.hpf_lex.specs.declared.token.Token.{Token}
use Rattle.hpf_lex.specs.Line.{Part}
use Rattle.hpf_lex.specs.Statement.{Mark, token, fault, refusal_at, place, first_marks, later_marks, same_form, ends_open, own_text, past_last, end_at}

-- what is read, behind tokens that were read before it
abbrev pub with_front : List Token → Result (List Token) MapRefusal → Result (List Token) MapRefusal
with_front front (Ok tokens) = Ok (front ++ tokens)
with_front front (Err f) = Err f

-- the tokens, if no fault stands among them, or else the first fault from the left
unfoldable pub read : List Mark → Result (List Token) MapRefusal
read [] = Ok []
read (token t width ∷ others) = with_front (t ∷ []) (read others)
read (fault f ∷ others) = Err f

-- the first fault among these marks, or want of memory
abbrev pub Fails : List Mark → MapError → Type 0
Fails marks (errors.Refused f) = read marks ≡ Err f
Fails marks (errors.Memory e) = Unit {0}

-- What a call that goes over these marks does to the tokens: it puts theirs behind the old ones, and its value is as
-- told, or it gives the first fault. It may run out of memory.
abbrev pub Pushes : {A : Type 0} → List Token → List Token → (A → Type 0) → List Mark → Result A MapError → Type 0
Pushes old new Tells marks (Ok x) = (with_front old (read marks) ≡ Ok new) × Tells x
Pushes old new Tells marks (Err e) = Fails marks e

-- the end of a part's statement, unless the part ends with `&`
abbrev pub closing_marks : Part → Place → List Mark
closing_marks part past = if ends_open part then [] else end_at past ∷ []

-- the statement that goes on behind a part, if the part ends with `&`
abbrev pub pending_behind : Part → Place → Option Pending
pending_behind part past =
    if ends_open part
    then Some (record { form = part.form; line = part.line; column = part.column + length (own_text part); past = past })
    else None

-- the fault that nothing continues it
abbrev pub dangling : Pending → Mark
dangling pending = fault (refusal_at DanglingContinuation pending.line pending.column)

-- what stands in a part, behind a statement that goes on, if one does
unfoldable pub inner_marks : Option Pending → Part → List Mark
inner_marks None part = first_marks part
inner_marks (Some pending) part = if same_form pending.form part.form then later_marks part else dangling pending ∷ first_marks part

-- the place past its last token
unfoldable pub past_inner : Option Pending → Part → Place
past_inner None part = past_last (place part.line part.start) (first_marks part)
past_inner (Some pending) part =
    if same_form pending.form part.form then past_last pending.past (later_marks part)
    else past_last (place part.line part.start) (first_marks part)

-- the same with the statement's end, where it ends there
unfoldable pub part_marks : Option Pending → Part → List Mark
part_marks pending part = inner_marks pending part ++ closing_marks part (past_inner pending part)

-- the statement that goes on behind a part
unfoldable pub pending_part : Option Pending → Part → Option Pending
pending_part pending part = pending_behind part (past_inner pending part)

-- the same of a line, which may have no part
unfoldable pub line_marks : Option Pending → Option Part → List Mark
line_marks pending None = []
line_marks pending (Some part) = part_marks pending part

unfoldable pub pending_line : Option Pending → Option Part → Option Pending
pending_line pending None = pending
pending_line pending (Some part) = pending_part pending part

-- a statement that goes on where no line is left
abbrev pub left_open : Option Pending → List Mark
left_open None = []
left_open (Some pending) = dangling pending ∷ []

-- all that stands in parts, behind a statement that goes on, if one does
unfoldable pub scan : Option Pending → List Part → List Mark
scan pending [] = left_open pending
scan pending (part ∷ others) = part_marks pending part ++ scan (pending_part pending part) others
