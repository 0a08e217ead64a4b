-- The statements of a mapping text, with the tokens and the faults of each (Fortran 90, free source form).
use Rattle.std.specs.Prelude.{ℕ, zero, suc, ◌+◌, ◌-◌, Bool, true, false, ◌&&◌, ◌==◌, if◌then◌else◌, List, [], ◌∷◌, ◌++◌, length, take, drop, Option, Some, None, Result, Ok, Err, slice_index}
use Rattle.std.specs.List.{flat_map}
use Rattle.hpf_lex.specs.declared.line.Form.{Form}
use Rattle.hpf_lex.specs.declared.line.Form.TheVariants.{Fortran, Directive, Pipeline}
use Rattle.hpf_lex.specs.declared.refusal.Fault.{Fault}
use Rattle.hpf_lex.specs.declared.refusal.Fault.TheVariants.{BadByte, BadNumber, NameTooLong, DanglingContinuation, TooLong}
use Rattle.hpf_lex.specs.declared.refusal.MapRefusal.{MapRefusal}
use Rattle.hpf_lex.specs.declared.place.Place.{Place}
use Rattle.hpf_lex.specs.declared.token.Token.{Token}
use Rattle.hpf_lex.specs.declared.token.TokenKind.{TokenKind}
use Rattle.hpf_lex.specs.declared.token.TokenKind.TheVariants as kind
use Rattle.hpf_lex.specs.declared.lexeme.Lexeme.{Lexeme}
use Rattle.hpf_lex.specs.Bytes.{is_blank}
use Rattle.hpf_lex.specs.Line.{Part, prefix_width, lines_of, parts_of}
use Rattle.hpf_lex.specs.Lexeme.{lexeme_at, covered}

-- the greatest length of a text (this project defines it)
abbrev pub max_text : ℕ
max_text = 1048576

-- the code numbers of the faults (this project defines them)
abbrev pub code_of : Fault → ℕ
code_of BadByte = 1
code_of BadNumber = 2
code_of NameTooLong = 3
code_of DanglingContinuation = 4
code_of TooLong = 5

-- a refusal for a fault, with its place
abbrev pub refusal_at : Fault → ℕ → ℕ → MapRefusal
refusal_at fault line column = record { code = code_of fault; line = line; column = column }

-- What stands at a place: a token, with the number of its bytes, or a fault.
pub data Mark : Type 0 where
  token : Token → ℕ → Mark
  fault : MapRefusal → Mark

-- a token that is no word and no number
abbrev pub bare_token : TokenKind → ℕ → ℕ → Token
bare_token kind line column = record { kind = kind; word = []; number = 0; line = line; column = column }

-- a token with its place
abbrev pub token_at : Lexeme → ℕ → ℕ → Token
token_at found line column = record { kind = found.kind; word = found.word; number = found.number; line = line; column = column }

-- what was found at a place
abbrev pub mark_at : ℕ → ℕ → Result Lexeme Fault → Mark
mark_at line column (Ok found) = token (token_at found line column) found.width
mark_at line column (Err f) = fault (refusal_at f line column)

-- what begins in this column, at the first of these bytes: nothing if it is blank
abbrev pub mark_here : ℕ → ℕ → List ℕ → List Mark
mark_here line column bytes = if is_blank (slice_index bytes 0) then [] else mark_at line column (lexeme_at bytes) ∷ []

-- how many of the bytes behind the first belong to it
abbrev pub covered_behind : List ℕ → ℕ
covered_behind bytes = if is_blank (slice_index bytes 0) then 0 else covered bytes (lexeme_at bytes) - 1

-- The tokens and the faults of bytes of one line, from left to right, the first byte being in this column. The first
-- `taken` bytes belong to the token before them.
unfoldable pub marks : ℕ → ℕ → ℕ → List ℕ → List Mark
marks line column taken [] = []
marks line column (suc taken) (c ∷ bytes) = marks line (column + 1) taken bytes
marks line column zero (c ∷ bytes) =
    mark_here line column (c ∷ bytes) ++ marks line (column + 1) (covered_behind (c ∷ bytes)) bytes

-- a part that ends with `&` (38), so that its statement goes on
unfoldable pub ends_open : Part → Bool
ends_open part = slice_index part.text (length part.text - 1) == 38

-- a part's text without the `&` that ends it
abbrev pub own_text : Part → List ℕ
own_text part = if ends_open part then take (length part.text - 1) part.text else part.text

-- the token that a line's prefix is
abbrev pub prefix_kind : Form → Option TokenKind
prefix_kind Directive = Some kind.Hpf
prefix_kind Pipeline = Some kind.Pipe
prefix_kind Fortran = None

-- that token, if there is one, at the part's first byte
abbrev pub prefix_token : Option TokenKind → Part → List Mark
prefix_token None part = []
prefix_token (Some kind) part = token (bare_token kind part.line part.start) (prefix_width part.form) ∷ []

-- the prefix of a statement's first line
unfoldable pub prefix_marks : Part → List Mark
prefix_marks part = prefix_token (prefix_kind part.form) part

-- what stands on a statement's first line
unfoldable pub first_marks : Part → List Mark
first_marks part = prefix_marks part ++ marks part.line part.column 0 (own_text part)

-- what stands on a line that continues a statement: its prefix is no token, and a `&` that is its first byte is skipped
unfoldable pub later_marks : Part → List Mark
later_marks part =
    if slice_index (own_text part) 0 == 38
    then marks part.line (part.column + 1) 0 (drop 1 (own_text part))
    else marks part.line part.column 0 (own_text part)

-- two parts of one kind of statement
abbrev pub same_form : Form → Form → Bool
same_form Fortran Fortran = true
same_form Directive Directive = true
same_form Pipeline Pipeline = true
same_form _ _ = false

-- the next part continues this part's statement: the part ends with `&`, and the next is of its kind
abbrev pub is_continued_by : Part → Part → Bool
is_continued_by part next = ends_open part && same_form part.form next.form

-- A statement: the parts of its first line and of the lines that continue it.
pub record Statement : Type 0 where
  pub first : Part
  pub later : List Part

-- the parts that continue the statement of the part before them
unfoldable pub later_parts : Part → List Part → List Part
later_parts part [] = []
later_parts part (next ∷ others) = if is_continued_by part next then next ∷ later_parts next others else []

-- the statements behind the one that a part belongs to
unfoldable pub statements_behind : Part → List Part → List Statement
statements_behind part [] = []
statements_behind part (next ∷ others) =
    if is_continued_by part next then statements_behind next others
    else record { first = next; later = later_parts next others } ∷ statements_behind next others

-- the statements of a text's parts
unfoldable pub statements : List Part → List Statement
statements [] = []
statements (part ∷ others) = record { first = part; later = later_parts part others } ∷ statements_behind part others

-- the last of a statement's parts
abbrev pub last_part : Part → List Part → Part
last_part part [] = part
last_part part (next ∷ others) = last_part next others

-- a line and a column
abbrev pub place : ℕ → ℕ → Place
place line column = record { line = line; column = column }

-- one column past the last token, or this place where there is none
unfoldable pub past_last : Place → List Mark → Place
past_last start [] = start
past_last start (token t width ∷ others) = past_last (place t.line (t.column + width)) others
past_last start (fault f ∷ others) = past_last start others

-- the end of a statement at a place
abbrev pub end_at : Place → Mark
end_at past = token (bare_token kind.End past.line past.column) 0

-- what closes a statement with this last part: its end, or a fault at a `&` that no line of its kind continues
abbrev pub closing : Part → Place → Mark
closing last past =
    if ends_open last then fault (refusal_at DanglingContinuation last.line (last.column + length (own_text last)))
    else end_at past

-- what stands in a statement
unfoldable pub statement_marks : Statement → List Mark
statement_marks statement =
    let inner = first_marks statement.first ++ flat_map later_marks statement.later in
    inner ++ closing (last_part statement.first statement.later) (past_last (place statement.first.line statement.first.start) inner) ∷ []

-- all tokens and faults of a text
unfoldable pub text_marks : List ℕ → List Mark
text_marks text = flat_map statement_marks (statements (parts_of 1 (lines_of text)))
