-- The lines of a mapping text, and what stands on each (Fortran 90, free source form; the prefix of a directive as in
-- High Performance Fortran 2.0, that of a pipeline line as this project defines it).
use Rattle.std.specs.Prelude.{ℕ, ◌+◌, ◌-◌, Bool, true, false, ◌&&◌, ◌==◌, if◌then◌else◌, List, [], ◌∷◌, length, take, drop, codes, Option, Some, None, slice_index}
use Rattle.std.specs.List.{prefix_len, suffix_len, before_first}
use Rattle.hpf_lex.specs.declared.line.Form.{Form}
use Rattle.hpf_lex.specs.declared.line.Form.TheVariants.{Fortran, Directive, Pipeline}
use Rattle.hpf_lex.specs.Bytes.{is_blank, upper}

-- a byte in front of the first line
abbrev put_first : ℕ → List (List ℕ) → List (List ℕ)
put_first c [] = (c ∷ []) ∷ []
put_first c (line ∷ lines) = (c ∷ line) ∷ lines

-- the lines of a text: each ends with a line feed (10), a carriage return (13) and a line feed, or the text's end
unfoldable pub lines_of : List ℕ → List (List ℕ)
lines_of [] = []
lines_of (c ∷ text) =
    if c == 10 then [] ∷ lines_of text
    else (if (c == 13) && (slice_index text 0 == 10) then lines_of text else put_first c (lines_of text))

-- bytes that begin with these signs and upper-case letters, the letters in either case
abbrev pub begins_with : List ℕ → List ℕ → Bool
begins_with [] bytes = true
begins_with (p ∷ prefix) [] = false
begins_with (p ∷ prefix) (c ∷ bytes) = (upper c == p) && begins_with prefix bytes

-- what kind of statement a line belongs to, by its first bytes that aren't blank. None: it is a comment line or empty
unfoldable pub form_of : List ℕ → Option Form
form_of bytes =
    if begins_with (codes "!HPF$") bytes then Some Directive
    else (if begins_with (codes "!PIPE$") bytes then Some Pipeline
    else (if begins_with (codes "!") bytes then None
    else (if length bytes == 0 then None else Some Fortran)))

-- the number of bytes of a prefix
abbrev pub prefix_width : Form → ℕ
prefix_width Directive = 5
prefix_width Pipeline = 6
prefix_width Fortran = 0

-- what stands before a comment, which goes from `!` (33) to the line's end
abbrev pub before_comment : List ℕ → List ℕ
before_comment bytes = before_first (λ c. c == 33) bytes

-- the same without the blanks and tabs at its end
abbrev pub without_blanks_at_end : List ℕ → List ℕ
without_blanks_at_end bytes = take (length bytes - suffix_len is_blank bytes) bytes

-- The part of a statement that stands on one line. Lines and columns count from 1, and a column counts bytes.
pub record Part : Type 0 where
  pub form : Form
  pub line : ℕ
  -- the column of the first byte that isn't blank: of the prefix, if there is one
  pub start : ℕ
  -- the column of the first byte that isn't blank behind the prefix
  pub column : ℕ
  -- the bytes from there to the comment, without the blanks before it
  pub text : List ℕ

-- the part that stands behind so many blanks, where the line is of a kind that has one
abbrev pub part_from : Option Form → ℕ → ℕ → List ℕ → Option Part
part_from None number blanks found = None
part_from (Some form) number blanks found =
    let behind = drop (prefix_width form) found in
    let gap = prefix_len is_blank behind in
    Some (record {
      form = form;
      line = number;
      start = blanks + 1;
      column = blanks + prefix_width form + gap + 1;
      text = without_blanks_at_end (before_comment (drop gap behind));
    })

-- the part that a line has, where it is neither empty nor a comment line
unfoldable pub part_of : ℕ → List ℕ → Option Part
part_of number line =
    let blanks = prefix_len is_blank line in
    let found = drop blanks line in
    part_from (form_of found) number blanks found

-- a part, if there is one, and others
abbrev pub put_part : Option Part → List Part → List Part
put_part None others = others
put_part (Some part) others = part ∷ others

-- the parts of these lines, the first of which has this number
unfoldable pub parts_of : ℕ → List (List ℕ) → List Part
parts_of number [] = []
parts_of number (line ∷ lines) = put_part (part_of number line) (parts_of (number + 1) lines)
