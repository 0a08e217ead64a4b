-- Rows of the format, worked out by hand, so that a wrong definition is noticed.
use Rattle.std.proofs.Common.{◌≡◌, ℕ, ◌+◌, ◌-◌, true, false, List, [], ◌∷◌, ◌++◌, length, Ok, Err, refl}
use Rattle.std.specs.Prelude.{codes, slice_index}
use Rattle.hpf_lex.specs.declared.line.Form.TheVariants.{Fortran, Directive}
use Rattle.hpf_lex.specs.declared.token.Token.{Token}
use Rattle.hpf_lex.specs.declared.token.TokenKind.{TokenKind}
use Rattle.hpf_lex.specs.declared.token.TokenKind.TheVariants as kind
use Rattle.hpf_lex.specs.Bytes.{is_blank}
use Rattle.hpf_lex.specs.Line.{lines_of, form_of, part_of, parts_of}
use Rattle.hpf_lex.specs.Cut.{Cut}
use Rattle.hpf_lex.specs.Follows.{goes_on, StopsAt}
use Rattle.hpf_lex.specs.Lexeme.{lexeme_at}
use Rattle.hpf_lex.specs.OneLine.{OneLine, prefix_text, StandsOn, StandFrom, tokens_from, one_line_text}
use Rattle.hpf_lex.specs.Statement.{marks, ends_open, past_last, prefix_marks, first_marks, later_marks, later_parts, statements_behind, statements, statement_marks, text_marks}
use Rattle.hpf_lex.specs.Text.{reading}
use Rattle.hpf_lex.proofs.Cuts.{is_cut}

abbrev sign : TokenKind → ℕ → ℕ → Token
sign kind line column = record { kind = kind; word = []; number = 0; line = line; column = column }

abbrev word : List ℕ → ℕ → ℕ → Token
word bytes line column = record { kind = kind.Word; word = bytes; number = 0; line = line; column = column }

abbrev number : ℕ → ℕ → ℕ → Token
number n line column = record { kind = kind.Number; word = []; number = n; line = line; column = column }

abbrev Reads : List ℕ → List Token → Type 0
Reads text tokens = reading text ≡ Ok tokens

abbrev IsRefused : List ℕ → ℕ → ℕ → ℕ → Type 0
IsRefused text code line column = reading text ≡ Err (record { code = code; line = line; column = column })

rows_1 : (Reads (codes "Stage_2") (word (codes "STAGE_2") 1 1 ∷ sign kind.End 1 8 ∷ []))
    × (IsRefused (codes "INTEGER A(8) ;") 1 1 14)
    × (IsRefused (codes "!HPF$ PROCESSORS P(4), &") 4 1 24)
    × (Reads (codes "!HPF$INTEGER") (sign kind.Hpf 1 1 ∷ word (codes "INTEGER") 1 6 ∷ sign kind.End 1 13 ∷ []))
    × (IsRefused (codes "A 12AB") 2 1 3)
unfolding reading text_marks statement_marks statements statements_behind later_parts later_marks first_marks prefix_marks marks ends_open past_last lexeme_at parts_of part_of form_of lines_of is_blank
rows_1 = (refl, refl, refl, refl, refl)

rows_2 : (IsRefused (codes "2147483648") 2 1 1)
    × (Reads (codes "2147483647") (number 2147483647 1 1 ∷ sign kind.End 1 11 ∷ []))
    × (Reads (codes "A &" ++ 10 ∷ codes "! note" ++ 10 ∷ codes " & B") (word (codes "A") 1 1 ∷ word (codes "B") 3 4 ∷ sign kind.End 3 5 ∷ []))
    × (IsRefused (codes "A &" ++ 10 ∷ codes "!PIPE$ B") 4 1 3)
    × (IsRefused (codes "A & B") 1 1 3)
unfolding reading text_marks statement_marks statements statements_behind later_parts later_marks first_marks prefix_marks marks ends_open past_last lexeme_at parts_of part_of form_of lines_of is_blank
rows_2 = (refl, refl, refl, refl, refl)

rows_3 : (Reads (codes "&" ++ 10 ∷ codes "&" ++ 10 ∷ codes "A") (word (codes "A") 3 1 ∷ sign kind.End 3 2 ∷ []))
    × (IsRefused (codes "&&") 1 1 1)
    × (Reads (9 ∷ codes "A ! &" ++ 13 ∷ 10 ∷ []) (word (codes "A") 1 2 ∷ sign kind.End 1 3 ∷ []))
    × (IsRefused (codes "A" ++ 13 ∷ []) 1 1 2)
    × (Reads (codes "(/3)") (sign kind.LeftArray 1 1 ∷ number 3 1 3 ∷ sign kind.RightParen 1 4 ∷ sign kind.End 1 5 ∷ []))
unfolding reading text_marks statement_marks statements statements_behind later_parts later_marks first_marks prefix_marks marks ends_open past_last lexeme_at parts_of part_of form_of lines_of is_blank
rows_3 = (refl, refl, refl, refl, refl)

rows_4 : (Reads (codes "::: ") (sign kind.DoubleColon 1 1 ∷ sign kind.Colon 1 3 ∷ sign kind.End 1 4 ∷ []))
    × (IsRefused (codes "/ )") 1 1 1)
    × (Reads (codes " !hpf$ &" ++ 10 ∷ codes "!HPF$") (sign kind.Hpf 1 2 ∷ sign kind.End 1 7 ∷ []))
    × (IsRefused (codes "ABCDEFGHIJKLMNOPQRSTUVWXYZABCDEF") 3 1 1)
    × (Reads [] ([]))
unfolding reading text_marks statement_marks statements statements_behind later_parts later_marks first_marks prefix_marks marks ends_open past_last lexeme_at parts_of part_of form_of lines_of is_blank
rows_4 = (refl, refl, refl, refl, refl)

-- `_` goes on with a word and `/` with a `(`, and `)` and the end go on with nothing
rows_stops : (goes_on kind.Word 95 ≡ true)
    × (goes_on kind.LeftParen 47 ≡ true)
    × (StopsAt kind.Word (codes "(A"))
    × (StopsAt kind.LeftParen (codes "A/"))
    × (StopsAt kind.Number [])
    × (StopsAt kind.DoubleColon (codes ":"))
rows_stops = (refl, refl, refl, refl, tt, refl)

directive : OneLine
directive = record { form = Directive; text = codes "SHADOW A"; tokens = word (codes "SHADOW") 1 7 ∷ word (codes "A") 1 14 ∷ [] }

declaration : OneLine
declaration = record { form = Fortran; text = codes "REAL a"; tokens = word (codes "REAL") 2 1 ∷ word (codes "A") 2 6 ∷ [] }

rows_one_line : (one_line_text (directive ∷ declaration ∷ []) ≡ codes "!HPF$ SHADOW A" ++ 10 ∷ codes "REAL a" ++ 10 ∷ [])
    × (tokens_from 1 (directive ∷ declaration ∷ []) ≡
    sign kind.Hpf 1 1 ∷ word (codes "SHADOW") 1 7 ∷ word (codes "A") 1 14 ∷ sign kind.End 1 15
    ∷ word (codes "REAL") 2 1 ∷ word (codes "A") 2 6 ∷ sign kind.End 2 7 ∷ [])
unfolding directive declaration
rows_one_line = (refl, refl)

stands_on : (line : ℕ) (s : OneLine) → Cut line (length (prefix_text s.form) + 1) s.text s.tokens → is_blank (slice_index s.text 0) ≡ false
    → is_blank (slice_index s.text (length s.text - 1)) ≡ false → (s.text ≡ [] → ⊥) → StandsOn line s
stands_on line s cut begins ends some = record { cut = cut; begins = begins; ends = ends; some = some }

rows_stand : StandFrom 1 (directive ∷ declaration ∷ [])
unfolding directive declaration marks lexeme_at is_blank
rows_stand = (
  stands_on 1 directive (is_cut 1 7 (codes "SHADOW A") refl) refl refl (λ e. absurd cc),
  (stands_on 2 declaration (is_cut 2 1 (codes "REAL a") refl) refl refl (λ e. absurd cc), tt),
)
