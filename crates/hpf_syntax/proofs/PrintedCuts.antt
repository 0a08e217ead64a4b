-- Printed bytes are cut into tokens: one token, a blank before others, and one piece of text behind another.
use Rattle.std.proofs.Common.{◌≡◌, ℕ, ◌+◌, false, List, [], ◌∷◌, ◌++◌, length, refl, subst, append_assoc, arith}
use Rattle.std.specs.Prelude.{◌==◌}
use Rattle.std.proofs.lemmas.List.{length-append}
use Rattle.hpf_lex.specs.declared.lexeme.Lexeme.{Lexeme}
use Rattle.hpf_lex.specs.declared.token.Token.{Token}
use Rattle.hpf_lex.specs.declared.token.TokenKind.{TokenKind}
use Rattle.hpf_lex.specs.declared.token.TokenKind.TheVariants as kind
use Rattle.hpf_lex.specs.Bytes.{is_blank, is_name_byte}
use Rattle.hpf_lex.specs.Spelling.{Spells, word_of, number_in}
use Rattle.hpf_lex.specs.Follows.{goes_on, StopsAt}
use Rattle.hpf_lex.specs.Cut.{Cut, blank, token}
use Rattle.hpf_lex.specs.Statement.{token_at}
use Rattle.hpf_syntax.proofs.Lexing.{Lexing}

-- nothing, or bytes the first of which is no letter, digit or `_`
abbrev pub StopsName : List ℕ → Type 0
StopsName [] = Unit {0}
StopsName (c ∷ rest) = is_name_byte c ≡ false

-- from this place on these bytes are cut into these tokens, whatever stands behind them that stops the last of them
abbrev pub IsCut : ℕ → ℕ → (List ℕ → Type 0) → List ℕ → List Token → Type 0
IsCut line column stops bytes tokens = (rest : List ℕ) (later : List Token) → stops rest → Cut line (column + length bytes) rest later → Cut line column (bytes ++ rest) (tokens ++ later)

-- what is found where a token of this kind is spelled so, and that token at a place
abbrev pub found_as : TokenKind → List ℕ → Lexeme
found_as kind spelling = record { kind = kind; word = word_of kind spelling; number = number_in kind spelling; width = length spelling }

abbrev pub spelled_token : TokenKind → List ℕ → ℕ → ℕ → Token
spelled_token kind spelling line column = token_at (found_as kind spelling) line column

-- ---- what may stand behind

-- nothing, or bytes the first of which is no letter, digit, `_` or `:` (58)
abbrev pub Clear : List ℕ → Type 0
Clear [] = Unit {0}
Clear (c ∷ rest) = (is_name_byte c ≡ false) × ((c == 58) ≡ false)

pub clear_stops_name : (rest : List ℕ) → Clear rest → StopsName rest
clear_stops_name [] h = tt
clear_stops_name (c ∷ rest) h = h.0

pub word_stops : (rest : List ℕ) → StopsName rest → StopsAt kind.Word rest
word_stops [] h = tt
word_stops (c ∷ rest) h = h

pub number_stops : (rest : List ℕ) → StopsName rest → StopsAt kind.Number rest
number_stops [] h = tt
number_stops (c ∷ rest) h = h

-- kinds that nothing goes on with
abbrev pub IsClosed : TokenKind → Type 0
IsClosed kind = (c : ℕ) → goes_on kind c ≡ false

pub closed_stops : (kind : TokenKind) → IsClosed kind → (rest : List ℕ) → StopsAt kind rest
closed_stops kind closed [] = tt
closed_stops kind closed (c ∷ rest) = closed c

-- bytes, the first of which is no `/` (47)
abbrev pub Opens : List ℕ → Type 0
Opens [] = ⊥
Opens (c ∷ rest) = (c == 47) ≡ false

pub opens_append : (a b : List ℕ) → Opens a → Opens (a ++ b)
opens_append [] b h = absurd h
opens_append (c ∷ a) b h = h

pub paren_stops : (a : List ℕ) → Opens a → StopsAt kind.LeftParen a
paren_stops [] h = absurd h
paren_stops (c ∷ a) h = h

-- ---- bytes that are cut into tokens

moved : {line m n : ℕ} {bytes : List ℕ} {tokens : List Token} → m ≡ n → Cut line m bytes tokens → Cut line n bytes tokens
moved {line} {m} {n} {bytes} {tokens} e k = subst (λ (column : ℕ). Cut line column bytes tokens) e k

pub nothing_cut : (line column : ℕ) (stops : List ℕ → Type 0) → IsCut line column stops [] []
nothing_cut line column stops rest later stop k = moved (omega arith) k

-- where more is known of what stands behind
pub cut_before : (line column : ℕ) {s1 s2 : List ℕ → Type 0} (bytes : List ℕ) (tokens : List Token) → ((rest : List ℕ) → s2 rest → s1 rest) → IsCut line column s1 bytes tokens → IsCut line column s2 bytes tokens
cut_before line column bytes tokens stops p rest later stop k = p rest later (stops rest stop) k

pub cut_append : (line column : ℕ) {s1 s2 : List ℕ → Type 0} (b1 b2 : List ℕ) (t1 t2 : List Token) → IsCut line column s1 b1 t1 → IsCut line (column + length b1) s2 b2 t2 → ((rest : List ℕ) → s2 rest → s1 (b2 ++ rest)) → IsCut line column s2 (b1 ++ b2) (t1 ++ t2)
cut_append line column b1 b2 t1 t2 p q stops rest later stop k =
    rw (append_assoc b1 b2 rest, append_assoc t1 t2 later) (p (b2 ++ rest) (t2 ++ later) (stops rest stop) (q rest later stop (moved (omega (arith, length-append b1 b2)) k)))

pub cut_blank : (line column : ℕ) {stops : List ℕ → Type 0} (bytes : List ℕ) (tokens : List Token) → IsCut line (column + 1) stops bytes tokens → IsCut line column stops (32 ∷ bytes) tokens
unfolding is_blank
cut_blank line column bytes tokens p rest later stop k = blank refl (p rest later stop (moved (omega arith) k))

pub cut_token : Lexing → (line column : ℕ) (kind : TokenKind) (spelling : List ℕ) → Spells kind spelling → IsCut line column (StopsAt kind) spelling (spelled_token kind spelling line column ∷ [])
cut_token laws line column kind spelling spells rest later stop k =
    token (found_as kind spelling) spelling rest refl refl (laws.not_blank kind spelling rest spells) (laws.spelled kind spelling rest spells stop) k
