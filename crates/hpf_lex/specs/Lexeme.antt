-- The tokens of a mapping text without their places: each is the longest that the bytes begin with.
use Rattle.std.specs.Prelude.{ℕ, ◌+◌, ◌-◌, ◌*◌, ◌&&◌, nat_le, ◌==◌, if◌then◌else◌, List, [], length, map, fold, Result, Ok, Err, slice_index, take_while}
use Rattle.std.specs.List.{list_all}
use Rattle.hpf_lex.specs.declared.refusal.Fault.{Fault}
use Rattle.hpf_lex.specs.declared.refusal.Fault.TheVariants.{BadByte, BadNumber, NameTooLong}
use Rattle.hpf_lex.specs.declared.token.TokenKind.{TokenKind}
use Rattle.hpf_lex.specs.declared.token.TokenKind.TheVariants as kind
use Rattle.hpf_lex.specs.declared.lexeme.Lexeme.{Lexeme}
use Rattle.hpf_lex.specs.Bytes.{is_letter, is_digit, is_name_byte, upper}
use Rattle.hpf_lex.specs.Name.{max_word}

-- the greatest number (this project defines it)
abbrev pub max_number : ℕ
max_number = 2147483647

-- the letters, digits and `_` at the front
abbrev pub spelled : List ℕ → List ℕ
spelled bytes = take_while is_name_byte bytes

-- the number that digits stand for behind those that stand for n, `0` being 48
abbrev pub number_on : ℕ → List ℕ → ℕ
number_on n digits = fold (λ n digit. 10 * n + (digit - 48)) n digits

abbrev pub number_of : List ℕ → ℕ
number_of digits = number_on 0 digits

-- a sign of so many bytes
abbrev pub sign : TokenKind → ℕ → Result Lexeme Fault
sign kind width = Ok (record { kind = kind; word = []; number = 0; width = width })

-- a word, at the letter that it begins with
abbrev pub word_at : List ℕ → Result Lexeme Fault
word_at bytes =
    if nat_le (length (spelled bytes)) max_word
    then Ok (record { kind = kind.Word; word = map upper (spelled bytes); number = 0; width = length (spelled bytes) })
    else Err NameTooLong

-- a number, at its first digit: no letter and no `_` follows its digits directly
abbrev pub number_at : List ℕ → Result Lexeme Fault
number_at bytes =
    if list_all is_digit (spelled bytes) && nat_le (number_of (spelled bytes)) max_number
    then Ok (record { kind = kind.Number; word = []; number = number_of (spelled bytes); width = length (spelled bytes) })
    else Err BadNumber

-- a sign, by its first byte and the next one: `(/`, `/)` and `::` before the signs of one byte
abbrev pub sign_at : ℕ → ℕ → Result Lexeme Fault
sign_at first second =
    if (first == 40) && (second == 47) then sign kind.LeftArray 2
    else (if (first == 47) && (second == 41) then sign kind.RightArray 2
    else (if (first == 58) && (second == 58) then sign kind.DoubleColon 2
    else (if first == 40 then sign kind.LeftParen 1
    else (if first == 41 then sign kind.RightParen 1
    else (if first == 44 then sign kind.Comma 1
    else (if first == 58 then sign kind.Colon 1
    else (if first == 42 then sign kind.Star 1
    else (if first == 43 then sign kind.Plus 1
    else (if first == 45 then sign kind.Minus 1
    else (if first == 61 then sign kind.Equals 1
    else Err BadByte))))))))))

-- the token that these bytes begin with, the first of which isn't blank
unfoldable pub lexeme_at : List ℕ → Result Lexeme Fault
lexeme_at bytes =
    let first = slice_index bytes 0 in
    if is_letter first then word_at bytes
    else (if is_digit first then number_at bytes
    else sign_at first (slice_index bytes 1))

-- how many bytes a token covers, or what stands in its place
abbrev pub covered : List ℕ → Result Lexeme Fault → ℕ
covered bytes (Ok lexeme) = lexeme.width
covered bytes (Err BadByte) = 1
covered bytes (Err _) = length (spelled bytes)
