-- The grammar of expressions: which tokens are an expression, and which tree it is. A sign `+` before a term and
-- parentheses leave no trace, and terms and factors group from the left (this project defines it, after Fortran).
use Rattle.std.specs.Prelude.{List, [], ◌∷◌, ◌++◌}
use Rattle.hpf_lex.specs.declared.token.Token.{Token}
use Rattle.hpf_syntax.specs.declared.terminal.Terminal.TheVariants as terminal
use Rattle.hpf_syntax.specs.Terminal.{Is}
use Rattle.hpf_syntax.specs.Plain.{Tree, Number, Name, Neg, Plus, Minus, Times, place}

pub data Part : Type 0 where
  Expression : Part
  Term : Part
  Factor : Part

-- these tokens are this part, with this tree
pub data IsA : Part → List Token → Tree → Type 0 where
  -- factor = Number | name | "(" expr ")"
  number : (t : Token) → Is terminal.Number t → IsA Factor (t ∷ []) (Number (place t) t.number)
  name : (t : Token) → Is terminal.Name t → IsA Factor (t ∷ []) (Name (place t) t.word)
  parenthesized : (l r : Token) {ts : List Token} {e : Tree} → Is terminal.LeftParen l → IsA Expression ts e → Is terminal.RightParen r → IsA Factor (l ∷ (ts ++ r ∷ [])) e
  -- term = factor { "*" factor }
  factor : {ts : List Token} {e : Tree} → IsA Factor ts e → IsA Term ts e
  times : (t : Token) {front back : List Token} {a b : Tree} → IsA Term front a → Is terminal.Star t → IsA Factor back b → IsA Term (front ++ t ∷ back) (Times (place t) a b)
  -- expr = [ "+" | "-" ] term { ( "+" | "-" ) term }
  term : {ts : List Token} {e : Tree} → IsA Term ts e → IsA Expression ts e
  positive : (t : Token) {ts : List Token} {e : Tree} → Is terminal.Plus t → IsA Term ts e → IsA Expression (t ∷ ts) e
  negative : (t : Token) {ts : List Token} {e : Tree} → Is terminal.Minus t → IsA Term ts e → IsA Expression (t ∷ ts) (Neg (place t) e)
  plus : (t : Token) {front back : List Token} {a b : Tree} → IsA Expression front a → Is terminal.Plus t → IsA Term back b → IsA Expression (front ++ t ∷ back) (Plus (place t) a b)
  minus : (t : Token) {front back : List Token} {a b : Tree} → IsA Expression front a → Is terminal.Minus t → IsA Term back b → IsA Expression (front ++ t ∷ back) (Minus (place t) a b)
