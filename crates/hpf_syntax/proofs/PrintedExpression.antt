-- The printed text of an expression is an expression again, with the same tree but for its places.
use Rattle.std.proofs.Common.{◌≡◌, ℕ, ◌+◌, ◌≤◌, Bool, true, false, ◌||◌, List, [], ◌∷◌, ◌++◌, length, map, refl, sym, ap, subst, ◌∙◌, append_assoc, arith}
use Rattle.std.specs.Prelude.{codes}
use Rattle.std.specs.List.{AllByRecursion}
use Rattle.std.specs.Fmt.{decimal}
use Rattle.std.proofs.lemmas.List.{length-append}
use Rattle.hpf_lex.specs.declared.token.Token.{Token}
use Rattle.hpf_lex.specs.declared.token.TokenKind.{TokenKind}
use Rattle.hpf_lex.specs.declared.token.TokenKind.TheVariants as kind
use Rattle.hpf_lex.specs.Bytes.{upper}
use Rattle.hpf_lex.specs.Lexeme.{number_of, max_number}
use Rattle.hpf_lex.specs.Follows.{IsProper}
use Rattle.hpf_syntax.specs.declared.tree.At.{At}
use Rattle.hpf_syntax.specs.declared.terminal.Terminal.{Terminal}
use Rattle.hpf_syntax.specs.declared.terminal.Terminal.TheVariants as terminal
use Rattle.hpf_syntax.specs.Terminal.{Is, kind_terminal, token_terminal, word_terminal}
use Rattle.hpf_syntax.specs.Plain.{Tree, Number, Name, Neg, Plus, Minus, Times, place}
use Rattle.hpf_syntax.specs.Expressions.{Part, Expression, Term, Factor, IsA, number, name, factor, times, term, negative, plus, minus}
use Rattle.hpf_syntax.specs.Expressions as grammar
use Rattle.hpf_syntax.specs.Canonical.{parenthesized, guarded, is_sum, is_product, expression_text}
use Rattle.hpf_syntax.specs.Placeless.{nowhere, bare}
use Rattle.hpf_syntax.proofs.Terminals.{false_is_not_true}
use Rattle.hpf_syntax.proofs.Lexing.{Lexing}
use Rattle.hpf_syntax.proofs.PrintedCuts.{StopsName, IsCut, spelled_token, word_stops, number_stops, IsClosed, closed_stops, opens_append, paren_stops, cut_before, cut_append, cut_token}
use Rattle.hpf_syntax.proofs.PrintedRules.{IsSign}
use Rattle.hpf_syntax.proofs.PrintedWords as words
use Rattle.hpf_syntax.proofs.PrintedRoom.{IsWritten, IsSound, sound, room_of, count, needs, room, room_fits}
use Rattle.hpf_syntax.proofs.PrintedEdges.{leads_opens, expression_edges}

-- At this place the text is this part of an expression again, with this tree but for its places, and at most so many tokens.
pub record Shown (line column : ℕ) (text : List ℕ) (part : Part) (e : Tree) (most : ℕ) : Type 0 where
  pub tokens : List Token
  pub read : Tree
  pub is : IsA part tokens read
  pub alike : bare read ≡ bare e
  pub size : length tokens ≤ most
  pub cut : IsCut line column StopsName text tokens

abbrev pub Printed : List ℕ → Part → Tree → ℕ → Type 0
Printed text part e most = (line column : ℕ) → Shown line column text part e most

-- ---- leaves

is_a_number : (bytes : List ℕ) (line column : ℕ) → Is terminal.Number (spelled_token kind.Number bytes line column)
unfolding token_terminal kind_terminal
is_a_number bytes line column = refl

is_a_name : (word : List ℕ) (line column : ℕ) → IsWritten word → Is terminal.Name (spelled_token kind.Word word line column)
unfolding token_terminal kind_terminal
is_a_name word line column h = ap word_terminal h.upper_case ∙ h.free

number_printed : Lexing → (at : At) (n : ℕ) → n ≤ max_number → Printed (decimal n) Factor (Number at n) 1
number_printed laws at n small line column =
    let numeral = laws.numeral n small in
    let t : Token = spelled_token kind.Number (decimal n) line column in
    record {
      tokens = t ∷ [];
      read = Number (place t) (number_of (decimal n));
      is = number t (is_a_number (decimal n) line column);
      alike = ap (λ (m : ℕ). Number nowhere m) numeral.1;
      size = omega arith;
      cut = cut_before line column (decimal n) (t ∷ []) number_stops (cut_token laws line column kind.Number (decimal n) numeral.0);
    }

name_printed : Lexing → (at : At) (word : List ℕ) → IsWritten word → Printed word Factor (Name at word) 1
name_printed laws at word h line column =
    let t : Token = spelled_token kind.Word word line column in
    record {
      tokens = t ∷ [];
      read = Name (place t) (map upper word);
      is = name t (is_a_name word line column h);
      alike = ap (λ (w : List ℕ). Name nowhere w) h.upper_case;
      size = omega arith;
      cut = cut_before line column word (t ∷ []) word_stops (cut_token laws line column kind.Word word h.name);
    }

-- ---- signs and parentheses

-- a sign that nothing goes on with
sign_cut : Lexing → (stops : List ℕ → Type 0) {wanted : Terminal} {k : TokenKind} {spelling : List ℕ} → IsSign wanted k spelling → IsClosed k → (line column : ℕ)
    → IsCut line column stops spelling (spelled_token k spelling line column ∷ [])
sign_cut laws stops {k = k} {spelling = spelling} sign closed line column =
    cut_before line column spelling (spelled_token k spelling line column ∷ []) (λ rest stop. closed_stops k closed rest) (cut_token laws line column k spelling sign.spells)

-- and text behind it
signed_cut : Lexing → {wanted : Terminal} {k : TokenKind} {spelling : List ℕ} → IsSign wanted k spelling → IsClosed k → (line column : ℕ) (text : List ℕ) (ts : List Token)
    → IsCut line (column + length spelling) StopsName text ts → IsCut line column StopsName (spelling ++ text) (spelled_token k spelling line column ∷ ts)
signed_cut laws {k = k} {spelling = spelling} sign closed line column text ts behind =
    cut_append line column {s1 = λ rest. Unit {0}} spelling text (spelled_token k spelling line column ∷ []) ts (sign_cut laws _ sign closed line column) behind (λ rest stop. tt)

parentheses_size : (l r : Token) (ts : List Token) (n : ℕ) → length ts ≤ n → length (l ∷ (ts ++ r ∷ [])) ≤ n + 2
parentheses_size l r ts n le = omega (arith, le, length-append ts (r ∷ []))

parenthesized_printed : Lexing → {e : Tree} {n : ℕ} → IsSound e → Printed (expression_text e) Expression e n → Printed (parenthesized (expression_text e)) Factor e (n + 2)
parenthesized_printed laws {e} {n} sounds inside line column =
    let text : List ℕ = expression_text e in
    let inner_column : ℕ = column + length (codes "(") in
    let right_column : ℕ = inner_column + length text in
    let s : Shown line inner_column text Expression e n = inside line inner_column in
    let left : Token = spelled_token kind.LeftParen (codes "(") line column in
    let right : Token = spelled_token kind.RightParen (codes ")") line right_column in
    let closed : IsCut line inner_column StopsName (text ++ codes ")") (s.tokens ++ right ∷ []) =
    cut_append line inner_column text (codes ")") s.tokens (right ∷ []) s.cut (sign_cut laws StopsName words.right_paren words.right_paren_closed line right_column) (λ rest stop. refl) in
    record {
      tokens = left ∷ (s.tokens ++ right ∷ []);
      read = s.read;
      is = grammar.parenthesized left right (words.left_paren.is line column) s.is (words.right_paren.is line right_column);
      alike = s.alike;
      size = parentheses_size left right s.tokens n s.size;
      cut =
          cut_append line column (codes "(") (text ++ codes ")") (left ∷ []) (s.tokens ++ right ∷ [])
          (cut_token laws line column kind.LeftParen (codes "(") words.left_paren.spells) closed
          (λ rest stop. paren_stops ((text ++ codes ")") ++ rest) (opens_append (text ++ codes ")") rest (opens_append text (codes ")") (leads_opens text (expression_edges laws e sounds).0))));
    }

-- ---- operators

sign_size : (n : ℕ) (ts : List Token) (t : Token) → length ts ≤ n → length (t ∷ ts) ≤ 1 + n
sign_size n ts t le = omega (arith, le)

negative_printed : Lexing → (at : At) {y : List ℕ} {e : Tree} {n : ℕ} → Printed y Term e n → Printed (codes "-" ++ y) Expression (Neg at e) (1 + n)
negative_printed laws at {y} {e} {n} operand line column =
    let s : Shown line (column + length (codes "-")) y Term e n = operand line (column + length (codes "-")) in
    let sign : Token = spelled_token kind.Minus (codes "-") line column in
    record {
      tokens = sign ∷ s.tokens;
      read = Neg (place sign) s.read;
      is = negative sign (words.minus.is line column) s.is;
      alike = ap (λ (t : Tree). Neg nowhere t) s.alike;
      size = sign_size n s.tokens sign s.size;
      cut = signed_cut laws words.minus words.minus_closed line column y s.tokens s.cut;
    }

operands_size : (m n : ℕ) (front back : List Token) (t : Token) → length front ≤ m → length back ≤ n → length (front ++ t ∷ back) ≤ m + (1 + n)
operands_size m n front back t left right = omega (arith, left, right, length-append front (t ∷ back))

-- an operator, the part of an expression that stands on either side of it, and the tree that it makes
record Operator (wanted : Terminal) (k : TokenKind) (spelling : List ℕ) (before behind whole : Part) (make : At → Tree → Tree → Tree) : Type 0 where
  sign : IsSign wanted k spelling
  closed : IsClosed k
  stops : (rest : List ℕ) → StopsName (spelling ++ rest)
  is : (t : Token) (front back : List Token) (a b : Tree) → IsA before front a → Is wanted t → IsA behind back b → IsA whole (front ++ t ∷ back) (make (place t) a b)
  bares : (at : At) (a b : Tree) → bare (make at a b) ≡ make nowhere (bare a) (bare b)

operands_printed : Lexing → {wanted : Terminal} {k : TokenKind} {spelling : List ℕ} {before behind whole : Part} {make : At → Tree → Tree → Tree} → Operator wanted k spelling before behind whole make
    → (at : At) {x y : List ℕ} {a b : Tree} {m n : ℕ} → Printed x before a m → Printed y behind b n → Printed (x ++ (spelling ++ y)) whole (make at a b) (m + (1 + n))
operands_printed laws {k = k} {spelling = spelling} {before = before} {behind = behind} {make = make} operator at {x} {y} {a} {b} {m} {n} left right line column =
    let there : ℕ = column + length x in
    let s : Shown line column x before a m = left line column in
    let r : Shown line (there + length spelling) y behind b n = right line (there + length spelling) in
    let sign : Token = spelled_token k spelling line there in
    record {
      tokens = s.tokens ++ sign ∷ r.tokens;
      read = make (place sign) s.read r.read;
      is = operator.is sign s.tokens r.tokens s.read r.read s.is (operator.sign.is line there) r.is;
      alike =
          operator.bares (place sign) s.read r.read
          ∙ ap (λ (t : Tree). make nowhere t (bare r.read)) s.alike ∙ ap (λ (t : Tree). make nowhere (bare a) t) r.alike ∙ sym (operator.bares at a b);
      size = operands_size m n s.tokens r.tokens sign s.size r.size;
      cut =
          cut_append line column x (spelling ++ y) s.tokens (sign ∷ r.tokens) s.cut
          (signed_cut laws operator.sign operator.closed line there y r.tokens r.cut)
          (λ rest stop. subst StopsName (sym (append_assoc spelling y rest)) (operator.stops (y ++ rest)));
    }

plus_operator : Operator terminal.Plus kind.Plus (codes "+") Expression Term Expression Plus
plus_operator = record { sign = words.plus; closed = words.plus_closed; stops = λ rest. refl; is = λ t front back a b h is i. plus t h is i; bares = λ at a b. refl }

minus_operator : Operator terminal.Minus kind.Minus (codes "-") Expression Term Expression Minus
minus_operator = record { sign = words.minus; closed = words.minus_closed; stops = λ rest. refl; is = λ t front back a b h is i. minus t h is i; bares = λ at a b. refl }

times_operator : Operator terminal.Star kind.Star (codes "*") Term Factor Term Times
times_operator = record { sign = words.star; closed = words.star_closed; stops = λ rest. refl; is = λ t front back a b h is i. times t h is i; bares = λ at a b. refl }

-- ---- every tree, as each part of an expression

term_printed : {text : List ℕ} {e : Tree} {n : ℕ} → Printed text Factor e n → Printed text Term e n
term_printed inner line column =
    let s = inner line column in
    record { tokens = s.tokens; read = s.read; is = factor s.is; alike = s.alike; size = s.size; cut = s.cut }

whole_printed : {text : List ℕ} {e : Tree} {n : ℕ} → Printed text Term e n → Printed text Expression e n
whole_printed inner line column =
    let s = inner line column in
    record { tokens = s.tokens; read = s.read; is = term s.is; alike = s.alike; size = s.size; cut = s.cut }

-- a tree that is printed as a factor
as_factor : {text : List ℕ} {e : Tree} {n : ℕ} → Printed text Factor e n → (part : Part) → Printed text part e n
as_factor inner Factor = inner
as_factor inner Term = term_printed inner
as_factor inner Expression = whole_printed (term_printed inner)

-- what a tree's text is where the tree is this part of an expression
abbrev pub text_as : Part → Tree → List ℕ
text_as part e = guarded (needs part e) (expression_text e)

where_needed : (text : List ℕ) (part : Part) (e : Tree) (n : ℕ) (needed : Bool) → needed ≡ true → Printed (parenthesized text) part e (n + 2) → Printed (guarded needed text) part e (room_of needed n)
where_needed text part e n true h inner = inner
where_needed text part e n false h inner = absurd (false_is_not_true h)

-- a sum, as each part
sum_as : Lexing → (e : Tree) → is_sum e ≡ true → IsSound e → Printed (expression_text e) Expression e (count e) → (part : Part) → Printed (text_as part e) part e (room part e)
sum_as laws e sum s inner Expression = inner
sum_as laws e sum s inner Term = where_needed (expression_text e) Term e (count e) (is_sum e) sum (term_printed (parenthesized_printed laws s inner))
sum_as laws e sum s inner Factor = where_needed (expression_text e) Factor e (count e) (is_sum e || is_product e) (ap (λ (b : Bool). b || is_product e) sum) (parenthesized_printed laws s inner)

-- the text of a tree, as each part of an expression
pub printed_as : Lexing → (e : Tree) → IsSound e → (part : Part) → Printed (text_as part e) part e (room part e)
printed_as laws (Number at n) s Expression = as_factor (number_printed laws at n s) Expression
printed_as laws (Number at n) s Term = as_factor (number_printed laws at n s) Term
printed_as laws (Number at n) s Factor = number_printed laws at n s
printed_as laws (Name at word) s Expression = as_factor (name_printed laws at word s) Expression
printed_as laws (Name at word) s Term = as_factor (name_printed laws at word s) Term
printed_as laws (Name at word) s Factor = name_printed laws at word s
printed_as laws (Neg at e) s part = sum_as laws (Neg at e) refl s (negative_printed laws at (printed_as laws e s Term)) part
printed_as laws (Plus at a b) s part = sum_as laws (Plus at a b) refl s (operands_printed laws plus_operator at (printed_as laws a s.0 Expression) (printed_as laws b s.1 Term)) part
printed_as laws (Minus at a b) s part = sum_as laws (Minus at a b) refl s (operands_printed laws minus_operator at (printed_as laws a s.0 Expression) (printed_as laws b s.1 Term)) part
printed_as laws (Times at a b) s Expression = whole_printed (operands_printed laws times_operator at (printed_as laws a s.0 Term) (printed_as laws b s.1 Factor))
printed_as laws (Times at a b) s Term = operands_printed laws times_operator at (printed_as laws a s.0 Term) (printed_as laws b s.1 Factor)
printed_as laws (Times at a b) s Factor = parenthesized_printed laws s (whole_printed (operands_printed laws times_operator at (printed_as laws a s.0 Term) (printed_as laws b s.1 Factor)))

-- ---- what was read, printed

within : (k m n : ℕ) → k ≤ m → m ≤ n → k ≤ n
within k m n p q = omega (arith, p, q)

pub expression_is_read : Lexing → {ts : List Token} {e : Tree} → IsA Expression ts e → AllByRecursion IsProper ts → length ts ≤ 64 → (line column : ℕ)
    → (ts' : List Token) × (e' : Tree) × IsA Expression ts' e' × (bare e' ≡ bare e) × (length ts' ≤ 64) × IsCut line column StopsName (expression_text e) ts'
expression_is_read laws {ts} {e} h proper short line column =
    let s : Shown line column (expression_text e) Expression e (count e) = printed_as laws e (sound h proper) Expression line column in
    let few : count e ≤ length ts = room_fits h in
    (s.tokens, s.read, s.is, s.alike, within (length s.tokens) (count e) 64 s.size (within (count e) (length ts) 64 few short), s.cut)
