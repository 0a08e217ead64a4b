-- The first fault of a list of tokens (this project defines it).
use Rattle.std.specs.Prelude.{◌≡◌, ℕ, List, [], ◌∷◌, ◌++◌}
use Rattle.hpf_lex.specs.declared.token.Token.{Token}
use Rattle.hpf_lex.specs.declared.refusal.MapRefusal.{MapRefusal}
use Rattle.hpf_syntax.specs.declared.stop.Fault.{Fault}
use Rattle.hpf_syntax.specs.declared.stop.Fault.TheVariants.{Syntax, LongExpression}
use Rattle.hpf_syntax.specs.Plain.{ItemTree}
use Rattle.hpf_syntax.specs.Rules.{Counted, tokens_of, IsShort}
use Rattle.hpf_syntax.specs.Grammar.{IsText}

-- the tokens are a text of the grammar, with these statements
abbrev pub Spells : List Token → List ItemTree → Type 0
Spells tokens items = (cs : List Counted) × IsText cs items × (tokens_of cs ≡ tokens)

-- the same, and no expression in the text has more than 64 tokens
abbrev pub SpellsShortly : List Token → List ItemTree → Type 0
SpellsShortly tokens items = (cs : List Counted) × IsText cs items × (tokens_of cs ≡ tokens) × IsShort cs

-- some text of the grammar begins with these tokens
abbrev pub BeginsText : List Token → Type 0
BeginsText tokens = (front : List Counted) × (ahead : List Counted) × (items : List ItemTree) × IsText (front ++ ahead) items × (tokens_of front ≡ tokens)

-- the same, and none of these tokens is beyond the 64th of its expression
abbrev pub BeginsShortly : List Token → Type 0
BeginsShortly tokens = (front : List Counted) × (ahead : List Counted) × (items : List ItemTree) × IsText (front ++ ahead) items × (tokens_of front ≡ tokens) × IsShort front

-- some text goes on with this token, as the 65th of an expression
abbrev pub IsBeyond : List Token → Token → Type 0
IsBeyond before bad = (front : List Counted) × (ahead : List Counted) × (items : List ItemTree) × IsText (front ++ record { token = bad; number = 65 } ∷ ahead) items × (tokens_of front ≡ before) × IsShort front

-- why a token is refused behind others: no text goes on with it, or one does, as the 65th token of an expression
abbrev pub Faults : Fault → List Token → Token → Type 0
Faults Syntax before bad = BeginsText (before ++ bad ∷ []) → ⊥
Faults LongExpression before bad = IsBeyond before bad

-- A token is the first fault behind others: these begin a text whose expressions are short, with it they don't, and this
-- is why.
pub record IsFirstFault (fault : Fault) (before : List Token) (bad : Token) : Type 0 where
  pub so_far : BeginsShortly before
  pub not_on : BeginsShortly (before ++ bad ∷ []) → ⊥
  pub why : Faults fault before bad

-- the code numbers of the faults (this project defines them)
abbrev pub code_of : Fault → ℕ
code_of Syntax = 10
code_of LongExpression = 11

-- the refusal of the tokens for their first fault, with its code and place
abbrev pub IsRefusalOf : List Token → MapRefusal → Type 0
IsRefusalOf tokens r =
    (fault : Fault) × (before : List Token) × (bad : Token) × (after : List Token) × (tokens ≡ before ++ bad ∷ after) × IsFirstFault fault before bad × (r ≡ record { code = code_of fault; line = bad.line; column = bad.column })
