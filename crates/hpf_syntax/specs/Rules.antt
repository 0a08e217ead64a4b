-- Rules of a grammar, each with the value that it gives to the tokens it takes.
use Rattle.std.specs.Prelude.{◌≡◌, ℕ, ◌+◌, ◌≤◌, ◌⊎◌, List, [], ◌∷◌, ◌++◌, map}
use Rattle.std.specs.List.{AllByRecursion}
use Rattle.hpf_lex.specs.declared.token.Token.{Token}
use Rattle.hpf_syntax.specs.declared.tree.At.{At}
use Rattle.hpf_syntax.specs.declared.tree.Spot.{Spot}
use Rattle.hpf_syntax.specs.declared.terminal.Terminal.{Terminal}
use Rattle.hpf_syntax.specs.declared.terminal.Terminal.TheVariants as terminal
use Rattle.hpf_syntax.specs.Terminal.{Is}
use Rattle.hpf_syntax.specs.Plain.{Tree, place}
use Rattle.hpf_syntax.specs.Expressions.{IsA, Expression}

-- a token with its number in the expression that it belongs to: 1 for the first token of an expression that is in no
-- other, and 0 for a token that is in none
pub record Counted : Type 0 where
  pub token : Token
  pub number : ℕ

abbrev pub outside : Token → Counted
outside t = record { token = t; number = 0 }

abbrev pub numbered : ℕ → List Token → List Counted
numbered n [] = []
numbered n (t ∷ ts) = record { token = t; number = n } ∷ numbered (n + 1) ts

abbrev pub tokens_of : List Counted → List Token
tokens_of cs = map (λ c. c.token) cs

-- these tokens are what the rule says, and this is their value
abbrev pub Rule : Type 0 → Type 1
Rule A = List Counted → A → Type 0

-- nothing, whose value is a
abbrev pub Done : {A : Type 0} → A → Rule A
Done a cs x = (cs ≡ []) × (x ≡ a)

-- one rule and then another, which may use the value of the first
abbrev pub Then : {A B : Type 0} → Rule A → (A → Rule B) → Rule B
Then {A} R S cs b = (a : A) × (front : List Counted) × (back : List Counted) × R front a × S a back b × (cs ≡ front ++ back)

infixl 10 ◌>>=◌
abbrev pub ◌>>=◌ : {A B : Type 0} → Rule A → (A → Rule B) → Rule B
R >>= S = Then R S

-- one of two rules
infixl 5 ◌or◌
abbrev pub ◌or◌ : {A : Type 0} → Rule A → Rule A → Rule A
(R or S) cs a = R cs a ⊎ S cs a

-- one token outside expressions, whose value is its place
abbrev pub Sign : Terminal → Rule At
Sign wanted cs at = (t : Token) × Is wanted t × (cs ≡ outside t ∷ []) × (at ≡ place t)

abbrev pub AName : Rule Spot
AName cs spot = (t : Token) × Is terminal.Name t × (cs ≡ outside t ∷ []) × (spot ≡ record { word = t.word; at = place t })

-- an expression that is in no other
abbrev pub AnExpression : Rule Tree
AnExpression cs e = (ts : List Token) × IsA Expression ts e × (cs ≡ numbered 1 ts)

-- { "," R }
abbrev pub More : {A : Type 0} → Rule A → Rule (List A)
More R cs [] = cs ≡ []
More R cs (x ∷ xs) = (t : Token) × (front : List Counted) × (back : List Counted) × Is terminal.Comma t × R front x × More R back xs × (cs ≡ outside t ∷ (front ++ back))

-- R { "," R }
abbrev pub Separated : {A : Type 0} → Rule A → Rule (List A)
Separated R cs [] = ⊥
Separated R cs (x ∷ xs) = (front : List Counted) × (back : List Counted) × R front x × More R back xs × (cs ≡ front ++ back)

-- no expression has more than max of these tokens
abbrev pub IsWithin : ℕ → List Counted → Type 0
IsWithin max cs = AllByRecursion (λ c. c.number ≤ max) cs

-- no expression has more than 64 of these tokens (this project defines the limit)
abbrev pub IsShort : List Counted → Type 0
IsShort cs = IsWithin 64 cs
