-- Reading from left to right, one token ahead, up to the first token that is refused.
use Rattle.std.specs.Prelude.{◌≡◌, ℕ, zero, suc, List, [], ◌∷◌, ◌++◌, length, Result, Ok, Err, if◌then◌else◌}
use Rattle.hpf_lex.specs.declared.token.Token.{Token}
use Rattle.hpf_syntax.specs.declared.stop.Fault.{Fault}
use Rattle.hpf_syntax.specs.declared.stop.Fault.TheVariants.{Syntax}
use Rattle.hpf_syntax.specs.declared.stop.BadToken.{BadToken}
use Rattle.hpf_syntax.specs.declared.stop.Stop.{Stop}
use Rattle.hpf_syntax.specs.declared.stop.Stop.TheVariants as stop
use Rattle.hpf_syntax.specs.declared.terminal.Terminal.{Terminal}
use Rattle.hpf_syntax.specs.declared.terminal.Terminal.TheVariants as terminal
use Rattle.hpf_syntax.specs.declared.tree.At.{At}
use Rattle.hpf_syntax.specs.Plain.{place}
use Rattle.hpf_syntax.specs.Terminal.{begins}

-- one reading and then another, which goes on behind it
infixl 10 ◌>>=◌
abbrev pub ◌>>=◌ : {A B : Type 0} → Result A BadToken → (A → Result B BadToken) → Result B BadToken
(Ok x) >>= f = f x
(Err e) >>= f = Err e

-- a value and the tokens after it, or the token that is refused
abbrev pub Reading : Type 0 → Type 0
Reading A = List Token → Result (A × List Token) BadToken

-- the first of these tokens is refused
abbrev pub bad_at : Fault → List Token → BadToken
bad_at fault tokens = record { fault = fault; left = length tokens }

-- a function stopped where reading refuses a token, or for want of memory
abbrev pub Fails : {Y : Type 0} → Stop → Result Y BadToken → Type 0
Fails (stop.Memory e) read = Unit {0}
Fails (stop.Bad b) read = read ≡ Err b

-- what a function returned, seen by view, is what reading gives, unless memory ran out
abbrev pub Gives : {X Y : Type 0} → (X → Y) → Result X Stop → Result Y BadToken → Type 0
Gives view (Ok x) read = read ≡ Ok (view x)
Gives view (Err e) read = Fails e read

-- what stands behind a first token
abbrev pub rest_of : List Token → List Token
rest_of [] = []
rest_of (token ∷ tokens) = tokens

-- where the first token stands
abbrev pub first_place : List Token → At
first_place [] = record { line = 0; column = 0 }
first_place (token ∷ tokens) = place token

-- this token, whose value is its place
unfoldable pub take_at : Terminal → Reading At
take_at wanted tokens =
    if begins wanted tokens then Ok (first_place tokens, rest_of tokens) else Err (bad_at Syntax tokens)

-- up to n more elements behind those that were read, each behind a comma
unfoldable pub more_at : {A : Type 0} → Reading A → ℕ → List A → Reading (List A)
more_at read zero list tokens = Ok (list, tokens)
more_at read (suc n) list tokens =
    if begins terminal.Comma tokens
    then (read (rest_of tokens) >>= λ next. more_at read n (list ++ next.0 ∷ []) next.1)
    else Ok (list, tokens)

-- one or more, with commas between them
unfoldable pub separated_at : {A : Type 0} → Reading A → Reading (List A)
separated_at read tokens = do
  first ← read tokens
  more_at read (length first.1) (first.0 ∷ []) first.1

-- a list between two signs
unfoldable pub enclosed_at : {A : Type 0} → Terminal → Terminal → Reading A → Reading (List A)
enclosed_at opening closing read tokens = do
  from ← take_at opening tokens
  list ← separated_at read from.1
  to ← take_at closing list.1
  Ok (list.0, to.1)
