-- What a mapping text says: its tokens, or its first fault.
use Rattle.std.specs.Prelude.{◌≡◌, ℕ, nat_lt, if◌then◌else◌, List, [], ◌∷◌, length, Option, Some, None, Result, Ok, Err}
use Rattle.hpf_lex.specs.declared.refusal.Fault.TheVariants.{TooLong}
use Rattle.hpf_lex.specs.declared.refusal.MapRefusal.{MapRefusal}
use Rattle.hpf_lex.specs.declared.refusal.MapError.{MapError}
use Rattle.hpf_lex.specs.declared.refusal.MapError.TheVariants as errors
use Rattle.hpf_lex.specs.declared.token.Token.{Token}
use Rattle.hpf_lex.specs.Order.{least}
use Rattle.hpf_lex.specs.Statement.{Mark, token, fault, max_text, refusal_at, text_marks}

-- the tokens among marks, and the faults among them
abbrev pub tokens_of : List Mark → List Token
tokens_of [] = []
tokens_of (token t width ∷ others) = t ∷ tokens_of others
tokens_of (fault f ∷ others) = tokens_of others

abbrev pub faults_of : List Mark → List MapRefusal
faults_of [] = []
faults_of (token t width ∷ others) = faults_of others
faults_of (fault f ∷ others) = f ∷ faults_of others

-- these tokens, unless there is a fault
abbrev pub tokens_or : List Token → Option MapRefusal → Result (List Token) MapRefusal
tokens_or tokens None = Ok tokens
tokens_or tokens (Some f) = Err f

-- what marks say: their tokens if none is a fault, or else the fault with the least place
abbrev pub verdict : List Mark → Result (List Token) MapRefusal
verdict marks = tokens_or (tokens_of marks) (least (faults_of marks))

-- The tokens of a text without a fault, or else the text's first fault: that it is too long, or that with the least place.
unfoldable pub reading : List ℕ → Result (List Token) MapRefusal
reading text =
    if nat_lt max_text (length text) then Err (refusal_at TooLong 0 0)
    else verdict (text_marks text)

-- the tokens of a text that has no fault
abbrev pub HasTokens : List ℕ → List Token → Type 0
HasTokens text tokens = reading text ≡ Ok tokens

-- the first fault of a text
abbrev pub HasFault : List ℕ → MapRefusal → Type 0
HasFault text f = reading text ≡ Err f

-- what an answer says, unless memory ran out
abbrev pub Answers : Result (List Token) MapError → List ℕ → Type 0
Answers (Ok tokens) text = HasTokens text tokens
Answers (Err (errors.Refused f)) text = HasFault text f
Answers (Err (errors.Memory e)) text = Unit {0}

-- a fact of the refusal, where there is one
abbrev pub IfRefused : {A : Type 0} → Result A MapError → (MapRefusal → Type 0) → Type 0
IfRefused (Ok x) P = Unit {0}
IfRefused (Err (errors.Refused f)) P = P f
IfRefused (Err (errors.Memory e)) P = Unit {0}

-- an answer is these tokens, unless memory ran out
abbrev pub IsRead : Result (List Token) MapError → List Token → Type 0
IsRead (Ok found) tokens = found ≡ tokens
IsRead (Err (errors.Refused f)) tokens = ⊥
IsRead (Err (errors.Memory e)) tokens = Unit {0}

-- an answer is this refusal, unless memory ran out
abbrev pub IsRefused : {A : Type 0} → Result A MapError → MapRefusal → Type 0
IsRefused (Ok x) f = ⊥
IsRefused (Err (errors.Refused g)) f = g ≡ f
IsRefused (Err (errors.Memory e)) f = Unit {0}
