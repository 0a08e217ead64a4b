-- What is answered to a text that is refused.
use Rattle.std.specs.Prelude.{◌≡◌, ◌-◌, List, length, drop, Result, Ok, Err, map}
use Rattle.hpf_lex.specs.declared.token.Token.{Token}
use Rattle.hpf_lex.specs.declared.refusal.MapRefusal.{MapRefusal}
use Rattle.hpf_lex.specs.declared.refusal.MapError.{MapError}
use Rattle.hpf_lex.specs.declared.refusal.MapError.TheVariants as answer
use Rattle.hpf_syntax.specs.declared.stop.Fault.{Fault}
use Rattle.hpf_syntax.specs.declared.stop.BadToken.{BadToken}
use Rattle.hpf_syntax.specs.Plain.{ItemTree, item_tree}
use Rattle.hpf_syntax.specs.declared.tree.Item.{Item}
use Rattle.hpf_syntax.specs.FirstFault.{code_of}
use Rattle.hpf_syntax.specs.Reading.{first_place}

-- the refusal of the first of these tokens
abbrev pub refusal_at : Fault → List Token → MapRefusal
refusal_at fault tokens = record { code = code_of fault; line = (first_place tokens).line; column = (first_place tokens).column }

abbrev pub refusal_of : List Token → BadToken → MapRefusal
refusal_of tokens bad = refusal_at bad.fault (drop (length tokens - bad.left) tokens)

-- the result is what reading gives, with the place of the token that is refused, unless memory ran out
abbrev pub Refuses : {X Y : Type 0} → (X → Y) → List Token → Result X MapError → Result Y BadToken → Type 0
Refuses view tokens (Ok x) read = read ≡ Ok (view x)
Refuses view tokens (Err (answer.Refused r)) read = (bad : BadToken) × (read ≡ Err bad) × (r ≡ refusal_of tokens bad)
Refuses view tokens (Err (answer.Memory e)) read = Unit {0}

-- the result is these statements, unless memory ran out
abbrev pub IsRead : Result (List Item) MapError → List ItemTree → Type 0
IsRead (Ok items) trees = map item_tree items ≡ trees
IsRead (Err (answer.Refused r)) trees = ⊥
IsRead (Err (answer.Memory e)) trees = Unit {0}
