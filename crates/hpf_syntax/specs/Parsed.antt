-- What a mapping text says: its statements, or its first fault, among its tokens or in its grammar.
use Rattle.std.specs.Prelude.{◌≡◌, ◌⊎◌, ℕ, List}
use Rattle.hpf_lex.specs.declared.token.Token.{Token}
use Rattle.hpf_lex.specs.declared.refusal.MapRefusal.{MapRefusal}
use Rattle.hpf_lex.specs.Text.{HasTokens, HasFault}
use Rattle.hpf_syntax.specs.Plain.{ItemTree}
use Rattle.hpf_syntax.specs.Canonical.{canonical}
use Rattle.hpf_syntax.specs.Placeless.{AreAlike}
use Rattle.hpf_syntax.specs.FirstFault.{SpellsShortly, IsRefusalOf}

-- the text's tokens are these statements, and no expression is too long
abbrev pub Says : List ℕ → List ItemTree → Type 0
Says text items = (tokens : List Token) × HasTokens text tokens × SpellsShortly tokens items

-- the text is refused so: for its first fault, or for that of its tokens
abbrev pub IsFaultOf : List ℕ → MapRefusal → Type 0
IsFaultOf text r = HasFault text r ⊎ ((tokens : List Token) × HasTokens text tokens × IsRefusalOf tokens r)

-- the statements of some text
abbrev pub IsParsed : List ItemTree → Type 0
IsParsed items = (text : List ℕ) × Says text items

-- the text is the canonical text of what it says, and that is these statements but for their places
abbrev pub IsReadAgain : List ℕ → List ItemTree → Type 0
IsReadAgain text items = (again : List ItemTree) × Says text again × AreAlike again items × (canonical again ≡ text)
