-- An expression as far as it has been read, one token after the other.
use Rattle.std.specs.Prelude.{ℕ, zero, suc, List, [], ◌∷◌, map, Option, Some, None, Result, Ok, Err, Bool, true, false, not, ◌&&◌, if◌then◌else◌}
use Rattle.hpf_lex.specs.declared.token.Token.{Token}
use Rattle.hpf_syntax.specs.declared.tree.At.{At}
use Rattle.hpf_syntax.specs.declared.terminal.Terminal.{Terminal}
use Rattle.hpf_syntax.specs.declared.terminal.Terminal.TheVariants as terminal
use Rattle.hpf_syntax.specs.declared.expression.Sum.{Sum}
use Rattle.hpf_syntax.specs.declared.expression.Sum.TheVariants as sum
use Rattle.hpf_syntax.specs.declared.expression.Last.{Last}
use Rattle.hpf_syntax.specs.declared.expression.Last.TheVariants as last
use Rattle.hpf_syntax.specs.declared.expression.Level.{Level}
use Rattle.hpf_syntax.specs.declared.expression.Partial.{Partial}
use Rattle.hpf_syntax.specs.declared.stop.Fault.TheVariants.{Syntax, LongExpression}
use Rattle.hpf_syntax.specs.declared.stop.BadToken.{BadToken}
use Rattle.hpf_syntax.specs.Plain.{Tree, Number, Name, Neg, Plus, Minus, Times, tree, place}
use Rattle.hpf_syntax.specs.Terminal.{first_terminal}
use Rattle.hpf_syntax.specs.Reading.{Reading, bad_at, rest_of}

-- what the next term is joined to
pub data Before : Type 0 where
  Nothing : Before
  Negative : At → Before
  Added : At → Tree → Before
  Subtracted : At → Tree → Before

-- what stands last
pub data Standing : Type 0 where
  Start : Standing
  Operator : Standing
  Star : At → Tree → Standing
  Product : Tree → Standing

-- what has been read inside one pair of parentheses
pub record Inner : Type 0 where
  pub before : Before
  pub standing : Standing

-- the innermost open parentheses, and those around them
pub record Progress : Type 0 where
  pub outer : List Inner
  pub inner : Inner

abbrev pub before_of : Sum → Before
before_of sum.Nothing = Nothing
before_of (sum.Negative at) = Negative at
before_of (sum.Plus at a) = Added at (tree a)
before_of (sum.Minus at a) = Subtracted at (tree a)

abbrev pub standing_of : Last → Standing
standing_of last.Nothing = Start
standing_of last.Operator = Operator
standing_of (last.Times at a) = Star at (tree a)
standing_of (last.Product e) = Product (tree e)

abbrev pub inner_of : Level → Inner
inner_of l = record { before = before_of l.sum; standing = standing_of l.last }

abbrev pub progress_of : Partial → Progress
progress_of p = record { outer = map inner_of p.outer; inner = inner_of p.level }

-- ---- steps

-- a term, joined to what stands before it
abbrev pub joined : Before → Tree → Tree
joined Nothing e = e
joined (Negative at) e = Neg at e
joined (Added at a) e = Plus at a e
joined (Subtracted at a) e = Minus at a e

-- a factor, joined to what stands before it
abbrev pub multiplied : Standing → Tree → Tree
multiplied (Star at a) e = Times at a e
multiplied _ e = e

-- whether a factor is due
abbrev pub is_due : Standing → Bool
is_due (Product e) = false
is_due _ = true

-- whether a sign or the operator of a sum may stand here
abbrev pub takes_sign : Standing → Bool
takes_sign Start = true
takes_sign (Product e) = true
takes_sign _ = false

abbrev pub is_open : List Inner → Bool
is_open [] = false
is_open (o ∷ os) = true

-- whether this token may stand next
unfoldable pub takes : Progress → Terminal → Bool
takes p terminal.Number = is_due p.inner.standing
takes p terminal.Name = is_due p.inner.standing
takes p terminal.LeftParen = is_due p.inner.standing
takes p terminal.RightParen = is_open p.outer && not (is_due p.inner.standing)
takes p terminal.Star = not (is_due p.inner.standing)
takes p terminal.Plus = takes_sign p.inner.standing
takes p terminal.Minus = takes_sign p.inner.standing
takes p _ = false

abbrev pub progress : List Inner → Before → Standing → Progress
progress outer b s = record { outer = outer; inner = record { before = b; standing = s } }

abbrev pub fresh_inner : Inner
fresh_inner = record { before = Nothing; standing = Start }

abbrev pub fresh : List Inner → Progress
fresh outer = record { outer = outer; inner = fresh_inner }

-- what stands before the next term behind a `+`: a sign leaves no trace
abbrev pub plus_before : At → Before → Standing → Before
plus_before at b (Product e) = Added at (joined b e)
plus_before at b _ = Nothing

-- and behind a `-`
abbrev pub minus_before : At → Before → Standing → Before
minus_before at b (Product e) = Subtracted at (joined b e)
minus_before at b _ = Negative at

abbrev pub star_after : At → Standing → Standing
star_after at (Product e) = Star at e
star_after at s = s

-- with a factor more
abbrev pub with_factor : List Inner → Inner → Tree → Progress
with_factor outer i e = progress outer i.before (Product (multiplied i.standing e))

-- what the parentheses hold becomes a factor of what stands before them
abbrev pub closed : List Inner → Before → Standing → Progress
closed [] b s = progress [] b s
closed (o ∷ os) b (Product e) = with_factor os o (joined b e)
closed (o ∷ os) b s = progress (o ∷ os) b s

-- with one more token, which it takes
unfoldable pub step_over : Terminal → Token → Progress → Progress
step_over terminal.Number t p = with_factor p.outer p.inner (Number (place t) t.number)
step_over terminal.Name t p = with_factor p.outer p.inner (Name (place t) t.word)
step_over terminal.LeftParen t p = fresh (p.inner ∷ p.outer)
step_over terminal.RightParen t p = closed p.outer p.inner.before p.inner.standing
step_over terminal.Star t p = progress p.outer p.inner.before (star_after (place t) p.inner.standing)
step_over terminal.Plus t p = progress p.outer (plus_before (place t) p.inner.before p.inner.standing) Operator
step_over terminal.Minus t p = progress p.outer (minus_before (place t) p.inner.before p.inner.standing) Operator
step_over _ t p = p

unfoldable pub step : Terminal → List Token → Progress → Progress
step first [] p = p
step first (t ∷ ts) p = step_over first t p

-- the expression, where it may end here
abbrev pub whole : List Inner → Before → Standing → Option Tree
whole [] b (Product e) = Some (joined b e)
whole _ b s = None

unfoldable pub value_of : Progress → Option Tree
value_of p = whole p.outer p.inner.before p.inner.standing

-- ---- all of an expression

abbrev pub ended : Option Tree → List Token → Result (Tree × List Token) BadToken
ended (Some e) tokens = Ok (e, tokens)
ended None tokens = Err (bad_at Syntax tokens)

-- reads on, with room for so many tokens
unfoldable pub run : ℕ → Progress → Reading Tree
run zero p tokens =
    if takes p (first_terminal tokens) then Err (bad_at LongExpression tokens) else ended (value_of p) tokens
run (suc room) p tokens =
    if takes p (first_terminal tokens)
    then run room (step (first_terminal tokens) tokens p) (rest_of tokens)
    else ended (value_of p) tokens

-- the greatest number of tokens of an expression (this project defines it)
abbrev pub max_expression : ℕ
max_expression = 64

unfoldable pub expression_at : ℕ → Reading Tree
expression_at max tokens = run max (fresh []) tokens
