-- The rule of an expression and its reading.
use Rattle.std.proofs.Common.{◌≡◌, ℕ, zero, suc, ◌+◌, ◌-◌, ◌≤◌, Bool, true, false, List, [], ◌∷◌, ◌++◌, length, Option, Some, None, Result, Ok, Err, refl, sym, ap, subst, ◌∙◌, append_assoc, arith, zero-le}
use Rattle.std.proofs.lemmas.List.{append-nil}
use Rattle.hpf_lex.specs.declared.token.Token.{Token}
use Rattle.hpf_syntax.specs.declared.terminal.Terminal.{Terminal}
use Rattle.hpf_syntax.specs.declared.terminal.Terminal.TheVariants as terminal
use Rattle.hpf_syntax.specs.declared.stop.BadToken.{BadToken}
use Rattle.hpf_syntax.specs.declared.stop.Fault.{Fault}
use Rattle.hpf_syntax.specs.declared.stop.Fault.TheVariants.{Syntax, LongExpression}
use Rattle.hpf_syntax.specs.Terminal.{number_of, same, Is, token_terminal, first_terminal}
use Rattle.hpf_syntax.specs.Reading.{bad_at}
use Rattle.hpf_syntax.specs.Plain.{Tree, Number, place}
use Rattle.hpf_syntax.specs.Partial.{Before, Product, Inner, Progress, progress, fresh, joined, takes, step, step_over, value_of, ended, run, expression_at}
use Rattle.hpf_syntax.specs.Expressions.{Part, Expression, IsA, number, name, parenthesized, factor, times, term, positive, negative, plus, minus}
use Rattle.hpf_syntax.specs.Rules.{Counted, tokens_of, numbered, AnExpression, IsWithin}
use Rattle.hpf_syntax.proofs.Terminals.{member, false_is_not_true}
use Rattle.hpf_syntax.proofs.Cuts.{tokens_numbered, cut}
use Rattle.hpf_syntax.proofs.Runs.{run_once, run_is_full, run_stops}
use Rattle.hpf_syntax.proofs.Laws.{Stops, Over, Says, found, refused, Starts, HasNoEnd, Core, Reads, core_alike}
use Rattle.hpf_syntax.proofs.Goes.{numbered_append, goes_is, expression_goes}
use Rattle.hpf_syntax.proofs.Stands.{StandsAt, stands_fresh, stands_on, finish, value_stands, sample_number, sample_number_is}

-- where an expression is too long, the token that is refused would go on
abbrev OverBy : ℕ → Fault → List Token → List Token → List Token → Type 0
OverBy room Syntax us ahead rest = Unit {0}
OverBy room LongExpression us ahead rest = (t : Token) × (tail : List Token) × (more : List Token) × (ahead ≡ t ∷ more) × (rest ≡ t ∷ tail) × (length us ≡ room)

-- what an answer says of the tokens ts, behind those that have been read
data Tells (ps : List Token) (room : ℕ) (p : Progress) (ts : List Token) : Result (Tree × List Token) BadToken → Type 0 where
  ends : (us : List Token) (e : Tree) (rest : List Token) → ts ≡ us ++ rest → IsA Expression (ps ++ us) e → length us ≤ room → ((other : List Token) → first_terminal other ≡ first_terminal rest → run room p (us ++ other) ≡ Ok (e, other)) → Tells ps room p ts (Ok (e, rest))
  stops : (us ahead : List Token) (e : Tree) (fault : Fault) (rest : List Token) → ts ≡ us ++ rest → length us ≤ room → IsA Expression (ps ++ (us ++ ahead)) e → OverBy room fault us ahead rest → ((t : Token) (tail other : List Token) → rest ≡ t ∷ tail → run room p (us ++ t ∷ other) ≡ Err (bad_at fault (t ∷ other))) → Tells ps room p ts (Err (bad_at fault rest))

first_same : (t : Token) (a b : List Token) → first_terminal (t ∷ a) ≡ first_terminal (t ∷ b)
unfolding first_terminal
first_same t a b = refl

takes_nothing : (p : Progress) → takes p (first_terminal []) ≡ false
unfolding takes first_terminal
takes_nothing p = refl

step_first : (t : Token) (ts : List Token) (p : Progress) → step (first_terminal (t ∷ ts)) (t ∷ ts) p ≡ step_over (token_terminal t) t p
unfolding step first_terminal
step_first t ts p = refl

first_is_token : (t : Token) (ts : List Token) → first_terminal (t ∷ ts) ≡ token_terminal t
unfolding first_terminal
first_is_token t ts = refl

as_is : {us vs : List Token} {e : Tree} → us ≡ vs → IsA Expression us e → IsA Expression vs e
as_is {us} {vs} {e} q h = subst (λ (ts : List Token). IsA Expression ts e) q h

value_is : (p : Progress) (ps : List Token) (e : Tree) → StandsAt p ps → value_of p ≡ Some e → IsA Expression ps e
unfolding value_of
value_is p ps e h q = value_stands h q

-- where the next token isn't taken
tells_end : (ps : List Token) (room : ℕ) (p : Progress) (ts : List Token) → StandsAt p ps → takes p (first_terminal ts) ≡ false → (v : Option Tree) → value_of p ≡ v → Tells ps room p ts (ended v ts)
tells_end ps room p ts h out (Some e) q =
    ends [] e ts refl (as_is (sym (append-nil ps)) (value_is p ps e h q)) zero-le
    (λ other f. run_stops room p other (ap (λ (w : Terminal). takes p w) f ∙ out) ∙ ap (λ (v : Option Tree). ended v other) q)
tells_end ps room p ts h out None q =
    let whole = finish h in
    stops [] whole.0 whole.1 Syntax ts refl zero-le whole.2 tt
    (λ t tail other f. run_stops room p (t ∷ other) (ap (λ (w : Terminal). takes p w) (first_same t other tail ∙ ap first_terminal (sym f)) ∙ out) ∙ ap (λ (v : Option Tree). ended v (t ∷ other)) q)

-- with a token more in front
tells_front : (ps : List Token) (room : ℕ) (p q : Progress) (t : Token) (ts : List Token) → ((us : List Token) → run (suc room) p (t ∷ us) ≡ run room q us) → {o : Result (Tree × List Token) BadToken} → Tells (ps ++ t ∷ []) room q ts o → Tells ps (suc room) p (t ∷ ts) o
tells_front ps room p q t ts goes (ends us e rest f h le same) =
    ends (t ∷ us) e rest (ap (λ (vs : List Token). t ∷ vs) f) (as_is (append_assoc ps (t ∷ []) us) h) (omega (arith, le)) (λ other g. goes (us ++ other) ∙ same other g)
tells_front ps room p q t ts goes (stops us ahead e fault rest f le h over dead) =
    stops (t ∷ us) ahead e fault rest (ap (λ (vs : List Token). t ∷ vs) f) (omega (arith, le)) (as_is (append_assoc ps (t ∷ []) (us ++ ahead)) h) (over_front room fault t us ahead rest over) (λ u tail other g. goes (us ++ u ∷ other) ∙ dead u tail other g)
  where
    over_front : (room : ℕ) (fault : Fault) (t : Token) (us ahead rest : List Token) → OverBy room fault us ahead rest → OverBy (suc room) fault (t ∷ us) ahead rest
    over_front room Syntax t us ahead rest o = tt
    over_front room LongExpression t us ahead rest o = (o.0, o.1, o.2, o.3, o.4, ap suc o.5)

tells : (room : ℕ) (ps : List Token) (p : Progress) (ts : List Token) → StandsAt p ps → (b : Bool) → takes p (first_terminal ts) ≡ b → Tells ps room p ts (run room p ts)
tells room ps p ts h false e = subst (λ (o : Result (Tree × List Token) BadToken). Tells ps room p ts o) (sym (run_stops room p ts e)) (tells_end ps room p ts h e (value_of p) refl)
tells room ps p [] h true e = absurd (false_is_not_true (sym (takes_nothing p) ∙ e))
tells zero ps p (t ∷ ts) h true e =
    let on = stands_on (token_terminal t) t p.outer p.inner.before p.inner.standing ps refl h (ap (λ (w : Terminal). takes p w) (sym (first_is_token t ts)) ∙ e) in
    let whole = finish on in
    subst (λ (o : Result (Tree × List Token) BadToken). Tells ps zero p (t ∷ ts) o) (sym (run_is_full p (t ∷ ts) e))
    (stops [] (t ∷ whole.0) whole.1 LongExpression (t ∷ ts) refl zero-le (as_is (append_assoc ps (t ∷ []) whole.0) whole.2) (t, ts, whole.0, refl, refl, refl)
    (λ u tail other f. run_is_full p (u ∷ other) (ap (λ (w : Terminal). takes p w) (first_same u other tail ∙ ap first_terminal (sym f)) ∙ e)))
tells (suc room) ps p (t ∷ ts) h true e =
    let on = stands_on (token_terminal t) t p.outer p.inner.before p.inner.standing ps refl h (ap (λ (w : Terminal). takes p w) (sym (first_is_token t ts)) ∙ e) in
    let q : Progress = step_over (token_terminal t) t p in
    let goes : (us : List Token) → run (suc room) p (t ∷ us) ≡ run room q us = λ us. run_once room p (t ∷ us) (ap (λ (w : Terminal). takes p w) (first_same t us ts) ∙ e) ∙ ap (λ (z : Progress). run room z us) (step_first t us p) in
    subst (λ (o : Result (Tree × List Token) BadToken). Tells ps (suc room) p (t ∷ ts) o) (sym (goes ts))
    (tells_front ps room p q t ts goes (tells room (ps ++ t ∷ []) q ts on (takes q (first_terminal ts)) refl))

-- ---- with the tokens counted

-- what an expression begins with
abbrev pub expression_first : List Terminal
expression_first = terminal.Number ∷ terminal.Name ∷ terminal.LeftParen ∷ terminal.Plus ∷ terminal.Minus ∷ []

-- what goes on with an expression
abbrev pub expression_more : List Terminal
expression_more = terminal.Plus ∷ terminal.Minus ∷ terminal.Star ∷ []

takes_no_more : (os : List Inner) (b : Before) (v : Tree) (w : Terminal) → os ≡ [] → member w expression_more ≡ false → takes (progress [] b (Product v)) w ≡ false
unfolding takes same number_of
takes_no_more os b v terminal.Plus e m = absurd (false_is_not_true (sym m))
takes_no_more os b v terminal.Minus e m = absurd (false_is_not_true (sym m))
takes_no_more os b v terminal.Star e m = absurd (false_is_not_true (sym m))
takes_no_more os b v _ e m = refl

value_whole : (b : Before) (v : Tree) → value_of (progress [] b (Product v)) ≡ Some (joined b v)
unfolding value_of
value_whole b v = refl

-- ---- first tokens, and no end inside

abbrev BeginsSo : List Token → Type 0
BeginsSo [] = ⊥
BeginsSo (t ∷ ts) = member (token_terminal t) expression_first ≡ true

begins_append : (a b : List Token) → BeginsSo a → BeginsSo (a ++ b)
begins_append [] b h = absurd h
begins_append (t ∷ a) b h = h

begins_with : (w : Terminal) (t : Token) (ts : List Token) → Is w t → member w expression_first ≡ true → BeginsSo (t ∷ ts)
begins_with w t ts is m = ap (λ (x : Terminal). member x expression_first) is ∙ m

is_first : (member terminal.Number expression_first ≡ true) × (member terminal.Name expression_first ≡ true) × (member terminal.LeftParen expression_first ≡ true) × (member terminal.Plus expression_first ≡ true) × (member terminal.Minus expression_first ≡ true)
unfolding same number_of
is_first = (refl, refl, refl, refl, refl)

expression_begins : {part : Part} {ts : List Token} {e : Tree} → IsA part ts e → BeginsSo ts
expression_begins (number t is) = begins_with terminal.Number t [] is is_first.0
expression_begins (name t is) = begins_with terminal.Name t [] is is_first.1
expression_begins (parenthesized l r {ts = ts} isl h isr) = begins_with terminal.LeftParen l (ts ++ r ∷ []) isl is_first.2
expression_begins (factor h) = expression_begins h
expression_begins (times t {front = front} {back = back} h is i) = begins_append front (t ∷ back) (expression_begins h)
expression_begins (term h) = expression_begins h
expression_begins (positive t {ts = ts} is h) = begins_with terminal.Plus t ts is is_first.3
expression_begins (negative t {ts = ts} is h) = begins_with terminal.Minus t ts is is_first.4
expression_begins (plus t {front = front} {back = back} h is i) = begins_append front (t ∷ back) (expression_begins h)
expression_begins (minus t {front = front} {back = back} h is i) = begins_append front (t ∷ back) (expression_begins h)

starts_numbered : (ts : List Token) → BeginsSo ts → Starts expression_first false (numbered 1 ts)
starts_numbered [] h = absurd h
starts_numbered (t ∷ ts) h = h

abbrev NoEnds : List Token → Type 0
NoEnds [] = Unit {0}
NoEnds (t ∷ ts) = (same (token_terminal t) terminal.End ≡ false) × NoEnds ts

no_ends_append : (a b : List Token) → NoEnds a → NoEnds b → NoEnds (a ++ b)
no_ends_append [] b p q = q
no_ends_append (t ∷ a) b p q = (p.0, no_ends_append a b p.1 q)

no_end_is : (w : Terminal) (t : Token) → Is w t → same w terminal.End ≡ false → same (token_terminal t) terminal.End ≡ false
no_end_is w t is m = ap (λ (x : Terminal). same x terminal.End) is ∙ m

is_no_end : (same terminal.Number terminal.End ≡ false) × (same terminal.Name terminal.End ≡ false) × (same terminal.LeftParen terminal.End ≡ false) × (same terminal.RightParen terminal.End ≡ false) × (same terminal.Star terminal.End ≡ false) × (same terminal.Plus terminal.End ≡ false) × (same terminal.Minus terminal.End ≡ false)
unfolding same number_of
is_no_end = (refl, refl, refl, refl, refl, refl, refl)

expression_no_ends : {part : Part} {ts : List Token} {e : Tree} → IsA part ts e → NoEnds ts
expression_no_ends (number t is) = (no_end_is terminal.Number t is is_no_end.0, tt)
expression_no_ends (name t is) = (no_end_is terminal.Name t is is_no_end.1, tt)
expression_no_ends (parenthesized l r {ts = ts} isl h isr) = (no_end_is terminal.LeftParen l isl is_no_end.2, no_ends_append ts (r ∷ []) (expression_no_ends h) (no_end_is terminal.RightParen r isr is_no_end.3, tt))
expression_no_ends (factor h) = expression_no_ends h
expression_no_ends (times t {front = front} {back = back} h is i) = no_ends_append front (t ∷ back) (expression_no_ends h) (no_end_is terminal.Star t is is_no_end.4, expression_no_ends i)
expression_no_ends (term h) = expression_no_ends h
expression_no_ends (positive t is h) = (no_end_is terminal.Plus t is is_no_end.5, expression_no_ends h)
expression_no_ends (negative t is h) = (no_end_is terminal.Minus t is is_no_end.6, expression_no_ends h)
expression_no_ends (plus t {front = front} {back = back} h is i) = no_ends_append front (t ∷ back) (expression_no_ends h) (no_end_is terminal.Plus t is is_no_end.5, expression_no_ends i)
expression_no_ends (minus t {front = front} {back = back} h is i) = no_ends_append front (t ∷ back) (expression_no_ends h) (no_end_is terminal.Minus t is is_no_end.6, expression_no_ends i)

no_end_numbered : (k : ℕ) (ts : List Token) → NoEnds ts → HasNoEnd (numbered k ts)
no_end_numbered k [] h = tt
no_end_numbered k (t ∷ ts) h = (h.0, no_end_numbered (k + 1) ts h.1)

module _ (max : ℕ) where
  short_numbered : (k : ℕ) (us : List Token) → k + length us ≤ suc max → IsWithin max (numbered k us)
  short_numbered k [] le = tt
  short_numbered k (t ∷ us) le = (omega (arith, le), short_numbered (k + 1) us (omega (arith, le)))

  over_counted : (fault : Fault) (us ahead rest : List Token) → OverBy max fault us ahead rest → Over max fault (numbered (1 + length us) ahead) rest
  over_counted Syntax us ahead rest o = tt
  over_counted LongExpression us ahead rest (t, tail, more, e, f, g) =
      (t, tail, numbered (1 + length us + 1) more, ap (λ (vs : List Token). numbered (1 + length us) vs) e ∙ ap (λ (n : ℕ). record { token = t; number = 1 + n } ∷ numbered (1 + length us + 1) more) g, f)

  expression_says_of : (ts : List Token) {o : Result (Tree × List Token) BadToken} → Tells [] max (fresh []) ts o → Says max AnExpression (run max (fresh [])) ts o
  expression_says_of ts (ends us e rest f h le same) =
      found (numbered 1 us) e rest (f ∙ ap (λ (vs : List Token). vs ++ rest) (sym (tokens_numbered 1 us))) (us, h, refl) (short_numbered 1 us (omega (arith, le)))
      (λ other g. ap (λ (vs : List Token). run max (fresh []) (vs ++ other)) (tokens_numbered 1 us) ∙ same other g)
  expression_says_of ts (stops us ahead e fault rest f le h over dead) =
      refused (numbered 1 us) (numbered (1 + length us) ahead) e fault rest (f ∙ ap (λ (vs : List Token). vs ++ rest) (sym (tokens_numbered 1 us))) (short_numbered 1 us (omega (arith, le)))
      (us ++ ahead, h, sym (numbered_append 1 us ahead)) (over_counted fault us ahead rest over)
      (λ t tail other g. ap (λ (vs : List Token). run max (fresh []) (vs ++ t ∷ other)) (tokens_numbered 1 us) ∙ dead t tail other g)

  expression_complete : (cs : List Counted) (e : Tree) (rest : List Token) → AnExpression cs e → Stops expression_more rest → run max (fresh []) (tokens_of cs ++ rest) ≡ cut max cs rest (Ok (e, rest))
  expression_complete cs e rest (us, h, f) stopped =
      let g = expression_goes max h 1 [] in
      let q : Progress = progress [] g.0 (Product g.1) in
      let n : ℕ = suc max - (1 + length us) in
      let same_room : max ≡ suc max - 1 = omega arith in
      let done : run n q rest ≡ Ok (e, rest) = run_stops n q rest (takes_no_more [] g.0 g.1 (first_terminal rest) refl stopped) ∙ ap (λ (v : Option Tree). ended v rest) (value_whole g.0 g.1) ∙ ap (λ (x : Tree). Ok (x, rest)) g.2 in
      let whole : run max (fresh []) (tokens_of (numbered 1 us) ++ rest) ≡ cut max (numbered 1 us) rest (Ok (e, rest)) =
      ap (λ (vs : List Token). run max (fresh []) (vs ++ rest)) (tokens_numbered 1 us) ∙ ap (λ (i : ℕ). run i (fresh []) (us ++ rest)) same_room ∙ goes_is max 1 (fresh []) us q g.3 rest ∙ ap (λ (o : Result (Tree × List Token) BadToken). cut max (numbered 1 us) rest o) done in
      subst (λ (ds : List Counted). run max (fresh []) (tokens_of ds ++ rest) ≡ cut max ds rest (Ok (e, rest))) (sym f) whole

  run_core : Core max AnExpression (run max (fresh [])) expression_first expression_more false
  run_core = record {
    complete = expression_complete;
    says = λ ts. expression_says_of ts (tells max [] (fresh []) ts stands_fresh (takes (fresh []) (first_terminal ts)) refl);
    starts = λ cs e (us, h, f). subst (λ (ds : List Counted). Starts expression_first false ds) (sym f) (starts_numbered us (expression_begins h));
    some = (numbered 1 (sample_number ∷ []), Number (place sample_number) 1, (sample_number ∷ [], term (factor (number sample_number sample_number_is)), refl));
  }

  expression_is : (ts : List Token) → expression_at max ts ≡ run max (fresh []) ts
  unfolding expression_at
  expression_is ts = refl

  pub expression_reads : Reads max AnExpression (expression_at max) expression_first expression_more false
  expression_reads = record {
    core = core_alike max AnExpression (run max (fresh [])) (expression_at max) expression_first expression_more false expression_is run_core;
    inner = λ cs e (us, h, f). subst HasNoEnd (sym f) (no_end_numbered 1 us (expression_no_ends h));
  }
