-- What has been read of an expression is the beginning of one.
use Rattle.std.proofs.Common.{◌≡◌, Bool, true, false, not, ◌&&◌, List, [], ◌∷◌, ◌++◌, Option, Some, None, refl, sym, ap, subst, ◌∙◌, append_assoc}
use Rattle.std.proofs.lemmas.List.{append-nil}
use Rattle.hpf_lex.specs.declared.token.Token.{Token}
use Rattle.hpf_lex.specs.declared.token.TokenKind.TheVariants as kind
use Rattle.hpf_syntax.specs.declared.terminal.Terminal.{Terminal}
use Rattle.hpf_syntax.specs.declared.terminal.Terminal.TheVariants as terminal
use Rattle.hpf_syntax.specs.Terminal.{Is, token_terminal, kind_terminal}
use Rattle.hpf_syntax.specs.Plain.{Tree, place, Times}
use Rattle.hpf_syntax.specs.Partial.{Before, Nothing, Negative, Added, Subtracted, Standing, Start, Operator, Star, Product, Inner, Progress, progress, fresh, joined, multiplied, is_due, is_open, takes, step_over, whole}
use Rattle.hpf_syntax.specs.Expressions.{Expression, Term, Factor, IsA, number, name, parenthesized, factor, times, term, positive, negative, plus, minus}
use Rattle.hpf_syntax.proofs.Terminals.{false_is_not_true}

-- what stands before a term
pub data Led : Before → List Token → Type 0 where
  nothing : Led Nothing []
  signed : (t : Token) → Is terminal.Plus t → Led Nothing (t ∷ [])
  negated : (t : Token) → Is terminal.Minus t → Led (Negative (place t)) (t ∷ [])
  added : (t : Token) {ts : List Token} {a : Tree} → IsA Expression ts a → Is terminal.Plus t → Led (Added (place t) a) (ts ++ t ∷ [])
  subtracted : (t : Token) {ts : List Token} {a : Tree} → IsA Expression ts a → Is terminal.Minus t → Led (Subtracted (place t) a) (ts ++ t ∷ [])

-- what stands before a factor in its term
pub data Waits : Standing → List Token → Type 0 where
  operator : Waits Operator []
  star : (t : Token) {ts : List Token} {a : Tree} → IsA Term ts a → Is terminal.Star t → Waits (Star (place t) a) (ts ++ t ∷ [])

-- where a factor is due
pub data Due : Before → Standing → List Token → Type 0 where
  at_start : Due Nothing Start []
  behind : {b : Before} {s : Standing} {ps qs : List Token} → Led b ps → Waits s qs → Due b s (ps ++ qs)

pub data Around : List Inner → List Token → Type 0 where
  none : Around [] []
  opened : (t : Token) {os : List Inner} {b : Before} {s : Standing} {ps qs : List Token} → Around os ps → Due b s qs → Is terminal.LeftParen t → Around (record { before = b; standing = s } ∷ os) (ps ++ (qs ++ t ∷ []))

-- these tokens have been read where the reading stands so
pub data Stands : List Inner → Before → Standing → List Token → Type 0 where
  wants : {os : List Inner} {b : Before} {s : Standing} {ps qs : List Token} → Around os ps → Due b s qs → Stands os b s (ps ++ qs)
  has : {os : List Inner} {b : Before} {ps qs us : List Token} {e : Tree} → Around os ps → Led b qs → IsA Term us e → Stands os b (Product e) (ps ++ (qs ++ us))

abbrev pub StandsAt : Progress → List Token → Type 0
StandsAt p ps = Stands p.outer p.inner.before p.inner.standing ps

pub stands_fresh : StandsAt (fresh []) []
stands_fresh = wants none at_start

as_expression : {us vs : List Token} {e : Tree} → us ≡ vs → IsA Expression us e → IsA Expression vs e
as_expression {us} {vs} {e} q h = subst (λ (ts : List Token). IsA Expression ts e) q h

join : {b : Before} {ps ts : List Token} {e : Tree} → Led b ps → IsA Term ts e → IsA Expression (ps ++ ts) (joined b e)
join nothing h = term h
join (signed t is) h = positive t is h
join (negated t is) h = negative t is h
join {ts = ts} (added t {ts = front} i is) h = as_expression (sym (append_assoc front (t ∷ []) ts)) (plus t i is h)
join {ts = ts} (subtracted t {ts = front} i is) h = as_expression (sym (append_assoc front (t ∷ []) ts)) (minus t i is h)

multiply : {s : Standing} {ps ts : List Token} {e : Tree} → Waits s ps → IsA Factor ts e → IsA Term (ps ++ ts) (multiplied s e)
multiply operator h = factor h
multiply {ts = ts} {e = e} (star t {ts = front} {a = a} i is) h = subst (λ (us : List Token). IsA Term us (Times (place t) a e)) (sym (append_assoc front (t ∷ []) ts)) (times t i is h)

place_factor : {b : Before} {s : Standing} {ps ts : List Token} {e : Tree} → Due b s ps → IsA Factor ts e → (us : List Token) × (vs : List Token) × Led b us × IsA Term vs (multiplied s e) × (ps ++ ts ≡ us ++ vs)
place_factor {ts = ts} at_start h = ([], ts, nothing, factor h, refl)
place_factor {ts = ts} (behind {ps = ps} {qs = qs} l w) h = (ps, qs ++ ts, l, multiply w h, append_assoc ps qs ts)

with_factor_stands : {os : List Inner} {b : Before} {s : Standing} {ps qs ts : List Token} {e : Tree} → Around os ps → Due b s qs → IsA Factor ts e → Stands os b (Product (multiplied s e)) (ps ++ (qs ++ ts))
with_factor_stands {os} {b} {s} {ps} {qs} {ts} {e} around d h =
    let placed = place_factor d h in
    subst (λ (us : List Token). Stands os b (Product (multiplied s e)) (ps ++ us)) (sym placed.4) (has around placed.2 placed.3)

-- ---- a token more

regroup_one : (ps qs ts : List Token) → ps ++ (qs ++ ts) ≡ (ps ++ qs) ++ ts
regroup_one ps qs ts = sym (append_assoc ps qs ts)

moved : {os : List Inner} {b : Before} {s : Standing} {us vs : List Token} → us ≡ vs → Stands os b s us → Stands os b s vs
moved {os} {b} {s} q h = subst (λ (ts : List Token). Stands os b s ts) q h

and_false : (a : Bool) → (a && false) ≡ true → ⊥
and_false true e = false_is_not_true e
and_false false e = false_is_not_true e

not_due : {b : Before} {s : Standing} {qs : List Token} → Due b s qs → not (is_due s) ≡ true → ⊥
not_due at_start e = false_is_not_true e
not_due (behind l operator) e = false_is_not_true e
not_due (behind l (star t h is)) e = false_is_not_true e

close_due : (os : List Inner) {b : Before} {s : Standing} {qs : List Token} → Due b s qs → (is_open os && not (is_due s)) ≡ true → ⊥
close_due os at_start e = and_false (is_open os) e
close_due os (behind l operator) e = and_false (is_open os) e
close_due os (behind l (star t h is)) e = and_false (is_open os) e

pub stands_on : (w : Terminal) (t : Token) (os : List Inner) (b : Before) (s : Standing) (ps : List Token) → Is w t → Stands os b s ps → takes (progress os b s) w ≡ true → StandsAt (step_over w t (progress os b s)) (ps ++ t ∷ [])
unfolding takes step_over
stands_on terminal.Number t os b s ps is (wants {ps = us} {qs = vs} around d) e = moved (regroup_one us vs (t ∷ [])) (with_factor_stands around d (number t is))
stands_on terminal.Number t os b s ps is (has around l h) e = absurd (false_is_not_true e)
stands_on terminal.Name t os b s ps is (wants {ps = us} {qs = vs} around d) e = moved (regroup_one us vs (t ∷ [])) (with_factor_stands around d (name t is))
stands_on terminal.Name t os b s ps is (has around l h) e = absurd (false_is_not_true e)
stands_on terminal.LeftParen t os b s ps is (wants {ps = us} {qs = vs} around d) e = moved (append-nil (us ++ (vs ++ t ∷ [])) ∙ regroup_one us vs (t ∷ [])) (wants (opened t around d is) at_start)
stands_on terminal.LeftParen t os b s ps is (has around l h) e = absurd (false_is_not_true e)
stands_on terminal.RightParen t os b s ps is (wants around d) e = absurd (close_due os d e)
stands_on terminal.RightParen t os b s ps is (has none l h) e = absurd (false_is_not_true e)
stands_on terminal.RightParen t os b s ps is (has {qs = vs} {us = ws} (opened u {ps = us} {qs = xs} around d isl) l h) e =
    moved (simp append_assoc) (with_factor_stands around d (parenthesized u t isl (join l h) is))
stands_on terminal.Star t os b s ps is (wants around d) e = absurd (not_due d e)
stands_on terminal.Star t os b s ps is (has {ps = us} {qs = vs} {us = ws} around l h) e = moved (simp append_assoc) (wants around (behind l (star t h is)))
stands_on terminal.Plus t os b s ps is (wants {ps = us} around at_start) e = moved (simp (append_assoc, append-nil)) (wants around (behind (signed t is) operator))
stands_on terminal.Plus t os b s ps is (wants around (behind l operator)) e = absurd (false_is_not_true e)
stands_on terminal.Plus t os b s ps is (wants around (behind l (star u h i))) e = absurd (false_is_not_true e)
stands_on terminal.Plus t os b s ps is (has {ps = us} {qs = vs} {us = ws} around l h) e = moved (simp (append_assoc, append-nil)) (wants around (behind (added t (join l h) is) operator))
stands_on terminal.Minus t os b s ps is (wants {ps = us} around at_start) e = moved (simp (append_assoc, append-nil)) (wants around (behind (negated t is) operator))
stands_on terminal.Minus t os b s ps is (wants around (behind l operator)) e = absurd (false_is_not_true e)
stands_on terminal.Minus t os b s ps is (wants around (behind l (star u h i))) e = absurd (false_is_not_true e)
stands_on terminal.Minus t os b s ps is (has {ps = us} {qs = vs} {us = ws} around l h) e = moved (simp (append_assoc, append-nil)) (wants around (behind (subtracted t (join l h) is) operator))
stands_on _ t os b s ps is h e = absurd (false_is_not_true e)

-- ---- what has been read can be completed

none_is_not_some : {e : Tree} → ◌≡◌ {A = Option Tree} None (Some e) → ⊥
none_is_not_some q = cc

some_is : {a e : Tree} → ◌≡◌ {A = Option Tree} (Some a) (Some e) → a ≡ e
some_is q = cc

no_value : (os : List Inner) {b : Before} {s : Standing} {qs : List Token} {e : Tree} → Due b s qs → whole os b s ≡ Some e → ⊥
no_value [] at_start q = none_is_not_some q
no_value [] (behind l operator) q = none_is_not_some q
no_value [] (behind l (star t h is)) q = none_is_not_some q
no_value (o ∷ os) d q = none_is_not_some q

abbrev pub sample_number : Token
sample_number = record { kind = kind.Number; word = []; number = 1; line = 0; column = 0 }

abbrev pub sample_right : Token
sample_right = record { kind = kind.RightParen; word = []; number = 0; line = 0; column = 0 }

pub sample_number_is : Is terminal.Number sample_number
unfolding token_terminal kind_terminal
sample_number_is = refl

sample_right_is : Is terminal.RightParen sample_right
unfolding token_terminal kind_terminal
sample_right_is = refl

-- what follows, with the tree that it makes
abbrev pub Completes : List Token → Type 0
Completes ps = (ahead : List Token) × (e : Tree) × IsA Expression (ps ++ ahead) e

regroup_close : (ps us vs qs xs ahead : List Token) (t : Token) → qs ++ (t ∷ (xs ++ sample_right ∷ [])) ≡ us ++ vs → (ps ++ (us ++ vs)) ++ ahead ≡ ((ps ++ (qs ++ t ∷ [])) ++ xs) ++ (sample_right ∷ ahead)
regroup_close ps us vs qs xs ahead t e = ap (λ (ws : List Token). (ps ++ ws) ++ ahead) (sym e) ∙ simp append_assoc

finish_has : {os : List Inner} {b : Before} {ps qs us : List Token} {e : Tree} → Around os ps → Led b qs → IsA Term us e → Completes (ps ++ (qs ++ us))
finish_has {b = b} {qs = qs} {us = us} {e = e} none l h = ([], joined b e, as_expression (sym (append-nil (qs ++ us))) (join l h))
finish_has {qs = ys} {us = zs} (opened t {ps = ps} {qs = qs} around d is) l h =
    let placed = place_factor d (parenthesized t sample_right is (join l h) sample_right_is) in
    let rest = finish_has around placed.2 placed.3 in
    (sample_right ∷ rest.0, rest.1, as_expression (regroup_close ps placed.0 placed.1 qs (ys ++ zs) rest.0 t placed.4) rest.2)

regroup_number : (ps us vs qs ahead : List Token) → qs ++ sample_number ∷ [] ≡ us ++ vs → (ps ++ (us ++ vs)) ++ ahead ≡ (ps ++ qs) ++ (sample_number ∷ ahead)
regroup_number ps us vs qs ahead e = ap (λ (ws : List Token). (ps ++ ws) ++ ahead) (sym e) ∙ simp append_assoc

pub finish : {os : List Inner} {b : Before} {s : Standing} {ps : List Token} → Stands os b s ps → Completes ps
finish (has around l h) = finish_has around l h
finish (wants {ps = ps} {qs = qs} around d) =
    let placed = place_factor d (number sample_number sample_number_is) in
    let rest = finish_has around placed.2 placed.3 in
    (sample_number ∷ rest.0, rest.1, as_expression (regroup_number ps placed.0 placed.1 qs rest.0 placed.4) rest.2)

-- where it may end, it is an expression
pub value_stands : {os : List Inner} {b : Before} {s : Standing} {ps : List Token} {e : Tree} → Stands os b s ps → whole os b s ≡ Some e → IsA Expression ps e
value_stands (has {qs = qs} {us = us} none l h) q = subst (λ x. IsA Expression (qs ++ us) x) (some_is q) (join l h)
value_stands (has (opened t around d is) l h) q = absurd (none_is_not_some q)
value_stands {e = e} (wants {os = os} around d) q = absurd (no_value os d q)
