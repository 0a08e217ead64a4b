-- Rules of the grammar, and the same rules as they are read from left to right, say the same.
use Rattle.std.proofs.Common.{◌≡◌, List, [], ◌++◌, Option, Some, None, refl, sym, ap, subst, ◌∙◌, append_assoc, append-nil, inl, inr}
use Rattle.std.specs.Prelude.{◌⊎◌}
use Rattle.hpf_syntax.specs.declared.terminal.Terminal.TheVariants as terminal
use Rattle.hpf_syntax.specs.Plain.{Tree, BoundTree, SubTree, Triplet}
use Rattle.hpf_syntax.specs.Rules.{Counted, Rule, Done, ◌>>=◌, Sign, AnExpression}
use Rattle.hpf_syntax.specs.Grammar.{AfterColon, MaybeExpression}
use Rattle.hpf_syntax.specs.Grammar as grammar
use Rattle.hpf_syntax.proofs.InOrder as order

-- what one rule says, another says too
abbrev pub Implies : {A : Type 0} → Rule A → Rule A → Type 0
Implies {A} R S = (cs : List Counted) (x : A) → R cs x → S cs x

-- ---- declarations

pub value_in_order : Implies grammar.AValue order.AValue
value_in_order cs v (inl p) = inr p
value_in_order cs v (inr p) = inl p

pub value_published : Implies order.AValue grammar.AValue
value_published cs v (inl p) = inr p
value_published cs v (inr p) = inl p

pub fortran_in_order : Implies grammar.Fortran order.Fortran
fortran_in_order cs x (inl p) = inl p
fortran_in_order cs x (inr (inl (at, f1, b1, p1, q, e1))) = inr (at, f1, b1, p1, inr q, e1)
fortran_in_order cs x (inr (inr (inl (at, f1, b1, p1, (comma, f2, b2, p2, (common, f3, b3, p3, q, e3), e2), e1)))) =
    inr (at, f1, b1, p1, inl (comma, f2, b2, p2, inl (common, f3, b3, p3, inr q, e3), e2), e1)
fortran_in_order cs x (inr (inr (inr (inl (at, f1, b1, p1, (comma, f2, b2, p2, (word, f3, b3, p3, q, e3), e2), e1))))) =
    inr (at, f1, b1, p1, inl (comma, f2, b2, p2, inr (word, f3, b3, p3, ([], [], b3, inr (refl, refl), q, refl), e3), e2), e1)
fortran_in_order cs x (inr (inr (inr (inr (inl (at, f1, b1, p1, (comma, f2, b2, p2, (word, f3, b3, p3, (other, f4, b4, p4, (common, f5, b5, p5, q, e5), e4), e3), e2), e1)))))) =
    let together : b3 ≡ (f4 ++ f5) ++ b5 = e4 ∙ ap (λ (ds : List Counted). f4 ++ ds) e5 ∙ sym (append_assoc f4 f5 b5) in
    inr (at, f1, b1, p1, inl (comma, f2, b2, p2, inr (word, f3, b3, p3, (common, f4 ++ f5, b5, inl (other, f4, f5, p4, p5, refl), q, together), e3), e2), e1)
fortran_in_order cs x (inr (inr (inr (inr (inr (at, f1, b1, p1, (comma, f2, b2, p2, (common, f3, b3, p3, (other, f4, b4, p4, (word, f5, b5, p5, q, e5), e4), e3), e2), e1)))))) =
    inr (at, f1, b1, p1, inl (comma, f2, b2, p2, inl (common, f3, b3, p3, inl (other, f4, b4, p4, (word, f5, b5, p5, q, e5), e4), e3), e2), e1)

pub fortran_published : Implies order.Fortran grammar.Fortran
fortran_published cs x (inl p) = inl p
fortran_published cs x (inr (at, f1, b1, p1, inr q, e1)) = inr (inl (at, f1, b1, p1, q, e1))
fortran_published cs x (inr (at, f1, b1, p1, inl (comma, f2, b2, p2, inl (common, f3, b3, p3, inr q, e3), e2), e1)) =
    inr (inr (inl (at, f1, b1, p1, (comma, f2, b2, p2, (common, f3, b3, p3, q, e3), e2), e1)))
fortran_published cs x (inr (at, f1, b1, p1, inl (comma, f2, b2, p2, inl (common, f3, b3, p3, inl (other, f4, b4, p4, (word, f5, b5, p5, q, e5), e4), e3), e2), e1)) =
    inr (inr (inr (inr (inr (at, f1, b1, p1, (comma, f2, b2, p2, (common, f3, b3, p3, (other, f4, b4, p4, (word, f5, b5, p5, q, e5), e4), e3), e2), e1)))))
fortran_published cs x (inr (at, f1, b1, p1, inl (comma, f2, b2, p2, inr (word, f3, b3, p3, (common, f4, b4, inr (nil, is), q, e4), e3), e2), e1)) =
    let alone : b3 ≡ b4 = e4 ∙ ap (λ (ds : List Counted). ds ++ b4) nil in
    let none : order.ColonsConstants [] b4 x = subst (λ (shape : List BoundTree). order.ColonsConstants shape b4 x) is q in
    inr (inr (inr (inl (at, f1, b1, p1, (comma, f2, b2, p2, (word, f3, b4, p3, none, e3 ∙ ap (λ (ds : List Counted). f3 ++ ds) alone), e2), e1))))
fortran_published cs x (inr (at, f1, b1, p1, inl (comma, f2, b2, p2, inr (word, f3, b3, p3, (common, f4, b4, inl (other, f5, b5, p5, p6, e5), q, e4), e3), e2), e1)) =
    let apart : b3 ≡ f5 ++ (b5 ++ b4) = e4 ∙ ap (λ (ds : List Counted). ds ++ b4) e5 ∙ append_assoc f5 b5 b4 in
    inr (inr (inr (inr (inl (at, f1, b1, p1, (comma, f2, b2, p2, (word, f3, b3, p3, (other, f5, b5 ++ b4, p5, (common, b5, b4, p6, q, refl), apart), e3), e2), e1)))))

-- ---- subscripts

-- what stands behind the lower bound of a triplet
abbrev BehindLow : Option Tree → Rule SubTree
BehindLow low = Sign terminal.Colon >>= λ at. MaybeExpression >>= λ high. AfterColon >>= λ step. Done (Triplet at low high step)

abbrev StepBehindLow : Option Tree → Rule SubTree
StepBehindLow low = Sign terminal.DoubleColon >>= λ at. AnExpression >>= λ step. Done (Triplet at low None (Some step))

-- [ expr ] and a rest
abbrev Behind : (Option Tree → Rule SubTree) → Rule SubTree
Behind T = MaybeExpression >>= λ low. T low

-- expr and a rest
abbrev BehindSome : (Option Tree → Rule SubTree) → Rule SubTree
BehindSome T = AnExpression >>= λ e. T (Some e)

some_or_none : (T : Option Tree → Rule SubTree) (cs : List Counted) (s : SubTree) → Behind T cs s → BehindSome T cs s ⊎ T None cs s
some_or_none T cs s (low, f1, b1, inl (e, f, b, p, (nil, is), e2), q, e1) =
    let front : f1 ≡ f = e2 ∙ ap (λ (ds : List Counted). f ++ ds) nil ∙ append-nil f in
    inl (e, f, b1, p, subst (λ (l : Option Tree). T l b1 s) is q, e1 ∙ ap (λ (ds : List Counted). ds ++ b1) front)
some_or_none T cs s (low, f1, b1, inr (nil, is), q, e1) =
    let all : cs ≡ b1 = e1 ∙ ap (λ (ds : List Counted). ds ++ b1) nil in
    inr (subst (λ (ds : List Counted). T None ds s) (sym all) (subst (λ (l : Option Tree). T l b1 s) is q))

behind_some : (T : Option Tree → Rule SubTree) (cs : List Counted) (s : SubTree) → BehindSome T cs s → Behind T cs s
behind_some T cs s (e, f, b, p, q, e1) = (Some e, f, b, inl (e, f, [], p, (refl, refl), sym (append-nil f)), q, e1)

behind_none : (T : Option Tree → Rule SubTree) (cs : List Counted) (s : SubTree) → T None cs s → Behind T cs s
behind_none T cs s q = (None, [], cs, inr (refl, refl), q, refl)

pub sub_in_order : Implies grammar.ASub order.ASub
sub_in_order cs s (inl p) = inl p
sub_in_order cs s (inr (inl (e, f, b, p, d, e1))) = inr (inr (e, f, b, p, inr d, e1))
sub_in_order cs s (inr (inr (inl p))) =
    elim (some_or_none BehindLow cs s p) [
      | inl (e, f, b, q, r, e1) ↦ inr (inr (e, f, b, q, inl (inr r), e1))
      | inr r ↦ inr (inl (inr r))
    ]
sub_in_order cs s (inr (inr (inr p))) =
    elim (some_or_none StepBehindLow cs s p) [
      | inl (e, f, b, q, r, e1) ↦ inr (inr (e, f, b, q, inl (inl r), e1))
      | inr r ↦ inr (inl (inl r))
    ]

pub sub_published : Implies order.ASub grammar.ASub
sub_published cs s (inl p) = inl p
sub_published cs s (inr (inl (inl r))) = inr (inr (inr (behind_none StepBehindLow cs s r)))
sub_published cs s (inr (inl (inr r))) = inr (inr (inl (behind_none BehindLow cs s r)))
sub_published cs s (inr (inr (e, f, b, p, inl (inl r), e1))) = inr (inr (inr (behind_some StepBehindLow cs s (e, f, b, p, r, e1))))
sub_published cs s (inr (inr (e, f, b, p, inl (inr r), e1))) = inr (inr (inl (behind_some BehindLow cs s (e, f, b, p, r, e1))))
sub_published cs s (inr (inr (e, f, b, p, inr d, e1))) = inr (inl (e, f, b, p, d, e1))

-- ---- statements

pub statement_in_order : Implies grammar.AStatement order.AStatement
statement_in_order cs x (inl p) = inr (inr p)
statement_in_order cs x (inr (inl p)) = inl p
statement_in_order cs x (inr (inr p)) = inr (inl p)

pub statement_published : Implies order.AStatement grammar.AStatement
statement_published cs x (inl p) = inr (inl p)
statement_published cs x (inr (inl p)) = inr (inr p)
statement_published cs x (inr (inr p)) = inl p
