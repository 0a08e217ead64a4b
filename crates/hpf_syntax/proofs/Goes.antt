-- An expression of the grammar is read whole, as far as it has at most 64 tokens.
use Rattle.std.proofs.Common.{◌≡◌, ℕ, zero, suc, ◌+◌, ◌-◌, Bool, true, cond, List, [], ◌∷◌, ◌++◌, length, Result, Err, refl, sym, ap, subst, ◌∙◌, append_assoc, arith, inl, inr}
use Rattle.std.proofs.lemmas.Bool.{cases_lt}
use Rattle.std.proofs.lemmas.List.{length-append}
use Rattle.hpf_lex.specs.declared.token.Token.{Token}
use Rattle.hpf_syntax.specs.declared.terminal.Terminal.{Terminal}
use Rattle.hpf_syntax.specs.declared.terminal.Terminal.TheVariants as terminal
use Rattle.hpf_syntax.specs.declared.stop.BadToken.{BadToken}
use Rattle.hpf_syntax.specs.declared.stop.Fault.TheVariants.{LongExpression}
use Rattle.hpf_syntax.specs.Terminal.{Is, first_terminal}
use Rattle.hpf_syntax.specs.Reading.{bad_at}
use Rattle.hpf_syntax.specs.Plain.{Tree, place, Plus, Minus}
use Rattle.hpf_syntax.specs.Partial.{Before, Nothing, Negative, Added, Subtracted, Standing, Start, Operator, Star, Product, Inner, Progress, progress, fresh, joined, multiplied, is_due, takes, step, step_over, run}
use Rattle.hpf_syntax.specs.Expressions.{Expression, Term, Factor, IsA, number, name, parenthesized, factor, times, term, positive, negative, plus, minus}
use Rattle.hpf_syntax.specs.Rules.{Counted, numbered}
use Rattle.hpf_syntax.proofs.Cuts.{within_le, within_lt, cut, cut_append, tokens_numbered}
use Rattle.hpf_syntax.proofs.Runs.{run_once, run_is_full}

pub numbered_append : (k : ℕ) (a b : List Token) → numbered k (a ++ b) ≡ numbered k a ++ numbered (k + length a) b
numbered_append k [] b = ap (λ (n : ℕ). numbered n b) (omega arith)
numbered_append k (t ∷ a) b =
    ap (λ (cs : List Counted). record { token = t; number = k } ∷ cs) (numbered_append (k + 1) a b ∙ ap (λ (n : ℕ). numbered (k + 1) a ++ numbered n b) (omega arith))

step_is : (w : Terminal) (t : Token) (p : Progress) (rest : List Token) → Is w t → step (first_terminal (t ∷ rest)) (t ∷ rest) p ≡ step_over w t p
unfolding step first_terminal
step_is w t p rest is = ap (λ (x : Terminal). step_over x t p) is

first_of : (w : Terminal) (t : Token) (rest : List Token) → Is w t → first_terminal (t ∷ rest) ≡ w
unfolding first_terminal
first_of w t rest is = is

takes_factor : (os : List Inner) (b : Before) (s : Standing) → is_due s ≡ true → (takes (progress os b s) terminal.Number ≡ true) × (takes (progress os b s) terminal.Name ≡ true) × (takes (progress os b s) terminal.LeftParen ≡ true)
unfolding takes
takes_factor os b s due = (due, due, due)

takes_behind : (os : List Inner) (b : Before) (v : Tree) → (takes (progress os b (Product v)) terminal.Star ≡ true) × (takes (progress os b (Product v)) terminal.Plus ≡ true) × (takes (progress os b (Product v)) terminal.Minus ≡ true)
unfolding takes
takes_behind os b v = (refl, refl, refl)

takes_sign_first : (os : List Inner) → (takes (fresh os) terminal.Plus ≡ true) × (takes (fresh os) terminal.Minus ≡ true)
unfolding takes
takes_sign_first os = (refl, refl)

takes_close : (o : Inner) (os : List Inner) (b : Before) (v : Tree) → takes (progress (o ∷ os) b (Product v)) terminal.RightParen ≡ true
unfolding takes
takes_close o os b v = refl

module _ (max : ℕ) where
  -- from p, with the k-th token next, these tokens lead to q
  pub Goes : ℕ → Progress → List Token → Progress → Type 0
  Goes k p ts q = (rest : List Token) → run (suc max - k) p (ts ++ rest) ≡ cut max (numbered k ts) rest (run (suc max - (k + length ts)) q rest)

  pub goes_is : (k : ℕ) (p : Progress) (ts : List Token) (q : Progress) → Goes k p ts q → (rest : List Token) → run (suc max - k) p (ts ++ rest) ≡ cut max (numbered k ts) rest (run (suc max - (k + length ts)) q rest)
  unfolding Goes
  goes_is k p ts q g rest = g rest

  goes_then : (k : ℕ) (p : Progress) (front : List Token) (q : Progress) (back : List Token) (z : Progress) → Goes k p front q → Goes (k + length front) q back z → Goes k p (front ++ back) z
  unfolding Goes
  goes_then k p front q back z g h rest =
      let m : ℕ = suc max - (k + length (front ++ back)) in
      let n : ℕ = suc max - ((k + length front) + length back) in
      let same_room : n ≡ m = ap (λ (i : ℕ). suc max - i) (omega (arith, length-append front back)) in
      ap (λ (us : List Token). run (suc max - k) p us) (append_assoc front back rest)
      ∙ g (back ++ rest)
      ∙ ap (λ (o : Result (Tree × List Token) BadToken). cut max (numbered k front) (back ++ rest) o) (h rest ∙ ap (λ (i : ℕ). cut max (numbered (k + length front) back) rest (run i z rest)) same_room)
      ∙ ap (λ (us : List Token). cut max (numbered k front) (us ++ rest) (cut max (numbered (k + length front) back) rest (run m z rest))) (sym (tokens_numbered (k + length front) back))
      ∙ sym (cut_append max (numbered k front) (numbered (k + length front) back) rest (run m z rest))
      ∙ ap (λ (cs : List Counted). cut max cs rest (run m z rest)) (sym (numbered_append k front back))

  goes_one : (w : Terminal) (t : Token) (k : ℕ) (p : Progress) → Is w t → takes p w ≡ true → Goes k p (t ∷ []) (step_over w t p)
  unfolding Goes
  goes_one w t k p is goes rest =
      let here : takes p (first_terminal (t ∷ rest)) ≡ true = ap (λ (x : Terminal). takes p x) (first_of w t rest is) ∙ goes in
      elim (cases_lt k (suc max)) [
        | inl lt ↦
            let room : suc max - k ≡ suc (suc max - (k + 1)) = omega arith in
            ap (λ (n : ℕ). run n p (t ∷ rest)) room ∙ run_once (suc max - (k + 1)) p (t ∷ rest) here ∙ ap (λ (q : Progress). run (suc max - (k + 1)) q rest) (step_is w t p rest is)
            ∙ sym (ap (λ (b : Bool). cond b (run (suc max - (k + 1)) (step_over w t p) rest) (Err (bad_at LongExpression (t ∷ rest)))) (within_le k max (omega arith)))
        | inr le ↦
            let room : suc max - k ≡ zero = omega arith in
            ap (λ (n : ℕ). run n p (t ∷ rest)) room ∙ run_is_full p (t ∷ rest) here
            ∙ sym (ap (λ (b : Bool). cond b (run (suc max - (k + 1)) (step_over w t p) rest) (Err (bad_at LongExpression (t ∷ rest)))) (within_lt k max (omega arith)))
      ]

  mutual
    unfolding step_over

    factor_goes : {ts : List Token} {e : Tree} → IsA Factor ts e → (k : ℕ) (os : List Inner) (b : Before) (s : Standing) → is_due s ≡ true → Goes k (progress os b s) ts (progress os b (Product (multiplied s e)))
    factor_goes (number t is) k os b s due = goes_one terminal.Number t k (progress os b s) is (takes_factor os b s due).0
    factor_goes (name t is) k os b s due = goes_one terminal.Name t k (progress os b s) is (takes_factor os b s due).1
    factor_goes (parenthesized l r {ts = ts} {e = e} isl h isr) k os b s due =
        let around : List Inner = record { before = b; standing = s } ∷ os in
        let inside = expression_goes h (k + 1) around in
        let close : Goes ((k + 1) + length ts) (progress around inside.0 (Product inside.1)) (r ∷ []) (progress os b (Product (multiplied s (joined inside.0 inside.1)))) = goes_one terminal.RightParen r ((k + 1) + length ts) (progress around inside.0 (Product inside.1)) isr (takes_close (record { before = b; standing = s }) os inside.0 inside.1) in
        let closed_e : Goes ((k + 1) + length ts) (progress around inside.0 (Product inside.1)) (r ∷ []) (progress os b (Product (multiplied s e))) = subst (λ (x : Tree). Goes ((k + 1) + length ts) (progress around inside.0 (Product inside.1)) (r ∷ []) (progress os b (Product (multiplied s x)))) inside.2 close in
        goes_then k (progress os b s) (l ∷ []) (fresh around) (ts ++ r ∷ []) (progress os b (Product (multiplied s e)))
        (goes_one terminal.LeftParen l k (progress os b s) isl (takes_factor os b s due).2)
        (goes_then (k + 1) (fresh around) ts (progress around inside.0 (Product inside.1)) (r ∷ []) (progress os b (Product (multiplied s e))) inside.3 closed_e)

    term_goes : {ts : List Token} {e : Tree} → IsA Term ts e → (k : ℕ) (os : List Inner) (b : Before) (s : Standing) → is_due s ≡ true → ((x : Tree) → multiplied s x ≡ x) → Goes k (progress os b s) ts (progress os b (Product e))
    term_goes {ts} {e} (factor h) k os b s due same = subst (λ (x : Tree). Goes k (progress os b s) ts (progress os b (Product x))) (same e) (factor_goes h k os b s due)
    term_goes (times t {front = front} {back = back} {a = a} {b = c} h is i) k os b s due same =
        goes_then k (progress os b s) front (progress os b (Product a)) (t ∷ back) (progress os b (Product (multiplied (Star (place t) a) c))) (term_goes h k os b s due same)
        (goes_then (k + length front) (progress os b (Product a)) (t ∷ []) (progress os b (Star (place t) a)) back (progress os b (Product (multiplied (Star (place t) a) c)))
        (goes_one terminal.Star t (k + length front) (progress os b (Product a)) is (takes_behind os b a).0)
        (factor_goes i ((k + length front) + 1) os b (Star (place t) a) refl))

    pub expression_goes : {ts : List Token} {e : Tree} → IsA Expression ts e → (k : ℕ) (os : List Inner) → (b : Before) × (v : Tree) × (joined b v ≡ e) × Goes k (fresh os) ts (progress os b (Product v))
    expression_goes {ts} {e} (term h) k os = (Nothing, e, refl, term_goes h k os Nothing Start refl (λ x. refl))
    expression_goes (positive t {ts = ts} {e = e} is h) k os = (
      Nothing,
      e,
      refl,
      goes_then k (fresh os) (t ∷ []) (progress os Nothing Operator) ts (progress os Nothing (Product e))
          (goes_one terminal.Plus t k (fresh os) is (takes_sign_first os).0) (term_goes h (k + 1) os Nothing Operator refl (λ x. refl)),
    )
    expression_goes (negative t {ts = ts} {e = e} is h) k os = (
      Negative (place t),
      e,
      refl,
      goes_then k (fresh os) (t ∷ []) (progress os (Negative (place t)) Operator) ts (progress os (Negative (place t)) (Product e))
          (goes_one terminal.Minus t k (fresh os) is (takes_sign_first os).1) (term_goes h (k + 1) os (Negative (place t)) Operator refl (λ x. refl)),
    )
    expression_goes (plus t {front = front} {back = back} {a = a} {b = c} h is i) k os =
        let left = expression_goes h k os in
        let after : Before = Added (place t) (joined left.0 left.1) in (
          after,
          c,
          ap (λ (x : Tree). Plus (place t) x c) left.2,
          goes_then k (fresh os) front (progress os left.0 (Product left.1)) (t ∷ back) (progress os after (Product c)) left.3
              (goes_then (k + length front) (progress os left.0 (Product left.1)) (t ∷ []) (progress os after Operator) back (progress os after (Product c))
              (goes_one terminal.Plus t (k + length front) (progress os left.0 (Product left.1)) is (takes_behind os left.0 left.1).1)
              (term_goes i ((k + length front) + 1) os after Operator refl (λ x. refl))),
        )
    expression_goes (minus t {front = front} {back = back} {a = a} {b = c} h is i) k os =
        let left = expression_goes h k os in
        let after : Before = Subtracted (place t) (joined left.0 left.1) in (
          after,
          c,
          ap (λ (x : Tree). Minus (place t) x c) left.2,
          goes_then k (fresh os) front (progress os left.0 (Product left.1)) (t ∷ back) (progress os after (Product c)) left.3
              (goes_then (k + length front) (progress os left.0 (Product left.1)) (t ∷ []) (progress os after Operator) back (progress os after (Product c))
              (goes_one terminal.Minus t (k + length front) (progress os left.0 (Product left.1)) is (takes_behind os left.0 left.1).2)
              (term_goes i ((k + length front) + 1) os after Operator refl (λ x. refl))),
        )
