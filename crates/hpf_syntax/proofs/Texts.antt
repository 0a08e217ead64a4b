-- Reading statements one after the other, as a loop does.
use Rattle.std.proofs.Common.{◌≡◌, ℕ, zero, suc, ◌-◌, ◌+◌, ◌≤◌, ◌<◌, true, false, List, [], ◌∷◌, ◌++◌, length, Result, Ok, Err, refl, sym, ap, ◌∙◌, arith}
use Rattle.std.specs.Prelude.{◌==◌}
use Rattle.std.proofs.lemmas.Bool.{eqb-true}
use Rattle.hpf_lex.specs.declared.token.Token.{Token}
use Rattle.hpf_syntax.specs.declared.stop.BadToken.{BadToken}
use Rattle.hpf_syntax.specs.declared.stop.Stop.{Stop}
use Rattle.hpf_syntax.specs.declared.stop.Stop.TheVariants as stop
use Rattle.hpf_syntax.specs.Reading.{◌>>=◌, Fails}
use Rattle.hpf_syntax.specs.Plain.{ItemTree}
use Rattle.hpf_syntax.specs.Statements.{statement_at, statements_at}

pub some_left : (n : ℕ) → (n == 0) ≡ false → 0 < n
some_left zero e = absurd cc
some_left (suc n) e = omega arith

pub none_left : (n : ℕ) → (n == 0) ≡ true → n ≡ 0
none_left n e = eqb-true n 0 e

module _ (max : ℕ) where
  pub statements_once : (n : ℕ) (items : List ItemTree) (tokens : List Token) → 0 < length tokens → statements_at max (suc n) items tokens ≡ (statement_at max tokens >>= λ next. statements_at max n (items ++ next.0 ∷ []) next.1)
  unfolding statements_at
  statements_once n items [] some = absurd (omega arith)
  statements_once n items (t ∷ ts) some = refl

  pub statements_go_on : (n i : ℕ) (items : List ItemTree) (tokens : List Token) (x : ItemTree) (after : List Token) (total : Result (List ItemTree) BadToken) → i < n → 0 < length tokens → statement_at max tokens ≡ Ok (x, after) → statements_at max (n - i) items tokens ≡ total → statements_at max (n - (i + 1)) (items ++ x ∷ []) after ≡ total
  statements_go_on n i items tokens x after total lt some next so_far =
      let k : n - i ≡ suc (n - (i + 1)) = omega arith in
      let one : statements_at max (n - i) items tokens ≡ statements_at max (n - (i + 1)) (items ++ x ∷ []) after = rw k (statements_once (n - (i + 1)) items tokens some ∙ rw next refl) in
      sym one ∙ so_far

  pub statements_fail : (e : Stop) (n i : ℕ) (items : List ItemTree) (tokens : List Token) (total : Result (List ItemTree) BadToken) → i < n → 0 < length tokens → Fails e (statement_at max tokens) → statements_at max (n - i) items tokens ≡ total → Fails e total
  statements_fail (stop.Memory e) n i items tokens total lt some bad so_far = tt
  statements_fail (stop.Bad b) n i items tokens total lt some bad so_far =
      let k : n - i ≡ suc (n - (i + 1)) = omega arith in
      let one : statements_at max (n - i) items tokens ≡ Err b = rw k (statements_once (n - (i + 1)) items tokens some ∙ rw bad refl) in
      sym so_far ∙ one

  pub no_more_statements : (n : ℕ) (items : List ItemTree) (tokens : List Token) → length tokens ≡ 0 → statements_at max n items tokens ≡ Ok items
  unfolding statements_at
  no_more_statements n items [] none = refl
  no_more_statements n items (t ∷ ts) none = absurd (omega (arith, none))

  pub statements_are_done : (n i : ℕ) (items : List ItemTree) (tokens : List Token) (total : Result (List ItemTree) BadToken) → n ≤ i → statements_at max (n - i) items tokens ≡ total → total ≡ Ok items
  unfolding statements_at
  statements_are_done n i items [] total le so_far = sym so_far
  statements_are_done n i items (t ∷ ts) total le so_far =
      let k : n - i ≡ 0 = omega arith in
      sym so_far ∙ ap (λ (m : ℕ). statements_at max m items (t ∷ ts)) k
