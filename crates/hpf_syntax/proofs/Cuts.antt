-- Reading counted tokens, up to the first that is beyond the 64th of its expression.
use Rattle.std.proofs.Common.{◌≡◌, ℕ, zero, suc, ◌+◌, ◌≤◌, ◌<◌, Bool, true, false, cond, leb, List, [], ◌∷◌, ◌++◌, Result, Err, refl, ap, ◌∙◌, append_assoc, arith}
use Rattle.std.proofs.lemmas.Bool.{le-leb, lt-leb}
use Rattle.hpf_lex.specs.declared.token.Token.{Token}
use Rattle.hpf_syntax.specs.declared.stop.BadToken.{BadToken}
use Rattle.hpf_syntax.specs.declared.stop.Fault.TheVariants.{LongExpression}
use Rattle.hpf_syntax.specs.Reading.{◌>>=◌, bad_at}
use Rattle.hpf_syntax.specs.Rules.{Counted, tokens_of, numbered, IsWithin}

pub tokens_append : (a b : List Counted) → tokens_of (a ++ b) ≡ tokens_of a ++ tokens_of b
tokens_append [] b = refl
tokens_append (c ∷ a) b = ap (λ (ts : List Token). c.token ∷ ts) (tokens_append a b)

pub tokens_append_rest : (a b : List Counted) (rest : List Token) → tokens_of (a ++ b) ++ rest ≡ tokens_of a ++ (tokens_of b ++ rest)
tokens_append_rest a b rest = ap (λ (ts : List Token). ts ++ rest) (tokens_append a b) ∙ append_assoc (tokens_of a) (tokens_of b) rest

pub tokens_numbered : (n : ℕ) (ts : List Token) → tokens_of (numbered n ts) ≡ ts
tokens_numbered n [] = refl
tokens_numbered n (t ∷ ts) = ap (λ (us : List Token). t ∷ us) (tokens_numbered (n + 1) ts)

-- whether a number is within the limit
abbrev pub within : ℕ → ℕ → Bool
within zero limit = true
within (suc n) limit = leb (suc n) limit

pub within_le : (n limit : ℕ) → n ≤ limit → within n limit ≡ true
within_le zero limit le = refl
within_le (suc n) limit le = le-leb (suc n) limit le

pub within_lt : (n limit : ℕ) → limit < n → within n limit ≡ false
within_lt zero limit lt = absurd (omega (arith, lt))
within_lt (suc n) limit lt = lt-leb (suc n) limit lt

cond_bind : {X Y : Type 0} (b : Bool) (o : Result X BadToken) (bad : BadToken) (f : X → Result Y BadToken) (q : Result Y BadToken) → (o >>= f) ≡ q → (cond b o (Err bad) >>= f) ≡ cond b q (Err bad)
cond_bind true o bad f q e = e
cond_bind false o bad f q e = refl

module _ (max : ℕ) where
  pub short_append : (a b : List Counted) → IsWithin max a → IsWithin max b → IsWithin max (a ++ b)
  short_append [] b p q = q
  short_append (c ∷ a) b p q = (p.0, short_append a b p.1 q)

  pub short_parts : (a b : List Counted) → IsWithin max (a ++ b) → IsWithin max a × IsWithin max b
  short_parts [] b p = (tt, p)
  short_parts (c ∷ a) b p = let parts = short_parts a b p.1 in ((p.0, parts.0), parts.1)

  -- what reading gives where the tokens would give o
  abbrev pub cut : {Y : Type 0} → List Counted → List Token → Result Y BadToken → Result Y BadToken
  cut [] rest o = o
  cut (c ∷ cs) rest o = cond (within c.number max) (cut cs rest o) (Err (bad_at LongExpression (c.token ∷ (tokens_of cs ++ rest))))

  pub cut_append : {Y : Type 0} (a b : List Counted) (rest : List Token) (o : Result Y BadToken) → cut (a ++ b) rest o ≡ cut a (tokens_of b ++ rest) (cut b rest o)
  cut_append [] b rest o = refl
  cut_append {Y} (c ∷ a) b rest o = ap (λ (r : Result Y BadToken). cond (within c.number max) r (Err (bad_at LongExpression (c.token ∷ (tokens_of (a ++ b) ++ rest))))) (cut_append a b rest o)
      ∙ ap (λ (ts : List Token). cond (within c.number max) (cut a (tokens_of b ++ rest) (cut b rest o)) (Err (bad_at LongExpression (c.token ∷ ts)))) (tokens_append_rest a b rest)

  pub cut_bind : {X Y : Type 0} (cs : List Counted) (rest : List Token) (o : Result X BadToken) (f : X → Result Y BadToken) → (cut cs rest o >>= f) ≡ cut cs rest (o >>= f)
  cut_bind [] rest o f = refl
  cut_bind (c ∷ cs) rest o f = cond_bind (within c.number max) (cut cs rest o) (bad_at LongExpression (c.token ∷ (tokens_of cs ++ rest))) f (cut cs rest (o >>= f)) (cut_bind cs rest o f)

  pub cut_short : {Y : Type 0} (cs : List Counted) (rest : List Token) (o : Result Y BadToken) → IsWithin max cs → cut cs rest o ≡ o
  cut_short [] rest o p = refl
  cut_short (c ∷ cs) rest o p = rw (within_le c.number max p.0) (cut_short cs rest o p.1)
