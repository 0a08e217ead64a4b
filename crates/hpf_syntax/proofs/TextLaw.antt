-- A whole text and its reading.
use Rattle.std.proofs.Common.{◌≡◌, ℕ, zero, suc, ◌≤◌, ◌<◌, List, [], ◌∷◌, ◌++◌, length, Result, Ok, Err, refl, sym, ap, subst, ◌∙◌, append_assoc, arith}
use Rattle.std.proofs.lemmas.List.{append-nil, length-append}
use Rattle.hpf_lex.specs.declared.token.Token.{Token}
use Rattle.hpf_syntax.specs.declared.stop.BadToken.{BadToken}
use Rattle.hpf_syntax.specs.declared.stop.Fault.{Fault}
use Rattle.hpf_syntax.specs.Terminal.{first_terminal}
use Rattle.hpf_syntax.specs.Reading.{◌>>=◌, bad_at}
use Rattle.hpf_syntax.specs.Plain.{ItemTree}
use Rattle.hpf_syntax.specs.Statements.{statement_at, statements_at, text_at}
use Rattle.hpf_syntax.specs.Rules.{Counted, tokens_of, IsWithin}
use Rattle.hpf_syntax.specs.Grammar.{ALine, IsText}
use Rattle.hpf_syntax.proofs.Terminals.{false_is_not_true}
use Rattle.hpf_syntax.proofs.Cuts.{tokens_append, tokens_append_rest, short_append, cut, cut_append, cut_bind}
use Rattle.hpf_syntax.proofs.Laws.{Over, Says, found, refused, Stable, same_first, first_is}
use Rattle.hpf_syntax.proofs.Instances.{line_core}
use Rattle.hpf_syntax.proofs.Texts.{statements_once}

-- ---- a text of the grammar is read whole

some_in_front : (cs : List Counted) (us : List Token) → 0 < length (tokens_of cs) → 0 < length (tokens_of cs ++ us)
some_in_front cs us some = omega (arith, some, length-append (tokens_of cs) us)

-- ---- what an answer says of a text

some_at_end : (ts : List Token) (t : Token) (other : List Token) → 0 < length (ts ++ t ∷ other)
some_at_end ts t other = omega (arith, length-append ts (t ∷ other))

module _ (max : ℕ) where
  abbrev pub texts : List ItemTree → List Token → Result (List ItemTree) BadToken
  texts acc us = statements_at max (length us) acc us

  never_empty : {cs : List Counted} {x : ItemTree} → ALine cs x → 0 < length (tokens_of cs)
  never_empty {cs = []} {x = x} p = absurd (false_is_not_true ((line_core max).starts [] x p))
  never_empty {cs = c ∷ cs} {x = x} p = omega arith

  -- a statement takes a token
  says_less : (us : List Token) (x : ItemTree) (rest : List Token) {o : Result (ItemTree × List Token) BadToken} → Says max ALine (statement_at max) us o → o ≡ Ok (x, rest) → length rest < length us
  says_less us x rest (found cs a end e p short stable) q =
      let pair : ◌≡◌ {A = ItemTree × List Token} (a, end) (x, rest) = cc in
      let same_end : end ≡ rest = ap (λ (y : ItemTree × List Token). y.1) pair in
      let some : 0 < length (tokens_of cs) = never_empty p in
      omega (arith, ap length e, length-append (tokens_of cs) end, ap length same_end)
  says_less us x rest (refused front ahead a fault end e short p over dead) q = absurd cc

  less_here : (n m : ℕ) (acc : List ItemTree) (us : List Token) → ((x : ItemTree) (rest : List Token) → length rest < length us → statements_at max n (acc ++ x ∷ []) rest ≡ statements_at max m (acc ++ x ∷ []) rest) → (o : Result (ItemTree × List Token) BadToken) → statement_at max us ≡ o → (o >>= λ next. statements_at max n (acc ++ next.0 ∷ []) next.1) ≡ (o >>= λ next. statements_at max m (acc ++ next.0 ∷ []) next.1)
  less_here n m acc us h (Ok x) e = h x.0 x.1 (says_less us x.0 x.1 ((line_core max).says us) e)
  less_here n m acc us h (Err b) e = refl

  nothing_left : (n : ℕ) (acc : List ItemTree) → statements_at max n acc [] ≡ Ok acc
  unfolding statements_at
  nothing_left n acc = refl

  enough : (n m : ℕ) (acc : List ItemTree) (us : List Token) → length us ≤ n → length us ≤ m → statements_at max n acc us ≡ statements_at max m acc us
  enough n m acc [] p q = nothing_left n acc ∙ sym (nothing_left m acc)
  enough zero m acc (t ∷ ts) p q = absurd (omega arith)
  enough (suc n) zero acc (t ∷ ts) p q = absurd (omega arith)
  enough (suc n) (suc m) acc (t ∷ ts) p q =
      statements_once max n acc (t ∷ ts) (omega arith)
      ∙ less_here n m acc (t ∷ ts) (λ x rest le. enough n m (acc ++ x ∷ []) rest (omega (arith, p, le)) (omega (arith, q, le))) (statement_at max (t ∷ ts)) refl
      ∙ sym (statements_once max m acc (t ∷ ts) (omega arith))

  unroll_here : (n : ℕ) (acc : List ItemTree) (us : List Token) → length us ≤ suc n → (o : Result (ItemTree × List Token) BadToken) → statement_at max us ≡ o → (o >>= λ next. statements_at max n (acc ++ next.0 ∷ []) next.1) ≡ (o >>= λ next. texts (acc ++ next.0 ∷ []) next.1)
  unroll_here n acc us le (Ok x) e =
      let less : length x.1 < length us = says_less us x.0 x.1 ((line_core max).says us) e in
      enough n (length x.1) (acc ++ x.0 ∷ []) x.1 (omega (arith, less, le)) (omega arith)
  unroll_here n acc us le (Err b) e = refl

  -- one statement more
  unroll : (acc : List ItemTree) (us : List Token) → 0 < length us → texts acc us ≡ (statement_at max us >>= λ next. texts (acc ++ next.0 ∷ []) next.1)
  unroll acc [] some = absurd (omega (arith, some))
  unroll acc (t ∷ ts) some = statements_once max (length ts) acc (t ∷ ts) some ∙ unroll_here (length ts) acc (t ∷ ts) (omega arith) (statement_at max (t ∷ ts)) refl

  abbrev next_texts : List ItemTree → ItemTree × List Token → Result (List ItemTree) BadToken
  next_texts acc next = texts (acc ++ next.0 ∷ []) next.1

  pub texts_complete : (xs acc : List ItemTree) (cs : List Counted) → IsText cs xs → texts acc (tokens_of cs) ≡ cut max cs [] (Ok (acc ++ xs))
  texts_complete [] acc cs e = subst (λ (ds : List Counted). texts acc (tokens_of ds) ≡ cut max ds [] (Ok (acc ++ []))) (sym e) (nothing_left 0 acc ∙ ap (λ (ys : List ItemTree). Ok ys) (sym (append-nil acc)))
  texts_complete (x ∷ xs) acc cs (front, back, p, ps, e) =
      let after : List Token = tokens_of back in
      let goal_at : List Counted → Type 0 = λ ds. texts acc (tokens_of ds) ≡ cut max ds [] (Ok (acc ++ x ∷ xs)) in
      let whole : goal_at (front ++ back) =
      ap (λ (us : List Token). texts acc us) (tokens_append front back)
      ∙ unroll acc (tokens_of front ++ after) (some_in_front front after (never_empty p))
      ∙ ap (λ (o : Result (ItemTree × List Token) BadToken). o >>= next_texts acc) ((line_core max).complete front x after p refl)
      ∙ cut_bind max front after (Ok (x, after)) (next_texts acc)
      ∙ ap (λ (o : Result (List ItemTree) BadToken). cut max front after o) (texts_complete xs (acc ++ x ∷ []) back ps)
      ∙ ap (λ (us : List Token). cut max front us (cut max back [] (Ok ((acc ++ x ∷ []) ++ xs)))) (sym (append-nil after))
      ∙ sym (cut_append max front back [] (Ok ((acc ++ x ∷ []) ++ xs)))
      ∙ ap (λ (ys : List ItemTree). cut max (front ++ back) [] (Ok ys)) (append_assoc acc (x ∷ []) xs) in
      subst goal_at (sym e) whole

  pub data TextSays (acc : List ItemTree) (ts : List Token) : Result (List ItemTree) BadToken → Type 0 where
    spelled : (cs : List Counted) (xs : List ItemTree) → ts ≡ tokens_of cs → IsText cs xs → IsWithin max cs → TextSays acc ts (Ok (acc ++ xs))
    faulty : (front ahead : List Counted) (xs : List ItemTree) (fault : Fault) (rest : List Token) → ts ≡ tokens_of front ++ rest → IsWithin max front → IsText (front ++ ahead) xs → Over max fault ahead rest → ((t : Token) (tail other : List Token) → rest ≡ t ∷ tail → texts acc (tokens_of front ++ t ∷ other) ≡ Err (bad_at fault (t ∷ other))) → TextSays acc ts (Err (bad_at fault rest))

  texts_again : (acc : List ItemTree) (ts : List Token) (cs : List Counted) (x : ItemTree) (rest : List Token) → ts ≡ tokens_of cs ++ rest → ALine cs x → IsWithin max cs → Stable (statement_at max) cs x rest → {o : Result (List ItemTree) BadToken} → TextSays (acc ++ x ∷ []) rest o → TextSays acc ts o
  texts_again acc ts cs x rest e p short stable (spelled ds xs f q shorter) =
      subst (λ (ys : List ItemTree). TextSays acc ts (Ok ys)) (sym (append_assoc acc (x ∷ []) xs))
      (spelled (cs ++ ds) (x ∷ xs) (e ∙ ap (λ (us : List Token). tokens_of cs ++ us) f ∙ sym (tokens_append cs ds)) (cs, ds, p, q, refl) (short_append max cs ds short shorter))
  texts_again acc ts cs x rest e p short stable (faulty front ahead xs fault end f shorter q over dead) =
      faulty (cs ++ front) ahead (x ∷ xs) fault end (e ∙ ap (λ (us : List Token). tokens_of cs ++ us) f ∙ sym (tokens_append_rest cs front end)) (short_append max cs front short shorter)
      (cs, front ++ ahead, p, q, append_assoc cs front ahead) over
      (λ t tail other g.
      ap (λ (us : List Token). texts acc us) (tokens_append_rest cs front (t ∷ other))
      ∙ unroll acc (tokens_of cs ++ (tokens_of front ++ t ∷ other)) (some_in_front cs (tokens_of front ++ t ∷ other) (never_empty p))
      ∙ ap (λ (o : Result (ItemTree × List Token) BadToken). o >>= next_texts acc) (stable (tokens_of front ++ t ∷ other) (same_first front (t ∷ other) end (first_is t other tail ∙ ap first_terminal (sym g)) ∙ ap first_terminal (sym f)))
      ∙ dead t tail other g)

  texts_says_at : (acc : List ItemTree) (ts : List Token) → ((x : ItemTree) (cs : List Counted) (rest : List Token) → ts ≡ tokens_of cs ++ rest → ALine cs x → TextSays (acc ++ x ∷ []) rest (texts (acc ++ x ∷ []) rest)) → {o : Result (ItemTree × List Token) BadToken} → Says max ALine (statement_at max) ts o → TextSays acc ts (o >>= next_texts acc)
  texts_says_at acc ts next (found cs x rest e p short stable) = texts_again acc ts cs x rest e p short stable (next x cs rest e p)
  texts_says_at acc ts next (refused front ahead x fault rest e short p over dead) =
      faulty front ahead (x ∷ []) fault rest e short (front ++ ahead, [], p, refl, sym (append-nil (front ++ ahead))) over
      (λ t tail other g. unroll acc (tokens_of front ++ t ∷ other) (some_at_end (tokens_of front) t other) ∙ ap (λ (o : Result (ItemTree × List Token) BadToken). o >>= next_texts acc) (dead t tail other g))

  texts_says : (n : ℕ) (acc : List ItemTree) (ts : List Token) → length ts ≤ n → TextSays acc ts (texts acc ts)
  texts_says n acc [] le = subst (λ (o : Result (List ItemTree) BadToken). TextSays acc [] o) (sym (nothing_left 0 acc)) (subst (λ (ys : List ItemTree). TextSays acc [] (Ok ys)) (append-nil acc) (spelled [] [] refl refl tt))
  texts_says zero acc (t ∷ ts) le = absurd (omega (arith, le))
  texts_says (suc n) acc (t ∷ ts) le =
      subst (λ (o : Result (List ItemTree) BadToken). TextSays acc (t ∷ ts) o) (sym (unroll acc (t ∷ ts) (omega arith)))
      (texts_says_at acc (t ∷ ts) (λ x cs rest e p.
      let some : 0 < length (tokens_of cs) = never_empty p in
      texts_says n (acc ++ x ∷ []) rest (omega (arith, le, ap length e, length-append (tokens_of cs) rest, some)))
      ((line_core max).says (t ∷ ts)))

  text_is : (ts : List Token) → text_at max ts ≡ texts [] ts
  unfolding text_at
  text_is ts = refl

  pub text_complete : (items : List ItemTree) (cs : List Counted) → IsText cs items → text_at max (tokens_of cs) ≡ cut max cs [] (Ok items)
  text_complete items cs p = text_is (tokens_of cs) ∙ texts_complete items [] cs p

  pub text_says : (ts : List Token) → TextSays [] ts (text_at max ts)
  text_says ts = subst (λ (o : Result (List ItemTree) BadToken). TextSays [] ts o) (sym (text_is ts)) (texts_says (length ts) [] ts (omega arith))

  pub texts_text : (ts : List Token) → texts [] ts ≡ text_at max ts
  texts_text ts = sym (text_is ts)
