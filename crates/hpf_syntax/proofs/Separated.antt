-- Lists with commas between their elements.
use Rattle.std.proofs.Common.{◌≡◌, ℕ, zero, suc, ◌≤◌, Bool, true, false, ◌||◌, List, [], ◌∷◌, ◌++◌, length, Result, Ok, Err, refl, sym, ap, subst, ◌∙◌, append_assoc, arith}
use Rattle.std.proofs.lemmas.List.{append-nil, length-append}
use Rattle.hpf_lex.specs.declared.token.Token.{Token}
use Rattle.hpf_syntax.specs.declared.terminal.Terminal.{Terminal}
use Rattle.hpf_syntax.specs.declared.terminal.Terminal.TheVariants as terminal
use Rattle.hpf_syntax.specs.declared.stop.BadToken.{BadToken}
use Rattle.hpf_syntax.specs.Terminal.{number_of, same, token_terminal, first_terminal, begins, Is}
use Rattle.hpf_syntax.specs.Reading.{◌>>=◌, Reading, more_at, separated_at}
use Rattle.hpf_syntax.specs.Rules.{Counted, outside, tokens_of, Rule, Then, More, Separated}
use Rattle.hpf_syntax.proofs.Terminals.{member, apart, same_true, false_is_not_true, or_false, member_append}
use Rattle.hpf_syntax.proofs.Cuts.{tokens_append_rest, cut, cut_append, cut_bind}
use Rattle.hpf_syntax.proofs.Lists.{more_once, more_stops}
use Rattle.hpf_syntax.proofs.Laws.{Stops, Says, found, refused, Starts, HasNoEnd, Reads, leads, no_end_append, then_at, then_says, then_reads, begins_is, front_says, reads_as, reads_alike}

-- more elements behind those of a list
abbrev pub MoreFrom : {A : Type 0} → Rule A → List A → Rule (List A)
MoreFrom {A} R acc cs ys = (xs : List A) × More R cs xs × (ys ≡ acc ++ xs)

abbrev pub many : {A : Type 0} → Reading A → List A → Reading (List A)
many r acc us = more_at r (length us) acc us

comma_itself : (same terminal.Comma terminal.Comma || false) ≡ true
unfolding same number_of
comma_itself = refl

comma_no_end : same terminal.Comma terminal.End ≡ false
unfolding same number_of
comma_no_end = refl

no_comma : begins terminal.Comma [] ≡ false
unfolding begins first_terminal same number_of
no_comma = refl

comma_member : (t : Token) → Is terminal.Comma t → member (token_terminal t) (terminal.Comma ∷ []) ≡ true
comma_member t is = ap (λ (w : Terminal). same w terminal.Comma || false) is ∙ comma_itself

comma_is_no_end : (t : Token) → Is terminal.Comma t → same (token_terminal t) terminal.End ≡ false
comma_is_no_end t is = ap (λ (w : Terminal). same w terminal.End) is ∙ comma_no_end

stops_comma : (m : List Terminal) (rest : List Token) → Stops (m ++ terminal.Comma ∷ []) rest → begins terminal.Comma rest ≡ false
unfolding begins
stops_comma m rest stops = (or_false (same (first_terminal rest) terminal.Comma) false (or_false (member (first_terminal rest) m) (member (first_terminal rest) (terminal.Comma ∷ [])) (sym (member_append (first_terminal rest) m (terminal.Comma ∷ [])) ∙ stops)).1).0

is_comma : (t : Token) (ts : List Token) → begins terminal.Comma (t ∷ ts) ≡ true → Is terminal.Comma t
unfolding begins first_terminal
is_comma t ts e = same_true (token_terminal t) terminal.Comma e

begins-same : (w : Terminal) (ts us : List Token) → first_terminal us ≡ first_terminal ts → begins w us ≡ begins w ts
unfolding begins
begins-same w ts us e = ap (λ (t : Terminal). same t w) e

module _ (max : ℕ) where
  says_shorter : {A : Type 0} (R : Rule A) (r : Reading A) (us : List Token) (x : A) (rest : List Token) {o : Result (A × List Token) BadToken} → Says max R r us o → o ≡ Ok (x, rest) → length rest ≤ length us
  says_shorter {A} R r us x rest (found cs a end e p short stable) q =
      let pair : ◌≡◌ {A = A × List Token} (a, end) (x, rest) = cc in
      let same_end : end ≡ rest = ap (λ (y : A × List Token). y.1) pair in
      omega (arith, ap length e, length-append (tokens_of cs) end, ap length same_end)
  says_shorter R r us x rest (refused front ahead a fault end e short p over dead) q = absurd cc

  module _ {A : Type 0} (R : Rule A) (r : Reading A) (says : (ts : List Token) → Says max R r ts (r ts)) where
    enough_here : (n m : ℕ) (acc : List A) (us : List Token) → ((x : A) (rest : List Token) → length rest ≤ length us → more_at r n (acc ++ x ∷ []) rest ≡ more_at r m (acc ++ x ∷ []) rest) → (o : Result (A × List Token) BadToken) → r us ≡ o → (o >>= λ next. more_at r n (acc ++ next.0 ∷ []) next.1) ≡ (o >>= λ next. more_at r m (acc ++ next.0 ∷ []) next.1)
    enough_here n m acc us h (Ok x) e = h x.0 x.1 (says_shorter R r us x.0 x.1 (says us) e)
    enough_here n m acc us h (Err b) e = refl

    enough_at : (n m : ℕ) (acc : List A) (t : Token) (ts : List Token) → ((bs : List A) (us : List Token) → length us ≤ length ts → more_at r n bs us ≡ more_at r m bs us) → (b : Bool) → begins terminal.Comma (t ∷ ts) ≡ b → more_at r (suc n) acc (t ∷ ts) ≡ more_at r (suc m) acc (t ∷ ts)
    enough_at n m acc t ts less false e = more_stops r (suc n) acc (t ∷ ts) e ∙ sym (more_stops r (suc m) acc (t ∷ ts) e)
    enough_at n m acc t ts less true e = more_once r n acc (t ∷ ts) e ∙ enough_here n m acc ts (λ x rest le. less (acc ++ x ∷ []) rest le) (r ts) refl ∙ sym (more_once r m acc (t ∷ ts) e)

    enough : (n m : ℕ) (acc : List A) (us : List Token) → length us ≤ n → length us ≤ m → more_at r n acc us ≡ more_at r m acc us
    enough n m acc [] p q = more_stops r n acc [] no_comma ∙ sym (more_stops r m acc [] no_comma)
    enough zero m acc (t ∷ ts) p q = absurd (omega arith)
    enough (suc n) zero acc (t ∷ ts) p q = absurd (omega arith)
    enough (suc n) (suc m) acc (t ∷ ts) p q = enough_at n m acc t ts (λ bs us le. enough n m bs us (omega (arith, p, le)) (omega (arith, q, le))) (begins terminal.Comma (t ∷ ts)) refl

    unroll_here : (acc : List A) (ts : List Token) (o : Result (A × List Token) BadToken) → r ts ≡ o → (o >>= λ next. more_at r (length ts) (acc ++ next.0 ∷ []) next.1) ≡ (o >>= λ x. many r (acc ++ x.0 ∷ []) x.1)
    unroll_here acc ts (Ok x) e = enough (length ts) (length x.1) (acc ++ x.0 ∷ []) x.1 (says_shorter R r ts x.0 x.1 (says ts) e) (omega arith)
    unroll_here acc ts (Err b) e = refl

    -- one element more
    unroll : (acc : List A) (t : Token) (ts : List Token) → begins terminal.Comma (t ∷ ts) ≡ true → many r acc (t ∷ ts) ≡ then_at r (λ x. many r (acc ++ x ∷ [])) ts
    unroll acc t ts e = more_once r (length ts) acc (t ∷ ts) e ∙ unroll_here acc ts (r ts) refl

  module _ {A : Type 0} (R : Rule A) (r : Reading A) (f m : List Terminal) (reads : Reads max R r f m false) (no_comma_more : apart (terminal.Comma ∷ []) m ≡ true) where
    more_starts : (xs : List A) (cs : List Counted) → More R cs xs → Starts (terminal.Comma ∷ []) true cs
    more_starts [] cs e = subst (λ (ds : List Counted). Starts (terminal.Comma ∷ []) true ds) (sym e) refl
    more_starts (x ∷ xs) cs (t, front, back, is, p, ps, e) = subst (λ (ds : List Counted). Starts (terminal.Comma ∷ []) true ds) (sym e) (comma_member t is)

    more_inner : (xs : List A) (cs : List Counted) → More R cs xs → HasNoEnd cs
    more_inner [] cs e = subst HasNoEnd (sym e) tt
    more_inner (x ∷ xs) cs (t, front, back, is, p, ps, e) = subst HasNoEnd (sym e) (comma_is_no_end t is, no_end_append front back (reads.inner front x p) (more_inner xs back ps))

    more_complete : (xs acc : List A) (cs : List Counted) (rest : List Token) → More R cs xs → Stops (m ++ terminal.Comma ∷ []) rest → many r acc (tokens_of cs ++ rest) ≡ cut max cs rest (Ok (acc ++ xs, rest))
    more_complete [] acc cs rest e stops =
        let none : begins terminal.Comma rest ≡ false = stops_comma m rest stops in
        subst (λ (ds : List Counted). many r acc (tokens_of ds ++ rest) ≡ cut max ds rest (Ok (acc ++ [], rest))) (sym e)
        (more_stops r (length rest) acc rest none ∙ ap (λ (bs : List A). Ok (bs, rest)) (sym (append-nil acc)))
    more_complete (x ∷ xs) acc cs rest (t, front, back, is, p, ps, e) stops =
        let after : List Token = tokens_of back ++ rest in
        let stops1 : Stops m after = leads (terminal.Comma ∷ []) m true back rest (more_starts xs back ps) no_comma_more (λ _. (or_false (member (first_terminal rest) m) (member (first_terminal rest) (terminal.Comma ∷ [])) (sym (member_append (first_terminal rest) m (terminal.Comma ∷ [])) ∙ stops)).0) in
        let F : A × List Token → Result (List A × List Token) BadToken = λ y. many r (acc ++ y.0 ∷ []) y.1 in
        let goal_at : List Counted → Type 0 = λ ds. many r acc (tokens_of ds ++ rest) ≡ cut max ds rest (Ok (acc ++ x ∷ xs, rest)) in
        let whole : goal_at (outside t ∷ (front ++ back)) =
        unroll R r reads.core.says acc t (tokens_of (front ++ back) ++ rest) (begins_is terminal.Comma t (tokens_of (front ++ back) ++ rest) is)
        ∙ ap (λ (us : List Token). r us >>= F) (tokens_append_rest front back rest)
        ∙ ap (λ (o : Result (A × List Token) BadToken). o >>= F) (reads.core.complete front x after p stops1)
        ∙ cut_bind max front after (Ok (x, after)) F
        ∙ ap (λ (o : Result (List A × List Token) BadToken). cut max front after o) (more_complete xs (acc ++ x ∷ []) back rest ps stops)
        ∙ sym (cut_append max front back rest (Ok ((acc ++ x ∷ []) ++ xs, rest)))
        ∙ ap (λ (bs : List A). cut max (front ++ back) rest (Ok (bs, rest))) (append_assoc acc (x ∷ []) xs) in
        subst goal_at (sym e) whole

    wider : (acc : List A) (t : Token) → Is terminal.Comma t → (cs : List Counted) (ys : List A) → Then R (λ x. MoreFrom R (acc ++ x ∷ [])) cs ys → MoreFrom R acc (outside t ∷ cs) ys
    wider acc t is cs ys (x, front, back, p, (xs, ps, v), e) = (x ∷ xs, (t, front, back, is, p, ps, ap (λ (ds : List Counted). outside t ∷ ds) e), v ∙ append_assoc acc (x ∷ []) xs)

    more_says : (n : ℕ) (acc : List A) (us : List Token) → length us ≤ n → (b : Bool) → begins terminal.Comma us ≡ b → Says max (MoreFrom R acc) (many r acc) us (many r acc us)
    more_says n acc us le false e =
        subst (λ (o : Result (List A × List Token) BadToken). Says max (MoreFrom R acc) (many r acc) us o) (sym (more_stops r (length us) acc us e))
        (found [] acc us refl ([], refl, sym (append-nil acc)) tt (λ other f. more_stops r (length other) acc other (begins-same terminal.Comma us other f ∙ e)))
    more_says n acc [] le true e = absurd (false_is_not_true (sym no_comma ∙ e))
    more_says zero acc (t ∷ ts) le true e = absurd (omega (arith, le))
    more_says (suc n) acc (t ∷ ts) le true e =
        let is : Is terminal.Comma t = is_comma t ts e in
        let S : A → Rule (List A) = λ x. MoreFrom R (acc ++ x ∷ []) in
        let s : A → Reading (List A) = λ x. many r (acc ++ x ∷ []) in
        let inside : Says max (Then R S) (then_at r s) ts (then_at r s ts) = then_says max R r S s (λ x. ([], acc ++ x ∷ [], ([], refl, sym (append-nil (acc ++ x ∷ []))))) ts
        (λ cs x rest g p. more_says n (acc ++ x ∷ []) rest (omega (arith, le, ap length g, length-append (tokens_of cs) rest)) (begins terminal.Comma rest) refl) (reads.core.says ts) in
        let behind : (us : List Token) → many r acc (t ∷ us) ≡ then_at r s us = λ us. unroll R r reads.core.says acc t us (begins_is terminal.Comma t us is) in
        subst (λ (o : Result (List A × List Token) BadToken). Says max (MoreFrom R acc) (many r acc) (t ∷ ts) o) (sym (behind ts))
        (front_says max (Then R S) (MoreFrom R acc) (then_at r s) (many r acc) t ts behind (wider acc t is) inside)

    more_reads : (acc : List A) → Reads max (MoreFrom R acc) (many r acc) (terminal.Comma ∷ []) (m ++ terminal.Comma ∷ []) true
    more_reads acc = record {
      core = record {
        complete = λ cs ys rest (xs, ps, v) stops. more_complete xs acc cs rest ps stops ∙ ap (λ (bs : List A). cut max cs rest (Ok (bs, rest))) (sym v);
        says = λ us. more_says (length us) acc us (omega arith) (begins terminal.Comma us) refl;
        starts = λ cs ys (xs, ps, v). more_starts xs cs ps;
        some = ([], acc, ([], refl, sym (append-nil acc)));
      };
      inner = λ cs ys (xs, ps, v). more_inner xs cs ps;
    }

    to_separated : (cs : List Counted) (ys : List A) → Then R (λ x. MoreFrom R (x ∷ [])) cs ys → Separated R cs ys
    to_separated cs ys (x, front, back, p, (xs, ps, v), e) = subst (λ (zs : List A). Separated R cs zs) (sym v) (front, back, p, ps, e)

    from_separated : (cs : List Counted) (ys : List A) → Separated R cs ys → Then R (λ x. MoreFrom R (x ∷ [])) cs ys
    from_separated cs [] p = absurd p
    from_separated cs (x ∷ xs) (front, back, p, ps, e) = (x, front, back, p, (xs, ps, refl), e)

    separated_is : (ts : List Token) → separated_at r ts ≡ then_at r (λ x. many r (x ∷ [])) ts
    unfolding separated_at
    separated_is ts = refl

    pub separated_reads : Reads max (Separated R) (separated_at r) f ((m ++ terminal.Comma ∷ []) ++ m) false
    separated_reads =
        reads_alike max (Separated R) (then_at r (λ x. many r (x ∷ []))) (separated_at r) f ((m ++ terminal.Comma ∷ []) ++ m) false separated_is
        (reads_as max (Then R (λ x. MoreFrom R (x ∷ []))) (Separated R) (then_at r (λ x. many r (x ∷ []))) f ((m ++ terminal.Comma ∷ []) ++ m) false to_separated from_separated
        (then_reads max R r (λ x. MoreFrom R (x ∷ [])) (λ x. many r (x ∷ [])) f m false (terminal.Comma ∷ []) (m ++ terminal.Comma ∷ []) true reads (λ x. more_reads (x ∷ [])) no_comma_more))
