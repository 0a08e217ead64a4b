-- What holds of a rule and of its reading, and how it follows for rules that are made of others.
use Rattle.std.proofs.Common.{◌≡◌, ℕ, ◌+◌, Bool, true, false, cond, ◌||◌, ◌&&◌, List, [], ◌∷◌, ◌++◌, Result, Ok, Err, refl, sym, ap, subst, ◌∙◌, append_assoc, inl, inr, zero-le}
use Rattle.hpf_lex.specs.declared.token.Token.{Token}
use Rattle.hpf_syntax.specs.declared.terminal.Terminal.{Terminal}
use Rattle.hpf_syntax.specs.declared.terminal.Terminal.TheVariants as terminal
use Rattle.hpf_syntax.specs.declared.stop.BadToken.{BadToken}
use Rattle.hpf_syntax.specs.declared.stop.Fault.{Fault}
use Rattle.hpf_syntax.specs.declared.stop.Fault.TheVariants.{Syntax, LongExpression}
use Rattle.hpf_syntax.specs.Terminal.{same, token_terminal, first_terminal, begins, Is}
use Rattle.hpf_syntax.specs.Reading.{◌>>=◌, Reading, bad_at}
use Rattle.hpf_syntax.specs.Rules.{Counted, outside, tokens_of, Rule, Done, Then, ◌or◌, IsWithin}
use Rattle.hpf_syntax.proofs.Terminals.{member, apart, apart_member, member_append, same_true, same_refl, false_is_not_true, or_false, or_true, both_true}
use Rattle.hpf_syntax.proofs.Cuts.{tokens_append_rest, short_append, cut, cut_append, cut_bind}

-- the first of these tokens is none of the terminals
abbrev pub Stops : List Terminal → List Token → Type 0
Stops ws ts = member (first_terminal ts) ws ≡ false

-- what begins with these tokens and the first of the rest is refused there, however it goes on
abbrev pub Dead : {A : Type 0} → Reading A → List Counted → Fault → List Token → Type 0
Dead r front fault rest = (t : Token) (tail other : List Token) → rest ≡ t ∷ tail → r (tokens_of front ++ t ∷ other) ≡ Err (bad_at fault (t ∷ other))

-- reading ends here whatever follows, as long as the next token is the same terminal
abbrev pub Stable : {A : Type 0} → Reading A → List Counted → A → List Token → Type 0
Stable r cs a rest = (other : List Token) → first_terminal other ≡ first_terminal rest → r (tokens_of cs ++ other) ≡ Ok (a, other)

-- the first token of what a rule takes
abbrev pub Starts : List Terminal → Bool → List Counted → Type 0
Starts first empty [] = empty ≡ true
Starts first empty (c ∷ cs) = member (token_terminal c.token) first ≡ true

abbrev pub HasNoEnd : List Counted → Type 0
HasNoEnd [] = Unit {0}
HasNoEnd (c ∷ cs) = (same (token_terminal c.token) terminal.End ≡ false) × HasNoEnd cs

-- ---- first terminals

pub same_first : (cs : List Counted) (a b : List Token) → first_terminal a ≡ first_terminal b → first_terminal (tokens_of cs ++ a) ≡ first_terminal (tokens_of cs ++ b)
unfolding first_terminal
same_first [] a b e = e
same_first (c ∷ cs) a b e = refl

pub first_is : (t : Token) (a b : List Token) → first_terminal (t ∷ a) ≡ first_terminal (t ∷ b)
unfolding first_terminal
first_is t a b = refl

pub first_terminal-cons : (t : Token) (ts : List Token) → first_terminal (t ∷ ts) ≡ token_terminal t
unfolding first_terminal
first_terminal-cons t ts = refl

pub leads : (first more : List Terminal) (empty : Bool) (cs : List Counted) (rest : List Token) → Starts first empty cs → apart first more ≡ true → (empty ≡ true → Stops more rest) → Stops more (tokens_of cs ++ rest)
leads first more empty [] rest e ok h = h e
leads first more empty (c ∷ cs) rest m ok h = rw (first_terminal-cons c.token (tokens_of cs ++ rest)) (apart_member (token_terminal c.token) first more ok m)

abbrev pub joined_more : Bool → List Terminal → List Terminal → List Terminal
joined_more empty second first = cond empty (second ++ first) second

abbrev pub joined_first : Bool → List Terminal → List Terminal → List Terminal
joined_first empty first second = cond empty (first ++ second) first

stops_second : (empty : Bool) (second first : List Terminal) (ts : List Token) → Stops (joined_more empty second first) ts → Stops second ts
stops_second true second first ts h = (or_false (member (first_terminal ts) second) (member (first_terminal ts) first) (sym (member_append (first_terminal ts) second first) ∙ h)).0
stops_second false second first ts h = h

stops_first : (empty : Bool) (second first : List Terminal) (ts : List Token) → Stops (joined_more empty second first) ts → empty ≡ true → Stops first ts
stops_first true second first ts h e = (or_false (member (first_terminal ts) second) (member (first_terminal ts) first) (sym (member_append (first_terminal ts) second first) ∙ h)).1
stops_first false second first ts h e = absurd (false_is_not_true e)

or_left : (a b : Bool) → a ≡ true → (a || b) ≡ true
or_left true b e = refl
or_left false b e = absurd (false_is_not_true e)

or_right : (a b : Bool) → b ≡ true → (a || b) ≡ true
or_right true b e = refl
or_right false b e = e

pub member_left : (t : Terminal) (ws vs : List Terminal) → member t ws ≡ true → member t (ws ++ vs) ≡ true
member_left t ws vs m = member_append t ws vs ∙ or_left (member t ws) (member t vs) m

pub member_right : (t : Terminal) (ws vs : List Terminal) → member t vs ≡ true → member t (ws ++ vs) ≡ true
member_right t ws vs m = member_append t ws vs ∙ or_right (member t ws) (member t vs) m

starts_append : (e1 e2 : Bool) (f1 f2 : List Terminal) (front back : List Counted) → Starts f1 e1 front → Starts f2 e2 back → Starts (joined_first e1 f1 f2) (e1 && e2) (front ++ back)
starts_append true e2 f1 f2 [] [] p q = q
starts_append true e2 f1 f2 [] (c ∷ back) p q = member_right (token_terminal c.token) f1 f2 q
starts_append true e2 f1 f2 (c ∷ front) back p q = member_left (token_terminal c.token) f1 f2 p
starts_append false e2 f1 f2 [] back p q = absurd (false_is_not_true p)
starts_append false e2 f1 f2 (c ∷ front) back p q = p

pub no_end_append : (a b : List Counted) → HasNoEnd a → HasNoEnd b → HasNoEnd (a ++ b)
no_end_append [] b p q = q
no_end_append (c ∷ a) b p q = (p.0, no_end_append a b p.1 q)

-- ---- one rule and then another

abbrev pub then_at : {A B : Type 0} → Reading A → (A → Reading B) → Reading B
then_at r s ts = r ts >>= λ x. s x.0 x.1

-- ---- nothing, one token, and a choice

-- one token, with a value of its own
abbrev pub OneToken : {A : Type 0} → Terminal → (Token → A) → Rule A
OneToken wanted g cs a = (t : Token) × Is wanted t × (cs ≡ outside t ∷ []) × (a ≡ g t)

begins-is : (wanted : Terminal) (t : Token) (ts : List Token) → begins wanted (t ∷ ts) ≡ same (token_terminal t) wanted
unfolding begins first_terminal
begins-is wanted t ts = refl

begins-first : (wanted : Terminal) (ts us : List Token) → first_terminal us ≡ first_terminal ts → begins wanted us ≡ begins wanted ts
unfolding begins
begins-first wanted ts us e = ap (λ (t : Terminal). same t wanted) e

pub begins_is : (wanted : Terminal) (t : Token) (ts : List Token) → Is wanted t → begins wanted (t ∷ ts) ≡ true
begins_is wanted t ts e = begins-is wanted t ts ∙ ap (λ (x : Terminal). same x wanted) e ∙ same_refl wanted

nil_is_not_cons : (t : Token) (ts : List Token) → ◌≡◌ {A = List Token} [] (t ∷ ts) → ⊥
nil_is_not_cons t ts e = cc

abbrev pub subset : List Terminal → List Terminal → Bool
subset [] vs = true
subset (w ∷ ws) vs = member w vs && subset ws vs

subset_member : (t : Terminal) (ws vs : List Terminal) → subset ws vs ≡ true → member t ws ≡ true → member t vs ≡ true
subset_member t [] vs e m = absurd (false_is_not_true m)
subset_member t (w ∷ ws) vs e m =
    let parts = both_true (member w vs) (subset ws vs) e in
    elim (or_true (same t w) (member t ws) m) [
      | inl q ↦ ap (λ (x : Terminal). member x vs) (same_true t w q) ∙ parts.0
      | inr n ↦ subset_member t ws vs parts.1 n
    ]

leads_to : (first ws : List Terminal) (cs : List Counted) (rest : List Token) → Starts first false cs → subset first ws ≡ true → member (first_terminal (tokens_of cs ++ rest)) ws ≡ true
leads_to first ws [] rest e ok = absurd (false_is_not_true e)
leads_to first ws (c ∷ cs) rest m ok = rw (first_terminal-cons c.token (tokens_of cs ++ rest)) (subset_member (token_terminal c.token) first ws ok m)

stops_if : (e : Bool) (ws : List Terminal) (ts : List Token) → member (first_terminal ts) (cond e ws []) ≡ false → e ≡ true → Stops ws ts
stops_if true ws ts h q = h
stops_if false ws ts h q = absurd (false_is_not_true q)

starts_left : (f1 f2 : List Terminal) (e : Bool) (cs : List Counted) → Starts f1 false cs → Starts (f1 ++ f2) e cs
starts_left f1 f2 e [] p = absurd (false_is_not_true p)
starts_left f1 f2 e (c ∷ cs) p = member_left (token_terminal c.token) f1 f2 p

starts_right : (f1 f2 : List Terminal) (e : Bool) (cs : List Counted) → Starts f2 e cs → Starts (f1 ++ f2) e cs
starts_right f1 f2 e [] p = p
starts_right f1 f2 e (c ∷ cs) p = member_right (token_terminal c.token) f1 f2 p

-- one of two, by the first token
abbrev pub choice_at : {A : Type 0} → (List Token → Bool) → Reading A → Reading A → Reading A
choice_at test r q ts = cond (test ts) (r ts) (q ts)

module _ (max : ℕ) where
  -- where an expression is too long, the token that is refused is its 65th
  abbrev pub Over : Fault → List Counted → List Token → Type 0
  Over Syntax ahead rest = Unit {0}
  Over LongExpression ahead rest = (t : Token) × (tail : List Token) × (more : List Counted) × (ahead ≡ record { token = t; number = 1 + max } ∷ more) × (rest ≡ t ∷ tail)

  -- what an answer says of the tokens
  pub data Says {A : Type 0} (R : Rule A) (r : Reading A) (ts : List Token) : Result (A × List Token) BadToken → Type 0 where
    found : (cs : List Counted) (a : A) (rest : List Token) → ts ≡ tokens_of cs ++ rest → R cs a → IsWithin max cs → Stable r cs a rest → Says R r ts (Ok (a, rest))
    refused : (front ahead : List Counted) (a : A) (fault : Fault) (rest : List Token) → ts ≡ tokens_of front ++ rest → IsWithin max front → R (front ++ ahead) a → Over fault ahead rest → Dead r front fault rest → Says R r ts (Err (bad_at fault rest))

  pub record Core {A : Type 0} (R : Rule A) (r : Reading A) (first more : List Terminal) (empty : Bool) : Type 0 where
    pub complete : (cs : List Counted) (a : A) (rest : List Token) → R cs a → Stops more rest → r (tokens_of cs ++ rest) ≡ cut max cs rest (Ok (a, rest))
    pub says : (ts : List Token) → Says R r ts (r ts)
    pub starts : (cs : List Counted) (a : A) → R cs a → Starts first empty cs
    pub some : (cs : List Counted) × (a : A) × R cs a

  pub record Reads {A : Type 0} (R : Rule A) (r : Reading A) (first more : List Terminal) (empty : Bool) : Type 0 where
    pub core : Core R r first more empty
    pub inner : (cs : List Counted) (a : A) → R cs a → HasNoEnd cs

  over_append : (fault : Fault) (ahead more : List Counted) (rest : List Token) → Over fault ahead rest → Over fault (ahead ++ more) rest
  over_append Syntax ahead more rest o = tt
  over_append LongExpression ahead more rest o = (o.0, o.1, o.2 ++ more, ap (λ (cs : List Counted). cs ++ more) o.3, o.4)

  module _ {A B : Type 0} (R : Rule A) (r : Reading A) (S : A → Rule B) (s : A → Reading B) where
    pub then_again : (ts : List Token) (cs : List Counted) (a : A) (rest : List Token) → ts ≡ tokens_of cs ++ rest → R cs a → IsWithin max cs → Stable r cs a rest → {o : Result (B × List Token) BadToken} → Says (S a) (s a) rest o → Says (Then R S) (then_at r s) ts o
    then_again ts cs a rest e p short stable (found ds b end f q shorter stabler) =
        found (cs ++ ds) b end (e ∙ ap (λ (us : List Token). tokens_of cs ++ us) f ∙ sym (tokens_append_rest cs ds end)) (a, cs, ds, p, q, refl) (short_append max cs ds short shorter)
        (λ other g. ap (λ (us : List Token). then_at r s us) (tokens_append_rest cs ds other)
        ∙ ap (λ (o : Result (A × List Token) BadToken). o >>= λ x. s x.0 x.1) (stable (tokens_of ds ++ other) (same_first ds other end g ∙ ap first_terminal (sym f)))
        ∙ stabler other g)
    then_again ts cs a rest e p short stable (refused front ahead b fault end f shorter q over dead) =
        refused (cs ++ front) ahead b fault end (e ∙ ap (λ (us : List Token). tokens_of cs ++ us) f ∙ sym (tokens_append_rest cs front end)) (short_append max cs front short shorter)
        (a, cs, front ++ ahead, p, q, append_assoc cs front ahead) over
        (λ t tail other g. ap (λ (us : List Token). then_at r s us) (tokens_append_rest cs front (t ∷ other))
        ∙ ap (λ (o : Result (A × List Token) BadToken). o >>= λ x. s x.0 x.1) (stable (tokens_of front ++ t ∷ other) (same_first front (t ∷ other) end (first_is t other tail ∙ ap first_terminal (sym g)) ∙ ap first_terminal (sym f)))
        ∙ dead t tail other g)

    pub then_says : ((a : A) → (cs : List Counted) × (b : B) × S a cs b) → (ts : List Token) → ((cs : List Counted) (a : A) (rest : List Token) → ts ≡ tokens_of cs ++ rest → R cs a → Says (S a) (s a) rest (s a rest)) → {o : Result (A × List Token) BadToken} → Says R r ts o → Says (Then R S) (then_at r s) ts (o >>= λ x. s x.0 x.1)
    then_says word ts says2 (found cs a rest e p short stable) = then_again ts cs a rest e p short stable (says2 cs a rest e p)
    then_says word ts says2 (refused front ahead a fault rest e short p over dead) =
        let more = word a in
        refused front (ahead ++ more.0) more.1 fault rest e short (a, front ++ ahead, more.0, p, more.2, sym (append_assoc front ahead more.0)) (over_append fault ahead more.0 rest over)
        (λ t tail other g. ap (λ (o : Result (A × List Token) BadToken). o >>= λ x. s x.0 x.1) (dead t tail other g))

  module _ {A B : Type 0} (R : Rule A) (r : Reading A) (S : A → Rule B) (s : A → Reading B) (f1 m1 : List Terminal) (e1 : Bool) (f2 m2 : List Terminal) (e2 : Bool) (reads1 : Core R r f1 m1 e1) (reads2 : (a : A) → Core (S a) (s a) f2 m2 e2) where
    then_complete : apart f2 m1 ≡ true → (cs : List Counted) (b : B) (rest : List Token) → Then R S cs b → Stops (joined_more e2 m2 m1) rest → then_at r s (tokens_of cs ++ rest) ≡ cut max cs rest (Ok (b, rest))
    then_complete ok cs b rest (a, front, back, p, q, e) stops =
        let after : List Token = tokens_of back ++ rest in
        let stops1 : Stops m1 after = leads f2 m1 e2 back rest ((reads2 a).starts back b q) ok (stops_first e2 m2 m1 rest stops) in
        let core : then_at r s (tokens_of (front ++ back) ++ rest) ≡ cut max (front ++ back) rest (Ok (b, rest)) =
        ap (λ (ts : List Token). then_at r s ts) (tokens_append_rest front back rest)
        ∙ ap (λ (o : Result (A × List Token) BadToken). o >>= λ x. s x.0 x.1) (reads1.complete front a after p stops1)
        ∙ cut_bind max front after (Ok (a, after)) (λ x. s x.0 x.1)
        ∙ ap (λ (o : Result (B × List Token) BadToken). cut max front after o) ((reads2 a).complete back b rest q (stops_second e2 m2 m1 rest stops))
        ∙ sym (cut_append max front back rest (Ok (b, rest))) in
        subst (λ (ds : List Counted). then_at r s (tokens_of ds ++ rest) ≡ cut max ds rest (Ok (b, rest))) (sym e) core

    pub then_core : apart f2 m1 ≡ true → Core (Then R S) (then_at r s) (joined_first e1 f1 f2) (joined_more e2 m2 m1) (e1 && e2)
    then_core ok = record {
      complete = then_complete ok;
      says = λ ts. then_says R r S s (λ a. (reads2 a).some) ts (λ cs a rest e p. (reads2 a).says rest) (reads1.says ts);
      starts = λ cs b (a, front, back, p, q, e). subst (λ (ds : List Counted). Starts (joined_first e1 f1 f2) (e1 && e2) ds) (sym e) (starts_append e1 e2 f1 f2 front back (reads1.starts front a p) ((reads2 a).starts back b q));
      some = (reads1.some.0 ++ (reads2 reads1.some.1).some.0, (reads2 reads1.some.1).some.1, (reads1.some.1, reads1.some.0, (reads2 reads1.some.1).some.0, reads1.some.2, (reads2 reads1.some.1).some.2, refl));
    }

  pub then_reads : {A B : Type 0} (R : Rule A) (r : Reading A) (S : A → Rule B) (s : A → Reading B) (f1 m1 : List Terminal) (e1 : Bool) (f2 m2 : List Terminal) (e2 : Bool) → Reads R r f1 m1 e1 → ((a : A) → Reads (S a) (s a) f2 m2 e2) → apart f2 m1 ≡ true → Reads (Then R S) (then_at r s) (joined_first e1 f1 f2) (joined_more e2 m2 m1) (e1 && e2)
  then_reads R r S s f1 m1 e1 f2 m2 e2 reads1 reads2 ok = record {
    core = then_core R r S s f1 m1 e1 f2 m2 e2 reads1.core (λ a. (reads2 a).core) ok;
    inner = λ cs b (a, front, back, p, q, e). subst HasNoEnd (sym e) (no_end_append front back (reads1.inner front a p) ((reads2 a).inner back b q));
  }

  pub done_reads : {A : Type 0} (b : A) → Reads (Done b) (λ ts. Ok (b, ts)) [] [] true
  done_reads {A} b = record {
    core = record {
      complete = λ cs a rest p stops. subst (λ (ds : List Counted). ◌≡◌ {A = Result (A × List Token) BadToken} (Ok (b, tokens_of ds ++ rest)) (cut max ds rest (Ok (a, rest)))) (sym p.0) (ap (λ (x : A). Ok (x, rest)) (sym p.1));
      says = λ ts. found [] b ts refl (refl, refl) tt (λ other e. refl);
      starts = λ cs a p. subst (λ (ds : List Counted). Starts [] true ds) (sym p.0) refl;
      some = ([], b, (refl, refl));
    };
    inner = λ cs a p. subst (λ (ds : List Counted). HasNoEnd ds) (sym p.0) tt;
  }

  -- another reading that gives the same where the first token is the same, and a wider rule
  pub says_by_first : {A : Type 0} (R Q : Rule A) (r q : Reading A) (ts : List Token) → ((cs : List Counted) (a : A) → R cs a → Q cs a) → ((us : List Token) → first_terminal us ≡ first_terminal ts → q us ≡ r us) → {o : Result (A × List Token) BadToken} → Says R r ts o → Says Q q ts o
  says_by_first R Q r q ts wider same_there (found cs a rest e p short stable) =
      found cs a rest e (wider cs a p) short (λ other f. same_there (tokens_of cs ++ other) (same_first cs other rest f ∙ ap first_terminal (sym e)) ∙ stable other f)
  says_by_first R Q r q ts wider same_there (refused front ahead a fault rest e short p over dead) =
      refused front ahead a fault rest e short (wider (front ++ ahead) a p) over
      (λ t tail other f. same_there (tokens_of front ++ t ∷ other) (same_first front (t ∷ other) rest (first_is t other tail ∙ ap first_terminal (sym f)) ∙ ap first_terminal (sym e)) ∙ dead t tail other f)

  module _ {A : Type 0} (wanted : Terminal) (g : Token → A) (r : Reading A) (takes_it : (t : Token) (ts : List Token) → Is wanted t → r (t ∷ ts) ≡ Ok (g t, ts)) (refuses : (ts : List Token) → begins wanted ts ≡ false → r ts ≡ Err (bad_at Syntax ts)) (missing : begins wanted [] ≡ false) (sample : Token) (sample_is : Is wanted sample) where
    one_says : (ts : List Token) (b : Bool) → begins wanted ts ≡ b → Says (OneToken wanted g) r ts (r ts)
    one_says [] b e = subst (λ (o : Result (A × List Token) BadToken). Says (OneToken wanted g) r [] o) (sym (refuses [] missing))
        (refused [] (outside sample ∷ []) (g sample) Syntax [] refl tt (sample, sample_is, refl, refl) tt (λ t tail other f. absurd (nil_is_not_cons t tail f)))
    one_says (t ∷ ts) true e =
        let is : Is wanted t = same_true (token_terminal t) wanted (sym (begins-is wanted t ts) ∙ e) in
        subst (λ (o : Result (A × List Token) BadToken). Says (OneToken wanted g) r (t ∷ ts) o) (sym (takes_it t ts is))
        (found (outside t ∷ []) (g t) ts refl (t, is, refl, refl) (zero-le, tt) (λ other f. takes_it t other is))
    one_says (t ∷ ts) false e =
        subst (λ (o : Result (A × List Token) BadToken). Says (OneToken wanted g) r (t ∷ ts) o) (sym (refuses (t ∷ ts) e))
        (refused [] (outside sample ∷ []) (g sample) Syntax (t ∷ ts) refl tt (sample, sample_is, refl, refl) tt
        (λ u tail other f. refuses (u ∷ other) (begins-first wanted (t ∷ ts) (u ∷ other) (first_is u other tail ∙ ap first_terminal (sym f)) ∙ e)))

    pub one_core : Core (OneToken wanted g) r (wanted ∷ []) [] false
    one_core = record {
      complete = λ cs a rest (t, is, e, v) stops. subst (λ (ds : List Counted). r (tokens_of ds ++ rest) ≡ cut max ds rest (Ok (a, rest))) (sym e) (takes_it t rest is ∙ ap (λ (x : A). Ok (x, rest)) (sym v));
      says = λ ts. one_says ts (begins wanted ts) refl;
      starts = λ cs a (t, is, e, v). subst (λ (ds : List Counted). Starts (wanted ∷ []) false ds) (sym e) (or_left (same (token_terminal t) wanted) false (ap (λ (x : Terminal). same x wanted) is ∙ same_refl wanted));
      some = (outside sample ∷ [], g sample, (sample, sample_is, refl, refl));
    }

    pub one_reads : same wanted terminal.End ≡ false → Reads (OneToken wanted g) r (wanted ∷ []) [] false
    one_reads no_end = record {
      core = one_core;
      inner = λ cs a (t, is, e, v). subst (λ (ds : List Counted). HasNoEnd ds) (sym e) (ap (λ (x : Terminal). same x terminal.End) is ∙ no_end, tt);
    }

  module _ {A : Type 0} (ws : List Terminal) (test : List Token → Bool) (tests : (ts : List Token) → test ts ≡ member (first_terminal ts) ws) (R Q : Rule A) (r q : Reading A) (f1 m1 : List Terminal) (f2 m2 : List Terminal) (e2 : Bool) (reads1 : Core R r f1 m1 false) (reads2 : Core Q q f2 m2 e2) where
    chosen_first : (ts : List Token) → test ts ≡ true → choice_at test r q ts ≡ r ts
    chosen_first ts e = rw e refl

    chosen_second : (ts : List Token) → test ts ≡ false → choice_at test r q ts ≡ q ts
    chosen_second ts e = rw e refl

    test-first : (ts us : List Token) → first_terminal us ≡ first_terminal ts → test us ≡ test ts
    test-first ts us e = tests us ∙ ap (λ (t : Terminal). member t ws) e ∙ sym (tests ts)

    choice_complete : subset f1 ws ≡ true → apart f2 ws ≡ true → (cs : List Counted) (a : A) (rest : List Token) → (R or Q) cs a → Stops ((m1 ++ m2) ++ cond e2 ws []) rest → choice_at test r q (tokens_of cs ++ rest) ≡ cut max cs rest (Ok (a, rest))
    choice_complete ok away cs a rest p stops =
        let w : Terminal = first_terminal rest in
        let both = or_false (member w (m1 ++ m2)) (member w (cond e2 ws [])) (sym (member_append w (m1 ++ m2) (cond e2 ws [])) ∙ stops) in
        let each = or_false (member w m1) (member w m2) (sym (member_append w m1 m2) ∙ both.0) in
        elim p [
          | inl x ↦ chosen_first (tokens_of cs ++ rest) (tests (tokens_of cs ++ rest) ∙ leads_to f1 ws cs rest (reads1.starts cs a x) ok) ∙ reads1.complete cs a rest x each.0
          | inr y ↦ chosen_second (tokens_of cs ++ rest) (tests (tokens_of cs ++ rest) ∙ leads f2 ws e2 cs rest (reads2.starts cs a y) away (stops_if e2 ws rest both.1)) ∙ reads2.complete cs a rest y each.1
        ]

    choice_says : (ts : List Token) (b : Bool) → test ts ≡ b → Says (R or Q) (choice_at test r q) ts (choice_at test r q ts)
    choice_says ts true e =
        subst (λ (o : Result (A × List Token) BadToken). Says (R or Q) (choice_at test r q) ts o) (sym (chosen_first ts e))
        (says_by_first R (R or Q) r (choice_at test r q) ts (λ cs a x. inl x) (λ us f. chosen_first us (test-first ts us f ∙ e)) (reads1.says ts))
    choice_says ts false e =
        subst (λ (o : Result (A × List Token) BadToken). Says (R or Q) (choice_at test r q) ts o) (sym (chosen_second ts e))
        (says_by_first Q (R or Q) q (choice_at test r q) ts (λ cs a y. inr y) (λ us f. chosen_second us (test-first ts us f ∙ e)) (reads2.says ts))

    pub choice_core : subset f1 ws ≡ true → apart f2 ws ≡ true → Core (R or Q) (choice_at test r q) (f1 ++ f2) ((m1 ++ m2) ++ cond e2 ws []) e2
    choice_core ok away = record {
      complete = choice_complete ok away;
      says = λ ts. choice_says ts (test ts) refl;
      starts = λ cs a p. elim p [
        | inl x ↦ starts_left f1 f2 e2 cs (reads1.starts cs a x)
        | inr y ↦ starts_right f1 f2 e2 cs (reads2.starts cs a y)
      ];
      some = (reads1.some.0, reads1.some.1, inl reads1.some.2);
    }

  pub choice_reads : {A : Type 0} (ws : List Terminal) (test : List Token → Bool) (tests : (ts : List Token) → test ts ≡ member (first_terminal ts) ws) (R Q : Rule A) (r q : Reading A) (f1 m1 : List Terminal) (f2 m2 : List Terminal) (e2 : Bool) → Reads R r f1 m1 false → Reads Q q f2 m2 e2 → subset f1 ws ≡ true → apart f2 ws ≡ true → Reads (R or Q) (choice_at test r q) (f1 ++ f2) ((m1 ++ m2) ++ cond e2 ws []) e2
  choice_reads ws test tests R Q r q f1 m1 f2 m2 e2 reads1 reads2 ok away = record {
    core = choice_core ws test tests R Q r q f1 m1 f2 m2 e2 reads1.core reads2.core ok away;
    inner = λ cs a p. elim p [
      | inl x ↦ reads1.inner cs a x
      | inr y ↦ reads2.inner cs a y
    ];
  }

  -- the same rule in other words
  pub core_as : {A : Type 0} (R Q : Rule A) (r : Reading A) (first more : List Terminal) (empty : Bool) → ((cs : List Counted) (a : A) → R cs a → Q cs a) → ((cs : List Counted) (a : A) → Q cs a → R cs a) → Core R r first more empty → Core Q r first more empty
  core_as R Q r first more empty to from reads = record {
    complete = λ cs a rest p stops. reads.complete cs a rest (from cs a p) stops;
    says = λ ts. says_by_first R Q r r ts to (λ us f. refl) (reads.says ts);
    starts = λ cs a p. reads.starts cs a (from cs a p);
    some = (reads.some.0, reads.some.1, to reads.some.0 reads.some.1 reads.some.2);
  }

  pub reads_as : {A : Type 0} (R Q : Rule A) (r : Reading A) (first more : List Terminal) (empty : Bool) → ((cs : List Counted) (a : A) → R cs a → Q cs a) → ((cs : List Counted) (a : A) → Q cs a → R cs a) → Reads R r first more empty → Reads Q r first more empty
  reads_as R Q r first more empty to from reads = record {
    core = core_as R Q r first more empty to from reads.core;
    inner = λ cs a p. reads.inner cs a (from cs a p);
  }

  -- another reading that gives the same
  pub core_alike : {A : Type 0} (R : Rule A) (r q : Reading A) (first more : List Terminal) (empty : Bool) → ((ts : List Token) → q ts ≡ r ts) → Core R r first more empty → Core R q first more empty
  core_alike R r q first more empty alike reads = record {
    complete = λ cs a rest p stops. alike (tokens_of cs ++ rest) ∙ reads.complete cs a rest p stops;
    says = λ ts. subst (λ o. Says R q ts o) (sym (alike ts)) (says_by_first R R r q ts (λ cs a p. p) (λ us f. alike us) (reads.says ts));
    starts = reads.starts;
    some = reads.some;
  }

  pub reads_alike : {A : Type 0} (R : Rule A) (r q : Reading A) (first more : List Terminal) (empty : Bool) → ((ts : List Token) → q ts ≡ r ts) → Reads R r first more empty → Reads R q first more empty
  reads_alike R r q first more empty alike reads = record {
    core = core_alike R r q first more empty alike reads.core;
    inner = reads.inner;
  }

  -- with one token more in front
  pub front_says : {A : Type 0} (R Q : Rule A) (r q : Reading A) (t : Token) (ts : List Token) → ((us : List Token) → q (t ∷ us) ≡ r us) → ((cs : List Counted) (a : A) → R cs a → Q (outside t ∷ cs) a) → {o : Result (A × List Token) BadToken} → Says R r ts o → Says Q q (t ∷ ts) o
  front_says R Q r q t ts behind wider (found cs a rest e p short stable) =
      found (outside t ∷ cs) a rest (ap (λ (us : List Token). t ∷ us) e) (wider cs a p) (zero-le, short) (λ other f. behind (tokens_of cs ++ other) ∙ stable other f)
  front_says R Q r q t ts behind wider (refused front ahead a fault rest e short p over dead) =
      refused (outside t ∷ front) ahead a fault rest (ap (λ (us : List Token). t ∷ us) e) (zero-le, short) (wider (front ++ ahead) a p) over (λ u tail other f. behind (tokens_of front ++ u ∷ other) ∙ dead u tail other f)
