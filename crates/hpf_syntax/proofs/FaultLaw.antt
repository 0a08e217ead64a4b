-- Which texts are read, and what the first fault of the others is.
use Rattle.std.proofs.Common.{◌≡◌, ℕ, suc, ◌-◌, ◌≤◌, Bool, true, false, cond, List, [], ◌∷◌, ◌++◌, length, drop, Result, Ok, Err, refl, sym, ap, subst, ◌∙◌, append_assoc, arith, inl, inr}
use Rattle.std.specs.Prelude.{◌⊎◌}
use Rattle.std.proofs.lemmas.List.{append-nil, length-append, drop_at}
use Rattle.hpf_lex.specs.declared.token.Token.{Token}
use Rattle.hpf_lex.specs.declared.token.TokenKind.{TokenKind}
use Rattle.hpf_lex.specs.declared.token.TokenKind.TheVariants as kind
use Rattle.hpf_lex.specs.Whole.{AreWhole}
use Rattle.hpf_syntax.specs.declared.terminal.Terminal.TheVariants as terminal
use Rattle.hpf_syntax.specs.declared.stop.BadToken.{BadToken}
use Rattle.hpf_syntax.specs.declared.stop.Fault.{Fault}
use Rattle.hpf_syntax.specs.declared.stop.Fault.TheVariants.{Syntax, LongExpression}
use Rattle.hpf_syntax.specs.Terminal.{same, number_of, token_terminal, kind_terminal}
use Rattle.hpf_syntax.specs.Reading.{bad_at}
use Rattle.hpf_syntax.specs.Plain.{ItemTree}
use Rattle.hpf_syntax.specs.Statements.{text_at}
use Rattle.hpf_syntax.specs.Rules.{Counted, outside, tokens_of, IsShort}
use Rattle.hpf_syntax.specs.Grammar.{ALine, IsText}
use Rattle.hpf_syntax.specs.FirstFault.{SpellsShortly, BeginsText, BeginsShortly, Faults, IsFirstFault}
use Rattle.hpf_syntax.proofs.Terminals.{false_is_not_true}
use Rattle.hpf_syntax.proofs.Cuts.{tokens_append, within, cut, cut_append, cut_short}
use Rattle.hpf_syntax.proofs.Laws.{HasNoEnd, Over}
use Rattle.hpf_syntax.proofs.Instances.{statement_reads}
use Rattle.hpf_syntax.proofs.TextLaw.{TextSays, spelled, faulty, texts, text_complete, text_says, texts_text}

-- ---- a text that is cut behind an end is a text

-- one of two fronts of a list is a front of the other
fronts : (a b c d : List Counted) → a ++ b ≡ c ++ d → ((g : List Counted) × (a ≡ c ++ g) × (g ++ b ≡ d)) ⊎ ((y : Counted) × (h : List Counted) × (c ≡ a ++ y ∷ h))
fronts a b [] d e = inl (a, refl, e)
fronts [] b (y ∷ c) d e = inr (y, c, refl)
fronts (x ∷ a) b (y ∷ c) d e =
    let heads : x ≡ y = cc in
    let tails : a ++ b ≡ c ++ d = cc in
    elim (fronts a b c d tails) [
      | inl (g, p, q) ↦ inl (g, ap (λ (z : Counted). z ∷ a) heads ∙ ap (λ (cs : List Counted). y ∷ cs) p, q)
      | inr (z, h, p) ↦ inr (z, h, ap (λ (cs : List Counted). y ∷ cs) p ∙ ap (λ (w : Counted). w ∷ (a ++ z ∷ h)) (sym heads))
    ]

nil_is_no_end : (a : List Counted) (y : Counted) (h : List Counted) → ◌≡◌ {A = List Counted} [] (a ++ y ∷ h) → ⊥
nil_is_no_end [] y h e = absurd cc
nil_is_no_end (c ∷ a) y h e = absurd cc

-- what is shorter than a list with one more is a front of the list
front_of_more : (front : List Counted) (y : Counted) (h s : List Counted) (e : Counted) → front ++ y ∷ h ≡ s ++ e ∷ [] → (u : List Counted) × (s ≡ front ++ u)
front_of_more [] y h s e q = (s, refl)
front_of_more (c ∷ front) y h [] e q =
    let tails : front ++ y ∷ h ≡ [] = cc in
    absurd (nil_is_no_end front y h (sym tails))
front_of_more (c ∷ front) y h (z ∷ s) e q =
    let heads : c ≡ z = cc in
    let tails : front ++ y ∷ h ≡ s ++ e ∷ [] = cc in
    let rest = front_of_more front y h s e tails in
    (rest.0, ap (λ (w : Counted). w ∷ s) (sym heads) ∙ ap (λ (cs : List Counted). c ∷ cs) rest.1)

no_end_front : (a b : List Counted) → HasNoEnd (a ++ b) → HasNoEnd a
no_end_front [] b h = tt
no_end_front (c ∷ a) b h = (h.0, no_end_front a b h.1)

no_end_at : (a : List Counted) (c : Counted) (b : List Counted) → HasNoEnd (a ++ c ∷ b) → same (token_terminal c.token) terminal.End ≡ false
no_end_at [] c b h = h.0
no_end_at (d ∷ a) c b h = no_end_at a c b h.1

-- the last element of a list that has one
last_of : (c : Counted) (cs : List Counted) → (front : List Counted) × (last : Counted) × (c ∷ cs ≡ front ++ last ∷ [])
last_of c [] = ([], c, refl)
last_of c (d ∷ cs) =
    let rest = last_of d cs in
    (c ∷ rest.0, rest.1, ap (λ (ds : List Counted). c ∷ ds) rest.2)

kind_end : (k : TokenKind) (word : List ℕ) → k ≡ kind.End → same (kind_terminal k word) terminal.End ≡ true
unfolding kind_terminal same number_of
kind_end k word e = rw e refl

end_terminal : (t : Token) → t.kind ≡ kind.End → same (token_terminal t) terminal.End ≡ true
unfolding token_terminal
end_terminal t e = kind_end t.kind t.word e

whole_behind : (a b : List Counted) → AreWhole (tokens_of (a ++ b)) → AreWhole (tokens_of b)
whole_behind a b w front last e = w (tokens_of a ++ front) last (tokens_append a b ∙ ap (λ (ts : List Token). tokens_of a ++ ts) e ∙ sym (append_assoc (tokens_of a) front (last ∷ [])))

-- without an end in it, a list that ends with one is empty
is_nothing : (cs : List Counted) → HasNoEnd cs → AreWhole (tokens_of cs) → cs ≡ []
is_nothing [] h w = refl
is_nothing (c ∷ cs) h w =
    let l = last_of c cs in
    let ends : l.1.token.kind ≡ kind.End = w (tokens_of l.0) l.1.token (ap tokens_of l.2 ∙ tokens_append l.0 (l.1 ∷ [])) in
    let inside : same (token_terminal l.1.token) terminal.End ≡ false = no_end_at l.0 l.1 [] (subst HasNoEnd l.2 h) in
    absurd (false_is_not_true (sym inside ∙ end_terminal l.1.token ends))

text_front : (items : List ItemTree) (front ahead : List Counted) → IsText (front ++ ahead) items → AreWhole (tokens_of front) → (shorter : List ItemTree) × IsText front shorter
text_front [] [] ahead p w = ([], refl)
text_front [] (c ∷ front) ahead p w = absurd (nil_is_no_end [] c (front ++ ahead) (sym p))
text_front (x ∷ xs) front ahead (f, b, line, ps, e) w =
    elim (fronts front ahead f b e) [
      | inl (g, p, q) ↦
          let rest = text_front xs g ahead (subst (λ (cs : List Counted). IsText cs xs) (sym q) ps) (whole_behind f g (subst (λ (cs : List Counted). AreWhole (tokens_of cs)) p w)) in
          (x ∷ rest.0, (f, g, line, rest.1, p))
      | inr (y, h, p) ↦ cut_inside x f line front y h p w
    ]
  where
    cut_inside : (x : ItemTree) (f : List Counted) → ALine f x → (front : List Counted) (y : Counted) (h : List Counted) → f ≡ front ++ y ∷ h → AreWhole (tokens_of front) → (shorter : List ItemTree) × IsText front shorter
    cut_inside x f (item, s, b, st, (at, b1, b2, (t, is, e1, v1), (e2, v2), e3), e) front y h p w =
        let end_is : b ≡ outside t ∷ [] = e3 ∙ ap (λ (cs : List Counted). cs ++ b2) e1 ∙ ap (λ (cs : List Counted). outside t ∷ cs) e2 in
        let whole : front ++ y ∷ h ≡ s ++ outside t ∷ [] = sym p ∙ e ∙ ap (λ (cs : List Counted). s ++ cs) end_is in
        let u = front_of_more front y h s (outside t) whole in
        ([], is_nothing front (no_end_front front u.0 (subst HasNoEnd u.1 ((statement_reads 64).inner s item st))) w)

-- ---- faults of what is cut

cut_fault_at : {A : Type 0} (c : Counted) (cs : List Counted) (rest : List Token) (o : Result A BadToken) (b : BadToken) → (o ≡ Err b → (b.fault ≡ LongExpression) × (b.left ≤ length (tokens_of cs ++ rest))) → (t : Bool) → cond t o (Err (bad_at LongExpression (c.token ∷ (tokens_of cs ++ rest)))) ≡ Err b → (b.fault ≡ LongExpression) × (b.left ≤ length (tokens_of (c ∷ cs) ++ rest))
cut_fault_at c cs rest o b h true q = let r = h q in (r.0, omega (arith, r.1))
cut_fault_at c cs rest o b h false q =
    let is : bad_at LongExpression (c.token ∷ (tokens_of cs ++ rest)) ≡ b = cc in
    (sym (ap (λ (z : BadToken). z.fault) is), omega (arith, ap (λ (z : BadToken). z.left) is))

-- what the numbers alone refuse is a long expression, at one of the tokens
cut_fault : {A : Type 0} (cs : List Counted) (rest : List Token) (x : A) (b : BadToken) → cut 64 cs rest (Ok x) ≡ Err b → (b.fault ≡ LongExpression) × (b.left ≤ length (tokens_of cs ++ rest))
cut_fault [] rest x b e = absurd cc
cut_fault (c ∷ cs) rest x b e = cut_fault_at c cs rest (cut 64 cs rest (Ok x)) b (λ q. cut_fault cs rest x b q) (within c.number 64) e

-- ---- the laws

says_found : (ts : List Token) (items : List ItemTree) {o : Result (List ItemTree) BadToken} → TextSays 64 [] ts o → o ≡ Ok items → SpellsShortly ts items
says_found ts items (spelled cs xs e p short) q =
    let is : xs ≡ items = cc in
    (cs, subst (λ (ys : List ItemTree). IsText cs ys) is p, sym e, short)
says_found ts items (faulty front ahead xs fault rest e short p over dead) q = absurd cc

pub is_found : (ts : List Token) (items : List ItemTree) → text_at 64 ts ≡ Ok items → SpellsShortly ts items
is_found ts items e = says_found ts items (text_says 64 ts) e

pub is_read : (ts : List Token) (items : List ItemTree) → SpellsShortly ts items → text_at 64 ts ≡ Ok items
is_read ts items (cs, p, e, short) = ap (text_at 64) (sym e) ∙ text_complete 64 items cs p ∙ cut_short 64 cs [] (Ok items) short

syntax_is_not_long : Syntax ≡ LongExpression → ⊥
syntax_is_not_long e = absurd cc

ok_is_not_err : {items : List ItemTree} {b : BadToken} → ◌≡◌ {A = Result (List ItemTree) BadToken} (Ok items) (Err b) → ⊥
ok_is_not_err e = absurd cc

drop_front : (a b : List Token) → drop (length (a ++ b) - length b) (a ++ b) ≡ b
drop_front a b = ap (λ (n : ℕ). drop n (a ++ b)) (omega (arith, length-append a b)) ∙ drop_at a b (length a) refl

module _ (front : List Counted) (fault : Fault) (t : Token) (tail : List Token) (dead : (u : Token) (rest other : List Token) → t ∷ tail ≡ u ∷ rest → texts 64 [] (tokens_of front ++ u ∷ other) ≡ Err (bad_at fault (u ∷ other))) where
  -- a text that begins so is refused there
  refused_there : (other ahead : List Counted) (items : List ItemTree) → IsText (other ++ ahead) items → tokens_of other ≡ tokens_of front ++ t ∷ [] → cut 64 (other ++ ahead) [] (Ok items) ≡ Err (bad_at fault (t ∷ tokens_of ahead))
  refused_there other ahead items p e =
      let tokens_are : tokens_of front ++ t ∷ tokens_of ahead ≡ tokens_of (other ++ ahead) =
      sym (append_assoc (tokens_of front) (t ∷ []) (tokens_of ahead)) ∙ ap (λ (ts : List Token). ts ++ tokens_of ahead) (sym e) ∙ sym (tokens_append other ahead) in
      sym (text_complete 64 items (other ++ ahead) p) ∙ ap (text_at 64) (sym tokens_are) ∙ sym (texts_text 64 (tokens_of front ++ t ∷ tokens_of ahead)) ∙ dead t tail (tokens_of ahead) refl

  none_begins : fault ≡ Syntax → BeginsText (tokens_of front ++ t ∷ []) → ⊥
  none_begins is (other, ahead, items, p, e) =
      let long = (cut_fault (other ++ ahead) [] items (bad_at fault (t ∷ tokens_of ahead)) (refused_there other ahead items p e)).0 in
      syntax_is_not_long (sym is ∙ long)

  none_shortly : BeginsShortly (tokens_of front ++ t ∷ []) → ⊥
  none_shortly (other, ahead, items, p, e, short) =
      let rest : List Token = tokens_of ahead ++ [] in
      let inner : cut 64 ahead [] (Ok items) ≡ Err (bad_at fault (t ∷ tokens_of ahead)) =
      sym (cut_short 64 other rest (cut 64 ahead [] (Ok items)) short) ∙ sym (cut_append 64 other ahead [] (Ok items)) ∙ refused_there other ahead items p e in
      let left = (cut_fault ahead [] items (bad_at fault (t ∷ tokens_of ahead)) inner).1 in
      absurd (omega (arith, left, length-append (tokens_of ahead) []))

  why_faulty : (ahead : List Counted) (xs : List ItemTree) → IsShort front → IsText (front ++ ahead) xs → (f : Fault) → f ≡ fault → Over 64 f ahead (t ∷ tail) → Faults f (tokens_of front) t
  why_faulty ahead xs short p Syntax is over = none_begins (sym is)
  why_faulty ahead xs short p LongExpression is (u, rest, more, e, g) =
      let same_token : u ≡ t = cc in
      (front, more, xs, subst (λ (cs : List Counted). IsText (front ++ cs) xs) (e ∙ ap (λ (v : Token). record { token = v; number = 65 } ∷ more) same_token) p, refl, short)

-- the first of the tokens that are left is refused
abbrev pub RefusedAt : List Token → BadToken → Type 0
RefusedAt ts b = (before : List Token) × (bad : Token) × (after : List Token) × (ts ≡ before ++ bad ∷ after) × IsFirstFault b.fault before bad × (drop (length ts - b.left) ts ≡ bad ∷ after)

says_refused : (ts : List Token) (b : BadToken) → AreWhole ts → text_at 64 ts ≡ Err b → {o : Result (List ItemTree) BadToken} → TextSays 64 [] ts o → o ≡ Err b → RefusedAt ts b
says_refused ts b whole was (spelled cs xs e p short) q = absurd cc
says_refused ts b whole was (faulty front ahead xs fault [] e short p over dead) q =
    let all : ts ≡ tokens_of front = e ∙ append-nil (tokens_of front) in
    let shorter = text_front xs front ahead p (subst AreWhole all whole) in
    let read : text_at 64 ts ≡ Ok shorter.0 = is_read ts shorter.0 (front, shorter.1, sym all, short) in
    absurd (ok_is_not_err (sym read ∙ was))
says_refused ts b whole was (faulty front ahead xs fault (t ∷ tail) e short p over dead) q =
    let bad_is : bad_at fault (t ∷ tail) ≡ b = cc in
    let place_is : drop (length ts - suc (length tail)) ts ≡ t ∷ tail = ap (λ (us : List Token). drop (length us - suc (length tail)) us) e ∙ drop_front (tokens_of front) (t ∷ tail) in
    subst (λ (z : BadToken). RefusedAt ts z) bad_is
    (tokens_of front, t, tail, e, record { so_far = (front, ahead, xs, p, refl, short); not_on = none_shortly front fault t tail dead; why = why_faulty front fault t tail dead ahead xs short p fault refl over }, place_is)

pub is_refused : (ts : List Token) (b : BadToken) → AreWhole ts → text_at 64 ts ≡ Err b → RefusedAt ts b
is_refused ts b whole was = says_refused ts b whole was (text_says 64 ts) was
