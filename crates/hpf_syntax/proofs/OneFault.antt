-- A list of tokens has one first fault at most.
use Rattle.std.proofs.Common.{◌≡◌, List, [], ◌∷◌, ◌++◌, refl, sym, ap, subst, ◌∙◌, append_assoc, append-nil, inl, inr}
use Rattle.std.specs.Prelude.{◌⊎◌}
use Rattle.hpf_lex.specs.declared.token.Token.{Token}
use Rattle.hpf_lex.specs.declared.refusal.MapRefusal.{MapRefusal}
use Rattle.hpf_syntax.specs.declared.stop.Fault.{Fault}
use Rattle.hpf_syntax.specs.declared.stop.Fault.TheVariants.{Syntax, LongExpression}
use Rattle.hpf_syntax.specs.Rules.{Counted, tokens_of, IsShort}
use Rattle.hpf_syntax.specs.Plain.{ItemTree}
use Rattle.hpf_syntax.specs.Grammar.{IsText}
use Rattle.hpf_syntax.specs.FirstFault.{SpellsShortly, BeginsText, BeginsShortly, IsBeyond, Faults, code_of, IsRefusalOf}
use Rattle.hpf_syntax.proofs.Cuts.{tokens_append, short_parts}

-- counted tokens, cut where their tokens are
cut_at : (a b : List Token) (front : List Counted) → tokens_of front ≡ a ++ b → (f : List Counted) × (g : List Counted) × (front ≡ f ++ g) × (tokens_of f ≡ a)
cut_at [] b front e = ([], front, refl, refl)
cut_at (t ∷ a) b [] e = absurd cc
cut_at (t ∷ a) b (c ∷ front) e =
    let head : c.token ≡ t = cc in
    let tail : tokens_of front ≡ a ++ b = cc in
    let rest = cut_at a b front tail in
    (c ∷ rest.0, rest.1, ap (λ (cs : List Counted). c ∷ cs) rest.2, ap (λ (ts : List Token). c.token ∷ ts) rest.3 ∙ ap (λ (u : Token). u ∷ a) head)

begins_front : (a b : List Token) → BeginsShortly (a ++ b) → BeginsShortly a
begins_front a b (front, ahead, items, p, e, short) =
    let (f, g, q, r) = cut_at a b front e in
    (f, g ++ ahead, items, subst (λ (cs : List Counted). IsText cs items) (ap (λ (cs : List Counted). cs ++ ahead) q ∙ append_assoc f g ahead) p, r, (short_parts 64 f g (subst IsShort q short)).0)

-- two places in one list are one place, or one is behind the other
places : (a b : List Token) (x y : Token) (c d : List Token) → a ++ x ∷ c ≡ b ++ y ∷ d → ((a ≡ b) × (x ≡ y)) ⊎ (((z : List Token) × (b ≡ (a ++ x ∷ []) ++ z)) ⊎ ((z : List Token) × (a ≡ (b ++ y ∷ []) ++ z)))
places [] [] x y c d e = inl (refl, cc)
places [] (w ∷ b) x y c d e =
    let head : w ≡ x = cc in
    inr (inl (b, ap (λ (t : Token). t ∷ b) head))
places (v ∷ a) [] x y c d e =
    let head : v ≡ y = cc in
    inr (inr (a, ap (λ (t : Token). t ∷ a) head))
places (v ∷ a) (w ∷ b) x y c d e =
    let head : v ≡ w = cc in
    let tail : a ++ x ∷ c ≡ b ++ y ∷ d = cc in
    elim (places a b x y c d tail) [
      | inl (p, q) ↦ inl (ap (λ (ts : List Token). v ∷ ts) p ∙ ap (λ (t : Token). t ∷ b) head, q)
      | inr (inl (z, p)) ↦ inr (inl (z, ap (λ (ts : List Token). w ∷ ts) p ∙ ap (λ (t : Token). t ∷ ((a ++ x ∷ []) ++ z)) (sym head)))
      | inr (inr (z, p)) ↦ inr (inr (z, ap (λ (ts : List Token). v ∷ ts) p ∙ ap (λ (t : Token). t ∷ ((b ++ y ∷ []) ++ z)) head))
    ]

beyond_begins : (before : List Token) (bad : Token) → IsBeyond before bad → BeginsText (before ++ bad ∷ [])
beyond_begins before bad (front, ahead, items, p, e, short) =
    let here : Counted = record { token = bad; number = 65 } in
    (front ++ here ∷ [], ahead, items, subst (λ (cs : List Counted). IsText cs items) (sym (append_assoc front (here ∷ []) ahead)) p, tokens_append front (here ∷ []) ∙ ap (λ (ts : List Token). ts ++ bad ∷ []) e)

one_reason : (before : List Token) (bad : Token) (f g : Fault) → Faults f before bad → Faults g before bad → f ≡ g
one_reason before bad Syntax Syntax p q = refl
one_reason before bad Syntax LongExpression p q = absurd (p (beyond_begins before bad q))
one_reason before bad LongExpression Syntax p q = absurd (q (beyond_begins before bad p))
one_reason before bad LongExpression LongExpression p q = refl

abbrev refusal_by : Fault → Token → MapRefusal
refusal_by f bad = record { code = code_of f; line = bad.line; column = bad.column }

same_refusal : (f g : Fault) (x y : Token) → f ≡ g → x ≡ y → refusal_by f x ≡ refusal_by g y
same_refusal f g x y p q = ap (λ (h : Fault). refusal_by h x) p ∙ ap (λ (t : Token). refusal_by g t) q

pub one_refusal : (tokens : List Token) (r s : MapRefusal) → IsRefusalOf tokens r → IsRefusalOf tokens s → r ≡ s
one_refusal tokens r s (f, a, x, c, e, first, is) (g, b, y, d, e2, second, is2) =
    elim (places a b x y c d (sym e ∙ e2)) [
      | inl (p, q) ↦
          let why : Faults f b y = subst (λ (t : Token). Faults f b t) q (subst (λ (ts : List Token). Faults f ts x) p first.why) in
          is ∙ same_refusal f g x y (one_reason b y f g why second.why) q ∙ sym is2
      | inr (inl (z, p)) ↦ absurd (first.not_on (begins_front (a ++ x ∷ []) z (subst BeginsShortly p second.so_far)))
      | inr (inr (z, p)) ↦ absurd (second.not_on (begins_front (b ++ y ∷ []) z (subst BeginsShortly p first.so_far)))
    ]

-- tokens that are a text have no first fault
pub no_fault : (tokens : List Token) (items : List ItemTree) (r : MapRefusal) → SpellsShortly tokens items → IsRefusalOf tokens r → ⊥
no_fault tokens items r (cs, p, e, short) (fault, before, bad, after, is, first, _) =
    let whole : tokens_of cs ++ [] ≡ (before ++ bad ∷ []) ++ after = append-nil (tokens_of cs) ∙ (e ∙ (is ∙ sym (append_assoc before (bad ∷ []) after))) in
    let spelled : BeginsShortly (tokens_of cs) = (cs, [], items, subst (λ (ds : List Counted). IsText ds items) (sym (append-nil cs)) p, refl, short) in
    first.not_on (begins_front (before ++ bad ∷ []) after (subst BeginsShortly (sym (append-nil (tokens_of cs)) ∙ whole) spelled))
