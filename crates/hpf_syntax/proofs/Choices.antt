-- Single tokens, choices by the next token, and sequences, in the forms in which the grammar has them.
use Rattle.std.proofs.Common.{◌≡◌, ℕ, Bool, true, false, cond, ◌||◌, ◌&&◌, List, [], ◌∷◌, ◌++◌, Ok, Err, refl, ap, ◌∙◌}
use Rattle.std.specs.Prelude.{codes}
use Rattle.hpf_lex.specs.declared.token.Token.{Token}
use Rattle.hpf_lex.specs.declared.token.TokenKind.{TokenKind}
use Rattle.hpf_lex.specs.declared.token.TokenKind.TheVariants as kind
use Rattle.hpf_syntax.specs.declared.tree.At.{At}
use Rattle.hpf_syntax.specs.declared.tree.Spot.{Spot}
use Rattle.hpf_syntax.specs.declared.terminal.Terminal.{Terminal}
use Rattle.hpf_syntax.specs.declared.terminal.Terminal.TheVariants as terminal
use Rattle.hpf_syntax.specs.declared.stop.Fault.TheVariants.{Syntax}
use Rattle.hpf_syntax.specs.Terminal.{spelling, word_among, word_terminal, kind_terminal, token_terminal, first_terminal, number_of, same, begins, Is}
use Rattle.hpf_syntax.specs.Reading.{Reading, bad_at, rest_of, first_place, take_at}
use Rattle.hpf_syntax.specs.Plain.{place}
use Rattle.hpf_syntax.specs.Rules.{Rule, Then, ◌or◌, Sign, AName}
use Rattle.hpf_syntax.specs.Statements.{name_at, begins_expression, begins_triplet}
use Rattle.hpf_syntax.proofs.Terminals.{member, apart, same_refl}
use Rattle.hpf_syntax.proofs.Laws.{Core, Reads, one_core, then_at, then_reads, joined_first, joined_more, subset, choice_at, choice_reads, reads_alike, begins_is, one_reads}
use Rattle.hpf_syntax.proofs.ExpressionLaw.{expression_first}

-- ---- a token of each terminal

sample_kind : Terminal → TokenKind
sample_kind terminal.Hpf = kind.Hpf
sample_kind terminal.Pipe = kind.Pipe
sample_kind terminal.Number = kind.Number
sample_kind terminal.LeftParen = kind.LeftParen
sample_kind terminal.RightParen = kind.RightParen
sample_kind terminal.LeftArray = kind.LeftArray
sample_kind terminal.RightArray = kind.RightArray
sample_kind terminal.Comma = kind.Comma
sample_kind terminal.Colon = kind.Colon
sample_kind terminal.DoubleColon = kind.DoubleColon
sample_kind terminal.Star = kind.Star
sample_kind terminal.Plus = kind.Plus
sample_kind terminal.Minus = kind.Minus
sample_kind terminal.Equals = kind.Equals
sample_kind terminal.End = kind.End
sample_kind _ = kind.Word

sample_word : Terminal → List ℕ
sample_word terminal.Name = codes "X"
sample_word w = spelling w

sample : Terminal → Token
sample w = record { kind = sample_kind w; word = sample_word w; number = 0; line = 0; column = 0 }

sample_is : (w : Terminal) → same terminal.Missing w ≡ false → Is w (sample w)
unfolding sample sample_kind sample_word token_terminal kind_terminal word_terminal word_among spelling same number_of
sample_is terminal.Missing e = absurd cc
sample_is terminal.Name e = refl
sample_is terminal.Hpf e = refl
sample_is terminal.Pipe e = refl
sample_is terminal.Number e = refl
sample_is terminal.LeftParen e = refl
sample_is terminal.RightParen e = refl
sample_is terminal.LeftArray e = refl
sample_is terminal.RightArray e = refl
sample_is terminal.Comma e = refl
sample_is terminal.Colon e = refl
sample_is terminal.DoubleColon e = refl
sample_is terminal.Star e = refl
sample_is terminal.Plus e = refl
sample_is terminal.Minus e = refl
sample_is terminal.Equals e = refl
sample_is terminal.End e = refl
sample_is terminal.Add e = refl
sample_is terminal.Align e = refl
sample_is terminal.Block e = refl
sample_is terminal.Buffers e = refl
sample_is terminal.Cyclic e = refl
sample_is terminal.Dimension e = refl
sample_is terminal.Distribute e = refl
sample_is terminal.Dynamic e = refl
sample_is terminal.GenBlock e = refl
sample_is terminal.Implicit e = refl
sample_is terminal.Indirect e = refl
sample_is terminal.Inherit e = refl
sample_is terminal.Input e = refl
sample_is terminal.Integer e = refl
sample_is terminal.Mul e = refl
sample_is terminal.NoneWord e = refl
sample_is terminal.Onto e = refl
sample_is terminal.Parameter e = refl
sample_is terminal.Permute e = refl
sample_is terminal.Prefix e = refl
sample_is terminal.Processors e = refl
sample_is terminal.Realign e = refl
sample_is terminal.Redistribute e = refl
sample_is terminal.Reduce e = refl
sample_is terminal.Shadow e = refl
sample_is terminal.Stage e = refl
sample_is terminal.Stencil e = refl
sample_is terminal.Template e = refl
sample_is terminal.With e = refl

-- ---- single tokens

sign_takes : (w : Terminal) (t : Token) (ts : List Token) → Is w t → take_at w (t ∷ ts) ≡ Ok (place t, ts)
unfolding take_at
sign_takes w t ts is = rw (begins_is w t ts is) refl

sign_refuses : (w : Terminal) (ts : List Token) → begins w ts ≡ false → take_at w ts ≡ Err (bad_at Syntax ts)
unfolding take_at
sign_refuses w ts e = rw e refl

missing_is : (w : Terminal) → begins w [] ≡ same terminal.Missing w
unfolding begins first_terminal
missing_is w = refl

spot_of : Token → Spot
spot_of t = record { word = t.word; at = place t }

name_takes : (t : Token) (ts : List Token) → Is terminal.Name t → name_at (t ∷ ts) ≡ Ok (spot_of t, ts)
unfolding name_at spot_of
name_takes t ts is = rw (begins_is terminal.Name t ts is) refl

name_refuses : (ts : List Token) → begins terminal.Name ts ≡ false → name_at ts ≡ Err (bad_at Syntax ts)
unfolding name_at
name_refuses ts e = rw e refl

-- ---- sequences and choices

or_nothing : (a : Bool) → a ≡ (a || false)
or_nothing true = refl
or_nothing false = refl

pub begins_tests : (w : Terminal) (ts : List Token) → begins w ts ≡ member (first_terminal ts) (w ∷ [])
unfolding begins
begins_tests w ts = or_nothing (same (first_terminal ts) w)

or_other : (a b : Bool) → (a || b) ≡ (b || (a || false))
or_other true true = refl
or_other true false = refl
or_other false b = or_nothing b

or_two : (a b : Bool) → (a || b) ≡ (a || (b || false))
or_two true b = refl
or_two false b = or_nothing b

pub triplet_tests : (ts : List Token) → begins_triplet ts ≡ member (first_terminal ts) (terminal.DoubleColon ∷ terminal.Colon ∷ [])
unfolding begins
triplet_tests ts = or_other (same (first_terminal ts) terminal.Colon) (same (first_terminal ts) terminal.DoubleColon)

or_five : (a b c d e : Bool) → ((((a || b) || c) || d) || e) ≡ (a || (b || (c || (d || (e || false)))))
or_five true b c d e = refl
or_five false true c d e = refl
or_five false false true d e = refl
or_five false false false d e = or_two d e

pub expression_tests : (ts : List Token) → begins_expression ts ≡ member (first_terminal ts) expression_first
unfolding begins
expression_tests ts = or_five (same (first_terminal ts) terminal.Number) (same (first_terminal ts) terminal.Name) (same (first_terminal ts) terminal.LeftParen) (same (first_terminal ts) terminal.Plus) (same (first_terminal ts) terminal.Minus)

pub apart_nothing : (ws : List Terminal) → apart ws [] ≡ true
apart_nothing [] = refl
apart_nothing (w ∷ ws) = apart_nothing ws

itself_in : (w : Terminal) → subset (w ∷ []) (w ∷ []) ≡ true
itself_in w = ap (λ (b : Bool). (b || false) && true) (same_refl w)

-- a token, and what stands behind it, or something else
abbrev pub option_at : {A : Type 0} → Terminal → (At → Reading A) → Reading A → Reading A
option_at w s q ts = cond (begins w ts) (s (first_place ts) (rest_of ts)) (q ts)

option_alike : {A : Type 0} (w : Terminal) (s : At → Reading A) (q : Reading A) (ts : List Token) (b : Bool) → begins w ts ≡ b → option_at w s q ts ≡ choice_at (begins w) (then_at (take_at w) s) q ts
unfolding take_at
option_alike w s q ts true e = rw e refl
option_alike w s q ts false e = rw e refl

module _ (max : ℕ) where
  pub sign_core : (w : Terminal) → same terminal.Missing w ≡ false → Core max (Sign w) (take_at w) (w ∷ []) [] false
  sign_core w here = one_core max w place (take_at w) (sign_takes w) (sign_refuses w) (missing_is w ∙ here) (sample w) (sample_is w here)

  pub sign : (w : Terminal) → same terminal.Missing w ≡ false → same w terminal.End ≡ false → Reads max (Sign w) (take_at w) (w ∷ []) [] false
  sign w here inside = one_reads max w place (take_at w) (sign_takes w) (sign_refuses w) (missing_is w ∙ here) (sample w) (sample_is w here) inside

  pub name_reads : Reads max AName name_at (terminal.Name ∷ []) [] false
  unfolding spot_of same number_of begins first_terminal
  name_reads = one_reads max terminal.Name spot_of name_at name_takes name_refuses refl (sample terminal.Name) (sample_is terminal.Name refl) refl

  pub and_then : {A B : Type 0} {R : Rule A} {r : Reading A} {S : A → Rule B} {s : A → Reading B} {f1 m1 : List Terminal} {e1 : Bool} {f2 m2 : List Terminal} {e2 : Bool} → Reads max R r f1 m1 e1 → ((a : A) → Reads max (S a) (s a) f2 m2 e2) → apart f2 m1 ≡ true → Reads max (Then R S) (then_at r s) (joined_first e1 f1 f2) (joined_more e2 m2 m1) (e1 && e2)
  and_then {R = R} {r = r} {S = S} {s = s} {f1 = f1} {m1 = m1} {e1 = e1} {f2 = f2} {m2 = m2} {e2 = e2} p q ok = then_reads max R r S s f1 m1 e1 f2 m2 e2 p q ok

  pub either : {A : Type 0} {R Q : Rule A} {r q : Reading A} {f1 m1 : List Terminal} {f2 m2 : List Terminal} {e2 : Bool} {test : List Token → Bool} (ws : List Terminal) → ((ts : List Token) → test ts ≡ member (first_terminal ts) ws) → Reads max R r f1 m1 false → Reads max Q q f2 m2 e2 → subset f1 ws ≡ true → apart f2 ws ≡ true → Reads max (R or Q) (choice_at test r q) (f1 ++ f2) ((m1 ++ m2) ++ cond e2 ws []) e2
  either {R = R} {Q = Q} {r = r} {q = q} {f1 = f1} {m1 = m1} {f2 = f2} {m2 = m2} {e2 = e2} {test = test} ws tests p1 p2 ok away = choice_reads max ws test tests R Q r q f1 m1 f2 m2 e2 p1 p2 ok away

  pub or_else : {A : Type 0} {S : At → Rule A} {s : At → Reading A} {Q : Rule A} {q : Reading A} {f2 m2 : List Terminal} {e2 : Bool} {f3 m3 : List Terminal} {e3 : Bool} (w : Terminal) → same terminal.Missing w ≡ false → same w terminal.End ≡ false → ((at : At) → Reads max (S at) (s at) f2 m2 e2) → Reads max Q q f3 m3 e3 → apart f3 (w ∷ []) ≡ true → Reads max (Then (Sign w) S or Q) (option_at w s q) (w ∷ f3) ((joined_more e2 m2 [] ++ m3) ++ cond e3 (w ∷ []) []) e3
  or_else {S = S} {s = s} {Q = Q} {q = q} {f2 = f2} {m2 = m2} {e2 = e2} {f3 = f3} {m3 = m3} {e3 = e3} w here inside p2 p3 away =
      reads_alike max (Then (Sign w) S or Q) (choice_at (begins w) (then_at (take_at w) s) q) (option_at w s q) (w ∷ f3) ((joined_more e2 m2 [] ++ m3) ++ cond e3 (w ∷ []) []) e3
      (λ ts. option_alike w s q ts (begins w ts) refl)
      (choice_reads max (w ∷ []) (begins w) (begins_tests w) (Then (Sign w) S) Q (then_at (take_at w) s) q (w ∷ []) (joined_more e2 m2 []) f3 m3 e3
      (then_reads max (Sign w) (take_at w) S s (w ∷ []) [] false f2 m2 e2 (sign w here inside) p2 (apart_nothing f2)) p3 (itself_in w) away)
