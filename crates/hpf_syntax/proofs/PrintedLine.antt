-- The canonical line of a statement is read back.
use Rattle.std.proofs.Common.{◌≡◌, ℕ, suc, ◌+◌, ◌-◌, false, List, [], ◌∷◌, ◌++◌, length, refl, sym, ap, subst, ◌∙◌, append_assoc, inl, inr, arith, zero-le}
use Rattle.std.specs.Prelude.{codes, slice_index}
use Rattle.std.specs.List.{AllByRecursion}
use Rattle.std.proofs.lemmas.List.{append-nil}
use Rattle.hpf_lex.specs.declared.line.Form.{Form}
use Rattle.hpf_lex.specs.declared.line.Form.TheVariants as form
use Rattle.hpf_lex.specs.declared.token.Token.{Token}
use Rattle.hpf_lex.specs.declared.token.TokenKind.TheVariants as kind
use Rattle.hpf_lex.specs.Bytes.{is_blank}
use Rattle.hpf_lex.specs.Cut.{Cut, nothing}
use Rattle.hpf_lex.specs.Follows.{IsProper}
use Rattle.hpf_lex.specs.OneLine.{OneLine, prefix_text, one_line, first_token, line_tokens, StandsOn}
use Rattle.hpf_lex.specs.Statement.{bare_token, prefix_kind}
use Rattle.hpf_syntax.specs.declared.terminal.Terminal.TheVariants as terminal
use Rattle.hpf_syntax.specs.Terminal.{kind_terminal, token_terminal, Is}
use Rattle.hpf_syntax.specs.Plain.{ItemTree, ImplicitNone, Variables, Constants, Processors, Template, Distribute, Align, Shadow, Input, Stage, place}
use Rattle.hpf_syntax.specs.Rules.{Counted, outside, tokens_of, Rule, IsShort}
use Rattle.hpf_syntax.specs.Grammar.{ALine, AStatement}
use Rattle.hpf_syntax.specs.Canonical.{statement_text, line_text}
use Rattle.hpf_syntax.specs.Placeless.{bare_item}
use Rattle.hpf_syntax.proofs.Cuts.{tokens_append, tokens_append_rest, short_append}
use Rattle.hpf_syntax.proofs.Lexing.{Lexing}
use Rattle.hpf_syntax.proofs.PrintedRules.{IsSome, EndsWell}
use Rattle.hpf_syntax.proofs.PrintedPieces.{Good, good_parts, Stands}
use Rattle.hpf_syntax.proofs.PrintedDeclarations.{fortran_prints}
use Rattle.hpf_syntax.proofs.PrintedPipelines.{pipeline_stands}
use Rattle.hpf_syntax.proofs.PrintedDirectives.{directive_stands}

-- ---- the first and the last byte

statement_begins : (item : ItemTree) → (is_blank (slice_index (statement_text item) 0) ≡ false) × IsSome (statement_text item)
unfolding is_blank
statement_begins (ImplicitNone at) = (refl, tt)
statement_begins (Variables common names) = (refl, tt)
statement_begins (Constants common names) = (refl, tt)
statement_begins (Processors names) = (refl, tt)
statement_begins (Template names) = (refl, tt)
statement_begins (Distribute names formats onto) = (refl, tt)
statement_begins (Align names sources base subs) = (refl, tt)
statement_begins (Shadow names widths) = (refl, tt)
statement_begins (Input at name buffers op) = (refl, tt)
statement_begins (Stage at name permute buffers op) = (refl, tt)

last_byte : (text : List ℕ) → IsSome text → EndsWell text → is_blank (slice_index text (length text - 1)) ≡ false
last_byte [] some h = absurd some
last_byte (c ∷ []) some h = h
last_byte (c ∷ d ∷ rest) some h =
    let before : suc (suc (length rest)) - 1 ≡ suc (suc (length rest) - 1) = omega arith in
    rw before (last_byte (d ∷ rest) tt h)

never_empty : (text : List ℕ) → IsSome text → (text ≡ []) → ⊥
never_empty [] some e = some
never_empty (c ∷ text) some e = cc

-- ---- one line

-- a line with the statement's canonical text is this statement, but for places
abbrev pub IsLineOf : ItemTree → ℕ → Type 0
IsLineOf item line = (s : OneLine) × (item' : ItemTree) × (cs' : List Counted) × ALine cs' item' × IsShort cs' × (bare_item item' ≡ bare_item item) × (tokens_of cs' ≡ line_tokens line s) × StandsOn line s × (one_line s ≡ line_text item)

end_is : (line column : ℕ) → Is terminal.End (bare_token kind.End line column)
unfolding token_terminal kind_terminal
end_is line column = refl

hpf_is : (line column : ℕ) → Is terminal.Hpf (bare_token kind.Hpf line column)
unfolding token_terminal kind_terminal
hpf_is line column = refl

pipe_is : (line column : ℕ) → Is terminal.Pipe (bare_token kind.Pipe line column)
unfolding token_terminal kind_terminal
pipe_is line column = refl

line_of : (form : Form) {R : Rule ItemTree} {item : ItemTree} → Stands form R item → (line : ℕ) (first : List Counted) → tokens_of first ≡ first_token line (prefix_kind form) → IsShort first
    → ((ds : List Counted) (x : ItemTree) → R ds x → AStatement (first ++ ds) x) → IsLineOf item line
line_of form {R} {item} stands line first front short is =
    let column : ℕ = length (prefix_text form) + 1 in
    let r = stands.prints.reads line column in
    let s : OneLine = record { form = form; text = stands.text; tokens = tokens_of r.1 } in
    let last : Token = bare_token kind.End line (length (prefix_text form) + length stands.text + 1) in
    let ending : List Counted = outside last ∷ [] in
    let cut : Cut line column (stands.text ++ []) (tokens_of r.1 ++ []) = r.5 [] [] tt nothing in (
      s,
      r.0,
      (first ++ r.1) ++ ending,
      (r.0, first ++ r.1, ending, is r.1 r.0 r.2, (place last, ending, [], (last, end_is line _, refl, refl), (refl, refl), refl), refl),
      short_append 64 (first ++ r.1) ending (short_append 64 first r.1 short r.3) (zero-le, tt),
      r.4,
      tokens_append (first ++ r.1) ending ∙ tokens_append_rest first r.1 (last ∷ []) ∙ ap (λ (ts : List Token). ts ++ (tokens_of r.1 ++ last ∷ [])) front,
      record {
        cut = subst (λ (ts : List Token). Cut line column stands.text ts) (append-nil (tokens_of r.1)) (subst (λ (bytes : List ℕ). Cut line column bytes (tokens_of r.1 ++ [])) (append-nil stands.text) cut);
        begins = stands.begins;
        ends = last_byte stands.text stands.some stands.prints.ends;
        some = never_empty stands.text stands.some;
      },
      sym (append_assoc (prefix_text form) stands.text (codes "\n")) ∙ ap (λ (bytes : List ℕ). bytes ++ codes "\n") (sym stands.whole),
    )

module _ (laws : Lexing) where
  statement_prints : {cs : List Counted} {item : ItemTree} → AStatement cs item → Good cs → (line : ℕ) → IsLineOf item line
  statement_prints (inr (inl (at, f1, b1, p1, p, e1))) g line =
      let t : Token = bare_token kind.Hpf line 1 in
      line_of form.Directive (directive_stands laws p (good_parts f1 b1 e1 g).1) line (outside t ∷ []) refl (zero-le, tt) (λ ds x q. inr (inl (place t, outside t ∷ [], ds, (t, hpf_is line 1, refl, refl), q, refl)))
  statement_prints (inr (inr (at, f1, b1, p1, p, e1))) g line =
      let t : Token = bare_token kind.Pipe line 1 in
      line_of form.Pipeline (pipeline_stands laws p (good_parts f1 b1 e1 g).1) line (outside t ∷ []) refl (zero-le, tt) (λ ds x q. inr (inr (place t, outside t ∷ [], ds, (t, pipe_is line 1, refl, refl), q, refl)))
  statement_prints {cs} {item} (inl p) g line =
      let begins = statement_begins item in
      line_of form.Fortran (record { text = statement_text item; whole = refl; begins = begins.0; some = begins.1; prints = fortran_prints laws p g }) line [] refl tt (λ ds x q. inl q)

  pub line_prints : {cs : List Counted} {item : ItemTree} → ALine cs item → AllByRecursion IsProper (tokens_of cs) → IsShort cs → (line : ℕ)
      → (s : OneLine) × (item' : ItemTree) × (cs' : List Counted) × ALine cs' item' × IsShort cs' × (bare_item item' ≡ bare_item item) × (tokens_of cs' ≡ line_tokens line s) × StandsOn line s × (one_line s ≡ line_text item)
  line_prints {cs} {item} (x, f1, b1, p, (end, f2, b2, p2, (nil, v), e2), e1) proper short line =
      let parts = good_parts f1 b1 e1 (short, proper) in
      subst (λ (y : ItemTree). IsLineOf y line) (sym v) (statement_prints p parts.0 line)
