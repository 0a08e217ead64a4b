-- A text of statements on one line each has their tokens.
use Rattle.std.proofs.Common.{◌≡◌, ℕ, zero, suc, ◌+◌, ◌-◌, ◌<◌, ◌≤◌, true, false, ◌&&◌, eqb, leb, List, [], ◌∷◌, ◌++◌, length, get_or, take, drop, Some, None, Ok, refl, sym, ap, subst, ◌∙◌, append_assoc, inl, inr, arith, length-append}
use Rattle.std.specs.List.{AllByRecursion, list_all, prefix_len, suffix_len, position_or_len}
use Rattle.std.proofs.Math.Seq.{take-append_seam, get_or-append_right}
use Rattle.std.proofs.lemmas.Bool.{ne_eqb, and_parts, and_left, or_left, cases_lt}
use Rattle.std.proofs.lemmas.Bool.Decides.{nat_tests}
use Rattle.std.proofs.lemmas.List.{drop_at, take_all, nil_from_length}
use Rattle.std.proofs.lemmas.List.Sums.{prefix_len_is, suffix_len_is, position_or_len_is}
use Rattle.hpf_lex.specs.declared.line.Form.{Form}
use Rattle.hpf_lex.specs.declared.line.Form.TheVariants.{Fortran, Directive, Pipeline}
use Rattle.hpf_lex.specs.declared.place.Place.{Place}
use Rattle.hpf_lex.specs.declared.token.Token.{Token}
use Rattle.hpf_lex.specs.declared.token.TokenKind.{TokenKind}
use Rattle.hpf_lex.specs.declared.token.TokenKind.TheVariants as kind
use Rattle.hpf_lex.specs.Bytes.{is_blank, is_letter, is_name_byte, upper}
use Rattle.hpf_lex.specs.Cut.{Cut, nothing, blank}
use Rattle.hpf_lex.specs.Cut as cut
use Rattle.hpf_lex.specs.Name.{is_name}
use Rattle.hpf_lex.specs.Line.{Part, before_comment, without_blanks_at_end, form_of, lines_of, part_of, parts_of}
use Rattle.hpf_lex.specs.OneLine.{OneLine, prefix_text, one_line, first_token, line_tokens, StandsOn, StandFrom, tokens_from, one_line_text}
use Rattle.hpf_lex.specs.Spelling.{Spells}
use Rattle.hpf_lex.specs.Statement.{Mark, token, fault, bare_token, marks, ends_open, own_text, prefix_kind, prefix_marks, first_marks, place, past_last, max_text, text_marks}
use Rattle.hpf_lex.specs.Text.{HasTokens, tokens_of, faults_of}
use Rattle.hpf_lex.specs.Scanning.{with_front, read, closing_marks, inner_marks, past_inner, part_marks, pending_part, line_marks, pending_line, scan}
use Rattle.hpf_lex.proofs.Cuts.{only_cut}
use Rattle.hpf_lex.proofs.Lines.{lines-none, lines-feed, lines-byte}
use Rattle.hpf_lex.proofs.Longest.{is_longest, token_some, digits_are_name_bytes}
use Rattle.hpf_lex.proofs.Marks.{marks-none, marks-blank, marks-token, past_last-append}
use Rattle.hpf_lex.proofs.Order.{tokens_read}
use Rattle.hpf_lex.proofs.Parts.{scan-line, scan-none, scan_is, shut_closing}

-- ---- the bytes of tokens

-- no line feed and no carriage return
record IsInside (c : ℕ) : Type 0 where
  feed : eqb c 10 ≡ false
  return : eqb c 13 ≡ false

-- and no `!` and no `&`
record IsPlain (c : ℕ) : Type 0 where
  inside : IsInside c
  mark : eqb c 33 ≡ false
  ampersand : eqb c 38 ≡ false

abbrev AllPlain : List ℕ → Type 0
AllPlain bytes = AllByRecursion IsPlain bytes

plain_append : (a b : List ℕ) → AllPlain a → AllPlain b → AllPlain (a ++ b)
plain_append [] b h k = k
plain_append (c ∷ a) b h k = (h.0, plain_append a b h.1 k)

blank_plain : (c : ℕ) → is_blank c ≡ true → IsPlain c
unfolding is_blank
blank_plain c h = record {
  inside = record { feed = grind (arith, nat_tests); return = grind (arith, nat_tests) };
  mark = grind (arith, nat_tests);
  ampersand = grind (arith, nat_tests);
}

name_byte_plain : (c : ℕ) → is_name_byte c ≡ true → IsPlain c
name_byte_plain c h = record {
  inside = record { feed = grind (arith, nat_tests); return = grind (arith, nat_tests) };
  mark = grind (arith, nat_tests);
  ampersand = grind (arith, nat_tests);
}

name_bytes_plain : (bytes : List ℕ) → list_all is_name_byte bytes ≡ true → AllPlain bytes
name_bytes_plain [] h = tt
name_bytes_plain (c ∷ bytes) h =
    let parts = and_parts (is_name_byte c) (list_all is_name_byte bytes) h in
    (name_byte_plain c parts.0, name_bytes_plain bytes parts.1)

name_plain : (bytes : List ℕ) → is_name bytes ≡ true → AllPlain bytes
name_plain [] h = absurd cc
name_plain (c ∷ bytes) h =
    let parts = and_parts (is_letter c && list_all is_name_byte bytes) (leb (length (c ∷ bytes)) 31) h in
    let front = and_parts (is_letter c) (list_all is_name_byte bytes) parts.0 in
    (name_byte_plain c (or_left _ _ (or_left _ _ front.0)), name_bytes_plain bytes front.1)

abbrev sign_plain : (c : ℕ) → eqb c 10 ≡ false → eqb c 13 ≡ false → eqb c 33 ≡ false → eqb c 38 ≡ false → IsPlain c
sign_plain c f r m a = record { inside = record { feed = f; return = r }; mark = m; ampersand = a }

spelled_plain : (kind : TokenKind) (spelling : List ℕ) → Spells kind spelling → AllPlain spelling
spelled_plain kind.Hpf spelling h = absurd h
spelled_plain kind.Pipe spelling h = absurd h
spelled_plain kind.End spelling h = absurd h
spelled_plain kind.Word spelling h = name_plain spelling h
spelled_plain kind.Number spelling h = name_bytes_plain spelling (digits_are_name_bytes spelling h.digits)
spelled_plain kind.LeftParen spelling h = rw h (sign_plain 40 refl refl refl refl, tt)
spelled_plain kind.RightParen spelling h = rw h (sign_plain 41 refl refl refl refl, tt)
spelled_plain kind.LeftArray spelling h = rw h (sign_plain 40 refl refl refl refl, (sign_plain 47 refl refl refl refl, tt))
spelled_plain kind.RightArray spelling h = rw h (sign_plain 47 refl refl refl refl, (sign_plain 41 refl refl refl refl, tt))
spelled_plain kind.Comma spelling h = rw h (sign_plain 44 refl refl refl refl, tt)
spelled_plain kind.Colon spelling h = rw h (sign_plain 58 refl refl refl refl, tt)
spelled_plain kind.DoubleColon spelling h = rw h (sign_plain 58 refl refl refl refl, (sign_plain 58 refl refl refl refl, tt))
spelled_plain kind.Star spelling h = rw h (sign_plain 42 refl refl refl refl, tt)
spelled_plain kind.Plus spelling h = rw h (sign_plain 43 refl refl refl refl, tt)
spelled_plain kind.Minus spelling h = rw h (sign_plain 45 refl refl refl refl, tt)
spelled_plain kind.Equals spelling h = rw h (sign_plain 61 refl refl refl refl, tt)

cut_plain : {line column : ℕ} {bytes : List ℕ} {tokens : List Token} → Cut line column bytes tokens → AllPlain bytes
cut_plain nothing = tt
cut_plain (blank {c} h k) = (blank_plain c h, cut_plain k)
cut_plain {bytes} (cut.token found spelling rest whole wide front e k) =
    let longest = is_longest bytes found e in
    let here : take found.width bytes ≡ spelling = rw (wide, whole) (take-append_seam spelling rest) in
    let spells : Spells found.kind spelling = subst (λ (x : List ℕ). Spells found.kind x) here longest.spells in
    subst AllPlain (sym whole) (plain_append spelling rest (spelled_plain found.kind spelling spells) (cut_plain k))

-- no byte is `&`, nor is the 0 that is read where there is none
no_ampersand : (bytes : List ℕ) (i : ℕ) → AllPlain bytes → eqb (get_or bytes i 0) 38 ≡ false
no_ampersand [] i h = refl
no_ampersand (c ∷ bytes) zero h = h.0.ampersand
no_ampersand (c ∷ bytes) (suc i) h = no_ampersand bytes i h.1

no_mark : (bytes : List ℕ) (i : ℕ) → AllPlain bytes → eqb (get_or bytes i 0) 33 ≡ false
no_mark [] i h = refl
no_mark (c ∷ bytes) zero h = h.0.mark
no_mark (c ∷ bytes) (suc i) h = no_mark bytes i h.1

-- ---- the line

AllInside : List ℕ → Type 0
AllInside bytes = AllByRecursion IsInside bytes

kept_line : (line behind : List ℕ) → AllInside line → lines_of (line ++ 10 ∷ behind) ≡ line ∷ lines_of behind
unfolding AllInside
kept_line [] behind h = lines-feed behind
kept_line (c ∷ line) behind h =
    lines-byte c (line ++ 10 ∷ behind) line (lines_of behind) h.0.feed (and_left (eqb c 13) (eqb (get_or (line ++ 10 ∷ behind) 0 0) 10) h.0.return) (kept_line line behind h.1)

plain_inside : (bytes : List ℕ) → AllPlain bytes → AllInside bytes
unfolding AllInside
plain_inside [] h = tt
plain_inside (c ∷ bytes) h = (h.0.inside, plain_inside bytes h.1)

abbrev inside : (c : ℕ) → eqb c 10 ≡ false → eqb c 13 ≡ false → IsInside c
inside c f r = record { feed = f; return = r }

line_inside : (form : Form) (text : List ℕ) → AllInside text → AllInside (prefix_text form ++ text)
unfolding AllInside
line_inside Fortran text h = h
line_inside Directive text h =
    (inside 33 refl refl, (inside 72 refl refl, (inside 80 refl refl, (inside 70 refl refl, (inside 36 refl refl, (inside 32 refl refl, h))))))
line_inside Pipeline text h =
    (inside 33 refl refl, (inside 80 refl refl, (inside 73 refl refl, (inside 80 refl refl, (inside 69 refl refl, (inside 36 refl refl, (inside 32 refl refl, h)))))))

-- ---- the part that stands on it

-- bytes of tokens without blanks at either end
record IsText (text : List ℕ) : Type 0 where
  plain : AllPlain text
  begins : is_blank (get_or text 0 0) ≡ false
  ends : is_blank (get_or text (length text - 1) 0) ≡ false
  some : 0 < length text

no_gap : (text : List ℕ) → IsText text → prefix_len is_blank text ≡ 0
no_gap text h = prefix_len_is is_blank text 0 0 (omega arith) (λ k lt. absurd (omega arith)) (λ _. h.begins)

text_kept : (text : List ℕ) → IsText text → without_blanks_at_end (before_comment text) ≡ text
text_kept text h =
    let none : position_or_len (λ c. eqb c 33) text ≡ length text =
    position_or_len_is (λ c. eqb c 33) text (length text) 0 (omega arith) (λ k _. no_mark text k h.plain) (λ lt. absurd (omega arith)) in
    let whole : before_comment text ≡ text = take_all (position_or_len (λ c. eqb c 33) text) text (omega arith) in
    let shut : suffix_len is_blank text ≡ length text - length text =
    suffix_len_is is_blank text (length text) 0 (omega arith) (λ k le lt. absurd (omega arith)) (λ _. h.ends) in
    ap without_blanks_at_end whole ∙ take_all (length text - suffix_len is_blank text) text (omega arith)

abbrev part_with : Form → ℕ → List ℕ → Part
part_with form number text = record { form = form; line = number; start = 1; column = length (prefix_text form) + 1; text = text }

no_upper_mark : (c : ℕ) → eqb c 33 ≡ false → eqb (upper c) 33 ≡ false
no_upper_mark c h = grind (arith, nat_tests)

fortran_form : (text : List ℕ) → IsText text → form_of text ≡ Some Fortran
unfolding form_of
fortran_form [] h = absurd (omega (arith, h.some))
fortran_form (c ∷ text) h =
    let no_mark_here : eqb (upper c) 33 ≡ false = no_upper_mark c h.plain.0.mark in
    let some : eqb (suc (length text)) 0 ≡ false = ne_eqb (suc (length text)) 0 (λ e. absurd (omega arith)) in
    rw (no_mark_here, some) refl

fortran_part : (number : ℕ) (text : List ℕ) → IsText text → part_of number text ≡ Some (part_with Fortran number text)
unfolding part_of
fortran_part number text h = rw (no_gap text h, fortran_form text h, no_gap text h, text_kept text h) refl

part_is : (form : Form) (number : ℕ) (text : List ℕ) → IsText text → part_of number (prefix_text form ++ text) ≡ Some (part_with form number text)
unfolding part_of form_of is_blank
part_is Fortran number text h = fortran_part number text h
part_is Directive number text h = rw (no_gap text h, text_kept text h) refl
part_is Pipeline number text h = rw (no_gap text h, text_kept text h) refl

-- ---- what stands on the line

abbrev Says : List Mark → List Token → Type 0
Says ms tokens = (faults_of ms ≡ []) × (tokens_of ms ≡ tokens)

says_append : (a b : List Mark) (ts us : List Token) → Says a ts → Says b us → Says (a ++ b) (ts ++ us)
says_append a b ts us h k = (faults_append a b h.0 k.0, tokens_append a b ∙ rw (h.1, k.1) refl) where
  faults_append : (a b : List Mark) → faults_of a ≡ [] → faults_of b ≡ [] → faults_of (a ++ b) ≡ []
  faults_append [] b h k = k
  faults_append (token t width ∷ a) b h k = faults_append a b h k
  faults_append (fault f ∷ a) b h k = absurd cc

  tokens_append : (a b : List Mark) → tokens_of (a ++ b) ≡ tokens_of a ++ tokens_of b
  tokens_append [] b = refl
  tokens_append (token t width ∷ a) b = ap (λ (ts : List Token). t ∷ ts) (tokens_append a b)
  tokens_append (fault f ∷ a) b = tokens_append a b

-- the last of bytes behind others
last_behind : (a b : List ℕ) → 0 < length b → get_or (a ++ b) (length (a ++ b) - 1) 0 ≡ get_or b (length b - 1) 0
last_behind a b some =
    let long : length (a ++ b) ≡ length a + length b = length-append a b in
    let left : (length (a ++ b) - 1) - length a ≡ length b - 1 = omega arith in
    get_or-append_right a b (length (a ++ b) - 1) 0 (omega arith) ∙ ap (λ (i : ℕ). get_or b i 0) left

-- the place past the last token of bytes that don't end with a blank
cut_past : {line column : ℕ} {bytes : List ℕ} {tokens : List Token} → Cut line column bytes tokens → 0 < length bytes → is_blank (get_or bytes (length bytes - 1) 0) ≡ false
    → (start : Place) → past_last start (marks line column 0 bytes) ≡ place line (column + length bytes)
unfolding past_last
cut_past nothing some last start = absurd (omega arith)
cut_past {line} {column} (blank {c} {bytes} h k) some last start =
    elim (cases_lt 0 (length bytes)) [
      | inl more ↦
          let last_of : is_blank (get_or bytes (length bytes - 1) 0) ≡ false = ap is_blank (sym (last_behind (c ∷ []) bytes more)) ∙ last in
          let sums : (column + 1) + length bytes ≡ column + suc (length bytes) = omega arith in
          rw (marks-blank line column (c ∷ bytes) (omega arith) h) (cut_past k more last_of start ∙ ap (place line) sums)
      | inr none ↦
          let empty : bytes ≡ [] = nil_from_length bytes (omega arith) in
          let blank_last : is_blank c ≡ false = rw empty at last in
          absurd cc
    ]
cut_past {line} {column} {bytes} (cut.token found spelling rest whole wide front e k) some last start =
    let left : drop found.width bytes ≡ rest = rw (wide, whole) (drop_at spelling rest (length spelling) refl) in
    let long : length bytes ≡ length spelling + length rest = ap length whole ∙ length-append spelling rest in
    let past : past_last start (marks line column 0 bytes) ≡ past_last (place line (column + length spelling)) (marks line (column + length spelling) 0 rest) =
    rw (marks-token line column bytes found some front e (token_some bytes found e), left, wide) refl in
    elim (cases_lt 0 (length rest)) [
      | inl more ↦
          let last_of : is_blank (get_or rest (length rest - 1) 0) ≡ false =
          ap is_blank (sym (last_behind spelling rest more)) ∙ subst (λ (x : List ℕ). is_blank (get_or x (length x - 1) 0) ≡ false) whole last in
          let sums : (column + length spelling) + length rest ≡ column + length bytes = omega arith in
          past ∙ cut_past k more last_of (place line (column + length spelling)) ∙ ap (place line) sums
      | inr none ↦
          let empty : rest ≡ [] = nil_from_length rest (omega arith) in
          let sums : column + length spelling ≡ column + length bytes = omega arith in
          past ∙ rw (empty, marks-none line (column + length spelling)) (ap (place line) sums)
    ]

text_of : {line : ℕ} {s : OneLine} → StandsOn line s → IsText s.text
text_of {line} {s} h = record {
  plain = cut_plain h.cut;
  begins = h.begins;
  ends = h.ends;
  some = elim (cases_lt 0 (length s.text)) [
    | inl some ↦ some
    | inr none ↦ absurd (h.some (nil_from_length s.text (omega arith)))
  ];
}

abbrev part_on : ℕ → OneLine → Part
part_on line s = part_with s.form line s.text

shut : (line : ℕ) (s : OneLine) → StandsOn line s → ends_open (part_on line s) ≡ false
unfolding ends_open
shut line s h = no_ampersand s.text (length s.text - 1) (cut_plain h.cut)

prefix_says : (form : Form) (line column : ℕ) (text : List ℕ) → Says (prefix_marks (part_with form line text)) (first_token line (prefix_kind form))
unfolding prefix_marks
prefix_says Fortran line column text = (refl, refl)
prefix_says Directive line column text = (refl, refl)
prefix_says Pipeline line column text = (refl, refl)

-- the whole line, with its end one column past the last token
line_says : (line : ℕ) (s : OneLine) → StandsOn line s → Says (line_marks None (Some (part_on line s))) (line_tokens line s)
unfolding line_marks part_marks inner_marks past_inner first_marks
line_says line s h = rw (first, closed) (rw (append_assoc prefix own ends) all) where
  column : ℕ
  column = length (prefix_text s.form) + 1

  start : Place
  start = place line 1

  prefix : List Mark
  prefix = prefix_marks (part_on line s)

  own : List Mark
  own = marks line column 0 s.text

  end : Token
  end = bare_token kind.End line (length (prefix_text s.form) + length s.text + 1)

  ends : List Mark
  ends = token end 0 ∷ []

  first : first_marks (part_on line s) ≡ prefix ++ own
  first =
      let kept : own_text (part_on line s) ≡ s.text = rw (shut line s h) refl in
      ap (λ (text : List ℕ). prefix ++ marks line column 0 text) kept

  past : past_last start (prefix ++ own) ≡ place line (column + length s.text)
  past = past_last-append start prefix own ∙ cut_past h.cut (text_of h).some h.ends (past_last start prefix)

  closed : closing_marks (part_on line s) (past_last start (prefix ++ own)) ≡ ends
  closed =
      let same : column + length s.text ≡ end.column = omega arith in
      (shut_closing (part_on line s) (past_last start (prefix ++ own)) (shut line s h)).0 ∙ rw (past, same) refl

  all : Says (prefix ++ (own ++ ends)) (first_token line (prefix_kind s.form) ++ (s.tokens ++ end ∷ []))
  all =
      says_append prefix (own ++ ends) (first_token line (prefix_kind s.form)) (s.tokens ++ end ∷ []) (prefix_says s.form line column s.text)
      (says_append own ends s.tokens (end ∷ []) (only_cut h.cut) (refl, refl))

none_pending : (line : ℕ) (s : OneLine) → StandsOn line s → pending_line None (Some (part_on line s)) ≡ None
unfolding pending_line pending_part
none_pending line s h = (shut_closing (part_on line s) (past_inner None (part_on line s)) (shut line s h)).1

-- ---- all lines

one_line_behind : (s : OneLine) (rest : List ℕ) → one_line s ++ rest ≡ (prefix_text s.form ++ s.text) ++ 10 ∷ rest
one_line_behind s rest = simp append_assoc

abbrev marks_from : ℕ → List ℕ → List Mark
marks_from line text = scan None (parts_of line (lines_of text))

no_lines : (line : ℕ) → Says (marks_from line []) []
no_lines line = rw (lines-none, scan-none None line) (refl, refl)

next_line : (line : ℕ) (s : OneLine) (rest : List ℕ) (tokens : List Token) → StandsOn line s → Says (marks_from (line + 1) rest) tokens
    → Says (marks_from line (one_line s ++ rest)) (line_tokens line s ++ tokens)
next_line line s rest tokens h k =
    let text = text_of h in
    let bytes = prefix_text s.form ++ s.text in
    let lines : lines_of (one_line s ++ rest) ≡ bytes ∷ lines_of rest =
    ap lines_of (one_line_behind s rest) ∙ kept_line bytes rest (line_inside s.form s.text (plain_inside s.text text.plain)) in
    let split : marks_from line (one_line s ++ rest) ≡ line_marks None (Some (part_on line s)) ++ marks_from (line + 1) rest =
    ap (λ (ls : List (List ℕ)). scan None (parts_of line ls)) lines ∙ scan-line None line bytes (lines_of rest)
    ∙ rw (part_is s.form line s.text text, none_pending line s h) refl in
    subst (λ (ms : List Mark). Says ms (line_tokens line s ++ tokens)) (sym split)
    (says_append (line_marks None (Some (part_on line s))) (marks_from (line + 1) rest) (line_tokens line s) tokens (line_says line s h) k)

lines_say : (line : ℕ) (ss : List OneLine) → StandFrom line ss → Says (marks_from line (one_line_text ss)) (tokens_from line ss)
lines_say line [] h = no_lines line
lines_say line (s ∷ ss) h = next_line line s (one_line_text ss) (tokens_from (line + 1) ss) h.0 (lines_say (line + 1) ss h.1)

says_read : (ms : List Mark) (tokens : List Token) → Says ms tokens → read ms ≡ Ok tokens
unfolding read
says_read [] tokens h = ap Ok h.1
says_read (token t width ∷ ms) tokens h = ap (with_front (t ∷ [])) (says_read ms (tokens_of ms) (h.0, refl)) ∙ ap Ok h.1
says_read (fault f ∷ ms) tokens h = absurd cc

pub one_line_each : (ss : List OneLine) → StandFrom 1 ss → length (one_line_text ss) ≤ max_text → HasTokens (one_line_text ss) (tokens_from 1 ss)
one_line_each ss h short =
    tokens_read (one_line_text ss) (tokens_from 1 ss) short (says_read (marks_from 1 (one_line_text ss)) (tokens_from 1 ss) (lines_say 1 ss h))

pub one_line_marks : (ss : List OneLine) → StandFrom 1 ss → (faults_of (text_marks (one_line_text ss)) ≡ []) × (tokens_of (text_marks (one_line_text ss)) ≡ tokens_from 1 ss)
unfolding text_marks
one_line_marks ss h = subst (λ (ms : List Mark). Says ms (tokens_from 1 ss)) (scan_is (parts_of 1 (lines_of (one_line_text ss)))) (lines_say 1 ss h)
