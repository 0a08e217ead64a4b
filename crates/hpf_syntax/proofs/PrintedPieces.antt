-- Names, expressions and lists of a statement, whose canonical bytes are read back.
use Rattle.std.proofs.Common.{◌≡◌, ℕ, ◌+◌, ◌≤◌, false, List, [], ◌∷◌, ◌++◌, length, map, Option, Some, None, refl, sym, ap, subst, ◌∙◌, inl, inr, arith, zero-le}
use Rattle.std.specs.Prelude.{codes, ◌⊎◌, option_map, slice_index}
use Rattle.std.specs.List.{AllByRecursion}
use Rattle.std.proofs.lemmas.List.{append-nil}
use Rattle.hpf_lex.specs.declared.line.Form.{Form}
use Rattle.hpf_lex.specs.declared.token.Token.{Token}
use Rattle.hpf_lex.specs.declared.token.TokenKind.TheVariants as kind
use Rattle.hpf_lex.specs.Bytes.{is_blank, upper}
use Rattle.hpf_lex.specs.Follows.{IsProper}
use Rattle.hpf_lex.specs.OneLine.{prefix_text}
use Rattle.hpf_syntax.specs.declared.tree.Spot.{Spot}
use Rattle.hpf_syntax.specs.declared.terminal.Terminal.TheVariants as terminal
use Rattle.hpf_syntax.specs.Terminal.{word_terminal, kind_terminal, token_terminal, Is}
use Rattle.hpf_syntax.specs.Plain.{Tree, ItemTree, place}
use Rattle.hpf_syntax.specs.Expressions.{IsA, Expression}
use Rattle.hpf_syntax.specs.Rules.{Counted, outside, numbered, tokens_of, Rule, Done, ◌>>=◌, Sign, AName, AnExpression, More, Separated, IsShort}
use Rattle.hpf_syntax.specs.Grammar.{Enclosed, AnArgument, ANameArgument, AfterColon, MaybeExpression, AnArray, Names, NamesBehind}
use Rattle.hpf_syntax.specs.Canonical.{parenthesized, listed, optional, name_text, expression_text, colon_text, argument_text, array_text, statement_text}
use Rattle.hpf_syntax.specs.Placeless.{nowhere, bare_name, bare, bare_item}
use Rattle.hpf_syntax.proofs.Cuts.{tokens_append, tokens_numbered, short_parts}
use Rattle.hpf_syntax.proofs.Lexing.{Lexing}
use Rattle.hpf_syntax.proofs.PrintedRoom.{all_front, all_back, is_name_word, sound}
use Rattle.hpf_syntax.proofs.PrintedExpression.{expression_is_read}
use Rattle.hpf_syntax.proofs.PrintedCuts.{StopsName, spelled_token, Clear, clear_stops_name, word_stops, Opens, opens_append, paren_stops, nothing_cut, cut_before, cut_token}
use Rattle.hpf_syntax.proofs.PrintedRules.{IsSome, opens_some, Prints, prints_as, prints_before, done_prints, blank_prints, left_prints, right_prints, then_prints, value_prints, closed_prints, sign_then, closed_then}
use Rattle.hpf_syntax.proofs.PrintedEdges.{Leads, leads_opens, colon_stops, name_edges, expression_edges}
use Rattle.hpf_syntax.proofs.PrintedWords.{left_paren, right_paren, right_paren_closed, left_array, left_array_closed, right_array, right_array_closed, comma, comma_closed, colon, double_colon, double_colon_closed}

-- ---- tokens of a text

-- tokens that some text has, in expressions that aren't too long
abbrev pub Good : List Counted → Type 0
Good cs = IsShort cs × AllByRecursion IsProper (tokens_of cs)

good_append : (a b : List Counted) → Good (a ++ b) → Good a × Good b
good_append a b g =
    let short : IsShort a × IsShort b = short_parts 64 a b g.0 in
    let proper : AllByRecursion IsProper (tokens_of a ++ tokens_of b) = subst (λ (ts : List Token). AllByRecursion IsProper ts) (tokens_append a b) g.1 in
    ((short.0, all_front IsProper (tokens_of a) (tokens_of b) proper), (short.1, all_back IsProper (tokens_of a) (tokens_of b) proper))

pub good_parts : {cs : List Counted} (front back : List Counted) → cs ≡ front ++ back → Good cs → Good front × Good back
good_parts front back e g = good_append front back (subst Good e g)

pub good_rest : {cs : List Counted} (t : Token) (back : List Counted) → cs ≡ outside t ∷ back → Good cs → Good back
good_rest t back e g = let h = subst Good e g in (h.0.1, h.1.1)

-- the same tokens as what another rule says, which may do
pub rule_prints : {A B : Type 0} {R Q : Rule A} {view : A → B} {stops : List ℕ → Type 0} {bytes : List ℕ} {y : B} → ((cs : List Counted) (x : A) → R cs x → Q cs x) → Prints R view stops bytes y → Prints Q view stops bytes y
rule_prints f p = record { reads = λ line column. let r = p.reads line column in (r.0, r.1, f r.1 r.0 r.2, r.3, r.4, r.5); ends = p.ends }

-- ---- the numbers of an expression's tokens

short_length : (n : ℕ) (ts : List Token) → n ≤ 65 → IsShort (numbered n ts) → n + length ts ≤ 65
short_length n [] le h = omega (arith, le)
short_length n (t ∷ ts) le h = omega (arith, short_length (n + 1) ts (omega (arith, h.0)) h.1)

length_short : (n : ℕ) (ts : List Token) → n + length ts ≤ 65 → IsShort (numbered n ts)
length_short n [] le = tt
length_short n (t ∷ ts) le = (omega (arith, le), length_short (n + 1) ts (omega (arith, le)))

-- behind the first element of a list
abbrev pub tail_text : {A : Type 0} → (A → List ℕ) → List A → List ℕ
tail_text text [] = []
tail_text text (x ∷ xs) = codes ", " ++ (text x ++ tail_text text xs)

listed_is : {A : Type 0} (text : A → List ℕ) (x : A) (xs : List A) → text x ++ tail_text text xs ≡ listed text (x ∷ xs)
listed_is text x [] = append-nil (text x)
listed_is text x (y ∷ ys) = ap (λ (bytes : List ℕ). text x ++ (codes ", " ++ bytes)) (listed_is text y ys)

clear_tail : {A : Type 0} (text : A → List ℕ) (xs : List A) (rest : List ℕ) → Clear rest → Clear (tail_text text xs ++ rest)
clear_tail text [] rest h = h
clear_tail text (x ∷ xs) rest h = (refl, refl)

-- one element more, as a rule of parts
abbrev OneMore : {A : Type 0} → Rule A → Rule (List A)
OneMore R = Sign terminal.Comma >>= λ at. (R >>= λ x. (More R >>= λ xs. Done (x ∷ xs)))

abbrev OneFirst : {A : Type 0} → Rule A → Rule (List A)
OneFirst R = R >>= λ x. (More R >>= λ xs. Done (x ∷ xs))

one_more : {A : Type 0} (R : Rule A) (cs : List Counted) (list : List A) → OneMore R cs list → More R cs list
one_more R cs list (at, f, b, (t, is, e0, place0), (x, f2, b2, p, (xs, f3, b3, ps, (e4, v), e3), e2), e) =
    subst (λ l. More R cs l) (sym v)
    (t, f2, f3, is, p, ps, rw (e, e0, e2, e3, e4) (ap (λ (d : List Counted). outside t ∷ (f2 ++ d)) (append-nil f3)))

one_first : {A : Type 0} (R : Rule A) (cs : List Counted) (list : List A) → OneFirst R cs list → Separated R cs list
one_first R cs list (x, f2, b2, p, (xs, f3, b3, ps, (e4, v), e3), e2) =
    subst (λ l. Separated R cs l) (sym v)
    (f2, f3, p, ps, rw (e2, e3, e4) (ap (λ (d : List Counted). f2 ++ d) (append-nil f3)))

-- what is needed of the elements of a list
abbrev pub Element : {A B : Type 0} → Rule A → (A → B) → (A → List ℕ) → Type 0
Element {A} R view text = (cs : List Counted) (x : A) → R cs x → Good cs → Prints R view Clear (text x) (view x) × Opens (text x)

-- nothing, or an expression of a text
abbrev pub Given : Option Tree → Type 0
Given o = (o ≡ None) ⊎ ((e : Tree) × (cs : List Counted) × AnExpression cs e × Good cs × (o ≡ Some e))

pub given_colon : {o : Option Tree} {cs : List Counted} → AfterColon cs o → Good cs → Given o
given_colon (inl (at, f1, b1, p1, (x, f2, b2, p, (nil, v), e2), e1)) g = inr (x, f2, p, (good_parts f2 b2 e2 (good_parts f1 b1 e1 g).1).0, v)
given_colon (inr (nil, v)) g = inl v

pub given_maybe : {o : Option Tree} {cs : List Counted} → MaybeExpression cs o → Good cs → Given o
given_maybe (inl (x, f2, b2, p, (nil, v), e2)) g = inr (x, f2, p, (good_parts f2 b2 e2 g).0, v)
given_maybe (inr (nil, v)) g = inl v

module _ (laws : Lexing) where
  -- ---- names and expressions

  name_reads : (t : Token) → Is terminal.Name t → IsProper t → Prints AName bare_name StopsName t.word (record { word = t.word; at = nowhere })
  unfolding token_terminal kind_terminal
  name_reads t is proper =
      let k = is_name_word t is in
      let same : map upper t.word ≡ t.word = proper.upper_case k.0 in
      record {
        reads = λ line column.
            let u : Token = spelled_token kind.Word t.word line column in (
              record { word = u.word; at = place u },
              outside u ∷ [],
              (u, ap (λ (w : List ℕ). word_terminal w) same ∙ k.1, refl, refl),
              (zero-le, tt),
              ap (λ (w : List ℕ). record { word = w; at = nowhere }) same,
              cut_before line column t.word (u ∷ []) word_stops (cut_token laws line column kind.Word t.word (proper.name k.0)),
            );
        ends = (name_edges t.word (proper.name k.0)).1;
      }

  pub name_prints : {cs : List Counted} {name : Spot} → AName cs name → Good cs → Prints AName bare_name StopsName (name_text name) (bare_name name)
  name_prints {cs} {name} (t, is, e, v) g =
      let h = subst Good e g in
      subst (λ (n : Spot). Prints AName bare_name StopsName (name_text n) (bare_name n)) (sym v) (name_reads t is h.1.0)

  pub name_opens : {cs : List Counted} {name : Spot} → AName cs name → Good cs → Opens (name_text name)
  name_opens {cs} {name} (t, is, e, v) g =
      let h = subst Good e g in
      let edges = name_edges t.word (h.1.0.name (is_name_word t is).0) in
      subst (λ (n : Spot). Opens (name_text n)) (sym v) (leads_opens t.word edges.0)

  pub name_element : Element AName bare_name name_text
  name_element cs name p g = (prints_before clear_stops_name (name_prints p g), name_opens p g)

  expression_proper : {cs : List Counted} (ts : List Token) → cs ≡ numbered 1 ts → Good cs → AllByRecursion IsProper ts × (length ts ≤ 64)
  expression_proper ts e g =
      let h = subst Good e g in
      (subst (λ (us : List Token). AllByRecursion IsProper us) (tokens_numbered 1 ts) h.1, omega (arith, short_length 1 ts (omega arith) h.0))

  expression_reads : {ts : List Token} {e : Tree} → IsA Expression ts e → AllByRecursion IsProper ts → length ts ≤ 64 → Prints AnExpression bare StopsName (expression_text e) (bare e)
  expression_reads {ts} {e} h proper le = record {
    reads = λ line column.
        let r = expression_is_read laws h proper le line column in
        (r.1, numbered 1 r.0, (r.0, r.2, refl), length_short 1 r.0 (omega (arith, r.4)), r.3, rw (tokens_numbered 1 r.0) r.5);
    ends = (expression_edges laws e (sound h proper)).1;
  }

  pub expression_prints : {cs : List Counted} {e : Tree} → AnExpression cs e → Good cs → Prints AnExpression bare StopsName (expression_text e) (bare e)
  expression_prints (ts, h, e) g = let facts = expression_proper ts e g in expression_reads h facts.0 facts.1

  pub expression_leads : {cs : List Counted} {e : Tree} → AnExpression cs e → Good cs → Leads (expression_text e)
  expression_leads {e = e} (ts, h, is) g = (expression_edges laws e (sound h (expression_proper ts is g).0)).0

  pub expression_element : Element AnExpression bare expression_text
  expression_element cs e p g = (prints_before clear_stops_name (expression_prints p g), leads_opens (expression_text e) (expression_leads p g))

  -- ---- lists

  pub more_prints : {A B : Type 0} {R : Rule A} {view : A → B} {text : A → List ℕ} → Element R view text → (xs : List A) (cs : List Counted) → More R cs xs → Good cs → Prints (More R) (map view) Clear (tail_text text xs) (map view xs)
  more_prints element [] cs e g = record { reads = λ line column. ([], [], refl, tt, refl, nothing_cut line column Clear); ends = tt }
  more_prints {R = R} {view = view} {text = text} element (x ∷ xs) cs (t, front, back, is, p, ps, e) g =
      let parts = good_append front back (good_rest t (front ++ back) e g) in
      let here = element front x p parts.0 in
      rule_prints (one_more R)
      (closed_then laws (32 ∷ (text x ++ tail_text text xs)) comma comma_closed (λ at.
      blank_prints (text x ++ tail_text text xs) (opens_some (text x ++ tail_text text xs) (opens_append (text x) (tail_text text xs) here.1))
      (then_prints (text x) (tail_text text xs) here.0 (λ y same.
      value_prints (tail_text text xs) (more_prints element xs back ps parts.1) (λ ys sames. ap (λ l. view y ∷ l) sames ∙ ap (λ v. v ∷ map view xs) same))
      (clear_tail text xs))))

  pub separated_prints : {A B : Type 0} {R : Rule A} {view : A → B} {text : A → List ℕ} → Element R view text → (xs : List A) (cs : List Counted) → Separated R cs xs → Good cs → Prints (Separated R) (map view) Clear (listed text xs) (map view xs) × Opens (listed text xs)
  separated_prints element [] cs p g = absurd p
  separated_prints {R = R} {view = view} {text = text} element (x ∷ xs) cs (front, back, p, ps, e) g =
      let parts = good_parts front back e g in
      let here = element front x p parts.0 in (
        prints_as (listed_is text x xs) refl (rule_prints (one_first R)
            (then_prints (text x) (tail_text text xs) here.0 (λ y same.
            value_prints (tail_text text xs) (more_prints element xs back ps parts.1) (λ ys sames. ap (λ l. view y ∷ l) sames ∙ ap (λ v. v ∷ map view xs) same))
            (clear_tail text xs))),
        subst Opens (listed_is text x xs) (opens_append (text x) (tail_text text xs) here.1),
      )

  -- "(" R { "," R } ")"
  pub enclosed_prints : {A B : Type 0} {R : Rule A} {view : A → B} {text : A → List ℕ} → Element R view text → {xs : List A} {cs : List Counted} → Enclosed terminal.LeftParen terminal.RightParen R cs xs → Good cs
      → Prints (Enclosed terminal.LeftParen terminal.RightParen R) (map view) Clear (parenthesized (listed text xs)) (map view xs)
  enclosed_prints {R = R} {view = view} {text = text} element {xs} {cs} (from, f1, b1, p1, (list, f2, b2, ps, (to, f3, b3, p3, (nil, v), e3), e2), e1) g =
      let parts = good_parts f2 b2 e2 (good_parts f1 b1 e1 g).1 in
      let inside = separated_prints element list f2 ps parts.0 in
      subst (λ l. Prints (Enclosed terminal.LeftParen terminal.RightParen R) (map view) Clear (parenthesized (listed text l)) (map view l)) (sym v)
      (sign_then laws (listed text list ++ codes ")") left_paren (λ at.
      then_prints (listed text list) (codes ")") inside.0 (λ ys same.
      value_prints (codes ")") (closed_prints laws right_paren right_paren_closed) (λ end e. same))
      (λ rest stop. (refl, refl)))
      (λ rest stop. paren_stops ((listed text list ++ codes ")") ++ rest) (opens_append (listed text list ++ codes ")") rest (opens_append (listed text list) (codes ")") inside.1))))

  pub array_prints : {es : List Tree} {cs : List Counted} → AnArray cs es → Good cs → Prints AnArray (map bare) Clear (array_text es) (map bare es)
  array_prints {es} {cs} (from, f1, b1, p1, (list, f2, b2, ps, (to, f3, b3, p3, (nil, v), e3), e2), e1) g =
      let parts = good_parts f2 b2 e2 (good_parts f1 b1 e1 g).1 in
      let inside = separated_prints expression_element list f2 ps parts.0 in
      subst (λ (l : List Tree). Prints AnArray (map bare) Clear (array_text l) (map bare l)) (sym v)
      (closed_then laws (32 ∷ (listed expression_text list ++ codes " /)")) left_array left_array_closed (λ at.
      blank_prints (listed expression_text list ++ codes " /)") (opens_some (listed expression_text list ++ codes " /)") (opens_append (listed expression_text list) (codes " /)") inside.1))
      (then_prints (listed expression_text list) (codes " /)") inside.0 (λ ys same.
      value_prints (codes " /)") (blank_prints (codes "/)") tt (closed_prints laws right_array right_array_closed)) (λ end e. same))
      (λ rest stop. (refl, refl)))))

  -- ---- an expression or a name in parentheses

  pub argument_prints : {e : Tree} {cs : List Counted} → AnArgument cs e → Good cs → Prints AnArgument bare Clear (argument_text e) (bare e)
  argument_prints {e} {cs} (from, f1, b1, p1, (x, f2, b2, p, (to, f3, b3, p3, (nil, v), e3), e2), e1) g =
      let parts = good_parts f2 b2 e2 (good_parts f1 b1 e1 g).1 in
      let text : List ℕ = expression_text x in
      subst (λ (y : Tree). Prints AnArgument bare Clear (argument_text y) (bare y)) (sym v)
      (sign_then laws (text ++ codes ")") left_paren (λ at.
      then_prints text (codes ")") (expression_prints p parts.0) (λ y same.
      value_prints (codes ")") (closed_prints laws right_paren right_paren_closed) (λ end e. same))
      (λ rest stop. refl))
      (λ rest stop. paren_stops ((text ++ codes ")") ++ rest) (opens_append (text ++ codes ")") rest (opens_append text (codes ")") (leads_opens text (expression_leads p parts.0))))))

  pub name_argument_prints : {name : Spot} {cs : List Counted} → ANameArgument cs name → Good cs → Prints ANameArgument bare_name Clear (parenthesized (name_text name)) (bare_name name)
  name_argument_prints {name} {cs} (from, f1, b1, p1, (x, f2, b2, p, (to, f3, b3, p3, (nil, v), e3), e2), e1) g =
      let parts = good_parts f2 b2 e2 (good_parts f1 b1 e1 g).1 in
      let text : List ℕ = name_text x in
      subst (λ (y : Spot). Prints ANameArgument bare_name Clear (parenthesized (name_text y)) (bare_name y)) (sym v)
      (sign_then laws (text ++ codes ")") left_paren (λ at.
      then_prints text (codes ")") (name_prints p parts.0) (λ y same.
      value_prints (codes ")") (closed_prints laws right_paren right_paren_closed) (λ end e. same))
      (λ rest stop. refl))
      (λ rest stop. paren_stops ((text ++ codes ")") ++ rest) (opens_append (text ++ codes ")") rest (opens_append text (codes ")") (name_opens p parts.0)))))

  -- ---- what may be there

  pub after_colon_prints : {o : Option Tree} → Given o → Prints AfterColon (option_map bare) StopsName (colon_text o) (option_map bare o)
  after_colon_prints (inl v) = subst (λ (y : Option Tree). Prints AfterColon (option_map bare) StopsName (colon_text y) (option_map bare y)) (sym v) (right_prints (done_prints None refl))
  after_colon_prints (inr (x, cs, p, g, v)) =
      let text : List ℕ = expression_text x in
      subst (λ (y : Option Tree). Prints AfterColon (option_map bare) StopsName (colon_text y) (option_map bare y)) (sym v)
      (left_prints (sign_then laws text colon (λ at'. value_prints text (expression_prints p g) (λ y same. ap Some same))
      (λ rest stop. colon_stops text rest (expression_leads p g))))

  pub maybe_expression_prints : {o : Option Tree} → Given o → Prints MaybeExpression (option_map bare) StopsName (optional [] expression_text o) (option_map bare o)
  maybe_expression_prints (inl v) =
      subst (λ (y : Option Tree). Prints MaybeExpression (option_map bare) StopsName (optional [] expression_text y) (option_map bare y)) (sym v) (right_prints (done_prints None refl))
  maybe_expression_prints (inr (x, cs, p, g, v)) =
      let text : List ℕ = expression_text x in
      subst (λ (y : Option Tree). Prints MaybeExpression (option_map bare) StopsName (optional [] expression_text y) (option_map bare y)) (sym v)
      (left_prints (value_prints text (expression_prints p g) (λ y same. ap Some same)))

  -- ---- names

  pub names_prints : (names : List Spot) (cs : List Counted) → Names cs names → Good cs → Prints Names (map bare_name) Clear (listed name_text names) (map bare_name names) × Opens (listed name_text names)
  names_prints names cs p g = separated_prints name_element names cs p g

  -- two colons with a blank on either side, and what is in a list behind them
  pub colons_prints : {A A' : Type 0} {S : Rule A} {view : A → A'} (bytes : List ℕ) {z : A'} → Prints S view Clear bytes z → IsSome bytes → Prints (Sign terminal.DoubleColon >>= λ colons. S) view Clear (codes " :: " ++ bytes) z
  colons_prints bytes p some =
      blank_prints (codes ":: " ++ bytes) tt (closed_then laws (32 ∷ bytes) double_colon double_colon_closed (λ at. blank_prints bytes some p))

  pub names_behind_prints : (names : List Spot) (cs : List Counted) → Names cs names → Good cs → Prints NamesBehind (map bare_name) Clear (codes " :: " ++ listed name_text names) (map bare_name names)
  names_behind_prints names cs p g =
      let inside = names_prints names cs p g in
      colons_prints (listed name_text names) inside.0 (opens_some (listed name_text names) inside.1)

-- A statement behind a prefix is read back from its canonical bytes behind that prefix.
pub record Stands (form : Form) (R : Rule ItemTree) (item : ItemTree) : Type 0 where
  pub text : List ℕ
  pub whole : statement_text item ≡ prefix_text form ++ text
  pub begins : is_blank (slice_index text 0) ≡ false
  pub some : IsSome text
  pub prints : Prints R bare_item Clear text (bare_item item)
