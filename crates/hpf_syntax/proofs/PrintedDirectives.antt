-- Directives, whose canonical bytes are read back.
use Rattle.std.proofs.Common.{◌≡◌, ℕ, false, List, [], ◌∷◌, ◌++◌, map, Option, Some, None, refl, sym, ap, subst, ◌∙◌, inl, inr}
use Rattle.std.specs.Prelude.{codes, option_map}
use Rattle.std.proofs.lemmas.List.{append-nil}
use Rattle.hpf_lex.specs.declared.line.Form.TheVariants.{Directive}
use Rattle.hpf_lex.specs.declared.token.TokenKind.TheVariants as kind
use Rattle.hpf_lex.specs.Bytes.{is_blank}
use Rattle.hpf_syntax.specs.declared.terminal.Terminal.{Terminal}
use Rattle.hpf_syntax.specs.declared.terminal.Terminal.TheVariants as terminal
use Rattle.hpf_syntax.specs.declared.tree.SourceItem.{SourceItem}
use Rattle.hpf_syntax.specs.declared.tree.Spot.{Spot}
use Rattle.hpf_syntax.specs.Plain.{FormatTree, SubTree, WidthTree, ItemTree, Processors, Template, Distribute, Align, Shadow}
use Rattle.hpf_syntax.specs.Rules.{Counted, Rule, Done, ◌>>=◌, Sign, AName}
use Rattle.hpf_syntax.specs.Grammar.{Names, OfNames, Formats, Onto, ADistribution, Sources, Subs, AnAlignment, Widths, ADirective}
use Rattle.hpf_syntax.specs.Canonical.{parenthesized, listed, name_text, declared_text, source_text, sub_text, formats_text, widths_text, sources_text, subs_text, onto_text, with_text, of_names, statement_text}
use Rattle.hpf_syntax.specs.Placeless.{bare_name, bare_format, bare_source, bare_sub, bare_width, bare_item}
use Rattle.hpf_syntax.proofs.Lexing.{Lexing}
use Rattle.hpf_syntax.proofs.PrintedCuts.{StopsName, Clear, clear_stops_name, opens_append}
use Rattle.hpf_syntax.proofs.PrintedRules.{IsSome, IsSign, opens_some, Prints, prints_before, prints_also, done_prints, blank_prints, left_prints, right_prints, then_prints, value_prints, sign_then}
use Rattle.hpf_syntax.proofs.PrintedWords.{processors, template, distribute, onto, align, with_word, shadow}
use Rattle.hpf_syntax.proofs.PrintedPieces.{Good, good_parts, name_prints, name_opens, separated_prints, enclosed_prints, names_behind_prints, Stands}
use Rattle.hpf_syntax.proofs.PrintedDeclarations.{shaped_element}
use Rattle.hpf_syntax.proofs.PrintedSubscripts.{format_element, source_element, sub_element, width_element}

-- ---- what may stand behind

clear_onto : (o : Option Spot) (rest : List ℕ) → Clear rest → Clear (onto_text o ++ rest)
clear_onto None rest h = h
clear_onto (Some name) rest h = (refl, refl)

subs_or_end : (o : Option (List SubTree)) (rest : List ℕ) → Clear rest → StopsName (subs_text o ++ rest)
subs_or_end None rest h = clear_stops_name rest h
subs_or_end (Some list) rest h = refl

sources_or_with : (o : Option (List SourceItem)) (base : Spot) (subs : Option (List SubTree)) (rest : List ℕ) → StopsName ((sources_text [] o ++ with_text base subs) ++ rest)
sources_or_with None base subs rest = refl
sources_or_with (Some list) base subs rest = refl

-- ---- values, without places

abbrev bare_distribution : List FormatTree × Option Spot → List FormatTree × Option Spot
bare_distribution (formats, onto) = (map bare_format formats, option_map bare_name onto)

distribution_value : {a b : List FormatTree} {x y : Option Spot} → a ≡ b → x ≡ y → ◌≡◌ {A = List FormatTree × Option Spot} (a, x) (b, y)
distribution_value {a} {b} {x} {y} p q = ap (λ (z : List FormatTree). (z, x)) p ∙ ap (λ (z : Option Spot). (b, z)) q

abbrev Alignment : Type 0
Alignment = Option (List SourceItem) × Spot × Option (List SubTree)

abbrev bare_alignment : Alignment → Alignment
bare_alignment (sources, base, subs) = (option_map (map bare_source) sources, bare_name base, option_map (map bare_sub) subs)

alignment_value : {a b : Option (List SourceItem)} {m n : Spot} {x y : Option (List SubTree)} → a ≡ b → m ≡ n → x ≡ y → ◌≡◌ {A = Alignment} (a, m, x) (b, n, y)
alignment_value {a} {b} {m} {n} {x} {y} p q r = ap (λ (z : Option (List SourceItem)). make z m x) p ∙ ap (λ (z : Spot). make b z x) q ∙ ap (λ (z : Option (List SubTree)). make b n z) r where
  make : Option (List SourceItem) → Spot → Option (List SubTree) → Alignment
  make sources base subs = (sources, base, subs)

-- what stands between ALIGN and the two colons, behind a blank
align_alone : Option (List SourceItem) → Spot → Option (List SubTree) → List ℕ
align_alone None base subs = codes "WITH " ++ (name_text base ++ subs_text subs)
align_alone (Some list) base subs = parenthesized (listed source_text list) ++ with_text base subs

align_alone_some : (o : Option (List SourceItem)) (base : Spot) (subs : Option (List SubTree)) → IsSome (align_alone o base subs)
unfolding align_alone
align_alone_some None base subs = tt
align_alone_some (Some list) base subs = tt

align_alone_is : (o : Option (List SourceItem)) (base : Spot) (subs : Option (List SubTree)) → sources_text (codes " ") o ++ with_text base subs ≡ 32 ∷ align_alone o base subs
unfolding align_alone
align_alone_is None base subs = refl
align_alone_is (Some list) base subs = refl

-- a list of one name
one_name : {cs : List Counted} {name : Spot} → AName cs name → Names cs (name ∷ [])
one_name {cs} p = (cs, [], p, refl, sym (append-nil cs))

some_before : (a b : List ℕ) → IsSome a → IsSome (a ++ b)
some_before [] b h = absurd h
some_before (c ∷ a) b h = tt

module _ (laws : Lexing) where
  -- ---- of one name, or of several

  -- What a directive says of one name is said behind it, and of several before them. Both are read as the same.
  record SaysOfNames {A B : Type 0} (X : Rule A) (view : A → B) (x : B) : Type 0 where
    behind : List ℕ
    alone : List ℕ
    some : IsSome alone
    stops : (rest : List ℕ) → StopsName (behind ++ rest)
    one : Prints X view Clear behind x
    many : Prints X view Clear alone x

  -- names, and what is said of them, without places
  abbrev named : {A B : Type 0} → (A → B) → List Spot × A → List Spot × B
  named view (names, x) = (map bare_name names, view x)

  named_value : {B : Type 0} {ns ms : List Spot} {x y : B} → ns ≡ ms → x ≡ y → ◌≡◌ {A = List Spot × B} (ns, x) (ms, y)
  named_value {B} {ns} {ms} {x} {y} p q = ap (λ (l : List Spot). pair l x) p ∙ ap (pair ms) q where
    pair : List Spot → B → List Spot × B
    pair l z = (l, z)

  one_prints : {A B : Type 0} {X : Rule A} {view : A → B} {x : B} (says : SaysOfNames X view x) (name : Spot) (cs : List Counted) → AName cs name → Good cs
      → Prints (OfNames X) (named view) Clear (name_text name ++ says.behind) (map bare_name (name ∷ []), x)
  one_prints says name cs p g =
      left_prints (then_prints (name_text name) says.behind (name_prints laws p g) (λ n samen. value_prints says.behind says.one (λ y same. named_value (ap (λ (z : Spot). z ∷ []) samen) same)) (λ rest stop. says.stops rest))

  many_prints : {A B : Type 0} {X : Rule A} {view : A → B} {x : B} (says : SaysOfNames X view x) (names : List Spot) (cs : List Counted) → Names cs names → Good cs
      → Prints (OfNames X) (named view) Clear (says.alone ++ (codes " :: " ++ listed name_text names)) (map bare_name names, x)
  many_prints says names cs p g =
      let behind : List ℕ = codes " :: " ++ listed name_text names in
      right_prints (then_prints says.alone behind says.many (λ y same. value_prints behind (names_behind_prints laws names cs p g) (λ ns samen. named_value samen same)) (λ rest stop. (refl, refl)))

  -- a directive that says so of names
  record Directs {A B : Type 0} (X : Rule A) (view : A → B) (word : Terminal) (make : List Spot × A → ItemTree) (c : ℕ) (spelling : List ℕ) : Type 0 where
    spelled : IsSign word kind.Word (c ∷ spelling)
    begins : is_blank c ≡ false
    among : (cs : List Counted) (x : ItemTree) → (Sign word >>= λ at. OfNames X >>= λ said. Done (make said)) cs x → ADirective cs x
    alike : (p q : List Spot × A) → named view p ≡ named view q → bare_item (make p) ≡ bare_item (make q)

  directs : {A B : Type 0} {X : Rule A} {view : A → B} {word : Terminal} {make : List Spot × A → ItemTree} {c : ℕ} {spelling : List ℕ} → Directs X view word make c spelling
      → (text : List ℕ) (names : List Spot) (x : A) → IsSome text → Prints (OfNames X) (named view) Clear text (named view (names, x)) → Prints ADirective bare_item Clear (c ∷ (spelling ++ (32 ∷ text))) (bare_item (make (names, x)))
  directs d text names x some p =
      prints_also d.among (sign_then laws (32 ∷ text) d.spelled (λ at. blank_prints text some (value_prints text p (λ q same. d.alike q (names, x) same))) (λ rest stop. refl))

  named_stands : {A B : Type 0} {X : Rule A} {view : A → B} {word : Terminal} {make : List Spot × A → ItemTree} {c : ℕ} {spelling : List ℕ} → Directs X view word make c spelling → {x : A} (says : SaysOfNames X view (view x))
      → ((names : List Spot) → statement_text (make (names, x)) ≡ codes "!HPF$ " ++ ((c ∷ spelling) ++ of_names names says.behind (32 ∷ says.alone)))
      → (names : List Spot) (cs : List Counted) → Names cs names → Good cs → Stands Directive ADirective (make (names, x))
  named_stands d says whole [] cs p g = absurd p
  named_stands {c = c} {spelling = spelling} d {x} says whole (name ∷ []) cs (front, back, p, more, e) g =
      let good = (good_parts front back e g).0 in
      let text : List ℕ = name_text name ++ says.behind in
      record {
        text = c ∷ (spelling ++ (32 ∷ text));
        whole = whole (name ∷ []);
        begins = d.begins;
        some = tt;
        prints = directs d text (name ∷ []) x (opens_some text (opens_append (name_text name) says.behind (name_opens laws p good))) (one_prints says name front p good);
      }
  named_stands {c = c} {spelling = spelling} d {x} says whole (name ∷ other ∷ others) cs p g =
      let names : List Spot = name ∷ other ∷ others in
      let text : List ℕ = says.alone ++ (codes " :: " ++ listed name_text names) in
      record {
        text = c ∷ (spelling ++ (32 ∷ text));
        whole = whole names;
        begins = d.begins;
        some = tt;
        prints = directs d text names x (some_before says.alone (codes " :: " ++ listed name_text names) says.some) (many_prints says names cs p g);
      }

  -- the names of a directive, in either of its forms
  stands_of_names : {A B : Type 0} {X : Rule A} {view : A → B} {word : Terminal} {make : List Spot × A → ItemTree} {c : ℕ} {spelling : List ℕ} → Directs X view word make c spelling
      → ((x : A) (cs : List Counted) → X cs x → Good cs → (says : SaysOfNames X view (view x)) × ((names : List Spot) → statement_text (make (names, x)) ≡ codes "!HPF$ " ++ ((c ∷ spelling) ++ of_names names says.behind (32 ∷ says.alone))))
      → {said : List Spot × A} {cs : List Counted} → OfNames X cs said → Good cs → Stands Directive ADirective (make said)
  stands_of_names {make = make} d says (inl (name, f1, b1, p, (x, f2, b2, q, (nil, v), e2), e1)) g =
      let one = good_parts f1 b1 e1 g in
      let said = says x f2 q (good_parts f2 b2 e2 one.1).0 in
      subst (λ y. Stands Directive ADirective (make y)) (sym v) (named_stands d said.0 said.1 (name ∷ []) f1 (one_name p) one.0)
  stands_of_names {make = make} d says (inr (x, f1, b1, p, (names, f2, b2, (colons, f3, b3, p3, q, e3), (nil, v), e2), e1)) g =
      let one = good_parts f1 b1 e1 g in
      let said = says x f1 p one.0 in
      let behind = good_parts f3 b3 e3 (good_parts f2 b2 e2 one.1).0 in
      subst (λ y. Stands Directive ADirective (make y)) (sym v) (named_stands d said.0 said.1 names b3 q behind.1)

  -- ---- DISTRIBUTE

  onto_prints : {o : Option Spot} {cs : List Counted} → Onto cs o → Good cs → Prints Onto (option_map bare_name) Clear (onto_text o) (option_map bare_name o)
  onto_prints (inl (at, f1, b1, p1, (name, f2, b2, p, (nil, v), e2), e1)) g =
      let parts = good_parts f2 b2 e2 (good_parts f1 b1 e1 g).1 in
      let text : List ℕ = name_text name in
      subst (λ (x : Option Spot). Prints Onto (option_map bare_name) Clear (onto_text x) (option_map bare_name x)) (sym v)
      (left_prints (blank_prints (codes "ONTO " ++ text) tt (sign_then laws (32 ∷ text) onto (λ at'.
      blank_prints text (opens_some text (name_opens laws p parts.0)) (value_prints text (prints_before clear_stops_name (name_prints laws p parts.0)) (λ x same. ap Some same)))
      (λ rest stop. refl))))
  onto_prints (inr (nil, v)) g = subst (λ (x : Option Spot). Prints Onto (option_map bare_name) Clear (onto_text x) (option_map bare_name x)) (sym v) (right_prints (done_prints None refl))

  distribution_prints : {formats : List FormatTree} {fs : List Counted} → Formats fs formats → Good fs → {o : Option Spot} {os : List Counted} → Onto os o → Good os
      → Prints ADistribution bare_distribution Clear (formats_text formats ++ onto_text o) (bare_distribution (formats, o))
  distribution_prints {formats} p g {o} q h =
      then_prints (formats_text formats) (onto_text o) (enclosed_prints laws (format_element laws) p g) (λ fs samef.
      value_prints (onto_text o) (onto_prints q h) (λ x samex. distribution_value samef samex))
      (clear_onto o)

  distribution_says : (d : List FormatTree × Option Spot) (cs : List Counted) → ADistribution cs d → Good cs
      → (says : SaysOfNames ADistribution bare_distribution (bare_distribution d)) × ((names : List Spot) → statement_text (Distribute names d.0 d.1) ≡ codes "!HPF$ " ++ (codes "DISTRIBUTE" ++ of_names names says.behind (32 ∷ says.alone)))
  distribution_says d cs (formats, f1, b1, p, (o, f2, b2, q, (nil, v), e2), e1) g =
      let one = good_parts f1 b1 e1 g in
      let said = distribution_prints p one.0 q (good_parts f2 b2 e2 one.1).0 in
      subst (λ (d : List FormatTree × Option Spot). (says : SaysOfNames ADistribution bare_distribution (bare_distribution d)) × ((names : List Spot) → statement_text (Distribute names d.0 d.1) ≡ codes "!HPF$ " ++ (codes "DISTRIBUTE" ++ of_names names says.behind (32 ∷ says.alone)))) (sym v) (
        record { behind = formats_text formats ++ onto_text o; alone = formats_text formats ++ onto_text o; some = tt; stops = λ rest. refl; one = said; many = said },
        λ names. refl,
      )

  distributes : Directs ADistribution bare_distribution terminal.Distribute (λ said. Distribute said.0 said.1.0 said.1.1) 68 (codes "ISTRIBUTE")
  unfolding is_blank
  distributes = record {
    spelled = distribute;
    begins = refl;
    among = λ cs x p. inr (inr (inl p));
    alike = λ p q e. ap (λ (said : List Spot × (List FormatTree × Option Spot)). Distribute said.0 said.1.0 said.1.1) e;
  }

  -- ---- ALIGN

  sources_prints : {o : Option (List SourceItem)} {cs : List Counted} → Sources cs o → Good cs → Prints Sources (option_map (map bare_source)) Clear (sources_text [] o) (option_map (map bare_source) o)
  sources_prints (inl (list, f1, b1, p, (nil, v), e1)) g =
      let inside = enclosed_prints laws (source_element laws) p (good_parts f1 b1 e1 g).0 in
      subst (λ (x : Option (List SourceItem)). Prints Sources (option_map (map bare_source)) Clear (sources_text [] x) (option_map (map bare_source) x)) (sym v)
      (left_prints (value_prints (parenthesized (listed source_text list)) inside (λ x same. ap Some same)))
  sources_prints (inr (nil, v)) g = subst (λ (x : Option (List SourceItem)). Prints Sources (option_map (map bare_source)) Clear (sources_text [] x) (option_map (map bare_source) x)) (sym v) (right_prints (done_prints None refl))

  subs_prints : {o : Option (List SubTree)} {cs : List Counted} → Subs cs o → Good cs → Prints Subs (option_map (map bare_sub)) Clear (subs_text o) (option_map (map bare_sub) o)
  subs_prints (inl (list, f1, b1, p, (nil, v), e1)) g =
      let inside = enclosed_prints laws (sub_element laws) p (good_parts f1 b1 e1 g).0 in
      subst (λ (x : Option (List SubTree)). Prints Subs (option_map (map bare_sub)) Clear (subs_text x) (option_map (map bare_sub) x)) (sym v)
      (left_prints (value_prints (parenthesized (listed sub_text list)) inside (λ x same. ap Some same)))
  subs_prints (inr (nil, v)) g = subst (λ (x : Option (List SubTree)). Prints Subs (option_map (map bare_sub)) Clear (subs_text x) (option_map (map bare_sub) x)) (sym v) (right_prints (done_prints None refl))

  -- "WITH" name [ "(" subs ")" ], behind sources
  with_prints : {base : Spot} {bs : List Counted} → AName bs base → Good bs → {subs : Option (List SubTree)} {ss : List Counted} → Subs ss subs → Good ss
      → (sources read : Option (List SourceItem)) → option_map (map bare_source) read ≡ option_map (map bare_source) sources
      → Prints (Sign terminal.With >>= λ word. (AName >>= λ b. (Subs >>= λ u. Done (read, b, u)))) bare_alignment Clear (codes "WITH " ++ (name_text base ++ subs_text subs)) (bare_alignment (sources, base, subs))
  with_prints {base} p g {subs} q h sources read same =
      let text : List ℕ = name_text base ++ subs_text subs in
      sign_then laws (32 ∷ text) with_word (λ at.
      blank_prints text (opens_some text (opens_append (name_text base) (subs_text subs) (name_opens laws p g)))
      (then_prints (name_text base) (subs_text subs) (name_prints laws p g) (λ b sameb.
      value_prints (subs_text subs) (subs_prints q h) (λ u sameu. alignment_value same sameb sameu))
      (λ rest stop. subs_or_end subs rest stop)))
      (λ rest stop. refl)

  module _ {base : Spot} {bs : List Counted} (p : AName bs base) (g : Good bs) {subs : Option (List SubTree)} {ss : List Counted} (q : Subs ss subs) (h : Good ss) where
    -- with sources in front, and a blank before WITH
    sourced_prints : (o : Option (List SourceItem)) {os : List Counted} → Sources os o → Good os → Prints AnAlignment bare_alignment Clear (sources_text [] o ++ with_text base subs) (bare_alignment (o, base, subs))
    sourced_prints o s j =
        then_prints (sources_text [] o) (with_text base subs) (sources_prints s j) (λ read same. blank_prints (codes "WITH " ++ (name_text base ++ subs_text subs)) tt (with_prints p g q h o read same)) (λ rest stop. (refl, refl))

    -- the same, with no blank before WITH where there are no sources
    alone_prints : (o : Option (List SourceItem)) {os : List Counted} → Sources os o → Good os → Prints AnAlignment bare_alignment Clear (align_alone o base subs) (bare_alignment (o, base, subs))
    unfolding align_alone
    alone_prints None s j =
        then_prints [] (codes "WITH " ++ (name_text base ++ subs_text subs)) (right_prints (done_prints {view = option_map (map bare_source)} {stops = λ bytes. Unit {0}} None refl)) (λ read same. with_prints p g q h None read same) (λ rest stop. tt)
    alone_prints (Some list) s j = sourced_prints (Some list) s j

  alignment_says : (a : Alignment) (cs : List Counted) → AnAlignment cs a → Good cs
      → (says : SaysOfNames AnAlignment bare_alignment (bare_alignment a)) × ((names : List Spot) → statement_text (Align names a.0 a.1 a.2) ≡ codes "!HPF$ " ++ (codes "ALIGN" ++ of_names names says.behind (32 ∷ says.alone)))
  alignment_says a cs (sources, f1, b1, s, (word, f2, b2, p2, (base, f3, b3, p, (subs, f4, b4, q, (nil, v), e4), e3), e2), e1) g =
      let one = good_parts f1 b1 e1 g in
      let three = good_parts f3 b3 e3 (good_parts f2 b2 e2 one.1).1 in
      let four = good_parts f4 b4 e4 three.1 in
      let said : List ℕ = sources_text [] sources ++ with_text base subs in
      subst (λ (a : Alignment). (says : SaysOfNames AnAlignment bare_alignment (bare_alignment a)) × ((names : List Spot) → statement_text (Align names a.0 a.1 a.2) ≡ codes "!HPF$ " ++ (codes "ALIGN" ++ of_names names says.behind (32 ∷ says.alone)))) (sym v) (
        record {
          behind = said;
          alone = align_alone sources base subs;
          some = align_alone_some sources base subs;
          stops = sources_or_with sources base subs;
          one = sourced_prints p three.0 q four.0 sources s one.0;
          many = alone_prints p three.0 q four.0 sources s one.0;
        },
        λ names. ap (λ (bytes : List ℕ). codes "!HPF$ ALIGN" ++ of_names names said bytes) (align_alone_is sources base subs),
      )

  aligns : Directs AnAlignment bare_alignment terminal.Align (λ said. Align said.0 said.1.0 said.1.1 said.1.2) 65 (codes "LIGN")
  unfolding is_blank
  aligns = record {
    spelled = align;
    begins = refl;
    among = λ cs x p. inr (inr (inr (inl p)));
    alike = λ p q e. ap (λ (said : List Spot × Alignment). Align said.0 said.1.0 said.1.1 said.1.2) e;
  }

  -- ---- SHADOW

  widths_say : (widths : List WidthTree) (cs : List Counted) → Widths cs widths → Good cs
      → (says : SaysOfNames Widths (map bare_width) (map bare_width widths)) × ((names : List Spot) → statement_text (Shadow names widths) ≡ codes "!HPF$ " ++ (codes "SHADOW" ++ of_names names says.behind (32 ∷ says.alone)))
  widths_say widths cs p g =
      let said = enclosed_prints laws (width_element laws) p g in (
        record { behind = widths_text widths; alone = widths_text widths; some = tt; stops = λ rest. refl; one = said; many = said },
        λ names. refl,
      )

  shadows : Directs Widths (map bare_width) terminal.Shadow (λ said. Shadow said.0 said.1) 83 (codes "HADOW")
  unfolding is_blank
  shadows = record {
    spelled = shadow;
    begins = refl;
    among = λ cs x p. inr (inr (inr (inr p)));
    alike = λ p q e. ap (λ (said : List Spot × List WidthTree). Shadow said.0 said.1) e;
  }

  -- ---- all directives

  pub directive_stands : {cs : List Counted} {item : ItemTree} → ADirective cs item → Good cs → Stands Directive ADirective item
  unfolding is_blank
  directive_stands (inl (at, f1, b1, p1, (names, f2, b2, p, (nil, v), e2), e1)) g =
      let inside = separated_prints laws (shaped_element laws) names f2 p (good_parts f2 b2 e2 (good_parts f1 b1 e1 g).1).0 in
      let text : List ℕ = listed declared_text names in
      subst (λ (x : ItemTree). Stands Directive ADirective x) (sym v)
      (record {
        text = codes "PROCESSORS " ++ text;
        whole = refl;
        begins = refl;
        some = tt;
        prints = left_prints (sign_then laws (32 ∷ text) processors (λ at'. blank_prints text (opens_some text inside.1) (value_prints text inside.0 (λ ds same. ap Processors same))) (λ rest stop. refl));
      })
  directive_stands (inr (inl (at, f1, b1, p1, (names, f2, b2, p, (nil, v), e2), e1))) g =
      let inside = separated_prints laws (shaped_element laws) names f2 p (good_parts f2 b2 e2 (good_parts f1 b1 e1 g).1).0 in
      let text : List ℕ = listed declared_text names in
      subst (λ (x : ItemTree). Stands Directive ADirective x) (sym v)
      (record {
        text = codes "TEMPLATE " ++ text;
        whole = refl;
        begins = refl;
        some = tt;
        prints = right_prints (left_prints (sign_then laws (32 ∷ text) template (λ at'. blank_prints text (opens_some text inside.1) (value_prints text inside.0 (λ ds same. ap Template same))) (λ rest stop. refl)));
      })
  directive_stands (inr (inr (inl (at, f1, b1, p1, (said, f2, b2, p, (nil, v), e2), e1)))) g =
      subst (λ (x : ItemTree). Stands Directive ADirective x) (sym v) (stands_of_names distributes distribution_says p (good_parts f2 b2 e2 (good_parts f1 b1 e1 g).1).0)
  directive_stands (inr (inr (inr (inl (at, f1, b1, p1, (said, f2, b2, p, (nil, v), e2), e1))))) g =
      subst (λ (x : ItemTree). Stands Directive ADirective x) (sym v) (stands_of_names aligns alignment_says p (good_parts f2 b2 e2 (good_parts f1 b1 e1 g).1).0)
  directive_stands (inr (inr (inr (inr (at, f1, b1, p1, (said, f2, b2, p, (nil, v), e2), e1))))) g =
      subst (λ (x : ItemTree). Stands Directive ADirective x) (sym v) (stands_of_names shadows widths_say p (good_parts f2 b2 e2 (good_parts f1 b1 e1 g).1).0)
