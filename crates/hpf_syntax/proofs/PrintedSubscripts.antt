-- Formats, sources, subscripts and widths of directives, whose canonical bytes are read back.
use Rattle.std.proofs.Common.{◌≡◌, ℕ, List, [], ◌∷◌, ◌++◌, Option, Some, None, refl, sym, ap, subst, ◌∙◌, append_assoc, inl, inr}
use Rattle.std.specs.Prelude.{codes, option_map}
use Rattle.std.proofs.lemmas.List.{append-nil}
use Rattle.hpf_lex.specs.declared.token.TokenKind.TheVariants as kind
use Rattle.hpf_lex.specs.Follows.{StopsAt}
use Rattle.hpf_syntax.specs.declared.tree.At.{At}
use Rattle.hpf_syntax.specs.declared.tree.SourceItem.{SourceItem}
use Rattle.hpf_syntax.specs.declared.tree.SourceItem.TheVariants as source
use Rattle.hpf_syntax.specs.declared.tree.Spot.{Spot}
use Rattle.hpf_syntax.specs.Plain.{Tree, FormatTree, Block, Cyclic, GenBlock, Indirect, SubTree, OnePlace, Triplet, WidthTree}
use Rattle.hpf_syntax.specs.declared.terminal.Terminal.TheVariants as terminal
use Rattle.hpf_syntax.specs.Rules.{Counted, Sign, AnExpression}
use Rattle.hpf_syntax.specs.Grammar.{AFormat, ASource, ASub, AWidth, FormatWidth}
use Rattle.hpf_syntax.proofs.InOrder.{ATriplet}
use Rattle.hpf_syntax.proofs.InOrder as order
use Rattle.hpf_syntax.proofs.SameRules.{sub_in_order, sub_published}
use Rattle.hpf_syntax.specs.Canonical.{parenthesized, optional, name_text, expression_text, colon_text, argument_text, format_text, source_text, sub_text, width_text}
use Rattle.hpf_syntax.specs.Placeless.{nowhere, bare, bare_format, bare_source, bare_sub, bare_width}
use Rattle.hpf_syntax.proofs.Lexing.{Lexing}
use Rattle.hpf_syntax.proofs.PrintedCuts.{StopsName, Clear, clear_stops_name, word_stops, Opens, opens_append}
use Rattle.hpf_syntax.proofs.PrintedRules.{Prints, prints_as, prints_before, prints_also, done_prints, left_prints, right_prints, then_prints, value_prints, sign_prints, closed_prints, sign_then, closed_then}
use Rattle.hpf_syntax.proofs.PrintedEdges.{leads_opens, colon_stops}
use Rattle.hpf_syntax.proofs.PrintedWords.{star, star_closed, colon, double_colon, double_colon_closed, block, cyclic, gen_block, indirect}
use Rattle.hpf_syntax.proofs.PrintedPieces.{Good, good_parts, Given, given_colon, given_maybe, Element, name_element, expression_prints, expression_leads, argument_prints, name_argument_prints, after_colon_prints, maybe_expression_prints}

-- ---- texts and values

block_is : (at : At) (o : Option Tree) → codes "BLOCK" ++ optional [] argument_text o ≡ format_text (Block at o)
block_is at None = refl
block_is at (Some e) = refl

cyclic_is : (at : At) (o : Option Tree) → codes "CYCLIC" ++ optional [] argument_text o ≡ format_text (Cyclic at o)
cyclic_is at None = refl
cyclic_is at (Some e) = refl

width_or_end : (o : Option Tree) (rest : List ℕ) → Clear rest → StopsName (optional [] argument_text o ++ rest)
width_or_end None rest h = clear_stops_name rest h
width_or_end (Some e) rest h = refl

colon_or_end : (o : Option Tree) (rest : List ℕ) → Clear rest → StopsName (colon_text o ++ rest)
colon_or_end None rest h = clear_stops_name rest h
colon_or_end (Some x) rest h = refl

clear_stops_colon : (rest : List ℕ) → Clear rest → StopsAt kind.Colon rest
clear_stops_colon [] h = tt
clear_stops_colon (c ∷ rest) h = h.1

-- a triplet's bytes from its first colon on
abbrev behind_text : Option Tree → Option Tree → List ℕ
behind_text high step = codes ":" ++ (optional [] expression_text high ++ colon_text step)

triplet_value : {a b : Option Tree} {c d : Option Tree} {x y : Option Tree} → a ≡ b → c ≡ d → x ≡ y → Triplet nowhere a c x ≡ Triplet nowhere b d y
triplet_value {a} {b} {c} {d} {x} {y} p q r =
    ap (λ (z : Option Tree). Triplet nowhere z c x) p ∙ ap (λ (z : Option Tree). Triplet nowhere b z x) q ∙ ap (λ (z : Option Tree). Triplet nowhere b d z) r

width_value : {a b : Tree} {c d : Option Tree} → a ≡ b → c ≡ d → ◌≡◌ {A = WidthTree} (record { low = a; high = c }) (record { low = b; high = d })
width_value {a} {b} {c} {d} p q = ap (λ (x : Tree). record { low = x; high = c }) p ∙ ap (λ (x : Option Tree). record { low = b; high = x }) q

module _ (laws : Lexing) where
  -- ---- formats

  star_prints : Prints (Sign terminal.Star) (λ at. nowhere) Clear (codes "*") nowhere
  star_prints = closed_prints laws star star_closed

  format_width_prints : {o : Option Tree} {cs : List Counted} → FormatWidth cs o → Good cs → Prints FormatWidth (option_map bare) Clear (optional [] argument_text o) (option_map bare o)
  format_width_prints (inl (e, f1, b1, p, (nil, v), e1)) g =
      subst (λ (x : Option Tree). Prints FormatWidth (option_map bare) Clear (optional [] argument_text x) (option_map bare x)) (sym v)
      (left_prints (value_prints (argument_text e) (argument_prints laws p (good_parts f1 b1 e1 g).0) (λ x same. ap Some same)))
  format_width_prints (inr (nil, v)) g =
      subst (λ (x : Option Tree). Prints FormatWidth (option_map bare) Clear (optional [] argument_text x) (option_map bare x)) (sym v) (right_prints (done_prints None refl))

  abbrev IsFormat : FormatTree → Type 0
  IsFormat x = Prints AFormat bare_format Clear (format_text x) (bare_format x) × Opens (format_text x)

  pub format_element : Element AFormat bare_format format_text
  format_element cs x (inl (at, f1, b1, p1, (nil, v), e1)) g =
      subst IsFormat (sym v) (left_prints (value_prints (codes "*") star_prints (λ at' e. refl)), refl)
  format_element cs x (inr (inl (at, f1, b1, p1, (o, f2, b2, p, (nil, v), e2), e1))) g =
      let parts = good_parts f2 b2 e2 (good_parts f1 b1 e1 g).1 in
      let text : List ℕ = optional [] argument_text o in
      subst IsFormat (sym v) (
        prints_as (block_is at o) refl (right_prints (left_prints (sign_then laws text block (λ at'. value_prints text (format_width_prints p parts.0) (λ y same. ap (λ (z : Option Tree). Block nowhere z) same))
            (λ rest stop. word_stops (text ++ rest) (width_or_end o rest stop))))),
        subst Opens (block_is at o) refl,
      )
  format_element cs x (inr (inr (inl (at, f1, b1, p1, (o, f2, b2, p, (nil, v), e2), e1)))) g =
      let parts = good_parts f2 b2 e2 (good_parts f1 b1 e1 g).1 in
      let text : List ℕ = optional [] argument_text o in
      subst IsFormat (sym v) (
        prints_as (cyclic_is at o) refl (right_prints (right_prints (left_prints (sign_then laws text cyclic (λ at'. value_prints text (format_width_prints p parts.0) (λ y same. ap (λ (z : Option Tree). Cyclic nowhere z) same))
            (λ rest stop. word_stops (text ++ rest) (width_or_end o rest stop)))))),
        subst Opens (cyclic_is at o) refl,
      )
  format_element cs x (inr (inr (inr (inl (at, f1, b1, p1, (name, f2, b2, p, (nil, v), e2), e1))))) g =
      let parts = good_parts f2 b2 e2 (good_parts f1 b1 e1 g).1 in
      let text : List ℕ = parenthesized (name_text name) in
      subst IsFormat (sym v) (
        right_prints (right_prints (right_prints (left_prints (sign_then laws text gen_block (λ at'. value_prints text (name_argument_prints laws p parts.0) (λ y same. ap (λ (z : Spot). GenBlock nowhere z) same))
            (λ rest stop. refl))))),
        refl,
      )
  format_element cs x (inr (inr (inr (inr (at, f1, b1, p1, (name, f2, b2, p, (nil, v), e2), e1))))) g =
      let parts = good_parts f2 b2 e2 (good_parts f1 b1 e1 g).1 in
      let text : List ℕ = parenthesized (name_text name) in
      subst IsFormat (sym v) (
        right_prints (right_prints (right_prints (right_prints (sign_then laws text indirect (λ at'. value_prints text (name_argument_prints laws p parts.0) (λ y same. ap (λ (z : Spot). Indirect nowhere z) same))
            (λ rest stop. refl))))),
        refl,
      )

  -- ---- sources

  abbrev IsSource : SourceItem → Type 0
  IsSource x = Prints ASource bare_source Clear (source_text x) (bare_source x) × Opens (source_text x)

  pub source_element : Element ASource bare_source source_text
  source_element cs x (inl (at, f1, b1, p1, (nil, v), e1)) g =
      subst IsSource (sym v) (left_prints (value_prints (codes ":") (prints_before clear_stops_colon (sign_prints laws colon)) (λ at' e. refl)), refl)
  source_element cs x (inr (inl (at, f1, b1, p1, (nil, v), e1))) g =
      subst IsSource (sym v) (right_prints (left_prints (value_prints (codes "*") star_prints (λ at' e. refl))), refl)
  source_element cs x (inr (inr (name, f1, b1, p, (nil, v), e1))) g =
      let inside = name_element laws f1 name p (good_parts f1 b1 e1 g).0 in
      subst IsSource (sym v) (right_prints (right_prints (value_prints (name_text name) inside.0 (λ n same. ap (λ (z : Spot). source.Dummy z) same))), inside.1)

  -- ---- subscripts

  -- a triplet's step directly behind its first colon
  step_alone : (low : Option Tree) (step : Tree) {cs : List Counted} → AnExpression cs step → Good cs → (read : Option Tree) → option_map bare read ≡ option_map bare low
      → Prints (ATriplet read) bare_sub Clear (behind_text None (Some step)) (Triplet nowhere (option_map bare low) None (Some (bare step)))
  step_alone low step p g read same =
      let text : List ℕ = expression_text step in
      left_prints (closed_then laws text double_colon double_colon_closed (λ at.
      value_prints text (prints_before clear_stops_name (expression_prints laws p g)) (λ x samex. triplet_value same refl (ap Some samex))))

  colon_alone : (low read : Option Tree) → option_map bare read ≡ option_map bare low → Prints (ATriplet read) bare_sub Clear (behind_text None None) (Triplet nowhere (option_map bare low) None None)
  colon_alone low read same =
      right_prints (sign_then laws [] colon (λ at.
      then_prints [] [] (maybe_expression_prints laws (inl refl)) (λ h sameh.
      value_prints [] (prints_before clear_stops_name (after_colon_prints laws (inl refl))) (λ s sames. triplet_value same sameh sames))
      clear_stops_name)
      clear_stops_colon)

  with_high : (low : Option Tree) (high : Tree) (step : Option Tree) {cs : List Counted} → AnExpression cs high → Good cs → Given step → (read : Option Tree) → option_map bare read ≡ option_map bare low
      → Prints (ATriplet read) bare_sub Clear (behind_text (Some high) step) (Triplet nowhere (option_map bare low) (Some (bare high)) (option_map bare step))
  with_high low high step {cs} p g given read same =
      let text : List ℕ = expression_text high in
      let there : Given (Some high) = inr (high, cs, p, g, refl) in
      right_prints (sign_then laws (text ++ colon_text step) colon (λ at.
      then_prints text (colon_text step) (maybe_expression_prints laws there) (λ h sameh.
      value_prints (colon_text step) (prints_before clear_stops_name (after_colon_prints laws given)) (λ s sames. triplet_value same sameh sames))
      (colon_or_end step))
      (λ rest stop. rw (append_assoc text (colon_text step) rest) (colon_stops text (colon_text step ++ rest) (expression_leads laws p g))))

  behind_prints : (low high step : Option Tree) → Given high → Given step → (read : Option Tree) → option_map bare read ≡ option_map bare low
      → Prints (ATriplet read) bare_sub Clear (behind_text high step) (Triplet nowhere (option_map bare low) (option_map bare high) (option_map bare step))
  behind_prints low high step (inl n) (inl m) read same = rw (n, m) (colon_alone low read same)
  behind_prints low high step (inl n) (inr (s, cs, p, g, m)) read same = rw (n, m) (step_alone low s p g read same)
  behind_prints low high step (inr (h, cs, p, g, n)) given read same = rw n (with_high low h step p g given read same)

  -- what the tokens from the first colon on say, and how they are printed
  abbrev IsTriplet : Option Tree → SubTree → Type 0
  IsTriplet low sub = (at : At) × (high : Option Tree) × (step : Option Tree) × (sub ≡ Triplet at low high step)
      × ((read : Option Tree) → option_map bare read ≡ option_map bare low → Prints (ATriplet read) bare_sub Clear (behind_text high step) (Triplet nowhere (option_map bare low) (option_map bare high) (option_map bare step)))

  triplet_prints : (low : Option Tree) {sub : SubTree} {cs : List Counted} → ATriplet low cs sub → Good cs → IsTriplet low sub
  triplet_prints low (inl (at, f1, b1, p1, (step, f2, b2, p, (nil, v), e2), e1)) g =
      (at, None, Some step, v, step_alone low step p (good_parts f2 b2 e2 (good_parts f1 b1 e1 g).1).0)
  triplet_prints low (inr (at, f1, b1, p1, (high, f2, b2, q, (step, f3, b3, r, (nil, v), e3), e2), e1)) g =
      let two = good_parts f2 b2 e2 (good_parts f1 b1 e1 g).1 in
      (at, high, step, v, behind_prints low high step (given_maybe q two.0) (given_colon r (good_parts f3 b3 e3 two.1).0))

  abbrev IsSub : SubTree → Type 0
  IsSub x = Prints order.ASub bare_sub Clear (sub_text x) (bare_sub x) × Opens (sub_text x)

  in_order_element : Element order.ASub bare_sub sub_text
  in_order_element cs x (inl (at, f1, b1, p1, (nil, v), e1)) g = subst IsSub (sym v) (left_prints (value_prints (codes "*") star_prints (λ at' e. refl)), refl)
  in_order_element cs x (inr (inl p)) g =
      let t = triplet_prints None p g in
      subst IsSub (sym t.3) (right_prints (left_prints (t.4 None refl)), refl)
  in_order_element cs x (inr (inr (e, f1, b1, p, inl q, e1))) g =
      let parts = good_parts f1 b1 e1 g in
      let t = triplet_prints (Some e) q parts.1 in
      subst IsSub (sym t.3) (
        right_prints (right_prints (then_prints (expression_text e) (behind_text t.1 t.2) (expression_prints laws p parts.0) (λ y same. left_prints (t.4 (Some y) (ap Some same))) (λ rest stop. refl))),
        opens_append (expression_text e) (behind_text t.1 t.2) (leads_opens (expression_text e) (expression_leads laws p parts.0)),
      )
  in_order_element cs x (inr (inr (e, f1, b1, p, inr (nil, v), e1))) g =
      let parts = good_parts f1 b1 e1 g in
      subst IsSub (sym v) (
        prints_as (append-nil (expression_text e)) refl (right_prints (right_prints (then_prints (expression_text e) [] (expression_prints laws p parts.0) (λ y same. right_prints (done_prints (OnePlace y) (ap OnePlace same))) clear_stops_name))),
        leads_opens (expression_text e) (expression_leads laws p parts.0),
      )

  pub sub_element : Element ASub bare_sub sub_text
  sub_element cs x p g = let in_order = in_order_element cs x (sub_in_order cs x p) g in (prints_also sub_published in_order.0, in_order.1)

  -- ---- widths

  pub width_element : Element AWidth bare_width width_text
  width_element cs x (low, f1, b1, p, (high, f2, b2, q, (nil, v), e2), e1) g =
      let outer = good_parts f1 b1 e1 g in
      let inner = good_parts f2 b2 e2 outer.1 in
      subst (λ (w : WidthTree). Prints AWidth bare_width Clear (width_text w) (bare_width w) × Opens (width_text w)) (sym v) (
        then_prints (expression_text low) (colon_text high) (expression_prints laws p outer.0) (λ y same.
            value_prints (colon_text high) (prints_before clear_stops_name (after_colon_prints laws (given_colon q inner.0))) (λ o sames. width_value same sames))
            (colon_or_end high),
        opens_append (expression_text low) (colon_text high) (leads_opens (expression_text low) (expression_leads laws p outer.0)),
      )
