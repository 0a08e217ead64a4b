-- Statements of a pipeline, whose canonical bytes are read back.
use Rattle.std.proofs.Common.{◌≡◌, ℕ, List, ◌∷◌, ◌++◌, map, Option, Some, None, refl, sym, ap, subst, ◌∙◌, append_assoc, inl, inr}
use Rattle.std.specs.Prelude.{codes, option_map}
use Rattle.hpf_lex.specs.declared.line.Form.TheVariants.{Pipeline}
use Rattle.hpf_lex.specs.Bytes.{is_blank}
use Rattle.hpf_syntax.specs.declared.tree.At.{At}
use Rattle.hpf_syntax.specs.declared.tree.Spot.{Spot}
use Rattle.hpf_syntax.specs.Plain.{Tree, OpTree, Plain, Add, Mul, Prefix, Stencil, ItemTree, Input, Stage}
use Rattle.hpf_syntax.specs.Rules.{Counted, AnExpression}
use Rattle.hpf_syntax.specs.Grammar.{AnArray, AStencil, Buffers, Operation, Permute, APipeline}
use Rattle.hpf_syntax.specs.Canonical.{parenthesized, listed, name_text, expression_text, argument_text, array_text, permute_text, buffers_text, operation_text}
use Rattle.hpf_syntax.specs.Placeless.{nowhere, bare, bare_operation}
use Rattle.hpf_syntax.proofs.Lexing.{Lexing}
use Rattle.hpf_syntax.proofs.PrintedCuts.{Clear, clear_stops_name, opens_append, paren_stops}
use Rattle.hpf_syntax.proofs.PrintedRules.{opens_some, Prints, prints_as, done_prints, blank_prints, left_prints, right_prints, then_prints, value_prints, closed_prints, sign_then, closed_then}
use Rattle.hpf_syntax.proofs.PrintedEdges.{leads_opens}
use Rattle.hpf_syntax.proofs.PrintedWords.{left_paren, right_paren, right_paren_closed, comma, comma_closed, input, stage, permute, buffers, add, mul, prefix, stencil}
use Rattle.hpf_syntax.proofs.PrintedPieces.{Good, good_parts, name_prints, name_opens, expression_prints, expression_leads, expression_element, argument_prints, array_prints, enclosed_prints, Stands}

-- ---- what may stand behind a name

clear_operation : (op : OpTree) (rest : List ℕ) → Clear rest → Clear (operation_text op ++ rest)
clear_operation Plain rest h = h
clear_operation (Add at e) rest h = (refl, refl)
clear_operation (Mul at e) rest h = (refl, refl)
clear_operation (Prefix at e) rest h = (refl, refl)
clear_operation (Stencil at e weights) rest h = (refl, refl)

clear_buffers : (o : Option Tree) (op : OpTree) (rest : List ℕ) → Clear rest → Clear ((buffers_text o ++ operation_text op) ++ rest)
clear_buffers None op rest h = clear_operation op rest h
clear_buffers (Some e) op rest h = (refl, refl)

clear_permute : (l : Option (List Tree)) (o : Option Tree) (op : OpTree) (rest : List ℕ) → Clear rest → Clear ((permute_text l ++ (buffers_text o ++ operation_text op)) ++ rest)
clear_permute None o op rest h = clear_buffers o op rest h
clear_permute (Some list) o op rest h = (refl, refl)

-- ---- values

input_value : {n m : Spot} {a b : Option Tree} {p q : OpTree} → n ≡ m → a ≡ b → p ≡ q → Input nowhere n a p ≡ Input nowhere m b q
input_value {n} {m} {a} {b} {p} {q} e f g = ap (λ (x : Spot). Input nowhere x a p) e ∙ ap (λ (x : Option Tree). Input nowhere m x p) f ∙ ap (λ (x : OpTree). Input nowhere m b x) g

stage_value : {n m : Spot} {k l : Option (List Tree)} {a b : Option Tree} {p q : OpTree} → n ≡ m → k ≡ l → a ≡ b → p ≡ q → Stage nowhere n k a p ≡ Stage nowhere m l b q
stage_value {n} {m} {k} {l} {a} {b} {p} {q} d e f g =
    ap (λ (x : Spot). Stage nowhere x k a p) d ∙ ap (λ (x : Option (List Tree)). Stage nowhere m x a p) e ∙ ap (λ (x : Option Tree). Stage nowhere m l x p) f ∙ ap (λ (x : OpTree). Stage nowhere m l b x) g

stencil_value : {a b : Tree} {k l : List Tree} → a ≡ b → k ≡ l → Stencil nowhere a k ≡ Stencil nowhere b l
stencil_value {a} {b} {k} {l} e f = ap (λ (x : Tree). Stencil nowhere x k) e ∙ ap (λ (x : List Tree). Stencil nowhere b x) f

module _ (laws : Lexing) where
  buffers_prints : {o : Option Tree} {cs : List Counted} → Buffers cs o → Good cs → Prints Buffers (option_map bare) Clear (buffers_text o) (option_map bare o)
  buffers_prints (inl (at, f1, b1, p1, (e, f2, b2, p, (nil, v), e2), e1)) g =
      let parts = good_parts f2 b2 e2 (good_parts f1 b1 e1 g).1 in
      subst (λ (x : Option Tree). Prints Buffers (option_map bare) Clear (buffers_text x) (option_map bare x)) (sym v)
      (left_prints (blank_prints (codes "BUFFERS" ++ argument_text e) tt
      (sign_then laws (argument_text e) buffers (λ at'. value_prints (argument_text e) (argument_prints laws p parts.0) (λ x same. ap Some same)) (λ rest stop. refl))))
  buffers_prints (inr (nil, v)) g = subst (λ (x : Option Tree). Prints Buffers (option_map bare) Clear (buffers_text x) (option_map bare x)) (sym v) (right_prints (done_prints None refl))

  permute_prints : {l : Option (List Tree)} {cs : List Counted} → Permute cs l → Good cs → Prints Permute (option_map (map bare)) Clear (permute_text l) (option_map (map bare) l)
  permute_prints (inl (at, f1, b1, p1, (list, f2, b2, p, (nil, v), e2), e1)) g =
      let parts = good_parts f2 b2 e2 (good_parts f1 b1 e1 g).1 in
      let inside = enclosed_prints laws (expression_element laws) p parts.0 in
      subst (λ (x : Option (List Tree)). Prints Permute (option_map (map bare)) Clear (permute_text x) (option_map (map bare) x)) (sym v)
      (left_prints (blank_prints (codes "PERMUTE" ++ parenthesized (listed expression_text list)) tt
      (sign_then laws (parenthesized (listed expression_text list)) permute (λ at'. value_prints (parenthesized (listed expression_text list)) inside (λ x same. ap Some same)) (λ rest stop. refl))))
  permute_prints (inr (nil, v)) g = subst (λ (x : Option (List Tree)). Prints Permute (option_map (map bare)) Clear (permute_text x) (option_map (map bare) x)) (sym v) (right_prints (done_prints None refl))

  -- behind "STENCIL"
  stencil_prints : (at : At) {e : Tree} {weights : List Tree} {cs ds : List Counted} → AnExpression cs e → Good cs → AnArray ds weights → Good ds
      → Prints (AStencil at) bare_operation Clear (codes "(" ++ ((expression_text e ++ (codes ", " ++ array_text weights)) ++ codes ")")) (Stencil nowhere (bare e) (map bare weights))
  stencil_prints at {e} {weights} p g q h =
      let text : List ℕ = expression_text e in
      let behind : List ℕ = array_text weights ++ codes ")" in
      let whole : List ℕ = text ++ (codes ", " ++ behind) in
      prints_as (ap (λ (bytes : List ℕ). codes "(" ++ bytes) (sym (append_assoc text (codes ", " ++ array_text weights) (codes ")")))) refl
      (sign_then laws whole left_paren (λ from.
      then_prints text (codes ", " ++ behind) (expression_prints laws p g) (λ x same.
      closed_then laws (32 ∷ behind) comma comma_closed (λ at'.
      blank_prints behind tt
      (then_prints (array_text weights) (codes ")") (array_prints laws q h) (λ ws sames.
      value_prints (codes ")") (closed_prints laws right_paren right_paren_closed) (λ end e'. stencil_value same sames))
      (λ rest stop. (refl, refl)))))
      (λ rest stop. refl))
      (λ rest stop. paren_stops (whole ++ rest) (opens_append whole rest (opens_append text (codes ", " ++ behind) (leads_opens text (expression_leads laws p g))))))

  operation_prints : {op : OpTree} {cs : List Counted} → Operation cs op → Good cs → Prints Operation bare_operation Clear (operation_text op) (bare_operation op)
  operation_prints (inl (at, f1, b1, p1, (e, f2, b2, p, (nil, v), e2), e1)) g =
      let parts = good_parts f2 b2 e2 (good_parts f1 b1 e1 g).1 in
      subst (λ (x : OpTree). Prints Operation bare_operation Clear (operation_text x) (bare_operation x)) (sym v)
      (left_prints (blank_prints (codes "ADD" ++ argument_text e) tt
      (sign_then laws (argument_text e) add (λ at'. value_prints (argument_text e) (argument_prints laws p parts.0) (λ x same. ap (λ (y : Tree). Add nowhere y) same)) (λ rest stop. refl))))
  operation_prints (inr (inl (at, f1, b1, p1, (e, f2, b2, p, (nil, v), e2), e1))) g =
      let parts = good_parts f2 b2 e2 (good_parts f1 b1 e1 g).1 in
      subst (λ (x : OpTree). Prints Operation bare_operation Clear (operation_text x) (bare_operation x)) (sym v)
      (right_prints (left_prints (blank_prints (codes "MUL" ++ argument_text e) tt
      (sign_then laws (argument_text e) mul (λ at'. value_prints (argument_text e) (argument_prints laws p parts.0) (λ x same. ap (λ (y : Tree). Mul nowhere y) same)) (λ rest stop. refl)))))
  operation_prints (inr (inr (inl (at, f1, b1, p1, (e, f2, b2, p, (nil, v), e2), e1)))) g =
      let parts = good_parts f2 b2 e2 (good_parts f1 b1 e1 g).1 in
      subst (λ (x : OpTree). Prints Operation bare_operation Clear (operation_text x) (bare_operation x)) (sym v)
      (right_prints (right_prints (left_prints (blank_prints (codes "PREFIX" ++ argument_text e) tt
      (sign_then laws (argument_text e) prefix (λ at'. value_prints (argument_text e) (argument_prints laws p parts.0) (λ x same. ap (λ (y : Tree). Prefix nowhere y) same)) (λ rest stop. refl))))))
  operation_prints (inr (inr (inr (inl (at, f0, b0, p0, (from, f1, b1, p1, (e, f2, b2, p, (at', f3, b3, p3, (weights, f4, b4, q, (to, f5, b5, p5, (nil, v), e5), e4), e3), e2), e1), e0))))) g =
      let two = good_parts f2 b2 e2 (good_parts f1 b1 e1 (good_parts f0 b0 e0 g).1).1 in
      let four = good_parts f4 b4 e4 (good_parts f3 b3 e3 two.1).1 in
      let text : List ℕ = codes "(" ++ ((expression_text e ++ (codes ", " ++ array_text weights)) ++ codes ")") in
      subst (λ (x : OpTree). Prints Operation bare_operation Clear (operation_text x) (bare_operation x)) (sym v)
      (right_prints (right_prints (right_prints (left_prints (blank_prints (codes "STENCIL" ++ text) tt
      (sign_then laws text stencil (λ at''. stencil_prints at'' p two.0 q four.0) (λ rest stop. refl)))))))
  operation_prints (inr (inr (inr (inr (nil, v))))) g =
      subst (λ (x : OpTree). Prints Operation bare_operation Clear (operation_text x) (bare_operation x)) (sym v) (right_prints (right_prints (right_prints (right_prints (done_prints Plain refl)))))

  -- ---- statements

  pub pipeline_stands : {cs : List Counted} {item : ItemTree} → APipeline cs item → Good cs → Stands Pipeline APipeline item
  unfolding is_blank
  pipeline_stands (inl (at, f1, b1, p1, (name, f2, b2, p, (o, f3, b3, q, (op, f4, b4, r, (nil, v), e4), e3), e2), e1)) g =
      let two = good_parts f2 b2 e2 (good_parts f1 b1 e1 g).1 in
      let three = good_parts f3 b3 e3 two.1 in
      let four = good_parts f4 b4 e4 three.1 in
      let behind : List ℕ = buffers_text o ++ operation_text op in
      let text : List ℕ = name_text name ++ behind in
      subst (λ (x : ItemTree). Stands Pipeline APipeline x) (sym v)
      (record {
        text = codes "INPUT " ++ text;
        whole = refl;
        begins = refl;
        some = tt;
        prints = left_prints (sign_then laws (32 ∷ text) input (λ at'.
            blank_prints text (opens_some text (opens_append (name_text name) behind (name_opens laws p two.0)))
            (then_prints (name_text name) behind (name_prints laws p two.0) (λ n samen.
            then_prints (buffers_text o) (operation_text op) (buffers_prints q three.0) (λ a samea.
            value_prints (operation_text op) (operation_prints r four.0) (λ z samez. input_value samen samea samez))
            (clear_operation op))
            (λ rest stop. clear_stops_name (behind ++ rest) (clear_buffers o op rest stop))))
            (λ rest stop. refl));
      })
  pipeline_stands (inr (at, f1, b1, p1, (name, f2, b2, p, (l, f5, b5, s, (o, f3, b3, q, (op, f4, b4, r, (nil, v), e4), e3), e5), e2), e1)) g =
      let two = good_parts f2 b2 e2 (good_parts f1 b1 e1 g).1 in
      let five = good_parts f5 b5 e5 two.1 in
      let three = good_parts f3 b3 e3 five.1 in
      let four = good_parts f4 b4 e4 three.1 in
      let behind : List ℕ = buffers_text o ++ operation_text op in
      let text : List ℕ = name_text name ++ (permute_text l ++ behind) in
      subst (λ (x : ItemTree). Stands Pipeline APipeline x) (sym v)
      (record {
        text = codes "STAGE " ++ text;
        whole = refl;
        begins = refl;
        some = tt;
        prints = right_prints (sign_then laws (32 ∷ text) stage (λ at'.
            blank_prints text (opens_some text (opens_append (name_text name) (permute_text l ++ behind) (name_opens laws p two.0)))
            (then_prints (name_text name) (permute_text l ++ behind) (name_prints laws p two.0) (λ n samen.
            then_prints (permute_text l) behind (permute_prints s five.0) (λ k samek.
            then_prints (buffers_text o) (operation_text op) (buffers_prints q three.0) (λ a samea.
            value_prints (operation_text op) (operation_prints r four.0) (λ z samez. stage_value samen samek samea samez))
            (clear_operation op))
            (clear_buffers o op))
            (λ rest stop. clear_stops_name ((permute_text l ++ behind) ++ rest) (clear_permute l o op rest stop))))
            (λ rest stop. refl));
      })
