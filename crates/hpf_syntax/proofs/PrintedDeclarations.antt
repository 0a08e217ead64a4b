-- Declarations, whose canonical bytes are read back.
use Rattle.std.proofs.Common.{◌≡◌, ℕ, List, [], ◌∷◌, ◌++◌, map, Option, Some, None, refl, sym, ap, subst, ◌∙◌, append_assoc, inl, inr}
use Rattle.std.specs.Prelude.{codes, option_map}
use Rattle.std.proofs.lemmas.List.{append-nil}
use Rattle.hpf_syntax.specs.declared.tree.Spot.{Spot}
use Rattle.hpf_syntax.specs.Plain.{Tree, BoundTree, bound_of, DeclaredTree, ValueTree, One, Many, ConstantTree, ItemTree, Variables, Constants}
use Rattle.hpf_syntax.specs.Rules.{Counted, Separated}
use Rattle.hpf_syntax.specs.Grammar.{ABound, AConstant, ADimension, AShape, AShaped, AValue, AVariable, Fortran, OwnShape, SomeVariables}
use Rattle.hpf_syntax.proofs.SameRules.{fortran_in_order, fortran_published}
use Rattle.hpf_syntax.proofs.InOrder.{Attributes, BehindDimension, ColonsConstants, MoreDimension}
use Rattle.hpf_syntax.proofs.InOrder as order
use Rattle.hpf_syntax.specs.Canonical.{parenthesized, listed, name_text, expression_text, colon_text, array_text, bound_text, shape_text, declared_text, value_text, constant_text, dimension_text, before_variables, statement_text}
use Rattle.hpf_syntax.specs.Placeless.{bare, bare_bound, bare_declared, bare_value, bare_constant, bare_item}
use Rattle.hpf_syntax.proofs.Lexing.{Lexing}
use Rattle.hpf_syntax.proofs.PrintedCuts.{StopsName, Clear, clear_stops_name, word_stops, Opens, opens_append}
use Rattle.hpf_syntax.proofs.PrintedRules.{IsSome, opens_some, Prints, prints_as, prints_before, prints_also, done_prints, blank_prints, left_prints, right_prints, then_prints, value_prints, sign_prints, sign_then, closed_then}
use Rattle.hpf_syntax.proofs.PrintedEdges.{leads_opens}
use Rattle.hpf_syntax.proofs.PrintedWords.{comma, comma_closed, equals, equals_closed, implicit, none, integer, dimension, parameter}
use Rattle.hpf_syntax.proofs.PrintedPieces.{Good, good_parts, given_colon, Element, name_prints, name_opens, expression_prints, expression_leads, separated_prints, enclosed_prints, array_prints, after_colon_prints, colons_prints}

-- ---- texts and values of pieces

bound_is : (e : Tree) (o : Option Tree) → expression_text e ++ colon_text o ≡ bound_text (bound_of e o)
bound_is e None = append-nil (expression_text e)
bound_is e (Some x) = sym (append_assoc (expression_text e) (codes ":") (expression_text x))

colon_or_end : (o : Option Tree) (rest : List ℕ) → StopsName rest → StopsName (colon_text o ++ rest)
colon_or_end None rest h = h
colon_or_end (Some x) rest h = refl

bare_bound_of : (e : Tree) (o : Option Tree) → bare_bound (bound_of e o) ≡ bound_of (bare e) (option_map bare o)
bare_bound_of e None = refl
bare_bound_of e (Some x) = refl

bound_value : (x e : Tree) (o s : Option Tree) → bare x ≡ bare e → option_map bare o ≡ option_map bare s → bare_bound (bound_of x o) ≡ bare_bound (bound_of e s)
bound_value x e o s p q = bare_bound_of x o ∙ ap (λ (t : Tree). bound_of t (option_map bare o)) p ∙ ap (λ (t : Option Tree). bound_of (bare e) t) q ∙ sym (bare_bound_of e s)

-- a shape has a bound at least
some_bound : (bs : List BoundTree) (cs : List Counted) → Separated ABound cs bs → (b : BoundTree) × (more : List BoundTree) × (bs ≡ b ∷ more)
some_bound [] cs p = absurd p
some_bound (b ∷ more) cs p = (b, more, refl)

pub shape_some : {bs : List BoundTree} {cs : List Counted} → AShape cs bs → (b : BoundTree) × (more : List BoundTree) × (bs ≡ b ∷ more)
shape_some (from, f1, b1, p1, (list, f2, b2, ps, (to, f3, b3, p3, (nil, v), e3), e2), e1) = let one = some_bound list f2 ps in (one.0, one.1, v ∙ one.2)

shape_is : {bs : List BoundTree} {cs : List Counted} → AShape cs bs → parenthesized (listed bound_text bs) ≡ shape_text bs
shape_is p = let one = shape_some p in rw (one.2) refl

dimension_is : {bs : List BoundTree} {cs : List Counted} → AShape cs bs → codes ", DIMENSION" ++ shape_text bs ≡ dimension_text bs
dimension_is p = let one = shape_some p in rw (one.2) refl

before_is : {bs : List BoundTree} {cs : List Counted} → AShape cs bs → dimension_text bs ++ codes " :: " ≡ before_variables bs
before_is p = let one = shape_some p in rw (one.2) refl

shape_or_end : (bs : List BoundTree) (rest : List ℕ) → Clear rest → StopsName (shape_text bs ++ rest)
shape_or_end [] rest h = clear_stops_name rest h
shape_or_end (b ∷ bs) rest h = refl

clear_dimension : (bs : List BoundTree) (rest : List ℕ) → Clear rest → Clear (dimension_text bs ++ rest)
clear_dimension [] rest h = h
clear_dimension (b ∷ bs) rest h = (refl, refl)

declared_value : {n m : Spot} {s t : List BoundTree} → n ≡ m → s ≡ t → ◌≡◌ {A = DeclaredTree} (record { name = n; shape = s }) (record { name = m; shape = t })
declared_value {n} {m} {s} {t} p q = ap (λ (x : Spot). record { name = x; shape = s }) p ∙ ap (λ (x : List BoundTree). record { name = m; shape = x }) q

constant_value : {n m : Spot} {s t : List BoundTree} {a b : ValueTree} → n ≡ m → s ≡ t → a ≡ b → ◌≡◌ {A = ConstantTree} (record { name = n; shape = s; value = a }) (record { name = m; shape = t; value = b })
constant_value {n} {m} {s} {t} {a} {b} p q r =
    ap (λ (x : Spot). record { name = x; shape = s; value = a }) p
    ∙ ap (λ (x : List BoundTree). record { name = m; shape = x; value = a }) q
    ∙ ap (λ (x : ValueTree). record { name = m; shape = t; value = x }) r

module _ (laws : Lexing) where
  -- ---- shapes

  bound_prints : {b : BoundTree} {cs : List Counted} → ABound cs b → Good cs → Prints ABound bare_bound StopsName (bound_text b) (bare_bound b) × Opens (bound_text b)
  bound_prints {b} (first, f1, b1, p, (second, f2, b2, q, (nil, v), e2), e1) g =
      let outer = good_parts f1 b1 e1 g in
      let inner = good_parts f2 b2 e2 outer.1 in
      subst (λ (x : BoundTree). Prints ABound bare_bound StopsName (bound_text x) (bare_bound x) × Opens (bound_text x)) (sym v) (
        prints_as (bound_is first second) refl
            (then_prints (expression_text first) (colon_text second) (expression_prints laws p outer.0) (λ x same.
            value_prints (colon_text second) (after_colon_prints laws (given_colon q inner.0)) (λ o sames. bound_value x first o second same sames))
            (colon_or_end second)),
        subst Opens (bound_is first second) (opens_append (expression_text first) (colon_text second) (leads_opens (expression_text first) (expression_leads laws p outer.0))),
      )

  bound_element : Element ABound bare_bound bound_text
  bound_element cs b p g = let r = bound_prints p g in (prints_before clear_stops_name r.0, r.1)

  pub shape_prints : {bs : List BoundTree} {cs : List Counted} → AShape cs bs → Good cs → Prints AShape (map bare_bound) Clear (shape_text bs) (map bare_bound bs)
  shape_prints p g = prints_as (shape_is p) refl (enclosed_prints laws bound_element p g)

  own_shape_prints : {bs : List BoundTree} {cs : List Counted} → OwnShape cs bs → Good cs → Prints OwnShape (map bare_bound) Clear (shape_text bs) (map bare_bound bs)
  own_shape_prints (inl p) g = left_prints (shape_prints p g)
  own_shape_prints (inr (nil, v)) g = subst (λ (x : List BoundTree). Prints OwnShape (map bare_bound) Clear (shape_text x) (map bare_bound x)) (sym v) (right_prints (done_prints [] refl))

  dimension_prints : {bs : List BoundTree} {cs : List Counted} → AShape cs bs → Good cs → Prints ADimension (map bare_bound) Clear (codes "DIMENSION" ++ shape_text bs) (map bare_bound bs)
  dimension_prints {bs} p g =
      sign_then laws (shape_text bs) dimension (λ at. shape_prints p g) (λ rest stop. word_stops (shape_text bs ++ rest) (shape_or_end bs rest stop))

  -- ---- names that are declared

  pub variable_element : Element AVariable bare_declared declared_text
  variable_element cs d (name, f1, b1, p, (shape, f2, b2, q, (nil, v), e2), e1) g =
      let outer = good_parts f1 b1 e1 g in
      let inner = good_parts f2 b2 e2 outer.1 in
      subst (λ (x : DeclaredTree). Prints AVariable bare_declared Clear (declared_text x) (bare_declared x) × Opens (declared_text x)) (sym v) (
        then_prints (name_text name) (shape_text shape) (name_prints laws p outer.0) (λ n same.
            value_prints (shape_text shape) (own_shape_prints q inner.0) (λ s sames. declared_value same sames))
            (shape_or_end shape),
        opens_append (name_text name) (shape_text shape) (name_opens laws p outer.0),
      )

  pub shaped_element : Element AShaped bare_declared declared_text
  shaped_element cs d (name, f1, b1, p, (shape, f2, b2, q, (nil, v), e2), e1) g =
      let outer = good_parts f1 b1 e1 g in
      let inner = good_parts f2 b2 e2 outer.1 in
      subst (λ (x : DeclaredTree). Prints AShaped bare_declared Clear (declared_text x) (bare_declared x) × Opens (declared_text x)) (sym v) (
        then_prints (name_text name) (shape_text shape) (name_prints laws p outer.0) (λ n same.
            value_prints (shape_text shape) (shape_prints q inner.0) (λ s sames. declared_value same sames))
            (shape_or_end shape),
        opens_append (name_text name) (shape_text shape) (name_opens laws p outer.0),
      )

  -- ---- constants

  given_prints : {x : ValueTree} {cs : List Counted} → AValue cs x → Good cs → Prints AValue bare_value Clear (value_text x) (bare_value x) × IsSome (value_text x)
  given_prints (inl (e, f1, b1, p, (nil, v), e1)) g =
      let parts = good_parts f1 b1 e1 g in
      subst (λ (x : ValueTree). Prints AValue bare_value Clear (value_text x) (bare_value x) × IsSome (value_text x)) (sym v) (
        left_prints (value_prints (expression_text e) (prints_before clear_stops_name (expression_prints laws p parts.0)) (λ x same. ap One same)),
        opens_some (expression_text e) (leads_opens (expression_text e) (expression_leads laws p parts.0)),
      )
  given_prints (inr (list, f1, b1, p, (nil, v), e1)) g =
      subst (λ (x : ValueTree). Prints AValue bare_value Clear (value_text x) (bare_value x) × IsSome (value_text x)) (sym v)
      (right_prints (value_prints (array_text list) (array_prints laws p (good_parts f1 b1 e1 g).0) (λ es same. ap Many same)), tt)

  constant_element : Element AConstant bare_constant constant_text
  constant_element cs c (name, f1, b1, p, (shape, f2, b2, q, (at, f3, b3, p3, (value, f4, b4, r, (nil, v), e4), e3), e2), e1) g =
      let one = good_parts f1 b1 e1 g in
      let two = good_parts f2 b2 e2 one.1 in
      let four = good_parts f4 b4 e4 (good_parts f3 b3 e3 two.1).1 in
      let given = given_prints r four.0 in
      let text : List ℕ = value_text value in
      subst (λ (x : ConstantTree). Prints AConstant bare_constant Clear (constant_text x) (bare_constant x) × Opens (constant_text x)) (sym v) (
        then_prints (name_text name) (shape_text shape ++ (codes " = " ++ text)) (name_prints laws p one.0) (λ n same.
            then_prints (shape_text shape) (codes " = " ++ text) (own_shape_prints q two.0) (λ s sames.
            blank_prints (codes "= " ++ text) tt (closed_then laws (32 ∷ text) equals equals_closed (λ at'.
            blank_prints text given.1 (value_prints text given.0 (λ w samew. constant_value same sames samew)))))
            (λ rest stop. (refl, refl)))
            (λ rest stop. rw (append_assoc (shape_text shape) (codes " = " ++ text) rest) (shape_or_end shape (codes " = " ++ text ++ rest) (refl, refl))),
        opens_append (name_text name) (shape_text shape ++ (codes " = " ++ text)) (name_opens laws p one.0),
      )

  -- ---- statements

  -- what is said of the names behind two colons
  some_variables : (common read : List BoundTree) (names : List DeclaredTree) (cs : List Counted) → Separated AVariable cs names → Good cs → map bare_bound read ≡ map bare_bound common
      → Prints (SomeVariables read) bare_item Clear (listed declared_text names) (bare_item (Variables common names)) × IsSome (listed declared_text names)
  some_variables common read names cs p g same =
      let inside = separated_prints laws variable_element names cs p g in (
        value_prints (listed declared_text names) inside.0 (λ ds sames. ap (λ (l : List BoundTree). Variables l (map bare_declared ds)) same ∙ ap (λ (l : List DeclaredTree). Variables (map bare_bound common) l) sames),
        opens_some (listed declared_text names) inside.1,
      )

  some_constants : (common read : List BoundTree) (names : List ConstantTree) (cs : List Counted) → Separated AConstant cs names → Good cs → map bare_bound read ≡ map bare_bound common
      → Prints (ColonsConstants read) bare_item Clear (codes " :: " ++ listed constant_text names) (bare_item (Constants common names))
  some_constants common read names cs p g same =
      let inside = separated_prints laws constant_element names cs p g in
      colons_prints laws (listed constant_text names)
      (value_prints (listed constant_text names) inside.0 (λ ds sames. ap (λ (l : List BoundTree). Constants l (map bare_constant ds)) same ∙ ap (λ (l : List ConstantTree). Constants (map bare_bound common) l) sames))
      (opens_some (listed constant_text names) inside.1)

  more_dimension : {bs : List BoundTree} {cs : List Counted} → AShape cs bs → Good cs → Prints MoreDimension (map bare_bound) Clear (dimension_text bs) (map bare_bound bs)
  more_dimension {bs} p g =
      prints_as (dimension_is p) refl (left_prints (closed_then laws (codes " DIMENSION" ++ shape_text bs) comma comma_closed (λ at.
      blank_prints (codes "DIMENSION" ++ shape_text bs) tt (dimension_prints p g))))

  no_dimension : Prints MoreDimension (map bare_bound) Clear [] []
  no_dimension = right_prints (done_prints [] refl)

  -- "INTEGER" names
  plain_variables : (names : List DeclaredTree) (cs : List Counted) → Separated AVariable cs names → Good cs → Prints order.Fortran bare_item Clear (statement_text (Variables [] names)) (bare_item (Variables [] names))
  plain_variables names cs p g =
      let inside = some_variables [] [] names cs p g refl in
      let text : List ℕ = listed declared_text names in
      right_prints (sign_then laws (32 ∷ text) integer (λ at. right_prints
      (blank_prints text inside.1 (then_prints [] text (right_prints (done_prints {view = λ (u : Unit {0}). u} {stops = λ bytes. Unit {0}} tt refl)) (λ u e. inside.0) (λ rest stop. tt))))
      (λ rest stop. refl))

  -- "INTEGER" "," dimension "::" names
  shaped_variables : {common : List BoundTree} {ds : List Counted} → AShape ds common → Good ds → (names : List DeclaredTree) (cs : List Counted) → Separated AVariable cs names → Good cs
      → Prints order.Fortran bare_item Clear (statement_text (Variables common names)) (bare_item (Variables common names))
  shaped_variables {common} p g names cs q h =
      let text : List ℕ = listed declared_text names in
      prints_as (ap (λ (bytes : List ℕ). codes "INTEGER" ++ bytes) (ap (λ (bytes : List ℕ). bytes ++ (codes " :: " ++ text)) (dimension_is p) ∙ sym (append_assoc (dimension_text common) (codes " :: ") text) ∙ ap (λ (bytes : List ℕ). bytes ++ text) (before_is p))) refl
      (right_prints (sign_then laws (codes ", DIMENSION" ++ (shape_text common ++ (codes " :: " ++ text))) integer (λ at. left_prints
      (closed_then laws (codes " DIMENSION" ++ (shape_text common ++ (codes " :: " ++ text))) comma comma_closed (λ at'. left_prints
      (blank_prints (codes "DIMENSION" ++ (shape_text common ++ (codes " :: " ++ text))) tt
      (then_prints (codes "DIMENSION" ++ shape_text common) (codes " :: " ++ text) (dimension_prints p g) (λ read same. right_prints
      (let inside = some_variables common read names cs q h same in
      colons_prints laws text inside.0 inside.1))
      (λ rest stop. (refl, refl)))))))
      (λ rest stop. refl)))

  -- "INTEGER" "," "PARAMETER" [ "," dimension ] "::" constants
  constants : (common : List BoundTree) → Prints MoreDimension (map bare_bound) Clear (dimension_text common) (map bare_bound common) → (names : List ConstantTree) (cs : List Counted) → Separated AConstant cs names → Good cs
      → Prints order.Fortran bare_item Clear (statement_text (Constants common names)) (bare_item (Constants common names))
  constants common dimensions names cs q h =
      let text : List ℕ = codes " :: " ++ listed constant_text names in
      right_prints (sign_then laws (codes ", PARAMETER" ++ (dimension_text common ++ text)) integer (λ at. left_prints
      (closed_then laws (codes " PARAMETER" ++ (dimension_text common ++ text)) comma comma_closed (λ at'. right_prints
      (blank_prints (codes "PARAMETER" ++ (dimension_text common ++ text)) tt
      (sign_then laws (dimension_text common ++ text) parameter (λ at''.
      then_prints (dimension_text common) text dimensions (λ read same. some_constants common read names cs q h same) (λ rest stop. (refl, refl)))
      (λ rest stop. rw (append_assoc (dimension_text common) text rest) (word_stops (dimension_text common ++ (text ++ rest)) (clear_stops_name (dimension_text common ++ (text ++ rest)) (clear_dimension common (text ++ rest) (refl, refl))))))))))
      (λ rest stop. refl))

  -- behind "INTEGER" "," dimension
  behind_dimension : {common : List BoundTree} {ds cs : List Counted} {item : ItemTree} → AShape ds common → Good ds → BehindDimension common cs item → Good cs → Prints order.Fortran bare_item Clear (statement_text item) (bare_item item)
  behind_dimension {common} p h (inl (at, f1, b1, p1, (at', f2, b2, p2, (at'', f3, b3, p3, (names, f4, b4, q, (nil, v), e4), e3), e2), e1)) g =
      let three = good_parts f3 b3 e3 (good_parts f2 b2 e2 (good_parts f1 b1 e1 g).1).1 in
      subst (λ (x : ItemTree). Prints order.Fortran bare_item Clear (statement_text x) (bare_item x)) (sym v)
      (constants common (more_dimension p h) names f4 q (good_parts f4 b4 e4 three.1).0)
  behind_dimension {common} p h (inr (at, f1, b1, p1, (names, f2, b2, q, (nil, v), e2), e1)) g =
      subst (λ (x : ItemTree). Prints order.Fortran bare_item Clear (statement_text x) (bare_item x)) (sym v)
      (shaped_variables p h names f2 q (good_parts f2 b2 e2 (good_parts f1 b1 e1 g).1).0)

  -- behind "INTEGER" ","
  attributes : {cs : List Counted} {item : ItemTree} → Attributes cs item → Good cs → Prints order.Fortran bare_item Clear (statement_text item) (bare_item item)
  attributes (inl (common, f1, b1, (at, f2, b2, p2, p, e2), q, e1)) g =
      let one = good_parts f1 b1 e1 g in
      behind_dimension p (good_parts f2 b2 e2 one.0).1 q one.1
  attributes (inr (at, f1, b1, p1, (common, f2, b2, p, (at', f3, b3, p3, (names, f4, b4, q, (nil, v), e4), e3), e2), e1)) g =
      let two = good_parts f2 b2 e2 (good_parts f1 b1 e1 g).1 in
      let four = good_parts f4 b4 e4 (good_parts f3 b3 e3 two.1).1 in
      subst (λ (x : ItemTree). Prints order.Fortran bare_item Clear (statement_text x) (bare_item x)) (sym v)
      (constants common (dimensions p two.0) names f4 q four.0)
    where
      dimensions : {common : List BoundTree} {cs : List Counted} → MoreDimension cs common → Good cs → Prints MoreDimension (map bare_bound) Clear (dimension_text common) (map bare_bound common)
      dimensions (inl (at, f1, b1, p1, (at', f2, b2, p2, p, e2), e1)) g = more_dimension p (good_parts f2 b2 e2 (good_parts f1 b1 e1 g).1).1
      dimensions (inr (nil, v)) g = subst (λ (x : List BoundTree). Prints MoreDimension (map bare_bound) Clear (dimension_text x) (map bare_bound x)) (sym v) no_dimension

  in_order_prints : {cs : List Counted} {item : ItemTree} → order.Fortran cs item → Good cs → Prints order.Fortran bare_item Clear (statement_text item) (bare_item item)
  in_order_prints (inl (at, f1, b1, p1, (at', f2, b2, p2, (nil, v), e2), e1)) g =
      subst (λ (x : ItemTree). Prints order.Fortran bare_item Clear (statement_text x) (bare_item x)) (sym v)
      (left_prints (sign_then laws (codes " NONE") implicit (λ at''.
      blank_prints (codes "NONE") tt (value_prints (codes "NONE") (prints_before (λ rest stop. word_stops rest (clear_stops_name rest stop)) (sign_prints laws none)) (λ end e. refl)))
      (λ rest stop. refl)))
  in_order_prints (inr (at, f1, b1, p1, inl (at', f2, b2, p2, p, e2), e1)) g = attributes p (good_parts f2 b2 e2 (good_parts f1 b1 e1 g).1).1
  in_order_prints (inr (at, f1, b1, p1, inr (colons, f2, b2, p2, (names, f3, b3, q, (nil, v), e3), e2), e1)) g =
      let two = good_parts f2 b2 e2 (good_parts f1 b1 e1 g).1 in
      subst (λ (x : ItemTree). Prints order.Fortran bare_item Clear (statement_text x) (bare_item x)) (sym v)
      (plain_variables names f3 q (good_parts f3 b3 e3 two.1).0)

  pub fortran_prints : {cs : List Counted} {item : ItemTree} → Fortran cs item → Good cs → Prints Fortran bare_item Clear (statement_text item) (bare_item item)
  fortran_prints {cs} {item} p g = prints_also fortran_published (in_order_prints (fortran_in_order cs item p) g)
