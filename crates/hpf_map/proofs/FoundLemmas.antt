-- Of refusals that are taken in one after another the one that comes first is kept.
use Rattle.std.proofs.Common.{◌≡◌, ℕ, ◌+◌, ◌<◌, ◌≤◌, Bool, true, false, List, [], ◌∷◌, ◌++◌, length, get_or, take, map, Option, Some, None, refl, sym, ap, ◌∙◌, append_assoc, arith}
use Rattle.std.specs.Prelude.{option_to_list, is_none}
use Rattle.std.specs.List.{flat_map}
use Rattle.std.proofs.lemmas.List.{append-nil, take_more, map-append, flat_map_more}
use Rattle.std.proofs.lemmas.Bool.Decides.{nat_tests}
use Rattle.hpf_lex.specs.declared.refusal.MapRefusal.{MapRefusal}
use Rattle.hpf_lex.specs.Order.{comes_before, least_of, least}
use Rattle.hpf_map.specs.Found.{least_with}
use Rattle.hpf_map.specs.Subscripts.{is_empty}

-- an earlier line, or the same and an earlier column, or both the same and a lesser code, without a choice
record Earlier (f g : MapRefusal) : Type 0 where
  line : f.line ≤ g.line
  column : f.line ≡ g.line → f.column ≤ g.column
  code : f.line ≡ g.line → f.column ≡ g.column → f.code < g.code

earlier : (f g : MapRefusal) → comes_before f g ≡ true → Earlier f g
earlier f g h = record { line = grind (arith, nat_tests); column = λ e. grind (arith, nat_tests); code = λ e d. grind (arith, nat_tests) }

comes_earlier : (f g : MapRefusal) → Earlier f g → comes_before f g ≡ true
comes_earlier f g h = let a = h.line in let b = h.column in let c = h.code in grind (arith, nat_tests)

comes_before-trans : (f g h : MapRefusal) → comes_before f g ≡ true → comes_before g h ≡ true → comes_before f h ≡ true
comes_before-trans f g h p q =
    let one : Earlier f g = earlier f g p in
    let two : Earlier g h = earlier g h q in
    comes_earlier f h (record {
      line = omega (arith, one.line, two.line);
      column = λ e. omega (arith, one.line, two.line, one.column, two.column);
      code = λ e d. omega (arith, one.line, two.line, one.column, two.column, one.code, two.code);
    })

-- the same up to equal places and codes
record NoLater (f g : MapRefusal) : Type 0 where
  line : f.line ≤ g.line
  column : f.line ≡ g.line → f.column ≤ g.column
  code : f.line ≡ g.line → f.column ≡ g.column → f.code ≤ g.code

no_later : (f g : MapRefusal) → comes_before g f ≡ false → NoLater f g
no_later f g h = record { line = grind (arith, nat_tests); column = λ e. grind (arith, nat_tests); code = λ e d. grind (arith, nat_tests) }

comes_no_later : (f g : MapRefusal) → NoLater f g → comes_before g f ≡ false
comes_no_later f g h = let a = h.line in let b = h.column in let c = h.code in grind (arith, nat_tests)

not_before-trans : (f g h : MapRefusal) → comes_before g f ≡ false → comes_before h g ≡ false → comes_before h f ≡ false
not_before-trans f g h p q =
    let one : NoLater f g = no_later f g p in
    let two : NoLater g h = no_later g h q in
    comes_no_later f h (record {
      line = omega (arith, one.line, two.line);
      column = λ e. omega (arith, one.line, two.line, one.column, two.column);
      code = λ e d. omega (arith, one.line, two.line, one.column, two.column, one.code, two.code);
    })

-- the first of three
least_of_three : (f g h : MapRefusal) (a b : Bool) → comes_before g f ≡ a → comes_before h g ≡ b
    → least_of (least_of f (Some g)) (Some h) ≡ least_of f (Some (least_of g (Some h)))
least_of_three f g h true true p q = rw (p, q, comes_before-trans h g f q p) refl
least_of_three f g h true false p q = rw (p, q, p) refl
least_of_three f g h false true p q = rw (p, q) refl
least_of_three f g h false false p q = rw (p, q, p, not_before-trans f g h p q) refl

least_of_more : (f g : MapRefusal) (o : Option MapRefusal) → least_of (least_of f (Some g)) o ≡ least_of f (Some (least_of g o))
least_of_more f g None = refl
least_of_more f g (Some h) = least_of_three f g h (comes_before g f) (comes_before h g) refl refl

-- one more in front of those whose least is known
least_in_front : (x : MapRefusal) (ys : List MapRefusal) (o p : Option MapRefusal) → least (option_to_list o ++ ys) ≡ p
    → Some (least_of (least_of x o) (least ys)) ≡ Some (least_of x p)
least_in_front x ys None p e = ap (λ q. Some (least_of x q)) e
least_in_front x ys (Some w) p e = ap Some (least_of_more x w (least ys)) ∙ ap (λ q. Some (least_of x q)) e

least-least : (xs ys : List MapRefusal) → least (option_to_list (least xs) ++ ys) ≡ least (xs ++ ys)
least-least [] ys = refl
least-least (x ∷ xs) ys = least_in_front x ys (least xs) (least (xs ++ ys)) (least-least xs ys)

-- taking nothing in
pub least_with-nil : (earlier : Option MapRefusal) → least_with earlier [] ≡ earlier
unfolding least_with
least_with-nil None = refl
least_with-nil (Some f) = refl

-- taking in some and then others
pub least_with-append : (earlier : Option MapRefusal) (xs ys : List MapRefusal) → least_with (least_with earlier xs) ys ≡ least_with earlier (xs ++ ys)
unfolding least_with
least_with-append earlier xs ys = least-least (option_to_list earlier ++ xs) ys ∙ ap least (append_assoc (option_to_list earlier) xs ys)

-- taking in the first of some is taking in all of them
pub least_with-first : (earlier : Option MapRefusal) (xs : List MapRefusal) → least_with earlier (option_to_list (least_with None xs)) ≡ least_with earlier xs
unfolding least_with
least_with-first None xs = ap least (sym (append-nil (option_to_list (least xs)))) ∙ least-least xs [] ∙ ap least (append-nil xs)
least_with-first (Some f) xs =
    ap (λ o. Some (least_of f o)) (ap least (sym (append-nil (option_to_list (least xs)))) ∙ least-least xs [] ∙ ap least (append-nil xs))

-- there is a first one exactly where there are some
pub none_first : (xs : List MapRefusal) → is_none (least_with None xs) ≡ is_empty xs
unfolding least_with
none_first [] = refl
none_first (x ∷ xs) = refl

-- both, for the tactics
pub ruleset least_with_laws = (least_with-nil, least_with-append)

-- what is made of one more of a list
pub flat_map-take_more : {A B : Type 0} (f : A → List B) (xs : List A) (i : ℕ) (x : A) → i < length xs → x ≡ get_or xs i x
    → flat_map f (take (i + 1) xs) ≡ flat_map f (take i xs) ++ f x
flat_map-take_more f xs i x below is =
    ap (flat_map f) (take_more xs i x below) ∙ ap (λ y. flat_map f (take i xs ++ y ∷ [])) (sym is)
    ∙ sym (flat_map_more f [] (take i xs) x)

-- one more of a list, of which each is taken in
pub each_more : {A : Type 0} (f : A → List MapRefusal) (xs : List A) (i : ℕ) (x : A) (h0 h1 h2 : Option MapRefusal)
    → i < length xs → x ≡ get_or xs i x → h1 ≡ least_with h0 (flat_map f (take i xs)) → h2 ≡ least_with h1 (f x)
    → h2 ≡ least_with h0 (flat_map f (take (i + 1) xs))
each_more f xs i x h0 h1 h2 below is before step =
    step ∙ ap (λ h. least_with h (f x)) before ∙ least_with-append h0 (flat_map f (take i xs)) (f x)
    ∙ ap (least_with h0) (sym (flat_map-take_more f xs i x below is))

-- what is made of one more of a list, of which each is seen as something else
pub flat_map-map-take_more : {A B C : Type 0} (see : A → B) (f : B → List C) (xs : List A) (i : ℕ) (x : A) → i < length xs → x ≡ get_or xs i x
    → flat_map f (map see (take (i + 1) xs)) ≡ flat_map f (map see (take i xs)) ++ f (see x)
flat_map-map-take_more see f xs i x below is =
    ap (λ ys. flat_map f (map see ys)) (take_more xs i x below ∙ ap (λ y. take i xs ++ y ∷ []) (sym is))
    ∙ ap (flat_map f) (map-append see (take i xs) (x ∷ []))
    ∙ sym (flat_map_more f [] (map see (take i xs)) (see x))

-- the same of a list, of which each is seen as something else and taken in
pub each_seen_more : {A B : Type 0} (see : A → B) (f : B → List MapRefusal) (xs : List A) (i : ℕ) (x : A) (h0 h1 h2 : Option MapRefusal)
    → i < length xs → x ≡ get_or xs i x → h1 ≡ least_with h0 (flat_map f (map see (take i xs))) → h2 ≡ least_with h1 (f (see x))
    → h2 ≡ least_with h0 (flat_map f (map see (take (i + 1) xs)))
each_seen_more see f xs i x h0 h1 h2 below is before step =
    step ∙ ap (λ h. least_with h (f (see x))) before ∙ least_with-append h0 (flat_map f (map see (take i xs))) (f (see x))
    ∙ ap (least_with h0) (sym (flat_map-map-take_more see f xs i x below is))
