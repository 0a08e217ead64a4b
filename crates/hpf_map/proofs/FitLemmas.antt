-- Where no statement has a breach the subscripts of each ALIGN are there, and fit.
use Rattle.std.proofs.Common.{◌≡◌, ℕ, zero, suc, ◌+◌, ◌-◌, ◌≤◌, Bool, true, false, cond, not, ◌&&◌, ◌||◌, List, [], ◌∷◌, ◌++◌, length, map, drop, All, Option, Some, None, ℤ, pos, refl, sym, ap, subst, ◌∙◌, arith, length-append, length-drop}
use Rattle.std.specs.Prelude.{IfSome, option_and_then, option_map, slice_get, is_some, is_none}
use Rattle.std.specs.Cmp.{eq_by_cmp_equiv, Equal-is}
use Rattle.std.specs.Cmp.Derive.{both_true}
use Rattle.std.specs.Cmp.Lexicographic.{slice_cmp, nat_list_cmp_total}
use Rattle.std.specs.FinSet.{slice_cmp-IsAntisymmetric, nat_cmp-IsAntisymmetric}
use Rattle.std.specs.List.{AllZip, flat_map, list_any}
use Rattle.std.specs.Option.{option_or}
use Rattle.std.specs.Ordering.{nat_cmp, is_eq}
use Rattle.std.proofs.lemmas.List.Elements.{All-nil, All-cons}
use Rattle.std.proofs.lemmas.List.Folds.{list_any-append}
use Rattle.hpf_syntax.specs.declared.tree.At.{At}
use Rattle.hpf_syntax.specs.declared.tree.SourceItem.{SourceItem}
use Rattle.hpf_syntax.specs.declared.tree.Spot.{Spot}
use Rattle.hpf_syntax.specs.Plain.{Tree, Number, Name, Neg, Plus, Minus, Times, SubTree, AnyPlace, OnePlace, Triplet, ItemTree, Align}
use Rattle.hpf_map.specs.declared.constraint.Constraint.TheVariants.{Limit, DummyTwice, NotLinear}
use Rattle.hpf_map.specs.declared.name.Name as name
use Rattle.hpf_map.specs.declared.role.Role.TheVariants as role
use Rattle.hpf_map.specs.declared.subscript.Linear.{Linear}
use Rattle.hpf_map.specs.declared.subscript.Subscript.{Subscript}
use Rattle.hpf_map.specs.declared.subscript.Subscript.TheVariants as subscript
use Rattle.hpf_map.specs.declared.values.Operator.{Operator}
use Rattle.hpf_map.specs.declared.values.Operator.TheVariants as operator
use Rattle.hpf_map.specs.Constraint.{breach_if, breaches_at}
use Rattle.hpf_map.specs.Declarations.{threaded, names_after, declaration_breaches}
use Rattle.hpf_map.specs.Dummies.{dummy_at, dummies_in, maybe_dummies_in, subscript_dummies, surplus_dummies, linear_breaches, stands_among, seen_breaches, stands_in, subscript_dummy_breaches}
use Rattle.hpf_map.specs.Expressions.{subscript_name_breaches, align_expression_breaches, directive_breaches}
use Rattle.hpf_map.specs.Gathered.{all_of}
use Rattle.hpf_map.specs.Known.{known}
use Rattle.hpf_map.specs.Layers.{ordered_breaches, breaches_in}
use Rattle.hpf_map.specs.Linear.{constant_form, dummy_form, is_ranged, ranged_form, negated_form, form_operation, have_dummies, combined_forms, form_leaves, word_form, form, form_breaches}
use Rattle.hpf_map.specs.Paired.{at_place}
use Rattle.hpf_map.specs.Sound.{IsInRange}
use Rattle.hpf_map.specs.Subscripts.{constant_of, linear_subscript, triplet_of, part, subscript_of, maybe_form_breaches, subscript_form_breaches, is_empty, dummy_breaches, said as told, subscripts_of, forms_breaches, statement_subscripts, all_subscripts}
use Rattle.hpf_map.specs.Uses.{use_breaches, name_breaches, maybe_name_breaches, subscript_breaches, dummies}
use Rattle.hpf_map.specs.Values.{in_range, ranged, word_value}
use Rattle.hpf_map.proofs.EmptyLemmas.{first_empty, others_empty, breach_if_none}
use Rattle.hpf_map.specs.Fit.{IsFit, AreFit}
use Rattle.hpf_map.proofs.FreeLemmas.{HasValue, IsUsable, IsReady, usable_names, item_ready, negated_in, number_there, word_there}
use Rattle.hpf_map.proofs.SoundLemmas.{first_true, second_true, one_in}

-- ---- words among others

or_right : (a b : Bool) → b ≡ true → (a || b) ≡ true
or_right true b h = refl
or_right false b h = h

any_first : {A : Type 0} (p : A → Bool) (xs ys : List A) → list_any p xs ≡ true → list_any p (xs ++ ys) ≡ true
any_first p xs ys h = list_any-append p xs ys ∙ ap (λ b. b || list_any p ys) h

any_others : {A : Type 0} (p : A → Bool) (xs ys : List A) → list_any p ys ≡ true → list_any p (xs ++ ys) ≡ true
any_others p xs ys h = list_any-append p xs ys ∙ or_right (list_any p xs) (list_any p ys) h

word_itself : (word : List ℕ) → is_eq (slice_cmp nat_cmp word word) ≡ true
word_itself word = (eq_by_cmp_equiv nat_list_cmp_total).refl word

words_same : (word other : List ℕ) → is_eq (slice_cmp nat_cmp word other) ≡ true → word ≡ other
words_same word other h = slice_cmp-IsAntisymmetric nat_cmp-IsAntisymmetric word other ((Equal-is (slice_cmp nat_cmp word other)).0 h)

some_among : (spots : List Spot) (word : List ℕ) → stands_among spots word ≡ true → 1 ≤ length spots
some_among [] word h = absurd cc
some_among (spot ∷ spots) word h = omega arith

-- a dummy of a directive that is one of these
abbrev IsAmong : (List ℕ → Bool) → List Spot → List ℕ → Type 0
IsAmong hides spots word = (hides word ≡ true) × (stands_among spots word ≡ true)

-- ---- forms

-- a form whose numbers are in range, and whose dummy is one of these
record IsForm (hides : List ℕ → Bool) (spots : List Spot) (f : Linear) : Type 0 where
  coefficient : IsInRange f.coefficient
  constant : IsInRange f.constant
  dummy : IfSome f.dummy (IsAmong hides spots)

abbrev HasForm : (List ℕ → Bool) → List Spot → Option Linear → Type 0
HasForm hides spots None = ⊥
HasForm hides spots (Some f) = IsForm hides spots f

zero_in : IsInRange (pos 0)
unfolding in_range
zero_in = refl

constant_has : (hides : List ℕ → Bool) (spots : List Spot) (o : Option ℤ) → HasValue o → HasForm hides spots (option_map constant_form o)
constant_has hides spots None h = absurd h
constant_has hides spots (Some v) h = record { coefficient = zero_in; constant = h; dummy = tt }

word_has : (before : List name.Name) → All IsUsable before → (hides : List ℕ → Bool) (at : At) (word : List ℕ)
    → cond (hides word) [] (use_breaches role.Value at (known before word)) ≡ [] → HasForm hides (dummy_at hides at word) (word_form before hides word)
word_has before h hides at word none = by (hides word) refl none where
  by : (b : Bool) → hides word ≡ b → cond b [] (use_breaches role.Value at (known before word)) ≡ []
      → HasForm hides (cond b (record { word = word; at = at } ∷ []) []) (cond b (Some (dummy_form word)) (option_map constant_form (word_value before word)))
  by true is empty = record { coefficient = one_in; constant = zero_in; dummy = (is, ap (λ b. b || false) (word_itself word)) }
  by false is empty = constant_has hides [] (word_value before word) (word_there before h word at empty)

ranged_has : (hides : List ℕ → Bool) (spots : List Spot) (f : Linear) (at : At) → IfSome f.dummy (IsAmong hides spots)
    → breach_if (not (is_ranged f)) Limit at ≡ [] → HasForm hides spots (ranged_form f)
ranged_has hides spots f at among none = by (is_ranged f) refl none where
  by : (b : Bool) → is_ranged f ≡ b → breach_if (not b) Limit at ≡ [] → HasForm hides spots (cond b (Some f) None)
  by true is empty = record {
    coefficient = first_true (in_range f.coefficient) (in_range f.constant) is;
    constant = second_true (in_range f.coefficient) (in_range f.constant) is;
    dummy = among;
  }
  by false is empty = absurd cc

negated_has : (hides : List ℕ → Bool) (spots : List Spot) (o : Option Linear) → HasForm hides spots o → HasForm hides spots (option_and_then (λ f. ranged_form (negated_form f)) o)
negated_has hides spots None h = absurd h
negated_has hides spots (Some f) h =
    let a : in_range (negated_form f).coefficient ≡ true = negated_in f.coefficient h.coefficient in
    let b : in_range (negated_form f).constant ≡ true = negated_in f.constant h.constant in
    let ranged : is_ranged (negated_form f) ≡ true = both_true a b in
    subst (λ c. HasForm hides spots (cond c (Some (negated_form f)) None)) (sym ranged) (record { coefficient = a; constant = b; dummy = h.dummy })

-- of two operands of an expression with one dummy at most only one has a dummy
one_dummy : (hides : List ℕ → Bool) (spots others : List Spot) (d e : Option (List ℕ)) → IfSome d (IsAmong hides spots) → IfSome e (IsAmong hides others)
    → length spots + length others ≤ 1 → (is_some d && is_some e) ≡ false
one_dummy hides spots others None e p q few = refl
one_dummy hides spots others (Some v) None p q few = refl
one_dummy hides spots others (Some v) (Some w) p q few =
    let first : 1 ≤ length spots = some_among spots v p.1 in
    let second : 1 ≤ length others = some_among others w q.1 in
    absurd (omega arith)

either_among : (hides : List ℕ → Bool) (spots others : List Spot) (d e : Option (List ℕ)) → IfSome d (IsAmong hides spots) → IfSome e (IsAmong hides others)
    → IfSome (option_or d e) (IsAmong hides (spots ++ others))
either_among hides spots others None None p q = tt
either_among hides spots others None (Some w) p q = (q.0, any_others (λ spot. is_eq (slice_cmp nat_cmp w spot.word)) spots others q.1)
either_among hides spots others (Some v) e p q = (p.0, any_first (λ spot. is_eq (slice_cmp nat_cmp v spot.word)) spots others p.1)

operation_dummy : (op : Operator) (f g : Linear) → (form_operation op f g).dummy ≡ option_or f.dummy g.dummy
operation_dummy operator.Plus f g = refl
operation_dummy operator.Minus f g = refl
operation_dummy operator.Times f g = refl

combined_has : (hides : List ℕ → Bool) (op : Operator) (spots others : List Spot) (o p : Option Linear) (at : At) → HasForm hides spots o → HasForm hides others p
    → length spots + length others ≤ 1 → breach_if (form_leaves op o p) Limit at ≡ [] → HasForm hides (spots ++ others) (combined_forms op o p)
combined_has hides op spots others None p at h k few none = absurd h
combined_has hides op spots others (Some f) None at h k few none = absurd k
combined_has hides op spots others (Some f) (Some g) at h k few none =
    by (have_dummies f g) (one_dummy hides spots others f.dummy g.dummy h.dummy k.dummy few) none where
      among : IfSome (form_operation op f g).dummy (IsAmong hides (spots ++ others))
      among = subst (λ d. IfSome d (IsAmong hides (spots ++ others))) (sym (operation_dummy op f g)) (either_among hides spots others f.dummy g.dummy h.dummy k.dummy)

      by : (b : Bool) → b ≡ false → breach_if (not b && not (is_ranged (form_operation op f g))) Limit at ≡ []
          → HasForm hides (spots ++ others) (cond b None (ranged_form (form_operation op f g)))
      by true e empty = absurd cc
      by false e empty = ranged_has hides (spots ++ others) (form_operation op f g) at among empty

few_each : (spots others : List Spot) → length (spots ++ others) ≤ 1 → length spots + length others ≤ 1
few_each spots others few = let both : length (spots ++ others) ≡ length spots + length others = length-append spots others in omega arith

form_has : (before : List name.Name) → All IsUsable before → (hides : List ℕ → Bool) (e : Tree) → name_breaches before hides e ≡ [] → form_breaches before hides e ≡ []
    → length (dummies_in hides e) ≤ 1 → HasForm hides (dummies_in hides e) (form before hides e)
unfolding name_breaches form_breaches dummies_in form
form_has before h hides (Number at n) names forms few = constant_has hides [] (ranged (pos n)) (number_there (pos n) at forms)
form_has before h hides (Name at word) names forms few = word_has before h hides at word names
form_has before h hides (Neg at e) names forms few = negated_has hides (dummies_in hides e) (form before hides e) (form_has before h hides e names forms few)
form_has before h hides (Plus at a b) names forms few =
    let each : length (dummies_in hides a) + length (dummies_in hides b) ≤ 1 = few_each (dummies_in hides a) (dummies_in hides b) few in
    combined_has hides operator.Plus (dummies_in hides a) (dummies_in hides b) (form before hides a) (form before hides b) at
    (form_has before h hides a (first_empty _ _ names) (first_empty _ _ (first_empty _ _ forms)) (omega arith))
    (form_has before h hides b (others_empty _ _ names) (others_empty _ _ (first_empty _ _ forms)) (omega arith))
    each (others_empty _ _ forms)
form_has before h hides (Minus at a b) names forms few =
    let each : length (dummies_in hides a) + length (dummies_in hides b) ≤ 1 = few_each (dummies_in hides a) (dummies_in hides b) few in
    combined_has hides operator.Minus (dummies_in hides a) (dummies_in hides b) (form before hides a) (form before hides b) at
    (form_has before h hides a (first_empty _ _ names) (first_empty _ _ (first_empty _ _ forms)) (omega arith))
    (form_has before h hides b (others_empty _ _ names) (others_empty _ _ (first_empty _ _ forms)) (omega arith))
    each (others_empty _ _ forms)
form_has before h hides (Times at a b) names forms few =
    let each : length (dummies_in hides a) + length (dummies_in hides b) ≤ 1 = few_each (dummies_in hides a) (dummies_in hides b) few in
    combined_has hides operator.Times (dummies_in hides a) (dummies_in hides b) (form before hides a) (form before hides b) at
    (form_has before h hides a (first_empty _ _ names) (first_empty _ _ (first_empty _ _ forms)) (omega arith))
    (form_has before h hides b (others_empty _ _ names) (others_empty _ _ (first_empty _ _ forms)) (omega arith))
    each (others_empty _ _ forms)

-- ---- one subscript

-- a subscript whose numbers are in range, and whose dummy is one of these
abbrev IsSaid : (List ℕ → Bool) → List Spot → Subscript → Type 0
IsSaid hides spots subscript.Any = Unit {0}
IsSaid hides spots (subscript.Linear dummy a b) = IsInRange a × IsInRange b × IfSome dummy (IsAmong hides spots)
IsSaid hides spots (subscript.Triplet low high step) = IfSome low IsInRange × IfSome high IsInRange × IfSome step IsInRange

abbrev HasSaid : (List ℕ → Bool) → List Spot → Option Subscript → Type 0
HasSaid hides spots None = ⊥
HasSaid hides spots (Some s) = IsSaid hides spots s

linear_has : (hides : List ℕ → Bool) (spots : List Spot) (o : Option Linear) → HasForm hides spots o → HasSaid hides spots (option_map linear_subscript o)
linear_has hides spots None h = absurd h
linear_has hides spots (Some f) h = (h.coefficient, h.constant, h.dummy)

-- a part of a triplet, which is in range if it is written
abbrev HasPart : Option (Option ℤ) → Type 0
HasPart None = ⊥
HasPart (Some v) = IfSome v IsInRange

constant_part : (hides : List ℕ → Bool) (spots : List Spot) (o : Option Linear) → spots ≡ [] → HasForm hides spots o → HasPart (option_map Some (option_and_then constant_of o))
constant_part hides spots None empty h = absurd h
constant_part hides spots (Some f) empty h = by f.dummy h.dummy where
  by : (d : Option (List ℕ)) → IfSome d (IsAmong hides spots) → HasPart (option_map Some (cond (is_none d) (Some f.constant) None))
  by None among = h.constant
  by (Some word) among = let none : stands_among [] word ≡ true = subst (λ s. stands_among s word ≡ true) empty among.1 in absurd cc

part_has : (before : List name.Name) → All IsUsable before → (hides : List ℕ → Bool) (o : Option Tree) → maybe_name_breaches before hides o ≡ []
    → maybe_form_breaches before hides o ≡ [] → maybe_dummies_in hides o ≡ [] → HasPart (part before hides o)
part_has before h hides None names forms none = tt
part_has before h hides (Some e) names forms none =
    let few : length (dummies_in hides e) ≤ 1 = subst (λ (s : List Spot). length s ≤ 1) (sym none) (omega arith) in
    constant_part hides (dummies_in hides e) (form before hides e) none (form_has before h hides e names forms few)

triplet_has : (hides : List ℕ → Bool) (spots : List Spot) (low high step : Option (Option ℤ)) → HasPart low → HasPart high → HasPart step → HasSaid hides spots (triplet_of low high step)
triplet_has hides spots None high step p q r = absurd p
triplet_has hides spots (Some low) None step p q r = absurd q
triplet_has hides spots (Some low) (Some high) None p q r = absurd r
triplet_has hides spots (Some low) (Some high) (Some step) p q r = (p, q, r)

no_spots : (spots : List Spot) → breaches_at NotLinear spots ≡ [] → length spots ≡ 0
no_spots [] none = refl
no_spots (spot ∷ spots) none = absurd cc

few_dummies : (n : ℕ) (spots : List Spot) → breaches_at NotLinear (drop n spots) ≡ [] → length spots ≤ n
few_dummies n spots none =
    let more : length (drop n spots) ≡ length spots - n = length-drop n spots in
    let no_more : length (drop n spots) ≡ 0 = no_spots (drop n spots) none in
    omega arith

no_length : (spots : List Spot) → length spots ≤ 0 → spots ≡ []
no_length [] h = refl
no_length (spot ∷ spots) h = absurd (omega arith)

subscript_has : (before : List name.Name) → All IsUsable before → (hides : List ℕ → Bool) (sub : SubTree) → subscript_breaches before hides sub ≡ []
    → subscript_form_breaches before hides sub ≡ [] → linear_breaches hides sub ≡ [] → HasSaid hides (subscript_dummies hides sub) (subscript_of before hides sub)
unfolding subscript_form_breaches surplus_dummies subscript_dummies subscript_of
subscript_has before h hides (AnyPlace at) names forms surplus = tt
subscript_has before h hides (OnePlace e) names forms surplus =
    linear_has hides (dummies_in hides e) (form before hides e) (form_has before h hides e names forms (few_dummies 1 (dummies_in hides e) surplus))
subscript_has before h hides (Triplet at low high step) names forms surplus =
    let spots : List Spot = maybe_dummies_in hides low ++ maybe_dummies_in hides high ++ maybe_dummies_in hides step in
    let empty : spots ≡ [] = no_length spots (few_dummies 0 spots surplus) in
    triplet_has hides spots (part before hides low) (part before hides high) (part before hides step)
    (part_has before h hides low (first_empty _ _ (first_empty _ _ names)) (first_empty _ _ (first_empty _ _ forms)) (first_empty _ _ (first_empty _ _ empty)))
    (part_has before h hides high (others_empty _ _ (first_empty _ _ names)) (others_empty _ _ (first_empty _ _ forms)) (others_empty _ _ (first_empty _ _ empty)))
    (part_has before h hides step (others_empty _ _ names) (others_empty _ _ forms) (others_empty _ _ empty))

-- ---- all subscripts

-- each as it is written
abbrev AreSaid : (List ℕ → Bool) → List SubTree → Option (List Subscript) → Type 0
AreSaid hides subs None = ⊥
AreSaid hides subs (Some said) = AllZip (λ sub s. IsSaid hides (subscript_dummies hides sub) s) subs said

one_more : (hides : List ℕ → Bool) (sub : SubTree) (subs : List SubTree) (s : Subscript) (o : Option (List Subscript)) → IsSaid hides (subscript_dummies hides sub) s
    → AreSaid hides subs o → AreSaid hides (sub ∷ subs) (option_map (λ others. s ∷ others) o)
one_more hides sub subs s None h k = absurd k
one_more hides sub subs s (Some said) h k = (h, k)

all_said : (before : List name.Name) → All IsUsable before → (hides : List ℕ → Bool) (subs : List SubTree) → flat_map (subscript_breaches before hides) subs ≡ []
    → flat_map (subscript_form_breaches before hides) subs ≡ [] → flat_map (linear_breaches hides) subs ≡ [] → AreSaid hides subs (all_of (map (subscript_of before hides) subs))
unfolding all_of
all_said before h hides [] names forms surplus = tt
all_said before h hides (sub ∷ subs) names forms surplus =
    one (subscript_of before hides sub)
    (subscript_has before h hides sub (first_empty _ _ names) (first_empty _ _ forms) (first_empty _ _ surplus))
    (all_said before h hides subs (others_empty _ _ names) (others_empty _ _ forms) (others_empty _ _ surplus)) where
      one : (o : Option Subscript) → HasSaid hides (subscript_dummies hides sub) o → AreSaid hides subs (all_of (map (subscript_of before hides) subs))
          → AreSaid hides (sub ∷ subs) (all_of (o ∷ map (subscript_of before hides) subs))
      one None p q = absurd p
      one (Some s) p q = one_more hides sub subs s (all_of (map (subscript_of before hides) subs)) p q

said_length : (hides : List ℕ → Bool) (subs : List SubTree) (said : List Subscript) → AreSaid hides subs (Some said) → length said ≡ length subs
said_length hides [] [] h = refl
said_length hides [] (s ∷ said) h = absurd h
said_length hides (sub ∷ subs) [] h = absurd h
said_length hides (sub ∷ subs) (s ∷ said) h = ap suc (said_length hides subs said h.1)

dummy_fits : (sources : Option (List SourceItem)) (spots : List Spot) (d : Option (List ℕ)) → IfSome d (IsAmong (dummies sources) spots) → IfSome d (λ word. dummies sources word ≡ true)
dummy_fits sources spots None h = tt
dummy_fits sources spots (Some word) h = h.0

said_fits : (sources : Option (List SourceItem)) (spots : List Spot) (s : Subscript) → IsSaid (dummies sources) spots s → IsFit sources s
said_fits sources spots subscript.Any h = tt
said_fits sources spots (subscript.Linear dummy a b) h = (h.0, h.1, dummy_fits sources spots dummy h.2)
said_fits sources spots (subscript.Triplet low high step) h = h

all_fit : (sources : Option (List SourceItem)) (subs : List SubTree) (said : List Subscript) → AreSaid (dummies sources) subs (Some said) → All (IsFit sources) said
all_fit sources [] [] h = All-nil (IsFit sources)
all_fit sources [] (s ∷ said) h = absurd h
all_fit sources (sub ∷ subs) [] h = absurd h
all_fit sources (sub ∷ subs) (s ∷ said) h =
    All-cons (IsFit sources) s said (said_fits sources (subscript_dummies (dummies sources) sub) s h.0) (all_fit sources subs said h.1)

-- ---- no dummy in two subscripts

seen_not : (seen : List ℕ → Bool) (spots : List Spot) → seen_breaches seen spots ≡ [] → (word : List ℕ) → stands_among spots word ≡ true → seen word ≡ true → ⊥
seen_not seen [] none word among h = absurd cc
seen_not seen (spot ∷ spots) none word among h =
    by (is_eq (slice_cmp nat_cmp word spot.word)) refl among (seen_not seen spots (others_empty _ _ none) word) where
      by : (b : Bool) → is_eq (slice_cmp nat_cmp word spot.word) ≡ b → (b || stands_among spots word) ≡ true → (stands_among spots word ≡ true → seen word ≡ true → ⊥) → ⊥
      by true is here later =
          let same : word ≡ spot.word = words_same word spot.word is in
          let unseen : seen spot.word ≡ false = breach_if_none (seen spot.word) DummyTwice spot.at (first_empty _ _ none) in
          absurd cc
      by false is here later = later here h

-- lists in which no word stands in one and was seen before
abbrev ArePart : {A : Type 0} → (A → List Spot) → List A → List A → Type 0
ArePart dummies_of earlier xs = threaded (λ others x. others ++ x ∷ []) (λ others x. seen_breaches (stands_in dummies_of others) (dummies_of x)) earlier xs ≡ []

parted_later : {A : Type 0} (dummies_of : A → List Spot) (earlier xs : List A) → ArePart dummies_of earlier xs → (f : ℕ) (y : A) (word : List ℕ) → slice_get xs f ≡ Some y
    → stands_in dummies_of earlier word ≡ true → stands_among (dummies_of y) word ≡ true → ⊥
parted_later dummies_of earlier [] none f y word is seen among = absurd cc
parted_later dummies_of earlier (x ∷ xs) none zero y word is seen among =
    let same : y ≡ x = cc in
    seen_not (stands_in dummies_of earlier) (dummies_of x) (first_empty _ _ none) word (subst (λ z. stands_among (dummies_of z) word ≡ true) same among) seen
parted_later dummies_of earlier (x ∷ xs) none (suc f) y word is seen among =
    parted_later dummies_of (earlier ++ x ∷ []) xs (others_empty _ _ none) f y word is (any_first (λ z. stands_among (dummies_of z) word) earlier (x ∷ []) seen) among

-- a word of one is seen before those behind it
seen_behind : {A : Type 0} (dummies_of : A → List Spot) (earlier : List A) (x y : A) (word : List ℕ) → x ≡ y → stands_among (dummies_of y) word ≡ true
    → stands_in dummies_of (earlier ++ x ∷ []) word ≡ true
seen_behind dummies_of earlier x y word same among =
    any_others (λ z. stands_among (dummies_of z) word) earlier (x ∷ []) (ap (λ z. stands_among (dummies_of z) word || false) same ∙ ap (λ b. b || false) among)

parted : {A : Type 0} (dummies_of : A → List Spot) (earlier xs : List A) → ArePart dummies_of earlier xs → (e f : ℕ) (x y : A) (word : List ℕ) → slice_get xs e ≡ Some x → slice_get xs f ≡ Some y
    → stands_among (dummies_of x) word ≡ true → stands_among (dummies_of y) word ≡ true → e ≡ f
parted dummies_of earlier [] none e f x y word p q first second = absurd cc
parted dummies_of earlier (z ∷ xs) none zero zero x y word p q first second = refl
parted dummies_of earlier (z ∷ xs) none zero (suc f) x y word p q first second =
    let same : z ≡ x = cc in
    absurd (parted_later dummies_of (earlier ++ z ∷ []) xs (others_empty _ _ none) f y word q (seen_behind dummies_of earlier z x word same first) second)
parted dummies_of earlier (z ∷ xs) none (suc e) zero x y word p q first second =
    let same : z ≡ y = cc in
    absurd (parted_later dummies_of (earlier ++ z ∷ []) xs (others_empty _ _ none) e x word p (seen_behind dummies_of earlier z y word same second) first)
parted dummies_of earlier (z ∷ xs) none (suc e) (suc f) x y word p q first second =
    ap suc (parted dummies_of (earlier ++ z ∷ []) xs (others_empty _ _ none) e f x y word p q first second)

-- a subscript with a dummy, and where it is written
said_dummy : (hides : List ℕ → Bool) (subs : List SubTree) (said : List Subscript) → AreSaid hides subs (Some said) → (e : ℕ) (word : List ℕ) (a b : ℤ)
    → slice_get said e ≡ Some (subscript.Linear (Some word) a b) → (sub : SubTree) × (slice_get subs e ≡ Some sub) × (stands_among (subscript_dummies hides sub) word ≡ true)
said_dummy hides [] [] h e word a b is = absurd cc
said_dummy hides [] (s ∷ said) h e word a b is = absurd h
said_dummy hides (sub ∷ subs) [] h e word a b is = absurd h
said_dummy hides (sub ∷ subs) (s ∷ said) h zero word a b is =
    let same : s ≡ subscript.Linear (Some word) a b = cc in
    let here : IsSaid hides (subscript_dummies hides sub) (subscript.Linear (Some word) a b) = subst (IsSaid hides (subscript_dummies hides sub)) same h.0 in
    (sub, refl, here.2.1)
said_dummy hides (sub ∷ subs) (s ∷ said) h (suc e) word a b is = said_dummy hides subs said h.1 e word a b is

all_apart : (hides : List ℕ → Bool) (subs : List SubTree) (said : List Subscript) → AreSaid hides subs (Some said) → ArePart (subscript_dummies hides) [] subs
    → (e f : ℕ) (word : List ℕ) (a b c d : ℤ) → slice_get said e ≡ Some (subscript.Linear (Some word) a b) → slice_get said f ≡ Some (subscript.Linear (Some word) c d) → e ≡ f
all_apart hides subs said h none e f word a b c d p q =
    let one = said_dummy hides subs said h e word a b p in
    let two = said_dummy hides subs said h f word c d q in
    parted (subscript_dummies hides) [] subs none e f one.0 two.0 word one.1 two.1 one.2 two.2

-- ---- statements

-- as many as are written, if any are
abbrev pub Counted : Option (List SubTree) → List Subscript → Type 0
Counted subs said = IfSome subs (λ written. length said ≡ length written)

subscripts_said : (before : List name.Name) → All IsUsable before → (sources : Option (List SourceItem)) (subs : Option (List SubTree)) → subscript_name_breaches before (dummies sources) subs ≡ []
    → forms_breaches before (dummies sources) subs ≡ [] → subscript_dummy_breaches (dummies sources) subs ≡ []
    → (said : List Subscript) × (told before (dummies sources) subs ≡ Some said) × AreFit sources said × Counted subs said
subscripts_said before h sources None names forms surplus = ([], refl, record { each = All-nil (IsFit sources); apart = λ e f word a b c d p q. absurd cc }, tt)
subscripts_said before h sources (Some written) names forms surplus =
    some (all_of (map (subscript_of before (dummies sources)) written)) refl (all_said before h (dummies sources) written names forms (others_empty _ _ surplus)) where
      some : (o : Option (List Subscript)) → all_of (map (subscript_of before (dummies sources)) written) ≡ o → AreSaid (dummies sources) written o
          → (said : List Subscript) × (all_of (map (subscript_of before (dummies sources)) written) ≡ Some said) × AreFit sources said × Counted (Some written) said
      some None is k = absurd k
      some (Some said) is k = (
        said,
        is,
        record { each = all_fit sources written said k; apart = all_apart (dummies sources) written said k (first_empty _ _ surplus) },
        said_length (dummies sources) written said k,
      )

align_said : (before : List name.Name) → All IsUsable before → (sources : Option (List SourceItem)) (subs : Option (List SubTree)) → align_expression_breaches before (dummies sources) sources subs ≡ []
    → (said : List Subscript) × (subscripts_of before (dummies sources) sources subs ≡ Some said) × AreFit sources said × Counted subs said
unfolding align_expression_breaches subscripts_of
align_said before h sources subs none =
    let apart : dummy_breaches (dummies sources) sources subs ≡ [] = others_empty _ _ none in
    let r = subscripts_said before h sources subs (first_empty _ _ (first_empty _ _ none)) (others_empty _ _ (first_empty _ _ none)) (others_empty _ _ apart) in
    (r.0, ap (λ b. cond b (told before (dummies sources) subs) None) (ap is_empty apart) ∙ r.1, r.2, r.3)

item_said : (before : List name.Name) → All IsUsable before → (item : ItemTree) (alignees : List Spot) (sources : Option (List SourceItem)) (base : Spot) (subs : Option (List SubTree))
    → item ≡ Align alignees sources base subs → ordered_breaches before item ≡ [] → (said : List Subscript) × (statement_subscripts before item ≡ Some said) × AreFit sources said × Counted subs said
unfolding ordered_breaches directive_breaches
item_said before h item alignees sources base subs is none =
    subst (λ i. directive_breaches before i ≡ [] → (said : List Subscript) × (statement_subscripts before i ≡ Some said) × AreFit sources said × Counted subs said) (sym is)
    (align_said before h sources subs) (first_empty (directive_breaches before item) (declaration_breaches before item) none)

said_at : (items : List ItemTree) (before : List name.Name) → All IsReady before → threaded names_after ordered_breaches before items ≡ [] → (k : ℕ) (alignees : List Spot)
    (sources : Option (List SourceItem)) (base : Spot) (subs : Option (List SubTree)) → slice_get items k ≡ Some (Align alignees sources base subs)
    → (said : List Subscript) × (at_place k (threaded names_after (λ names item. statement_subscripts names item ∷ []) before items) ≡ Some said) × AreFit sources said × Counted subs said
said_at [] before h none k alignees sources base subs is = absurd cc
said_at (item ∷ items) before h none zero alignees sources base subs is =
    item_said before (usable_names before h) item alignees sources base subs (cc) (first_empty _ _ none)
said_at (item ∷ items) before h none (suc k) alignees sources base subs is =
    said_at items (names_after before item) (item_ready before item h (first_empty _ _ none)) (others_empty _ _ none) k alignees sources base subs is

pub said_fit : (items : List ItemTree) (k : ℕ) (alignees : List Spot) (sources : Option (List SourceItem)) (base : Spot) (subs : Option (List SubTree)) → breaches_in items ≡ []
    → slice_get items k ≡ Some (Align alignees sources base subs)
    → (said : List Subscript) × (at_place k (all_subscripts items) ≡ Some said) × AreFit sources said × Counted subs said
unfolding breaches_in all_subscripts
said_fit items k alignees sources base subs none is = said_at items [] (All-nil IsReady) (first_empty _ _ none) k alignees sources base subs is

pub said_there : (items : List ItemTree) (k : ℕ) (alignees : List Spot) (sources : Option (List SourceItem)) (base : Spot) (subs : Option (List SubTree)) → breaches_in items ≡ []
    → slice_get items k ≡ Some (Align alignees sources base subs) → is_some (at_place k (all_subscripts items)) ≡ true
said_there items k alignees sources base subs none is = let r = said_fit items k alignees sources base subs none is in ap is_some r.1
