-- Where no statement has a breach each name is free, and what it holds is there.
use Rattle.std.proofs.Common.{◌≡◌, ◌==◌, ℕ, ◌-◌, ◌≤◌, Bool, true, false, cond, not, ◌&&◌, ◌||◌, List, [], ◌∷◌, ◌++◌, length, map, drop, All, Option, Some, None, ℤ, pos, neg_ℤ, refl, sym, ap, subst, ◌∙◌, arith, length-drop}
use Rattle.std.specs.Prelude.{IfSome, option_and_then, option_map, fold, int_lt, int_le, nat_lt, nat_le, is_some}
use Rattle.std.specs.Cmp.Derive.{both_true}
use Rattle.std.specs.List.{flat_map}
use Rattle.std.proofs.lemmas.Int.{ints}
use Rattle.std.proofs.lemmas.Bool.Decides.{nat_tests}
use Rattle.std.proofs.lemmas.List.Elements.{All-nil, All-push, All-weaker}
use Rattle.hpf_syntax.specs.declared.tree.At.{At}
use Rattle.hpf_syntax.specs.declared.tree.Spot.{Spot}
use Rattle.hpf_syntax.specs.Plain.{Tree, Number, Name, Neg, Plus, Minus, Times, BoundTree, DeclaredTree, ValueTree, One, Many, ConstantTree, ItemTree, ImplicitNone, Variables, Constants, Processors, Template, Distribute, Align, Shadow, Input, Stage}
use Rattle.hpf_map.specs.declared.constraint.Constraint.TheVariants.{Twice, Kind, Rank, Empty, Limit}
use Rattle.hpf_map.specs.declared.given.Given.{Given}
use Rattle.hpf_map.specs.declared.given.Given.TheVariants as given
use Rattle.hpf_map.specs.declared.name.Dimensions.{Dimensions}
use Rattle.hpf_map.specs.declared.name.Meaning.{Meaning}
use Rattle.hpf_map.specs.declared.name.Meaning.TheVariants as meaning
use Rattle.hpf_map.specs.declared.name.Name as name
use Rattle.hpf_map.specs.declared.name.Space.{Space}
use Rattle.hpf_map.specs.declared.name.Space.TheVariants as space
use Rattle.hpf_map.specs.declared.name.Span.{Span}
use Rattle.hpf_map.specs.declared.role.Role.TheVariants as role
use Rattle.hpf_map.specs.declared.values.Operator.TheVariants as operator
use Rattle.hpf_map.specs.Constants.{given_of, value_breaches, breaks_rank, constant_meaning}
use Rattle.hpf_map.specs.Constraint.{breach, breach_if}
use Rattle.hpf_map.specs.Declarations.{threaded, naming_breaches, dimensions_of, chosen, meaning_with, shaped_name, inside, own_dimensions, declared_dimensions, with_declared, declared_breaches, constant_dimensions, has_wrong_rank, constant_name, with_constant, constant_breaches, no_dimensions, common_limit, names_after, declaration_breaches}
use Rattle.hpf_map.specs.Expressions.{directive_breaches}
use Rattle.hpf_map.specs.Gathered.{all_of}
use Rattle.hpf_map.specs.Known.{known, declare, is_full}
use Rattle.hpf_map.specs.Layers.{names_of, ordered_breaches, breaches_in}
use Rattle.hpf_map.specs.Shapes.{extent, extent_limit, max_extent, max_bounds, is_oversized, bound_place, order_breaches, span_within, both, found_order, low_value, span, bound_breaches, first_of_more, shape, shape_breaches}
use Rattle.hpf_map.specs.Sound.{IsInRange}
use Rattle.hpf_map.specs.Uses.{suits, use_breaches, name_breaches, nothing_hidden}
use Rattle.hpf_map.specs.Values.{greatest, in_range, ranged, operation, combined, leaves, constant_value, word_value, value, operator_breaches, expression_breaches, maybe_expression_breaches}
use Rattle.hpf_map.proofs.EmptyLemmas.{first_empty, others_empty, breach_if_none, threaded_keeps}
use Rattle.hpf_map.specs.Fit.{IsWhole, IsFree}
use Rattle.hpf_map.proofs.SoundLemmas.{found_all, first_true, second_true, one_in}

-- ---- what expressions may use

-- a value that is there, and in range
abbrev pub HasValue : Option ℤ → Type 0
HasValue None = ⊥
HasValue (Some v) = IsInRange v

-- a constant's value is there
abbrev pub HasConstant : Meaning → Type 0
HasConstant meaning.Scalar = Unit {0}
HasConstant (meaning.Shaped what dimensions) = Unit {0}
HasConstant (meaning.Constant value) = HasValue value
HasConstant (meaning.List values) = Unit {0}

-- a name that expressions may use, if it is a constant, though it may not have its shape yet
pub record IsUsable (n : name.Name) : Type 0 where
  pub free : n.free ≡ true
  pub constant : HasConstant n.meaning

is_there : (o : Option ℤ) → HasValue o → is_some o ≡ true
is_there None h = absurd h
is_there (Some v) h = refl

-- ---- values

pub negated_in : (v : ℤ) → IsInRange v → IsInRange (neg_ℤ v)
unfolding in_range
negated_in v h =
    let low : int_le (neg_ℤ (pos greatest)) v ≡ true = first_true (int_le (neg_ℤ (pos greatest)) v) (int_le v (pos greatest)) h in
    let high : int_le v (pos greatest) ≡ true = second_true (int_le (neg_ℤ (pos greatest)) v) (int_le v (pos greatest)) h in
    let above : int_le (neg_ℤ (pos greatest)) (neg_ℤ v) ≡ true = grind (arith, ints, high) in
    let below : int_le (neg_ℤ v) (pos greatest) ≡ true = grind (arith, ints, low) in
    both_true above below

pub number_there : (v : ℤ) (at : At) → breach_if (not (in_range v)) Limit at ≡ [] → HasValue (ranged v)
number_there v at none = by (in_range v) refl none where
  by : (b : Bool) → in_range v ≡ b → breach_if (not b) Limit at ≡ [] → HasValue (cond b (Some v) None)
  by true is e = is
  by false is e = absurd cc

ranged_there : (v : ℤ) → IsInRange v → HasValue (ranged v)
ranged_there v h = subst (λ b. HasValue (cond b (Some v) None)) (sym h) h

constant_there : (free : Bool) (m : Meaning) (at : At) → free ≡ true → HasConstant m → breach_if (free && not (suits role.Value m)) Kind at ≡ [] → HasValue (constant_value m)
constant_there false m at f h none = absurd cc
constant_there true meaning.Scalar at f h none = absurd cc
constant_there true (meaning.Shaped what dimensions) at f h none = absurd cc
constant_there true (meaning.Constant value) at f h none = h
constant_there true (meaning.List values) at f h none = absurd cc

found_there : (o : Option name.Name) (at : At) → IfSome o IsUsable → use_breaches role.Value at o ≡ [] → HasValue (option_and_then (λ n. constant_value n.meaning) o)
unfolding use_breaches
found_there None at h none = absurd cc
found_there (Some n) at h none = constant_there n.free n.meaning at h.free h.constant none

pub word_there : (before : List name.Name) → All IsUsable before → (word : List ℕ) (at : At) → use_breaches role.Value at (known before word) ≡ [] → HasValue (word_value before word)
word_there before h word at none = found_there (known before word) at (found_all IsUsable word before h) none

negated_there : (o : Option ℤ) → HasValue o → HasValue (option_and_then (λ v. ranged (neg_ℤ v)) o)
negated_there None h = absurd h
negated_there (Some v) h = ranged_there (neg_ℤ v) (negated_in v h)

combined_there : (op : ℤ → ℤ → ℤ) (a b : Option ℤ) (at : At) → HasValue a → HasValue b → breach_if (leaves op a b) Limit at ≡ [] → HasValue (combined op a b)
combined_there op None b at p q none = absurd p
combined_there op (Some a) None at p q none = absurd q
combined_there op (Some a) (Some b) at p q none = number_there (op a b) at none

value_there : (before : List name.Name) → All IsUsable before → (e : Tree) → name_breaches before nothing_hidden e ≡ [] → operator_breaches before e ≡ [] → HasValue (value before e)
unfolding value name_breaches operator_breaches
value_there before h (Number at n) names operators = number_there (pos n) at operators
value_there before h (Name at word) names operators = word_there before h word at names
value_there before h (Neg at e) names operators = negated_there (value before e) (value_there before h e names operators)
value_there before h (Plus at a b) names operators =
    combined_there (operation operator.Plus) (value before a) (value before b) at
    (value_there before h a (first_empty _ _ names) (first_empty _ _ (first_empty _ _ operators)))
    (value_there before h b (others_empty _ _ names) (others_empty _ _ (first_empty _ _ operators)))
    (others_empty _ _ operators)
value_there before h (Minus at a b) names operators =
    combined_there (operation operator.Minus) (value before a) (value before b) at
    (value_there before h a (first_empty _ _ names) (first_empty _ _ (first_empty _ _ operators)))
    (value_there before h b (others_empty _ _ names) (others_empty _ _ (first_empty _ _ operators)))
    (others_empty _ _ operators)
value_there before h (Times at a b) names operators =
    combined_there (operation operator.Times) (value before a) (value before b) at
    (value_there before h a (first_empty _ _ names) (first_empty _ _ (first_empty _ _ operators)))
    (value_there before h b (others_empty _ _ names) (others_empty _ _ (first_empty _ _ operators)))
    (others_empty _ _ operators)

pub expression_there : (before : List name.Name) → All IsUsable before → (e : Tree) → expression_breaches before e ≡ [] → HasValue (value before e)
unfolding expression_breaches
expression_there before h e none = value_there before h e (first_empty _ _ none) (others_empty _ _ none)

-- ---- shapes

low_there : (before : List name.Name) → All IsUsable before → (o : Option Tree) → maybe_expression_breaches before o ≡ [] → HasValue (low_value before o)
low_there before h None none = one_in
low_there before h (Some e) none = expression_there before h e none

within_there : (limit : ℕ) (at : At) (s : Span) → order_breaches limit at s ≡ [] → is_some (span_within limit s) ≡ true
within_there limit at s none = by (int_lt s.high s.low) (nat_lt limit (extent s)) none where
  by : (a b : Bool) → cond a (breach Empty at ∷ []) (breach_if b Limit at) ≡ [] → is_some (cond (a || b) None (Some s)) ≡ true
  by true b e = absurd cc
  by false true e = absurd cc
  by false false e = refl

both_there : (limit : ℕ) (at : At) (l h : Option ℤ) → HasValue l → HasValue h → found_order limit at (both l h) ≡ [] → is_some (option_and_then (span_within limit) (both l h)) ≡ true
both_there limit at None h p q none = absurd p
both_there limit at (Some l) None p q none = absurd q
both_there limit at (Some l) (Some h) p q none = within_there limit at (record { low = l; high = h }) none

span_there : (before : List name.Name) → All IsUsable before → (limit : ℕ) (b : BoundTree) → bound_breaches before limit b ≡ [] → is_some (span before limit b) ≡ true
unfolding span bound_breaches
span_there before h limit b none =
    both_there limit (bound_place b.low b.high) (low_value before b.low) (value before b.high)
    (low_there before h b.low (first_empty _ _ (first_empty _ _ none)))
    (expression_there before h b.high (others_empty _ _ (first_empty _ _ none)))
    (others_empty _ _ none)

mapped_there : {A B : Type 0} (g : A → B) (o : Option A) → is_some o ≡ true → is_some (option_map g o) ≡ true
mapped_there g None h = absurd cc
mapped_there g (Some x) h = refl

-- all values are there where each is
pub all_there : {A B C : Type 0} (give : A → List C) (f : A → Option B) → ((x : A) → give x ≡ [] → is_some (f x) ≡ true)
    → (xs : List A) → flat_map give xs ≡ [] → is_some (all_of (map f xs)) ≡ true
unfolding all_of
all_there give f there [] none = refl
all_there {B} give f there (x ∷ xs) none =
    one (f x) (there x (first_empty (give x) (flat_map give xs) none)) (all_there give f there xs (others_empty (give x) (flat_map give xs) none)) where
      one : (o : Option B) → is_some o ≡ true → is_some (all_of (map f xs)) ≡ true → is_some (all_of (o ∷ map f xs)) ≡ true
      one None p q = absurd cc
      one (Some y) p q = mapped_there (λ ys. y ∷ ys) (all_of (map f xs)) q

no_bounds : (bounds : List BoundTree) → first_of_more bounds ≡ [] → length bounds ≡ 0
no_bounds [] none = refl
no_bounds (b ∷ bounds) none = absurd cc

few_bounds : (n : ℕ) (bounds : List BoundTree) → first_of_more (drop n bounds) ≡ [] → length bounds ≤ n
few_bounds n bounds none =
    let more : length (drop n bounds) ≡ length bounds - n = length-drop n bounds in
    let no_more : length (drop n bounds) ≡ 0 = no_bounds (drop n bounds) none in
    omega arith

shape_there : (before : List name.Name) → All IsUsable before → (limit : ℕ) (bounds : List BoundTree) → shape_breaches before limit bounds ≡ [] → is_some (shape before limit bounds) ≡ true
unfolding shape shape_breaches
shape_there before h limit bounds none =
    let few : length bounds ≤ max_bounds = few_bounds max_bounds bounds (others_empty (flat_map (bound_breaches before limit) bounds) (first_of_more (drop max_bounds bounds)) none) in
    let test : nat_le (length bounds) max_bounds ≡ true = grind (arith, nat_tests) in
    ap (λ b. is_some (cond b (all_of (map (span before limit) bounds)) None)) test
    ∙ all_there (bound_breaches before limit) (span before limit) (span_there before h limit) bounds (first_empty _ _ none)

-- ---- names

-- a name without a breach, whose value expressions may use
pub record IsReady (n : name.Name) : Type 0 where
  pub fit : IsFree n
  pub constant : HasConstant n.meaning

pub usable_names : (names : List name.Name) → All IsReady names → All IsUsable names
usable_names names h = All-weaker IsReady IsUsable (λ n k. record { free = k.fit.free; constant = k.constant }) names h

not_full : (before : List name.Name) (name : Spot) → naming_breaches before name ≡ [] → is_full before ≡ false
unfolding naming_breaches
not_full before name none = by (is_some (known before name.word)) none where
  by : (b : Bool) → cond b (breach Twice name.at ∷ []) (breach_if (is_full before) Limit name.at) ≡ [] → is_full before ≡ false
  by true e = absurd cc
  by false e = breach_if_none (is_full before) Limit name.at e

neither : (a b : Bool) → a ≡ false → b ≡ false → not (a || b) ≡ true
neither true b p q = absurd cc
neither false b p q = ap not q

declare_ready : (names : List name.Name) (n : name.Name) → All IsReady names → IsReady n → All IsReady (declare names n)
unfolding declare
declare_ready names n h k = by (is_some (known names n.word)) where
  by : (b : Bool) → All IsReady (cond b names (names ++ n ∷ []))
  by true = h
  by false = All-push IsReady names n h k

-- ---- variables, templates and arrangements

meaning_whole : (what : Space) (count : ℕ) (o : Option (List Span)) → is_some o ≡ true → IsWhole (meaning_with what count o)
meaning_whole what count o some = by (count == 0) where
  by : (b : Bool) → IsWhole (cond b meaning.Scalar (meaning.Shaped what (record { count = count; shape = o })))
  by true = tt
  by false = some

meaning_usable : (what : Space) (count : ℕ) (o : Option (List Span)) → HasConstant (meaning_with what count o)
meaning_usable what count o = by (count == 0) where
  by : (b : Bool) → HasConstant (cond b meaning.Scalar (meaning.Shaped what (record { count = count; shape = o })))
  by true = tt
  by false = tt

shaped_usable : (what : Space) (d : Dimensions) (before : List name.Name) (word : List ℕ) → is_full before ≡ false → is_oversized what d.shape ≡ false
    → IsUsable (shaped_name what d before word)
unfolding shaped_name
shaped_usable what d before word full large = record {
  free = neither (is_full before) (is_oversized what d.shape) full large;
  constant = meaning_usable what d.count _;
}

shaped_ready : (what : Space) (d : Dimensions) (before : List name.Name) (word : List ℕ) → is_full before ≡ false → is_oversized what d.shape ≡ false
    → is_some d.shape ≡ true → IsReady (shaped_name what d before word)
unfolding shaped_name
shaped_ready what d before word full large some =
    let free : not (is_full before || is_oversized what d.shape) ≡ true = neither (is_full before) (is_oversized what d.shape) full large in
    record {
      fit = record {
        free = free;
        whole = meaning_whole what d.count _ (ap (λ b. is_some (cond b d.shape None)) free ∙ some);
      };
      constant = meaning_usable what d.count _;
    }

-- the names inside the bounds of a name
inside_usable : (what : Space) (before : List name.Name) (d : DeclaredTree) → All IsReady before → is_full before ≡ false → All IsUsable (inside what before d)
inside_usable what before d h full =
    All-push IsUsable before _ (usable_names before h) (shaped_usable what (record { count = length d.shape; shape = None }) before d.name.word full refl)

chosen_there : (common own : Dimensions) → is_some common.shape ≡ true → is_some own.shape ≡ true → is_some (chosen common own).shape ≡ true
chosen_there common own p q = by (own.count == 0) where
  by : (b : Bool) → is_some (cond b common own).shape ≡ true
  by true = p
  by false = q

with_declared_ready : (what : Space) (common : Dimensions) → is_some common.shape ≡ true → (before : List name.Name) (d : DeclaredTree)
    → All IsReady before → declared_breaches what common before d ≡ [] → All IsReady (with_declared what common before d)
unfolding declared_breaches with_declared declared_dimensions
with_declared_ready what common some before d h none =
    let full : is_full before ≡ false = not_full before d.name (first_empty _ _ (first_empty _ _ none)) in
    let own : is_some (own_dimensions what before d).shape ≡ true = shape_there (inside what before d) (inside_usable what before d h full) (extent_limit what) d.shape (others_empty _ _ (first_empty _ _ none)) in
    let large : is_oversized what (declared_dimensions what common before d).shape ≡ false = breach_if_none _ Limit d.name.at (others_empty _ _ none) in
    declare_ready before _ h
    (shaped_ready what (declared_dimensions what common before d) before d.name.word full large
    (chosen_there common (own_dimensions what before d) some own))

-- ---- named constants

abbrev HasGiven : Given → Type 0
HasGiven (given.One value) = HasValue value
HasGiven (given.Many values) = is_some values ≡ true

given_there : (before : List name.Name) → All IsUsable before → (v : ValueTree) → value_breaches before v ≡ [] → HasGiven (given_of before v)
unfolding value_breaches
given_there before h (One e) none = expression_there before h e none
given_there before h (Many es) none =
    all_there (expression_breaches before) (value before) (λ e k. is_there (value before e) (expression_there before h e k)) es none

record IsGiven (m : Meaning) : Type 0 where
  whole : IsWhole m
  constant : HasConstant m

meaning_given : (has_shape : Bool) (bounds : Option (List Span)) (what : Given) → is_some bounds ≡ true → HasGiven what → breaks_rank has_shape bounds what ≡ false
    → IsGiven (constant_meaning has_shape true bounds what)
meaning_given false bounds (given.One value) some h right = record { whole = is_there value h; constant = h }
meaning_given false bounds (given.Many values) some h right = absurd cc
meaning_given true None what some h right = absurd cc
meaning_given true (Some spans) (given.One value) some h right = absurd cc
meaning_given true (Some spans) (given.Many values) some h right = record { whole = h; constant = tt }

constant_ready : (common : Dimensions) (before : List name.Name) (d : ConstantTree) → is_full before ≡ false → has_wrong_rank common before d ≡ false
    → is_some (constant_dimensions common before d).shape ≡ true → HasGiven (given_of before d.value) → IsReady (constant_name common before d)
unfolding constant_name has_wrong_rank
constant_ready common before d full right some there =
    let has_shape : Bool = not ((constant_dimensions common before d).count == 0) in
    let free : not (is_full before || has_wrong_rank common before d) ≡ true = neither (is_full before) (has_wrong_rank common before d) full right in
    let bounds : Option (List Span) = (constant_dimensions common before d).shape in
    let whole : IsGiven (constant_meaning has_shape true bounds (given_of before d.value)) =
    meaning_given has_shape bounds (given_of before d.value) some there right in
    let is : IsGiven (constant_meaning has_shape (not (is_full before || has_wrong_rank common before d)) bounds (given_of before d.value)) =
    subst (λ b. IsGiven (constant_meaning has_shape b bounds (given_of before d.value))) (sym free) whole in
    record { fit = record { free = free; whole = is.whole }; constant = is.constant }

with_constant_ready : (common : Dimensions) → is_some common.shape ≡ true → (before : List name.Name) (d : ConstantTree)
    → All IsReady before → constant_breaches common before d ≡ [] → All IsReady (with_constant common before d)
unfolding constant_breaches with_constant
with_constant_ready common some before d h none =
    let usable : All IsUsable before = usable_names before h in
    let full : is_full before ≡ false = not_full before d.name (first_empty _ _ (first_empty _ _ (first_empty _ _ none))) in
    let own : is_some (shape before max_extent d.shape) ≡ true = shape_there before usable max_extent d.shape (others_empty _ _ (first_empty _ _ (first_empty _ _ none))) in
    let there : HasGiven (given_of before d.value) = given_there before usable d.value (others_empty _ _ (first_empty _ _ none)) in
    let right : has_wrong_rank common before d ≡ false = breach_if_none _ Rank d.name.at (others_empty _ _ none) in
    declare_ready before _ h
    (constant_ready common before d full right (chosen_there common (dimensions_of max_extent before d.shape) some own) there)

-- ---- statements

all_declared_ready : (what : Space) (common : Dimensions) → is_some common.shape ≡ true → (before : List name.Name) (ds : List DeclaredTree)
    → All IsReady before → threaded (with_declared what common) (declared_breaches what common) before ds ≡ [] → All IsReady (fold (with_declared what common) before ds)
all_declared_ready what common some before ds h none =
    threaded_keeps (All IsReady) (with_declared what common) (declared_breaches what common) (with_declared_ready what common some) before ds h none

after_ready : (before : List name.Name) (item : ItemTree) → All IsReady before → declaration_breaches before item ≡ [] → All IsReady (names_after before item)
unfolding names_after declaration_breaches
after_ready before (ImplicitNone at) h none = h
after_ready before (Variables common names) h none =
    all_declared_ready space.Array (dimensions_of (common_limit names) before common)
    (shape_there before (usable_names before h) (common_limit names) common (first_empty _ _ none)) before names h (others_empty _ _ none)
after_ready before (Constants common names) h none =
    let bounds : Dimensions = dimensions_of max_extent before common in
    threaded_keeps (All IsReady) (with_constant bounds) (constant_breaches bounds)
    (with_constant_ready bounds (shape_there before (usable_names before h) max_extent common (first_empty _ _ none))) before names h (others_empty _ _ none)
after_ready before (Processors names) h none = all_declared_ready space.Arrangement no_dimensions refl before names h none
after_ready before (Template names) h none = all_declared_ready space.Template no_dimensions refl before names h none
after_ready before (Distribute names formats onto) h none = h
after_ready before (Align names sources base subs) h none = h
after_ready before (Shadow names widths) h none = h
after_ready before (Input at name buffers op) h none = h
after_ready before (Stage at name permute buffers op) h none = h

-- each statement without a breach leaves names without one
pub item_ready : (before : List name.Name) (item : ItemTree) → All IsReady before → ordered_breaches before item ≡ [] → All IsReady (names_after before item)
unfolding ordered_breaches
item_ready before item h none = after_ready before item h (others_empty (directive_breaches before item) (declaration_breaches before item) none)

pub names_free : (items : List ItemTree) → breaches_in items ≡ [] → All IsFree (names_of items)
unfolding names_of breaches_in
names_free items none =
    All-weaker IsReady IsFree (λ n h. h.fit) (fold names_after [] items)
    (threaded_keeps (All IsReady) names_after ordered_breaches item_ready [] items (All-nil IsReady) (first_empty _ _ none))

pub all_free : (items : List ItemTree) → breaches_in items ≡ [] → All (λ (n : name.Name). n.free ≡ true) (names_of items)
all_free items none = All-weaker IsFree (λ n. n.free ≡ true) (λ n h. h.free) (names_of items) (names_free items none)
