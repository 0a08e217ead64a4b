-- Lines of a pipeline without a breach.
use Rattle.std.proofs.Common.{◌≡◌, ℕ, zero, suc, ◌+◌, ◌<◌, ◌≤◌, ◌==◌, Bool, true, false, cond, not, List, [], ◌∷◌, ◌++◌, length, map, All, Contains, Option, Some, None, ℤ, pos, negsuc, inl, inr, refl, sym, ap, subst, ◌∙◌, arith}
use Rattle.std.specs.Prelude.{option_map, option_and_then, option_to_list, is_some, IfSome, unsigned_abs, int_lt}
use Rattle.std.specs.List.{list_any, range_with_len, remove}
use Rattle.std.specs.List.Sorted.{IsPermutation}
use Rattle.std.specs.Ordering.{int_eq}
use Rattle.std.proofs.lemmas.Bool.{false≢true, cases_lt, or_cases, or_parts}
use Rattle.std.proofs.lemmas.Bool.Decides.{Decides-int_eq, nat_tests}
use Rattle.std.proofs.lemmas.Int.{ints}
use Rattle.std.proofs.lemmas.List.{length-map}
use Rattle.std.proofs.lemmas.List.Elements.{All-nil, All-cons, All-head, All-tail}
use Rattle.std.proofs.lemmas.List.Sorted.{IsPermutation-refl, IsPermutation-cons, IsPermutation-remove, IsPermutation-sym, IsPermutation-trans, length_permutation, Contains-permutation}
use Rattle.hpf_own.specs.Lists.{IsPerm}
use Rattle.hpf_syntax.specs.declared.tree.Spot.{Spot}
use Rattle.hpf_syntax.specs.Plain.{Tree, ItemTree, ImplicitNone, Variables, Constants, Processors, Template, Distribute, Align, Shadow, Input, Stage}
use Rattle.hpf_map.specs.declared.constraint.Constraint.TheVariants.{Limit, Pipeline}
use Rattle.hpf_map.specs.declared.lines.Entries.{Entries}
use Rattle.hpf_map.specs.declared.lines.Line.{Line}
use Rattle.hpf_map.specs.declared.lines.Number.{Number}
use Rattle.hpf_map.specs.declared.name.Name.{Name}
use Rattle.hpf_map.specs.declared.name.Span.{Span}
use Rattle.hpf_map.specs.declared.program.Need.{Need}
use Rattle.hpf_map.specs.declared.role.Role.TheVariants.{Array}
use Rattle.hpf_map.specs.declared.stages.Behind.{Behind}
use Rattle.hpf_map.specs.Declarations.{threaded, names_after}
use Rattle.hpf_map.specs.Expressions.{list_breaches, directive_breaches}
use Rattle.hpf_map.specs.Fit.{IsFree}
use Rattle.hpf_map.specs.Layers.{names_of, ordered_breaches, breaches_in}
use Rattle.hpf_map.specs.Lines.{entries_of, number_of, statement_line, all_lines}
use Rattle.hpf_map.specs.Mappings.{IsMappedLine, IsReadyLine, CanPermute, CanHold}
use Rattle.hpf_map.specs.Refusal.{all_breaches}
use Rattle.hpf_map.specs.Sound.{AreGood}
use Rattle.hpf_map.specs.Spaces.{meaning_shape, shape_of}
use Rattle.hpf_map.specs.Stages.{after_line, nothing_behind, max_buffers, is_outside, buffers_breaches, has_each, permutes, agree_by, agree_where_free, agrees, permute_breaches, shape_behind, follower_breaches, line_breaches, stages_breaches}
use Rattle.hpf_map.specs.Values.{value, expression_breaches, maybe_expression_breaches}
use Rattle.hpf_map.proofs.ChoiceLemmas.{contains_here, contains_later}
use Rattle.hpf_map.proofs.EmptyLemmas.{first_empty, others_empty, breach_if_none}
use Rattle.hpf_map.proofs.FreeLemmas.{HasValue, IsUsable, IsReady, usable_names, item_ready, expression_there, all_there, names_free}
use Rattle.hpf_map.proofs.ResolveLemmas.{lines_mapped, line_arrays}
use Rattle.hpf_map.proofs.SoundLemmas.{first_true, second_true, shape_good, names_of_sound}
use Rattle.hpf_map.proofs.UnbrokenLemmas.{all_none, used_is, free_at, array_shaped}

-- ---- what lines say

-- entries, if there are any, whose values are there
abbrev pub HasEntries : Option Entries → Type 0
HasEntries None = Unit {0}
HasEntries (Some entries) = is_some entries.values ≡ true

-- a number, if there is one, whose value is there
abbrev pub HasNumber : Option Number → Type 0
HasNumber None = Unit {0}
HasNumber (Some n) = HasValue n.value

-- a line whose values are there; an INPUT line has no PERMUTE
pub record IsSaid (line : Line) : Type 0 where
  pub permute : HasEntries line.permute
  pub buffers : HasNumber line.buffers
  pub first : line.follows ≡ false → line.permute ≡ None

is_value : (o : Option ℤ) → HasValue o → is_some o ≡ true
is_value None h = absurd h
is_value (Some v) h = refl

module _ (before : List Name) (usable : All IsUsable before) where
  permute_there : (permute : Option (List Tree)) → list_breaches before permute ≡ [] → HasEntries (option_map (entries_of before) permute)
  permute_there None none = tt
  permute_there (Some es) none = all_there (expression_breaches before) (value before) (λ e h. is_value (value before e) (expression_there before usable e h)) es none

  number_there : (e : Option Tree) → maybe_expression_breaches before e ≡ [] → HasNumber (option_map (number_of before) e)
  number_there None none = tt
  number_there (Some e) none = expression_there before usable e none

abbrev said_behind : List Name → List ItemTree → List Line
said_behind before items = threaded names_after (λ before item. option_to_list (statement_line before item)) before items

lines_said : (items : List ItemTree) (before : List Name) → All IsReady before → threaded names_after ordered_breaches before items ≡ [] → All IsSaid (said_behind before items)
unfolding ordered_breaches directive_breaches
lines_said [] before h none = All-nil IsSaid
lines_said (item ∷ items) before h none = by item (first_empty _ _ none) (lines_said items (names_after before item) (item_ready before item h (first_empty _ _ none)) (others_empty _ _ none)) where
  after : ItemTree → List Line
  after i = said_behind (names_after before item) items

  by : (i : ItemTree) → ordered_breaches before i ≡ [] → All IsSaid (after i) → All IsSaid (option_to_list (statement_line before i) ++ after i)
  by (Input at name buffers op) own rest =
      let d = first_empty _ _ own in
      All-cons IsSaid _ _ (record {
        permute = tt;
        buffers = number_there before (usable_names before h) buffers (first_empty _ _ d);
        first = λ e. refl;
      }) rest
  by (Stage at name permute buffers op) own rest =
      let d = first_empty _ _ (first_empty _ _ own) in
      All-cons IsSaid _ _ (record {
        permute = permute_there before (usable_names before h) permute (first_empty _ _ d);
        buffers = number_there before (usable_names before h) buffers (others_empty _ _ d);
        first = λ e. absurd (false≢true (sym e));
      }) rest
  by (ImplicitNone at) own rest = rest
  by (Variables common list) own rest = rest
  by (Constants common list) own rest = rest
  by (Processors list) own rest = rest
  by (Template list) own rest = rest
  by (Distribute list formats onto) own rest = rest
  by (Align list sources base subs) own rest = rest
  by (Shadow list widths) own rest = rest

all_said : (items : List ItemTree) → breaches_in items ≡ [] → All IsSaid (all_lines items)
unfolding breaches_in all_lines
all_said items none = lines_said items [] (All-nil IsReady) (first_empty _ _ none)

-- ---- entries that are a permutation

empty_is : (ys : List ℕ) → length ys ≡ 0 → ys ≡ []
empty_is [] e = refl
empty_is (y ∷ ys) e = absurd (omega arith)

-- what a list holds besides its first item stands behind that
behind_first : (y : ℕ) (ys : List ℕ) (x : ℕ) → Contains (y ∷ ys) x → (y ≡ x → ⊥) → Contains ys x
behind_first y ys x (zero, within, is) other = absurd (other is)
behind_first y ys x (suc k, within, is) other = (k, omega arith, is)

-- as many entries as numbers, with each number among them, are these numbers in some order
permutation_from : (n a : ℕ) (ys : List ℕ) → length ys ≡ n → ((x : ℕ) → a ≤ x → x < a + n → Contains ys x) → IsPermutation (range_with_len a n) ys
permutation_from zero a ys e each = subst (IsPermutation []) (sym (empty_is ys e)) (IsPermutation-refl [])
permutation_from (suc n) a ys e each =
    let first = each a (omega arith) (omega arith) in
    let moved = IsPermutation-remove ys first.0 a first.1 (sym first.2) in
    let fewer : length (remove ys first.0) ≡ n = omega (arith, length_permutation _ _ moved) in
    let rest = permutation_from n (a + 1) (remove ys first.0) fewer
    (λ x low high. behind_first a _ x (Contains-permutation _ _ x moved (each x (omega arith) (omega arith))) (λ same. absurd (omega arith))) in
    IsPermutation-trans _ _ _ (IsPermutation-cons a _ _ rest) (IsPermutation-sym _ _ moved)

value_is : (d : ℕ) (v : ℤ) → int_eq (pos d) v ≡ true → unsigned_abs v ≡ d
value_is d v e = let same : pos d ≡ v = (Decides-int_eq (pos d) v).0 e in ap unsigned_abs (sym same)

has_at : (values : List ℤ) (d : ℕ) → list_any (λ v. int_eq (pos d) v) values ≡ true → Contains (map unsigned_abs values) d
has_at [] d h = absurd (false≢true h)
has_at (v ∷ values) d h = elim (or_cases (int_eq (pos d) v) (list_any (λ x. int_eq (pos d) x) values) h) [
  | inl e ↦ subst (Contains (unsigned_abs v ∷ map unsigned_abs values)) (value_is d v e) (contains_here (unsigned_abs v) (map unsigned_abs values))
  | inr later ↦ contains_later (unsigned_abs v) (map unsigned_abs values) d (has_at values d later)
]

has_up_to : (values : List ℤ) (n d : ℕ) → has_each values n ≡ true → 1 ≤ d → d ≤ n → Contains (map unsigned_abs values) d
unfolding has_each
has_up_to values zero d h low high = absurd (omega (arith, low, high))
has_up_to values (suc n) d h low high = elim (cases_lt d (suc n)) [
  | inl less ↦ has_up_to values n d (second_true _ _ h) low (omega (arith, less))
  | inr last ↦ subst (Contains (map unsigned_abs values)) (let same : suc n ≡ d = omega (arith, high, last) in same) (has_at values (suc n) (first_true _ _ h))
]

permuting : (n : ℕ) (values : List ℤ) → 1 ≤ n → n ≤ 7 → permutes n values ≡ true → IsPerm (map unsigned_abs values)
permuting n values some few is =
    let test : (length values == n) ≡ true = first_true _ _ is in
    let many : length values ≡ n = grind (arith, nat_tests, test) in
    let long = length-map values unsigned_abs in
    record {
      short = record { some = omega (arith, some, many, long); few = omega (arith, few, many, long) };
      permutes =
          permutation_from (length (map unsigned_abs values)) 1 (map unsigned_abs values) refl
          (λ x low high. has_up_to values n x (second_true _ _ is) low (omega (arith, high, many, long)));
    }

-- ---- lines without a breach

can_hold : (o : Option Number) → HasNumber o → buffers_breaches o ≡ [] → CanHold o
can_hold None h none = tt
can_hold (Some n) h none = by n.value h (breach_if_none (is_outside n.value) Limit n.at none) where
  by : (v : Option ℤ) → HasValue v → is_outside v ≡ false → (k : ℕ) × (v ≡ Some (pos k)) × (1 ≤ k) × (k ≤ max_buffers)
  by None h e = absurd h
  by (Some (pos k)) h e =
      let both = or_parts (int_lt (pos k) (pos 1)) (int_lt (pos max_buffers) (pos k)) e in
      let low : int_lt (pos k) (pos 1) ≡ false = both.0 in
      let high : int_lt (pos max_buffers) (pos k) ≡ false = both.1 in
      (k, refl, grind (arith, ints, low), grind (arith, ints, high))
  by (Some (negsuc k)) h e =
      let both = or_parts (int_lt (negsuc k) (pos 1)) (int_lt (pos max_buffers) (negsuc k)) e in
      let low : int_lt (negsuc k) (pos 1) ≡ false = both.0 in
      absurd (grind (arith, ints, low))

module _ (own : List Span) (before : Option (List Span)) where
  permuted : (values : List ℤ) (b : Option (List Span)) → agree_by b own values ≡ true → permutes (length own) values ≡ true
  permuted values None e = e
  permuted values (Some spans) e = first_true _ _ e

  can_permute : (o : Option Entries) → 1 ≤ length own → length own ≤ 7 → HasEntries o → agrees before own o ≡ true → CanPermute o
  can_permute None some few h e = tt
  can_permute (Some entries) some few h e = by entries.values h e where
    by : (vs : Option (List ℤ)) → is_some vs ≡ true → agree_where_free before own vs ≡ true → (values : List ℤ) × (vs ≡ Some values) × IsPerm (map unsigned_abs values)
    by None h e = absurd (false≢true h)
    by (Some values) h e = (values, refl, permuting (length own) values some few (permuted values before e))

pub not_false : (b : Bool) → not b ≡ false → b ≡ true
not_false true e = refl
not_false false e = absurd (false≢true (sym e))

module _ (items : List ItemTree) (free : All IsFree (names_of items)) where
  -- the array of a line has a shape
  pub own_shape : (spot : Spot) → IsMappedLine items spot → (spans : List Span) × (shape_of (names_of items) Array spot.word ≡ Some spans)
  own_shape spot m =
      let u = used_is (names_of items) Array spot.word m.place m.array in
      let shaped = array_shaped u.name.meaning u.suits (free_at (names_of items) Array spot.word m.place free u).whole in
      (shaped.0, ap (option_and_then (λ n. meaning_shape n.meaning)) u.used ∙ shaped.1)

  ready : (behind : Behind) (line : Line) → line_breaches (names_of items) behind line ≡ [] → IsSaid line → IsMappedLine items line.array → IsReadyLine items line
  unfolding line_breaches
  ready behind line none said mapped = record {
    mapped = mapped;
    permute = by line.follows refl (first_empty _ _ none);
    buffers = can_hold line.buffers said.buffers (others_empty _ _ none);
  } where
    former : Option (List Span)
    former = shape_behind (names_of items) behind.array

    by : (b : Bool) → line.follows ≡ b → cond b (follower_breaches (names_of items) behind line) [] ≡ [] → CanPermute line.permute
    by false e h = subst CanPermute (sym (said.first e)) tt
    by true e h =
        let s = own_shape line.array mapped in
        let told : permute_breaches former (Some s.0) line ≡ [] = subst (λ o. permute_breaches former o line ≡ []) s.1 (others_empty _ _ h) in
        let good : AreGood s.0 = subst (λ o. IfSome o AreGood) s.1 (shape_good (names_of items) Array line.array.word (names_of_sound items)) in
        can_permute s.0 former line.permute good.some good.few said.permute
        (not_false (agrees former s.0 line.permute) (breach_if_none (not (agrees former s.0 line.permute)) Pipeline line.array.at (others_empty _ _ told)))

  all_ready : (said : List Line) (behind : Behind) → threaded after_line (line_breaches (names_of items)) behind said ≡ [] → All IsSaid said → All (λ l. IsMappedLine items l.array) said → All (IsReadyLine items) said
  all_ready [] behind none is mapped = All-nil (IsReadyLine items)
  all_ready (l ∷ said) behind none is mapped =
      All-cons (IsReadyLine items) l said
      (ready behind l (first_empty _ _ none) (All-head IsSaid l said is) (All-head (λ l. IsMappedLine items l.array) l said mapped))
      (all_ready said (after_line behind l) (others_empty _ _ none) (All-tail IsSaid l said is) (All-tail (λ l. IsMappedLine items l.array) l said mapped))

pub all_seen : {A B : Type 0} (P : B → Type 0) (f : A → B) (xs : List A) → All P (map f xs) → All (λ x. P (f x)) xs
all_seen P f [] h = All-nil (λ x. P (f x))
all_seen P f (x ∷ xs) h = All-cons (λ x. P (f x)) x xs (All-head P (f x) (map f xs) h) (all_seen P f xs (All-tail P (f x) (map f xs) h))

pub lines_ready : (need : Need) (items : List ItemTree) → all_breaches need items ≡ [] → All (IsReadyLine items) (all_lines items)
unfolding stages_breaches
lines_ready need items nothing =
    let none = all_none need items nothing in
    all_ready items (names_free items none.layers) (all_lines items) nothing_behind none.stages (all_said items none.layers)
    (all_seen (IsMappedLine items) (λ l. l.array) (all_lines items) (subst (All (IsMappedLine items)) (sym (line_arrays items)) (lines_mapped need items nothing)))
