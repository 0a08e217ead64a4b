-- Where the formats of a DISTRIBUTE have no breach, what they ask for is met.
use Rattle.std.proofs.Common.{◌≡◌, ℕ, zero, suc, ◌+◌, ◌<◌, true, false, List, [], ◌∷◌, length, map, get_or, All, Option, Some, None, inl, inr, ℤ, refl, sym, ap, subst, ◌∙◌, arith}
use Rattle.std.specs.Prelude.{Contains, slice_get, option_map, option_and_then, is_some}
use Rattle.std.specs.List.{flat_map, range_with_len}
use Rattle.std.proofs.lemmas.Bool.{false≢true, cases_Bool}
use Rattle.std.proofs.lemmas.List.Elements.{All-nil}
use Rattle.std.proofs.lemmas.Option.{slice_get-map}
use Rattle.hpf_syntax.specs.declared.tree.Spot.{Spot}
use Rattle.hpf_syntax.specs.Plain.{FormatTree, Star, Block, Cyclic, GenBlock, Indirect, ItemTree, Distribute}
use Rattle.hpf_map.specs.declared.name.Meaning.{Meaning}
use Rattle.hpf_map.specs.declared.name.Meaning.TheVariants as meaning
use Rattle.hpf_map.specs.declared.name.Name.{Name}
use Rattle.hpf_map.specs.declared.name.Span.{Span}
use Rattle.hpf_map.specs.declared.role.Role.TheVariants as role
use Rattle.hpf_map.specs.Alignments.{no_span}
use Rattle.hpf_map.specs.Cuts.{MeetsAll, MeetsOf, AreMet}
use Rattle.hpf_map.specs.Dealing.{Dealt, over, breaches_of, breaches_at, dealing_breaches, dealt_as, target_at}
use Rattle.hpf_map.specs.Declarations.{threaded, names_after, declaration_breaches}
use Rattle.hpf_map.specs.Distributions.{divides, divided}
use Rattle.hpf_map.specs.Expressions.{format_breaches, directive_breaches}
use Rattle.hpf_map.specs.Formats.{meaning_list, list_of, condition_breaches, format_of}
use Rattle.hpf_map.specs.Layers.{ordered_breaches, breaches_in}
use Rattle.hpf_map.specs.Paired.{inner, at_place}
use Rattle.hpf_map.specs.Shapes.{extent}
use Rattle.hpf_map.specs.Uses.{suits, format_name_breaches}
use Rattle.hpf_map.specs.Widths.{format_width, statement_widths, all_widths}
use Rattle.hpf_map.specs.Fit.{IsWhole, IsFree}
use Rattle.hpf_map.proofs.ChoiceLemmas.{contains_here, contains_later}
use Rattle.hpf_map.proofs.EmptyLemmas.{first_empty, others_empty, each_empty}
use Rattle.hpf_map.proofs.FormatLemmas.{HasWidth, HasList, format_met}
use Rattle.hpf_map.proofs.FreeLemmas.{IsUsable, IsReady, usable_names, item_ready, expression_there}
use Rattle.hpf_map.proofs.OverLemmas.{over_below}
use Rattle.hpf_map.proofs.UnbrokenLemmas.{used_free, used_is, got, contains_get, free_at}

-- ---- widths

width_has : (before : List Name) → All IsUsable before → (tree : FormatTree) → format_breaches before tree ≡ [] → HasWidth tree (format_width before tree)
unfolding format_breaches format_width
width_has before h (Star at) none = tt
width_has before h (Block at None) none = tt
width_has before h (Block at (Some e)) none = expression_there before h e none
width_has before h (Cyclic at None) none = tt
width_has before h (Cyclic at (Some e)) none = expression_there before h e none
width_has before h (GenBlock at lengths) none = tt
width_has before h (Indirect at places) none = tt

-- each format has its width
abbrev pub HaveWidths : List FormatTree → List (Option ℤ) → Type 0
HaveWidths formats widths = (k : ℕ) (tree : FormatTree) → slice_get formats k ≡ Some tree → HasWidth tree (at_place k widths)

widths_have : (before : List Name) → All IsUsable before → (formats : List FormatTree) → flat_map (format_breaches before) formats ≡ [] → HaveWidths formats (map (format_width before) formats)
widths_have before h formats none k tree is =
    let there : at_place k (map (format_width before) formats) ≡ format_width before tree =
    ap inner (slice_get-map (format_width before) formats k) ∙ ap (λ o. inner (option_map (format_width before) o)) is in
    subst (HasWidth tree) (sym there) (width_has before h tree (each_empty (format_breaches before) formats none tree (contains_get formats k tree is)))

-- the widths of a statement
abbrev pub AreWidths : List FormatTree → Option (List (Option ℤ)) → Type 0
AreWidths formats o = (widths : List (Option ℤ)) × (o ≡ Some widths) × HaveWidths formats widths

item_widths : (before : List Name) → All IsUsable before → (item : ItemTree) (distributees : List Spot) (formats : List FormatTree) (onto : Option Spot) → item ≡ Distribute distributees formats onto
    → ordered_breaches before item ≡ [] → AreWidths formats (statement_widths before item)
unfolding ordered_breaches directive_breaches
item_widths before h item distributees formats onto is none =
    subst (λ i. directive_breaches before i ≡ [] → AreWidths formats (statement_widths before i)) (sym is)
    (λ free. (map (format_width before) formats, refl, widths_have before h formats free)) (first_empty (directive_breaches before item) (declaration_breaches before item) none)

widths_at : (items : List ItemTree) (before : List Name) → All IsReady before → threaded names_after ordered_breaches before items ≡ [] → (k : ℕ) (distributees : List Spot)
    (formats : List FormatTree) (onto : Option Spot) → slice_get items k ≡ Some (Distribute distributees formats onto)
    → AreWidths formats (at_place k (threaded names_after (λ names item. statement_widths names item ∷ []) before items))
widths_at [] before h none k distributees formats onto is = absurd cc
widths_at (item ∷ items) before h none zero distributees formats onto is =
    item_widths before (usable_names before h) item distributees formats onto (cc) (first_empty _ _ none)
widths_at (item ∷ items) before h none (suc k) distributees formats onto is =
    widths_at items (names_after before item) (item_ready before item h (first_empty _ _ none)) (others_empty _ _ none) k distributees formats onto is

pub widths_there : (items : List ItemTree) (k : ℕ) (distributees : List Spot) (formats : List FormatTree) (onto : Option Spot) → breaches_in items ≡ []
    → slice_get items k ≡ Some (Distribute distributees formats onto) → AreWidths formats (at_place k (all_widths items))
unfolding breaches_in all_widths
widths_there items k distributees formats onto none is = widths_at items [] (All-nil IsReady) (first_empty _ _ none) k distributees formats onto is

-- ---- lists

whole_list : (m : Meaning) → suits role.List m ≡ true → IsWhole m → is_some (meaning_list m) ≡ true
whole_list meaning.Scalar h w = absurd (false≢true h)
whole_list (meaning.Shaped what dimensions) h w = absurd (false≢true h)
whole_list (meaning.Constant v) h w = absurd (false≢true h)
whole_list (meaning.List values) h w = w

list_there : (names : List Name) → All IsFree names → (at : _) (word : List ℕ) → format_name_breaches names (GenBlock at (record { word = word; at = at })) ≡ [] → is_some (list_of names word) ≡ true
list_there names free at word none =
    let found = used_free names role.List at word free none in
    let u = used_is names role.List word found.place found.used in
    let is : list_of names word ≡ meaning_list u.name.meaning = ap (option_and_then (λ (n : Name). meaning_list n.meaning)) u.used in
    ap is_some is ∙ whole_list u.name.meaning u.suits (free_at names role.List word found.place free u).whole

lists_there : (names : List Name) → All IsFree names → (tree : FormatTree) → format_name_breaches names tree ≡ [] → HasList names tree
lists_there names free (Star at) none = tt
lists_there names free (Block at e) none = tt
lists_there names free (Cyclic at e) none = tt
lists_there names free (GenBlock at lengths) none = list_there names free lengths.at lengths.word none
lists_there names free (Indirect at places) none = list_there names free places.at places.word none

-- ---- all formats of a statement

range_has : (a n k : ℕ) → k < n → Contains (range_with_len a n) (a + k)
range_has a zero k below = absurd (omega arith)
range_has a (suc n) zero below = subst (Contains (range_with_len a (suc n))) (let e : a ≡ a + 0 = omega arith in e) (contains_here a (range_with_len (a + 1) n))
range_has a (suc n) (suc k) below =
    subst (Contains (range_with_len a (suc n))) (let e : a + 1 + k ≡ a + suc k = omega arith in e) (contains_later a (range_with_len (a + 1) n) (a + 1 + k) (range_has (a + 1) n k (omega arith)))

in_list : {A : Type 0} (xs : List A) (k : ℕ) (x : A) → slice_get xs k ≡ Some x → k < length xs
in_list [] k x is = absurd (let no : None ≡ Some x = is in cc)
in_list (y ∷ xs) zero x is = omega arith
in_list (y ∷ xs) (suc k) x is = omega (arith, in_list xs k x is)

is_got : {A : Type 0} (xs : List A) (k : ℕ) (x : A) → slice_get xs k ≡ Some x → get_or xs k x ≡ x
is_got [] k x is = refl
is_got (y ∷ xs) zero x is = cc
is_got (y ∷ xs) (suc k) x is = is_got xs k x is

whole_met : (tree : FormatTree) (d n : ℕ) (names : List Name) (w : Option ℤ) (p : Span) → divides tree ≡ false → MeetsAll tree d n (format_of names tree w d p)
whole_met (Star at) d n names w p h = tt
whole_met (Block at e) d n names w p h = absurd (false≢true (sym h))
whole_met (Cyclic at e) d n names w p h = absurd (false≢true (sym h))
whole_met (GenBlock at lengths) d n names w p h = absurd (false≢true (sym h))
whole_met (Indirect at places) d n names w p h = absurd (false≢true (sym h))

module _ (dealt : Dealt) (root : List Span) (free : All IsFree dealt.names) (rank : length dealt.formats ≡ length root) (all : divided dealt.formats ≡ length dealt.target)
    (widths : HaveWidths dealt.formats dealt.widths) (uses : flat_map (format_name_breaches dealt.names) dealt.formats ≡ []) (none : dealing_breaches dealt root ≡ []) where
  none_at : (k : ℕ) (tree : FormatTree) → slice_get dealt.formats k ≡ Some tree → breaches_of dealt root (Some tree) k ≡ []
  unfolding dealing_breaches
  none_at k tree is =
      let zero_first : 0 + k ≡ k = omega arith in
      subst (λ o. breaches_of dealt root o k ≡ []) is
      (each_empty (breaches_at dealt root) (range_with_len 0 (length dealt.formats)) none k
      (subst (Contains (range_with_len 0 (length dealt.formats))) zero_first (range_has 0 (length dealt.formats) k (in_list dealt.formats k tree is))))

  divided_met : (k : ℕ) (tree : FormatTree) → slice_get dealt.formats k ≡ Some tree → divides tree ≡ true → MeetsOf dealt root (Some tree) k
  divided_met k tree is h =
      let inside : k < length dealt.formats = in_list dealt.formats k tree is in
      let taken : over dealt.formats k < length dealt.target = omega (arith, all, over_below dealt.formats k tree inside (ap divides (is_got dealt.formats k tree is) ∙ h)) in
      let span : slice_get root k ≡ Some (get_or root k no_span) = got root k no_span (omega (arith, inside, rank)) in
      let target : slice_get dealt.target (over dealt.formats k) ≡ Some (target_at dealt root k) = got dealt.target (over dealt.formats k) no_span taken in
      let told : condition_breaches dealt.names tree (at_place k dealt.widths) (Some (extent (get_or root k no_span))) (Some (target_at dealt root k)) ≡ [] =
      sym (ap (λ o. condition_breaches dealt.names tree (at_place k dealt.widths) (option_map extent o) (Some (target_at dealt root k))) span)
      ∙ sym (ap (λ o. condition_breaches dealt.names tree (at_place k dealt.widths) (option_map extent (slice_get root k)) o) target)
      ∙ none_at k tree is in
      subst (MeetsAll tree (extent (get_or root k no_span)) (extent (target_at dealt root k))) (sym (ap (λ o. dealt_as dealt root o k) is))
      (format_met dealt.names tree (at_place k dealt.widths) (extent (get_or root k no_span)) (target_at dealt root k) (widths k tree is)
      (lists_there dealt.names free tree (each_empty (format_name_breaches dealt.names) dealt.formats uses tree (contains_get dealt.formats k tree is))) told)

  tree_met : (k : ℕ) (tree : FormatTree) → slice_get dealt.formats k ≡ Some tree → MeetsOf dealt root (Some tree) k
  tree_met k tree is = elim (cases_Bool (divides tree)) [
    | inl h ↦ divided_met k tree is h
    | inr h ↦ subst (MeetsAll tree (extent (get_or root k no_span)) (extent (target_at dealt root k))) (sym (ap (λ o. dealt_as dealt root o k) is))
        (whole_met tree (extent (get_or root k no_span)) (extent (target_at dealt root k)) dealt.names (at_place k dealt.widths) (target_at dealt root k) h)
  ]

  pub all_met : AreMet dealt root
  all_met k = by (slice_get dealt.formats k) refl where
    by : (o : Option FormatTree) → slice_get dealt.formats k ≡ o → MeetsOf dealt root o k
    by None e = tt
    by (Some tree) e = tree_met k tree e
