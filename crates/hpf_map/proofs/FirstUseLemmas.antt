-- The use that maps a name, and its statement.
use Rattle.std.proofs.Common.{◌≡◌, ℕ, zero, suc, ◌+◌, ◌<◌, Bool, true, false, cond, List, [], ◌∷◌, ◌++◌, length, Option, Some, None, inl, inr, refl, sym, ap, subst, ◌∙◌, arith}
use Rattle.std.specs.Prelude.{Contains, slice_get, slice_set, option_map, replicate, fold, ◌⊎◌}
use Rattle.std.specs.List.{filter_map, cons_option}
use Rattle.std.proofs.lemmas.List.{get_or-set_same, get_or-set_other}
use Rattle.std.proofs.lemmas.List.Elements.{Contains-append_cases}
use Rattle.std.proofs.lemmas.Bool.{cases_eq}
use Rattle.hpf_syntax.specs.declared.tree.Spot.{Spot}
use Rattle.hpf_syntax.specs.declared.tree.SourceItem.{SourceItem}
use Rattle.hpf_syntax.specs.Plain.{FormatTree, SubTree, ItemTree, ImplicitNone, Variables, Constants, Processors, Template, Distribute, Align, Shadow, Input, Stage}
use Rattle.hpf_map.specs.declared.name.Name.{Name}
use Rattle.hpf_map.specs.declared.role.Role.{Role}
use Rattle.hpf_map.specs.declared.role.Role.TheVariants.{Array, Mapped}
use Rattle.hpf_map.specs.declared.way.Use.{Use}
use Rattle.hpf_map.specs.declared.way.Way.{Way}
use Rattle.hpf_map.specs.declared.way.Way.TheVariants.{Unmapped, Distributed, Aligned}
use Rattle.hpf_map.specs.Declarations.{threaded}
use Rattle.hpf_map.specs.Ways.{used_place, use_of, statement_uses, uses_from, uses_in, way_at, is_unmapped, ways_after, first_use, ways_of, first_uses}
use Rattle.hpf_map.proofs.ChoiceLemmas.{contains_here, contains_later, contains_cases, contains_none}

-- ---- the first use

-- a use that counts, by which a name is mapped in this way
pub record IsMappedBy (counting uses : List Use) (n : ℕ) (how : Way) : Type 0 where
  pub used : Use
  pub counts : Contains counting used
  pub stands : Contains uses used
  pub name : used.name ≡ n
  pub way : used.way ≡ how

set_beyond : (ways : List Way) (n : ℕ) (way : Way) → is_unmapped (way_at (slice_set ways n way) n) ≡ false → n < length ways
set_beyond [] n way h = absurd (let t : true ≡ false = h in cc)
set_beyond (w ∷ ways) zero way h = omega arith
set_beyond (w ∷ ways) (suc n) way h = let below = set_beyond ways n way h in omega (arith, below)

-- what maps a name after uses, mapped it before them or is the first of them that does so
mapped_first : (ways : List Way) (uses : List Use) (n : ℕ) → is_unmapped (way_at (fold ways_after ways uses) n) ≡ false
    → ((is_unmapped (way_at ways n) ≡ false) × (way_at (fold ways_after ways uses) n ≡ way_at ways n))
    ⊎ IsMappedBy (threaded ways_after first_use ways uses) uses n (way_at (fold ways_after ways uses) n)
unfolding ways_after
mapped_first ways [] n h = inl (h, refl)
mapped_first ways (u ∷ uses) n h = elim (mapped_first (ways_after ways u) uses n h) [
  | inr r ↦ inr (record {
    used = r.used;
    counts = later (is_unmapped (way_at ways u.name)) r.used r.counts;
    stands = contains_later u uses r.used r.stands;
    name = r.name;
    way = r.way;
  })
  | inl same ↦ at (is_unmapped (way_at ways u.name)) refl same.0 same.1
] where
  end : Way
  end = way_at (fold ways_after (ways_after ways u) uses) n

  counting : List Use
  counting = threaded ways_after first_use (ways_after ways u) uses

  later : (b : Bool) (used : Use) → Contains counting used → Contains (cond b (u ∷ []) [] ++ counting) used
  later true used has = contains_later u counting used has
  later false used has = has

  at : (b : Bool) → is_unmapped (way_at ways u.name) ≡ b → is_unmapped (way_at (cond b (slice_set ways u.name u.way) ways) n) ≡ false → end ≡ way_at (cond b (slice_set ways u.name u.way) ways) n
      → ((is_unmapped (way_at ways n) ≡ false) × (end ≡ way_at ways n)) ⊎ IsMappedBy (cond b (u ∷ []) [] ++ counting) (u ∷ uses) n end
  at false e is same = inl (is, same)
  at true e is same = elim (cases_eq u.name n) [
    | inl here ↦
        let set_is : is_unmapped (way_at (slice_set ways u.name u.way) u.name) ≡ false = subst (λ m. is_unmapped (way_at (slice_set ways u.name u.way) m) ≡ false) (sym here) is in
        let there : way_at (slice_set ways u.name u.way) u.name ≡ u.way = get_or-set_same ways u.name u.way Unmapped (set_beyond ways u.name u.way set_is) in
        inr (record {
          used = u;
          counts = contains_here u counting;
          stands = contains_here u uses;
          name = here;
          way = sym (same ∙ ap (λ m. way_at (slice_set ways u.name u.way) m) (sym here) ∙ there);
        })
    | inr other ↦
        let kept : way_at (slice_set ways u.name u.way) n ≡ way_at ways n = get_or-set_other ways u.name n u.way Unmapped (λ (e : n ≡ u.name). other (sym e)) in
        inl (ap is_unmapped (sym kept) ∙ is, same ∙ kept)
  ]

none_yet : (count n : ℕ) → is_unmapped (way_at (replicate count Unmapped) n) ≡ true
none_yet zero n = refl
none_yet (suc count) zero = refl
none_yet (suc count) (suc n) = none_yet count n

module _ (names : List Name) (items : List ItemTree) where
  -- a name that is mapped is so by a use that counts
  pub mapped_by : (n : ℕ) → is_unmapped (way_at (ways_of names items) n) ≡ false
      → IsMappedBy (first_uses names items) (uses_in names items) n (way_at (ways_of names items) n)
  unfolding ways_of first_uses
  mapped_by n h = elim (mapped_first (replicate (length names) Unmapped) (uses_in names items) n h) [
    | inl before ↦ absurd (let e : true ≡ false = sym (none_yet (length names) n) ∙ before.0 in cc)
    | inr r ↦ r
  ]

-- ---- its statement

-- a use in a statement
pub record StandsIn (names : List Name) (items : List ItemTree) (k : ℕ) (used : Use) : Type 0 where
  pub place : ℕ
  pub item : ItemTree
  pub said : slice_get items place ≡ Some item
  pub stands : Contains (statement_uses names (k + place) item) used

stands_in : (names : List Name) (k : ℕ) (items : List ItemTree) (used : Use) → Contains (uses_from names k items) used → StandsIn names items k used
stands_in names k [] used has = absurd (contains_none used has)
stands_in names k (item ∷ items) used has = elim (Contains-append_cases (statement_uses names k item) (uses_from names (k + 1) items) used has) [
  | inl here ↦ record { place = 0; item = item; said = refl; stands = subst (λ m. Contains (statement_uses names m item) used) (let e : k ≡ k + 0 = omega arith in e) here }
  | inr later ↦
      let r = stands_in names (k + 1) items used later in
      record { place = suc r.place; item = r.item; said = r.said; stands = subst (λ m. Contains (statement_uses names m r.item) used) (let e : k + 1 + r.place ≡ k + suc r.place = omega arith in e) r.stands }
]

-- one of those that are found
pub found_of : {A B : Type 0} (f : A → Option B) (xs : List A) (y : B) → Contains (filter_map f xs) y → (x : A) × Contains xs x × (f x ≡ Some y)
found_of f [] y has = absurd (contains_none y has)
found_of {A = A} f (x ∷ xs) y has = by (f x) refl has (found_of f xs y) where
  by : (o : Option _) → f x ≡ o → Contains (cons_option o (filter_map f xs)) y → (Contains (filter_map f xs) y → (z : A) × Contains xs z × (f z ≡ Some y))
      → (z : A) × Contains (x ∷ xs) z × (f z ≡ Some y)
  by None e has later = let r = later has in (r.0, contains_later x xs r.0 r.1, r.2)
  by (Some v) e has later = elim (contains_cases v (filter_map f xs) y has) [
    | inl is ↦ (x, contains_here x xs, e ∙ ap Some is)
    | inr behind ↦ let r = later behind in (r.0, contains_later x xs r.0 r.1, r.2)
  ]

-- the name of a use and its way
pub record IsUse (names : List Name) (role : Role) (how : Way) (spot : Spot) (used : Use) : Type 0 where
  pub name : used_place names role spot.word ≡ Some used.name
  pub way : used.way ≡ how

use_is : (names : List Name) (role : Role) (way : Way) (spot : Spot) (used : Use) → use_of names role way spot ≡ Some used → IsUse names role way spot used
use_is names role way spot used e = by (used_place names role spot.word) refl e where
  by : (o : Option ℕ) → used_place names role spot.word ≡ o → option_map (λ n. record { name = n; at = spot.at; way = way }) o ≡ Some used → IsUse names role way spot used
  by None p e = absurd cc
  by (Some n) p e =
      let same : record { name = n; at = spot.at; way = way } ≡ used = cc in
      record { name = p ∙ ap (λ (u : Use). Some u.name) same; way = sym (ap (λ (u : Use). u.way) same) }

-- a name that a statement distributes
pub record IsDistributee (names : List Name) (items : List ItemTree) (n k : ℕ) : Type 0 where
  pub distributees : List Spot
  pub formats : List FormatTree
  pub onto : Option Spot
  pub spot : Spot
  pub said : slice_get items k ≡ Some (Distribute distributees formats onto)
  pub stands : Contains distributees spot
  pub name : used_place names Mapped spot.word ≡ Some n

-- a name that a statement aligns, with this base where the base's name has no breach
pub record IsAlignee (names : List Name) (items : List ItemTree) (n k : ℕ) (b : Option ℕ) : Type 0 where
  pub alignees : List Spot
  pub sources : Option (List SourceItem)
  pub base : Spot
  pub subs : Option (List SubTree)
  pub spot : Spot
  pub said : slice_get items k ≡ Some (Align alignees sources base subs)
  pub stands : Contains alignees spot
  pub name : used_place names Array spot.word ≡ Some n
  pub with : used_place names Mapped base.word ≡ b

-- what a use says of the name that it maps, by its way
abbrev pub Says : List Name → List ItemTree → ℕ → Way → Type 0
Says names items n Unmapped = ⊥
Says names items n (Distributed k) = IsDistributee names items n k
Says names items n (Aligned k b) = IsAlignee names items n k b

module _ (names : List Name) (items : List ItemTree) where
  used_in : (k : ℕ) (item : ItemTree) (used : Use) → slice_get items k ≡ Some item → Contains (statement_uses names k item) used → Says names items used.name used.way
  unfolding statement_uses
  used_in k (Distribute distributees formats onto) used said has =
      let r = found_of (use_of names Mapped (Distributed k)) distributees used has in
      let u = use_is names Mapped (Distributed k) r.0 used r.2 in
      subst (Says names items used.name) (sym u.way)
      (record { distributees = distributees; formats = formats; onto = onto; spot = r.0; said = said; stands = r.1; name = u.name })
  used_in k (Align alignees sources base subs) used said has =
      let way = Aligned k (used_place names Mapped base.word) in
      let r = found_of (use_of names Array way) alignees used has in
      let u = use_is names Array way r.0 used r.2 in
      subst (Says names items used.name) (sym u.way)
      (record { alignees = alignees; sources = sources; base = base; subs = subs; spot = r.0; said = said; stands = r.1; name = u.name; with = refl })
  used_in k (ImplicitNone at) used said has = absurd (contains_none used has)
  used_in k (Variables common declared) used said has = absurd (contains_none used has)
  used_in k (Constants common declared) used said has = absurd (contains_none used has)
  used_in k (Processors declared) used said has = absurd (contains_none used has)
  used_in k (Template declared) used said has = absurd (contains_none used has)
  used_in k (Shadow shadowed widths) used said has = absurd (contains_none used has)
  used_in k (Input at name buffers op) used said has = absurd (contains_none used has)
  used_in k (Stage at name permute buffers op) used said has = absurd (contains_none used has)

  -- what the first use of a name says
  pub says : (n : ℕ) (way : Way) → way_at (ways_of names items) n ≡ way → is_unmapped way ≡ false → Says names items n way
  says n way is mapped =
      let m = mapped_by names items n (ap is_unmapped is ∙ mapped) in
      let s = stands_in names 0 items m.used m.stands in
      subst (λ j. Says names items j way) m.name
      (subst (Says names items m.used.name) (m.way ∙ is)
      (used_in s.place s.item m.used s.said (subst (λ j. Contains (statement_uses names j s.item) m.used) (let e : 0 + s.place ≡ s.place = omega arith in e) s.stands)))
