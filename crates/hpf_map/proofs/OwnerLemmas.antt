-- The owners that a mapping gives are those that the directives give.
use Rattle.std.proofs.Common.{◌≡◌, ℕ, ◌<◌, Bool, true, false, ◌||◌, List, [], ◌∷◌, length, map, Some, inl, inr, ℤ, sym, ap, ◌∙◌, subst, refl}
use Rattle.std.specs.Prelude.{Contains, ◌↔◌, IsTrue}
use Rattle.std.specs.List.{list_any}
use Rattle.std.proofs.lemmas.Bool.{or_left, or_right, false≢true}
use Rattle.std.proofs.lemmas.List.{length-map}
use Rattle.std.proofs.lemmas.Simd.{map-map}
use Rattle.hpf_own.specs.Image.{positions}
use Rattle.hpf_own.specs.Mapping.{PlainMapping}
use Rattle.hpf_own.specs.Owners.{coordinates, is_owned_whole, owns}
use Rattle.hpf_own.specs.Space.{choices, product, LiesIn}
use Rattle.hpf_own.specs.declared.image.BaseDim.{BaseDim}
use Rattle.hpf_own.specs.declared.image.Image.{Image}
use Rattle.hpf_syntax.specs.Plain.{ItemTree}
use Rattle.hpf_map.specs.declared.name.Name.{Name}
use Rattle.hpf_map.specs.declared.name.Span.{Span}
use Rattle.hpf_map.specs.declared.way.Way.{Way}
use Rattle.hpf_map.specs.declared.way.Way.TheVariants.{Distributed}
use Rattle.hpf_map.specs.Composed.{LiesUnder}
use Rattle.hpf_map.specs.Dealing.{Dealt}
use Rattle.hpf_map.specs.Landings.{IsLanding}
use Rattle.hpf_map.specs.Mapped.{AreCut}
use Rattle.hpf_map.specs.Ownership.{shape_at, dealing_by, owned_at, owns_by, sizes_by, Owns}
use Rattle.hpf_map.specs.Spaces.{run_of}
use Rattle.hpf_map.specs.Ways.{ways_of, way_at}
use Rattle.hpf_map.proofs.ChoiceLemmas.{choice_from, choice_length, contains_here, contains_later, contains_cases, contains_none}
use Rattle.hpf_map.proofs.CutLemmas.{cuts_own}

-- ---- tests over lists

any_from : {A : Type 0} (p : A → Bool) (xs : List A) (x : A) → Contains xs x → p x ≡ true → list_any p xs ≡ true
any_from p [] x has h = absurd (contains_none x has)
any_from p (y ∷ xs) x has h = elim (contains_cases y xs x has) [
  | inl is ↦ or_left (p y) _ (ap p is ∙ h)
  | inr later ↦ or_right (p y) _ (any_from p xs x later h)
]

any_behind : {A : Type 0} (p : A → Bool) (y : A) (xs : List A) (b : Bool) → p y ≡ b → (b || list_any p xs) ≡ true → (list_any p xs ≡ true → (x : A) × Contains xs x × (p x ≡ true)) → (x : A) × Contains (y ∷ xs) x × (p x ≡ true)
any_behind p y xs true is h later = (y, contains_here y xs, is)
any_behind p y xs false is h later = let r = later h in (r.0, contains_later y xs r.0 r.1, r.2)

any_to : {A : Type 0} (p : A → Bool) (xs : List A) → list_any p xs ≡ true → (x : A) × Contains xs x × (p x ≡ true)
any_to p [] h = absurd (false≢true h)
any_to p (y ∷ xs) h = any_behind p y xs (p y) refl h (any_to p xs)

-- ---- owners

same_statement : (w : Way) (k j : ℕ) → w ≡ Distributed k → w ≡ Distributed j → k ≡ j
same_statement w k j e f = let same : Distributed k ≡ Distributed j = sym e ∙ f in cc

module _ (names : List Name) (items : List ItemTree) where
  owns_is : (k b p : ℕ) (root : List Span) (sizes : List ℕ) (dealt : Dealt) (position : List ℤ)
      → dealing_by names items k ≡ Some dealt → shape_at names items b ≡ Some root → sizes_by names items k ≡ sizes
      → owns_by names items k b p position ≡ owned_at dealt root (coordinates sizes p) position
  unfolding owns_by
  owns_is k b p root sizes dealt position said has are = rw (said, has, are) refl

  pub owners_are : (n base statement p : ℕ) (root : List Span) (sizes : List ℕ) (dealt : Dealt) (images : List Image) (dims : List BaseDim) (m : PlainMapping) (index : List ℤ)
      (landing : IsLanding names items n base statement (map (λ d. d.image) dims))
      → dealing_by names items statement ≡ Some dealt → shape_at names items base ≡ Some root → sizes_by names items statement ≡ sizes
      → AreCut dealt root images dims → length dealt.formats ≡ length root → m.dims ≡ dims → m.procs ≡ sizes → p < product sizes → LiesIn (map run_of landing.shape) index
      → IsTrue (owns m p index) ↔ Owns names items n p index
  owners_are n base statement p root sizes dealt images dims m index landing said has are cut rank is procs below lies =
      let at = coordinates sizes p in
      let lists : map (λ d. positions d.image index) dims ≡ map (λ image. positions image index) (map (λ d. d.image) dims) = sym (map-map (λ image. positions image index) (λ d. d.image) dims) in
      let through : owns m p index ≡ list_any (is_owned_whole dims at) (choices (map (λ d. positions d.image index) dims)) = rw (is, procs) refl in
      let owned = λ (position : List ℤ) (fits : length position ≡ length dims). owns_is statement base p root sizes dealt position said has are ∙ cuts_own dealt root images dims at position cut rank fits in
      let fit = λ (position : List ℤ) (has_it : Contains (choices (map (λ d. positions d.image index) dims)) position).
      choice_length _ position (choice_from _ position has_it) ∙ length-map dims (λ d. positions d.image index) in (
        λ h.
            let r = any_to (is_owned_whole dims at) (choices (map (λ d. positions d.image index) dims)) (sym through ∙ h) in
            let under : LiesUnder (map (λ d. d.image) dims) index r.0 = subst (λ l. Contains (choices l) r.0) lists r.1 in
            record {
              base = base;
              statement = statement;
              position = r.0;
              lies = (landing.lies index base r.0 lies).1 (refl, under);
              distributed = landing.distributed;
              owned = owned r.0 (fit r.0 r.1) ∙ r.2;
            },
        λ o.
            let there = (landing.lies index o.base o.position lies).0 o.lies in
            let has_it : Contains (choices (map (λ d. positions d.image index) dims)) o.position = subst (λ l. Contains (choices l) o.position) (sym lists) there.1 in
            let way : way_at (ways_of names items) base ≡ Distributed o.statement = subst (λ b. way_at (ways_of names items) b ≡ Distributed o.statement) there.0 o.distributed in
            let same : o.statement ≡ statement = same_statement (way_at (ways_of names items) base) o.statement statement way landing.distributed in
            let by : owns_by names items statement base p o.position ≡ true = subst (λ k. owns_by names items k base p o.position ≡ true) same (subst (λ b. owns_by names items o.statement b p o.position ≡ true) there.0 o.owned) in
            through ∙ any_from (is_owned_whole dims at) _ o.position has_it (sym (owned o.position (fit o.position has_it)) ∙ by),
      )
