-- The dummies of a directive as a set of words.
use Rattle.std.proofs.Common.{◌≡◌, ℕ, ◌+◌, ◌<◌, Bool, true, false, cond, ◌||◌, List, [], ◌∷◌, ◌++◌, length, get_or, take, Option, Some, refl, sym, ap, ◌∙◌}
use Rattle.std.specs.List.{list_any}
use Rattle.std.proofs.lemmas.List.{take_more}
use Rattle.std.proofs.lemmas.List.Folds.{list_any-append}
use Rattle.std.specs.Ordering.{nat_cmp, is_eq}
use Rattle.std.specs.Cmp.{eq_by_cmp_equiv}
use Rattle.std.specs.Cmp.Lexicographic.{slice_cmp, nat_list_cmp_total}
use Rattle.hpf_syntax.specs.declared.tree.SourceItem.{SourceItem}
use Rattle.std.specs.BTreeSet.{BTreeSet}
use Rattle.hpf_lex.specs.declared.refusal.MapRefusal.{MapRefusal}
use Rattle.hpf_syntax.specs.declared.tree.Spot.{Spot}
use Rattle.hpf_map.specs.declared.constraint.Constraint.TheVariants.{DummyTwice}
use Rattle.hpf_map.specs.Constraint.{breach_if}
use Rattle.hpf_map.specs.Dummies.{stands_among, stands_in, seen_breaches}
use Rattle.hpf_map.specs.Found.{least_with}
use Rattle.hpf_map.specs.Hidden.{hides}
use Rattle.hpf_map.specs.Uses.{is_dummy, dummies}
use Rattle.hpf_map.proofs.DeclareLemmas.{Threads, Threads-more}
use Rattle.hpf_map.proofs.FoundLemmas.{least_with-nil}

or_false : (b : Bool) → (b || false) ≡ b
or_false true = refl
or_false false = refl

or_true : (b : Bool) → (b || true) ≡ true
or_true true = refl
or_true false = refl

added : (a b : Bool) → cond a true b ≡ (b || a)
added true b = sym (or_true b)
added false b = sym (or_false b)

-- what is in a set after a word is put in
pub contains_added : (dummy word : List ℕ) (before after : Bool) → after ≡ cond (is_eq (slice_cmp nat_cmp dummy word)) true before
    → after ≡ (before || is_eq (slice_cmp nat_cmp word dummy))
contains_added dummy word before after e =
    e ∙ added (is_eq (slice_cmp nat_cmp dummy word)) before ∙ ap (λ b. before || b) ((eq_by_cmp_equiv nat_list_cmp_total).symm dummy word)

-- what is in a set after nothing is put in
pub contains_same : (before : Bool) → before ≡ (before || false)
contains_same before = sym (or_false before)

-- one more source
pub dummies_more : (sources : List SourceItem) (i : ℕ) (source : SourceItem) (word : List ℕ) (before after : Bool)
    → i < length sources → source ≡ get_or sources i source
    → before ≡ dummies (Some (take i sources)) word → after ≡ (before || is_dummy word source)
    → after ≡ dummies (Some (take (i + 1) sources)) word
dummies_more sources i source word before after below is b e =
    e ∙ ap (λ c. c || is_dummy word source) b
    ∙ ap (λ c. list_any (is_dummy word) (take i sources) || c) (sym (or_false (is_dummy word source)))
    ∙ sym (list_any-append (is_dummy word) (take i sources) (source ∷ []))
    ∙ ap (list_any (is_dummy word)) (ap (λ s. take i sources ++ s ∷ []) is ∙ sym (take_more sources i source below))

-- ---- words that stand in some of a list

or_assoc : (a b c : Bool) → ((a || b) || c) ≡ (a || (b || c))
or_assoc true b c = refl
or_assoc false b c = refl

-- one more of a list
pub any_more : {A : Type 0} (q : A → Bool) (xs : List A) (i : ℕ) (x : A) (first before after : Bool)
    → i < length xs → x ≡ get_or xs i x → before ≡ (first || list_any q (take i xs)) → after ≡ (before || q x)
    → after ≡ (first || list_any q (take (i + 1) xs))
any_more q xs i x first before after below is b e =
    e ∙ ap (λ c. c || q x) b ∙ or_assoc first (list_any q (take i xs)) (q x)
    ∙ ap (λ c. first || (list_any q (take i xs) || c)) (sym (or_false (q x)))
    ∙ ap (λ c. first || c) (sym (list_any-append q (take i xs) (x ∷ [])))
    ∙ ap (λ s. first || list_any q s) (ap (λ y. take i xs ++ y ∷ []) is ∙ sym (take_more xs i x below))

seen_same : (f g : List ℕ → Bool) → ((word : List ℕ) → f word ≡ g word) → (spots : List Spot) → seen_breaches f spots ≡ seen_breaches g spots
seen_same f g same [] = refl
seen_same f g same (spot ∷ spots) =
    ap (λ b. breach_if b DummyTwice spot.at ++ seen_breaches f spots) (same spot.word)
    ∙ ap (λ l. breach_if (g spot.word) DummyTwice spot.at ++ l) (seen_same f g same spots)

-- the dummies of the first of a list are those that are seen
pub record SeenBy {A B : Type 0} (see : A → B) (dummies_of : B → List Spot) (xs : List A) (i : ℕ) (set : BTreeSet (List ℕ)) (h0 h1 : Option MapRefusal) : Type 0 where
  pub earlier : List B
  pub seen : (word : List ℕ) → hides (Some set) word ≡ stands_in dummies_of earlier word
  pub threads : Threads see (λ e x. e ++ x ∷ []) (λ e x. seen_breaches (stands_in dummies_of e) (dummies_of x)) xs i [] earlier h0 h1

pub SeenBy-none : {A B : Type 0} {see : A → B} {dummies_of : B → List Spot} {xs : List A} (set : BTreeSet (List ℕ)) (h : Option MapRefusal)
    → ((word : List ℕ) → hides (Some set) word ≡ false) → SeenBy see dummies_of xs 0 set h h
SeenBy-none set h none = record { earlier = []; seen = none; threads = record { state = refl; breaches = sym (least_with-nil h) } }

pub SeenBy-more : {A B : Type 0} {see : A → B} {dummies_of : B → List Spot} {xs : List A} {i : ℕ} {set : BTreeSet (List ℕ)} {h0 h1 : Option MapRefusal}
    (x : A) (spots : List Spot) (after : BTreeSet (List ℕ)) (h2 : Option MapRefusal) → SeenBy see dummies_of xs i set h0 h1
    → i < length xs → x ≡ get_or xs i x → spots ≡ dummies_of (see x) → h2 ≡ least_with h1 (seen_breaches (hides (Some set)) spots)
    → ((word : List ℕ) → hides (Some after) word ≡ (hides (Some set) word || stands_among spots word))
    → SeenBy see dummies_of xs (i + 1) after h0 h2
SeenBy-more {see = see} {dummies_of = dummies_of} {set = set} {h1 = h1} x spots after h2 s below is held found seen = record {
  earlier = s.earlier ++ see x ∷ [];
  seen = λ word.
      seen word ∙ ap (λ b. b || stands_among spots word) (s.seen word)
      ∙ ap (λ l. stands_in dummies_of s.earlier word || stands_among l word) held
      ∙ ap (λ b. stands_in dummies_of s.earlier word || b) (sym (or_false (stands_among (dummies_of (see x)) word)))
      ∙ sym (list_any-append (λ y. stands_among (dummies_of y) word) s.earlier (see x ∷ []));
  threads =
      Threads-more x (s.earlier ++ see x ∷ []) h2 s.threads below is refl
      (found ∙ ap (least_with h1) (ap (seen_breaches (hides (Some set))) held ∙ seen_same (hides (Some set)) (stands_in dummies_of s.earlier) s.seen (dummies_of (see x))));
}
