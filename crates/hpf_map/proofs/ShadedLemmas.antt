-- The shadow of each array of a text without a breach.
use Rattle.std.proofs.Common.{◌≡◌, ◌==◌, ℕ, suc, ◌+◌, Bool, true, false, cond, List, [], ◌∷◌, length, Option, Some, None, inl, inr, refl, sym, ap, subst, ◌∙◌, arith}
use Rattle.std.specs.BTreeMap.{BTreeMap, get}
use Rattle.std.specs.List.{find}
use Rattle.std.specs.Ordering.{nat_cmp}
use Rattle.std.specs.Prelude.{Contains, slice_get, option_map, option_and_then}
use Rattle.std.proofs.lemmas.Bool.{eqb-true}
use Rattle.std.proofs.lemmas.List.{length-replicate}
use Rattle.std.proofs.lemmas.List.Elements.{All-replicate, Contains-append_cases}
use Rattle.hpf_own.specs.KeptLists.{no_width}
use Rattle.hpf_own.specs.Mapping.{IsSmallWidth}
use Rattle.hpf_own.specs.declared.widths.Width.{Width}
use Rattle.hpf_syntax.specs.declared.tree.Spot.{Spot}
use Rattle.hpf_syntax.specs.Plain.{WidthTree, ItemTree, ImplicitNone, Variables, Constants, Processors, Template, Distribute, Align, Shadow, Input, Stage}
use Rattle.hpf_map.specs.declared.name.Name.{Name}
use Rattle.hpf_map.specs.declared.name.Span.{Span}
use Rattle.hpf_map.specs.declared.program.Need.{Need}
use Rattle.hpf_map.specs.declared.role.Role.TheVariants.{Array}
use Rattle.hpf_map.specs.declared.shadows.ShadowUse.{ShadowUse}
use Rattle.hpf_map.specs.Layers.{names_of}
use Rattle.hpf_map.specs.Ownership.{shape_at}
use Rattle.hpf_map.specs.Paired.{at_place}
use Rattle.hpf_map.specs.Refusal.{all_breaches}
use Rattle.hpf_map.specs.Shaded.{given_by, or_none, IsShadow, AreShadows}
use Rattle.hpf_map.specs.Shadows.{shadowed_breaches, shadow_breaches, shadow_use, statement_shadow_uses, shadow_uses_from, shadow_uses, first_among, shadows_breaches, widths_by, first_shadow, shadow_at}
use Rattle.hpf_map.specs.Spaces.{shape_of}
use Rattle.hpf_map.specs.Ways.{used_place}
use Rattle.hpf_map.specs.ShadowWidths.{all_shadow_widths}
use Rattle.hpf_map.proofs.ChoiceLemmas.{contains_here, contains_later, contains_none}
use Rattle.hpf_map.proofs.EmptyLemmas.{first_empty, others_empty, each_empty}
use Rattle.hpf_map.proofs.FirstUseLemmas.{found_of}
use Rattle.hpf_map.proofs.UnbrokenLemmas.{AreNone, all_none, used_is, same_shape, counted, contains_get}
use Rattle.hpf_map.proofs.ShadowWidthLemmas.{AreThere, widths_there}

-- ---- the statement with the first SHADOW of an array

record IsFirst (uses : List ShadowUse) (n k : ℕ) : Type 0 where
  used : ShadowUse
  stands : Contains uses used
  name : used.name ≡ n
  statement : used.statement ≡ k

first_is : (uses : List ShadowUse) (n k : ℕ) → first_among uses n ≡ Some k → IsFirst uses n k
first_is [] n k h = absurd cc
first_is (u ∷ uses) n k h = by (u.name == n) refl h (first_is uses n k) where
  by : (b : Bool) → (u.name == n) ≡ b → option_map (λ used. used.statement) (cond b (Some u) (find (λ used. used.name == n) uses)) ≡ Some k
      → (first_among uses n ≡ Some k → IsFirst uses n k) → IsFirst (u ∷ uses) n k
  by true e h later = record { used = u; stands = contains_here u uses; name = eqb-true u.name n e; statement = cc }
  by false e h later = let r = later h in record { used = r.used; stands = contains_later u uses r.used r.stands; name = r.name; statement = r.statement }

-- a name in a SHADOW
record IsShadowed (names : List Name) (items : List ItemTree) (n k : ℕ) : Type 0 where
  shadowed : List Spot
  widths : List WidthTree
  spot : Spot
  said : slice_get items k ≡ Some (Shadow shadowed widths)
  stands : Contains shadowed spot
  name : used_place names Array spot.word ≡ Some n

record StandsIn (names : List Name) (items : List ItemTree) (k : ℕ) (used : ShadowUse) : Type 0 where
  place : ℕ
  item : ItemTree
  said : slice_get items place ≡ Some item
  stands : Contains (statement_shadow_uses names (k + place) item) used

stands_in : (names : List Name) (k : ℕ) (items : List ItemTree) (used : ShadowUse) → Contains (shadow_uses_from names k items) used → StandsIn names items k used
stands_in names k [] used has = absurd (contains_none used has)
stands_in names k (item ∷ items) used has = elim (Contains-append_cases (statement_shadow_uses names k item) (shadow_uses_from names (k + 1) items) used has) [
  | inl here ↦ record { place = 0; item = item; said = refl; stands = subst (λ m. Contains (statement_shadow_uses names m item) used) (let e : k ≡ k + 0 = omega arith in e) here }
  | inr later ↦
      let r = stands_in names (k + 1) items used later in
      record { place = suc r.place; item = r.item; said = r.said; stands = subst (λ m. Contains (statement_shadow_uses names m r.item) used) (let e : k + 1 + r.place ≡ k + suc r.place = omega arith in e) r.stands }
]

-- the name of a use and its statement
record IsUse (names : List Name) (k : ℕ) (spot : Spot) (used : ShadowUse) : Type 0 where
  name : used_place names Array spot.word ≡ Some used.name
  statement : used.statement ≡ k

use_is : (names : List Name) (k : ℕ) (spot : Spot) (used : ShadowUse) → shadow_use names k spot ≡ Some used → IsUse names k spot used
use_is names k spot used e = by (used_place names Array spot.word) refl e where
  by : (o : Option ℕ) → used_place names Array spot.word ≡ o → option_map (λ n. record { name = n; at = spot.at; statement = k }) o ≡ Some used → IsUse names k spot used
  by None p e = absurd cc
  by (Some n) p e =
      let same : record { name = n; at = spot.at; statement = k } ≡ used = cc in
      record { name = p ∙ ap (λ (u : ShadowUse). Some u.name) same; statement = sym (ap (λ (u : ShadowUse). u.statement) same) }

module _ (names : List Name) (items : List ItemTree) where
  used_in : (k : ℕ) (item : ItemTree) (used : ShadowUse) → slice_get items k ≡ Some item → Contains (statement_shadow_uses names k item) used
      → IsShadowed names items used.name used.statement
  unfolding statement_shadow_uses
  used_in k (Shadow shadowed widths) used said has =
      let r = found_of (shadow_use names k) shadowed used has in
      let u = use_is names k r.0 used r.2 in
      record { shadowed = shadowed; widths = widths; spot = r.0; said = ap (slice_get items) u.statement ∙ said; stands = r.1; name = u.name }
  used_in k (ImplicitNone at) used said has = absurd (contains_none used has)
  used_in k (Variables common declared) used said has = absurd (contains_none used has)
  used_in k (Constants common declared) used said has = absurd (contains_none used has)
  used_in k (Processors declared) used said has = absurd (contains_none used has)
  used_in k (Template declared) used said has = absurd (contains_none used has)
  used_in k (Distribute distributees formats onto) used said has = absurd (contains_none used has)
  used_in k (Align alignees sources base subs) used said has = absurd (contains_none used has)
  used_in k (Input at name buffers op) used said has = absurd (contains_none used has)
  used_in k (Stage at name permute buffers op) used said has = absurd (contains_none used has)

  shadowed_by : (n k : ℕ) → first_shadow names items n ≡ Some k → IsShadowed names items n k
  unfolding first_shadow
  shadowed_by n k is =
      let f = first_is (shadow_uses names items) n k is in
      let s = stands_in names 0 items f.used f.stands in
      subst (λ j. IsShadowed names items n j) f.statement
      (subst (λ j. IsShadowed names items j f.used.statement) f.name
      (used_in s.place s.item f.used s.said (subst (λ j. Contains (statement_shadow_uses names j s.item) f.used) (let e : 0 + s.place ≡ s.place = omega arith in e) s.stands)))

-- ---- the widths of an array

module _ (need : Need) (items : List ItemTree) (none : AreNone need items) where
  abbrev names : List Name
  names = names_of items

  -- they are as many as the array has dimensions
  first_there : (n k : ℕ) (spans : List Span) → first_shadow names items n ≡ Some k → shape_at names items n ≡ Some spans → AreThere (length spans) (at_place k (all_shadow_widths items))
  unfolding shadow_breaches shadows_breaches
  first_there n k spans first has =
      let s : IsShadowed names items n k = shadowed_by names items n k first in
      let u = used_is names Array s.spot.word n s.name in
      let own : shadow_breaches names (Shadow s.shadowed s.widths) ≡ [] = each_empty (shadow_breaches names) items (first_empty _ _ none.shadows) _ (contains_get items k _ s.said) in
      let told : shadowed_breaches names (length s.widths) s.spot ≡ [] = each_empty (shadowed_breaches names (length s.widths)) s.shadowed own s.spot s.stands in
      let count : length s.widths ≡ length spans = counted (length s.widths) s.spot (shape_of names Array s.spot.word) spans (same_shape names Array s.spot.word n u ∙ has) (others_empty _ _ told) in
      subst (λ size. AreThere size (at_place k (all_shadow_widths items))) count (widths_there items k s.shadowed s.widths none.layers s.said)

  shadow_is : (n rank : ℕ) (o : Option ℕ) → first_shadow names items n ≡ o → shadow_at names items n rank ≡ widths_by items rank o
  unfolding shadow_at
  shadow_is n rank o e = ap (widths_by items rank) e

  -- the widths of an array are those that are found
  shadow_found : (widths : List (Option (List Width))) (first : BTreeMap ℕ ℕ) → widths ≡ all_shadow_widths items → ((n : ℕ) → get nat_cmp first n ≡ first_shadow names items n)
      → (n : ℕ) (spans : List Span) → shape_at names items n ≡ Some spans → IsShadow names items n (length spans) (or_none (length spans) (given_by widths first n))
  shadow_found widths first widths_are first_are n spans has = by (first_shadow names items n) refl where
    given : (o : Option ℕ) → first_shadow names items n ≡ o → given_by widths first n ≡ option_and_then (λ k. at_place k (all_shadow_widths items)) o
    given o e = ap (option_and_then (λ k. at_place k widths)) (first_are n ∙ e) ∙ ap (λ ws. option_and_then (λ k. at_place k ws) o) widths_are

    by : (o : Option ℕ) → first_shadow names items n ≡ o → IsShadow names items n (length spans) (or_none (length spans) (given_by widths first n))
    by None e = subst (λ g. IsShadow names items n (length spans) (or_none (length spans) g)) (sym (given None e)) (record {
      is = shadow_is n (length spans) None e;
      size = length-replicate (length spans) no_width;
      small = All-replicate IsSmallWidth (length spans) no_width (record { low = omega arith; high = omega arith });
    })
    by (Some k) e =
        let r = first_there n k spans e has in
        subst (λ g. IsShadow names items n (length spans) (or_none (length spans) g)) (sym (given (Some k) e ∙ r.is))
        (record { is = shadow_is n (length spans) (Some k) e ∙ r.is; size = r.size; small = r.small })

pub shadows_are : (need : Need) (items : List ItemTree) (widths : List (Option (List Width))) (first : BTreeMap ℕ ℕ) → all_breaches need items ≡ []
    → widths ≡ all_shadow_widths items → ((n : ℕ) → get nat_cmp first n ≡ first_shadow (names_of items) items n) → AreShadows items widths first
shadows_are need items widths first nothing widths_are first_are = record { each = shadow_found need items (all_none need items nothing) widths first widths_are first_are }
