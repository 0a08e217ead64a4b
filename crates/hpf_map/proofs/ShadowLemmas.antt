-- Uses of arrays in SHADOW, in the order of the text, and the first one of each array.
use Rattle.std.proofs.Common.{◌≡◌, ◌==◌, ℕ, ◌+◌, ◌<◌, Bool, true, false, cond, List, [], ◌∷◌, ◌++◌, length, get_or, take, map, Option, Some, None, refl, sym, ap, subst, ◌∙◌, append_assoc, append-nil, arith}
use Rattle.std.specs.BTreeMap.{BTreeMap, get, Updates}
use Rattle.std.specs.Cmp.{unsigned_ties}
use Rattle.std.specs.List.{find}
use Rattle.std.specs.Map.{lookup}
use Rattle.std.specs.Option.{option_or}
use Rattle.std.specs.Ordering.{nat_cmp, is_eq}
use Rattle.std.specs.Prelude.{option_map, fold, is_some}
use Rattle.std.proofs.lemmas.Bool.{eqb-true}
use Rattle.std.proofs.lemmas.List.{get_or_default, take_more, length-map, length-take}
use Rattle.std.proofs.lemmas.List.Folds.{find-append}
use Rattle.hpf_lex.specs.declared.refusal.MapRefusal.{MapRefusal}
use Rattle.hpf_syntax.specs.declared.tree.Item.{Item}
use Rattle.hpf_syntax.specs.declared.tree.WidthItem.{WidthItem}
use Rattle.hpf_syntax.specs.Plain.{ItemTree, item_tree, width_tree}
use Rattle.hpf_map.specs.declared.name.Name.{Name}
use Rattle.hpf_map.specs.declared.shadows.ShadowUse.{ShadowUse}
use Rattle.hpf_map.specs.Declarations.{threaded}
use Rattle.hpf_map.specs.Found.{least_with}
use Rattle.hpf_map.specs.Shaded.{HasFirst}
use Rattle.hpf_map.specs.Shadows.{statement_shadow_uses, shadow_uses_from, first_among, again_breaches}
use Rattle.hpf_map.proofs.DeclareLemmas.{threaded_push, seen_more}
use Rattle.hpf_map.proofs.FoundLemmas.{least_with-nil, least_with-append}

pub widths_seen : (widths : List WidthItem) → length (map width_tree widths) ≡ length widths
widths_seen widths = simp length-map

-- ---- all uses

shadow_uses_from_push : (names : List Name) (k : ℕ) (items : List ItemTree) (item : ItemTree)
    → shadow_uses_from names k (items ++ item ∷ []) ≡ shadow_uses_from names k items ++ statement_shadow_uses names (k + length items) item
shadow_uses_from_push names k [] item =
    let same : k ≡ k + 0 = omega arith in append-nil (statement_shadow_uses names k item) ∙ ap (λ m. statement_shadow_uses names m item) same
shadow_uses_from_push names k (first ∷ items) item =
    let same : k + 1 + length items ≡ k + length (first ∷ items) = omega arith in
    ap (λ l. statement_shadow_uses names k first ++ l) (shadow_uses_from_push names (k + 1) items item)
    ∙ ap (λ m. statement_shadow_uses names k first ++ (shadow_uses_from names (k + 1) items ++ statement_shadow_uses names m item)) same
    ∙ sym (append_assoc (statement_shadow_uses names k first) (shadow_uses_from names (k + 1) items) (statement_shadow_uses names (k + length (first ∷ items)) item))

-- the uses of one more statement
pub shadow_uses_more : (names : List Name) (items : List Item) (i : ℕ) (item : Item) (u1 u2 : List ShadowUse) → i < length items → item ≡ get_or items i item
    → u1 ≡ shadow_uses_from names 0 (map item_tree (take i items)) → u2 ≡ u1 ++ statement_shadow_uses names i (item_tree item)
    → u2 ≡ shadow_uses_from names 0 (map item_tree (take (i + 1) items))
shadow_uses_more names items i item u1 u2 below is before step =
    let long : 0 + length (map item_tree (take i items)) ≡ i = simp (length-map, length-take) (omega arith) in
    step ∙ ap (λ u. u ++ statement_shadow_uses names i (item_tree item)) before
    ∙ ap (λ m. shadow_uses_from names 0 (map item_tree (take i items)) ++ statement_shadow_uses names m (item_tree item)) (sym long)
    ∙ sym (shadow_uses_from_push names 0 (map item_tree (take i items)) (item_tree item))
    ∙ ap (shadow_uses_from names 0) (sym (seen_more item_tree items i item below is))

-- ---- the first use of each array

or_nothing : (o : Option ℕ) → option_or o None ≡ o
or_nothing None = refl
or_nothing (Some k) = refl

or_later : (o p : Option ℕ) → is_some o ≡ true → option_or o p ≡ o
or_later None p h = absurd (let no : false ≡ true = h in cc)
or_later (Some k) p h = refl

nothing : (o : Option ℕ) → is_some o ≡ false → o ≡ None
nothing None h = refl
nothing (Some k) h = absurd (let no : true ≡ false = h in cc)

-- one use more
first_push : (uses : List ShadowUse) (used : ShadowUse) (n : ℕ) (b : Bool) → (used.name == n) ≡ b
    → first_among (uses ++ used ∷ []) n ≡ option_or (first_among uses n) (cond b (Some used.statement) None)
first_push uses used n b e =
    ap (option_map (λ u. u.statement)) (find-append (λ u. u.name == n) uses (used ∷ [])) ∙ at (find (λ u. u.name == n) uses) b e where
      at : (o : Option ShadowUse) (b : Bool) → (used.name == n) ≡ b
          → option_map (λ u. u.statement) (option_or o (cond (used.name == n) (Some used) None)) ≡ option_or (option_map (λ u. u.statement) o) (cond b (Some used.statement) None)
      at (Some x) b e = refl
      at None true e = rw e refl
      at None false e = rw e refl

module _ (uses : List ShadowUse) (used : ShadowUse) where
  -- a use of an array that an earlier one shadows
  pub first_kept : (first : BTreeMap ℕ ℕ) → HasFirst uses first → is_some (get nat_cmp first used.name) ≡ true → HasFirst (uses ++ used ∷ []) first
  first_kept first h some n = by (used.name == n) refl where
    by : (b : Bool) → (used.name == n) ≡ b → get nat_cmp first n ≡ first_among (uses ++ used ∷ []) n
    by false e = h n ∙ sym (first_push uses used n false e ∙ or_nothing (first_among uses n))
    by true e =
        let same : used.name ≡ n = eqb-true used.name n e in
        let there : is_some (first_among uses n) ≡ true = ap is_some (sym (h n)) ∙ subst (λ m. is_some (get nat_cmp first m) ≡ true) same some in
        h n ∙ sym (first_push uses used n true e ∙ or_later (first_among uses n) (Some used.statement) there)

  -- the first use of an array
  pub first_put : (before after : BTreeMap ℕ ℕ) → HasFirst uses before → is_some (get nat_cmp before used.name) ≡ false
      → Updates nat_cmp before after used.name (Some used.statement) → HasFirst (uses ++ used ∷ []) after
  first_put before after h none u n =
      u.0 n ∙ ap (λ c. cond c (Some used.statement) (get nat_cmp before n)) (sym (unsigned_ties used.name n)) ∙ by (used.name == n) refl where
        by : (b : Bool) → (used.name == n) ≡ b → cond b (Some used.statement) (get nat_cmp before n) ≡ first_among (uses ++ used ∷ []) n
        by false e = h n ∙ sym (first_push uses used n false e ∙ or_nothing (first_among uses n))
        by true e =
            let same : used.name ≡ n = eqb-true used.name n e in
            let gone : is_some (first_among uses n) ≡ false = ap is_some (sym (h n)) ∙ subst (λ m. is_some (get nat_cmp before m) ≡ false) same none in
            sym (first_push uses used n true e ∙ ap (λ o. option_or o (Some used.statement)) (nothing (first_among uses n) gone))

  -- whether it is a breach
  pub again_where : (first : BTreeMap ℕ ℕ) (b : Bool) → HasFirst uses first → b ≡ is_some (get nat_cmp first used.name) → is_some (first_among uses used.name) ≡ b
  again_where first b h is = ap is_some (sym (h used.name)) ∙ sym is

-- ---- use after use

-- a use in a list, where the list has one there
abbrev pub shadow_use_at : List ShadowUse → ℕ → ShadowUse
shadow_use_at uses i = get_or uses i (record { name = 0; at = record { line = 0; column = 0 }; statement = 0 })

abbrev pub grown : List ShadowUse → ShadowUse → List ShadowUse
grown earlier used = earlier ++ used ∷ []

all_grown : (before uses : List ShadowUse) → fold grown before uses ≡ before ++ uses
all_grown before [] = sym (append-nil before)
all_grown before (u ∷ uses) = all_grown (before ++ u ∷ []) uses ∙ append_assoc before (u ∷ []) uses

-- What is found of the first uses, and their breaches.
pub record AreFound (uses : List ShadowUse) (i : ℕ) (first : BTreeMap ℕ ℕ) (h0 h1 : Option MapRefusal) : Type 0 where
  pub statements : HasFirst (take i uses) first
  pub breaches : h1 ≡ least_with h0 (threaded grown again_breaches [] (take i uses))

-- no use yet
pub AreFound-none : (uses : List ShadowUse) (first : BTreeMap ℕ ℕ) (found : Option MapRefusal) → first.entries ≡ [] → AreFound uses 0 first found found
AreFound-none uses first found empty = record {
  statements = λ n. ap (lookup (λ k. is_eq (nat_cmp n k))) empty;
  breaches = sym (least_with-nil found);
}

-- one use more
pub AreFound-more : (uses : List ShadowUse) (i : ℕ) (first after : BTreeMap ℕ ℕ) (h0 h1 h2 : Option MapRefusal) → AreFound uses i first h0 h1 → i < length uses
    → HasFirst (take i uses ++ shadow_use_at uses i ∷ []) after → h2 ≡ least_with h1 (again_breaches (take i uses) (shadow_use_at uses i))
    → AreFound uses (i + 1) after h0 h2
AreFound-more uses i first after h0 h1 h2 found below has step =
    let used = shadow_use_at uses i in
    let is : used ≡ get_or uses i used = get_or_default uses i _ _ below in
    let more : take (i + 1) uses ≡ take i uses ++ used ∷ [] = take_more uses i used below ∙ ap (λ y. take i uses ++ y ∷ []) (sym is) in
    record {
      statements = subst (λ us. HasFirst us after) (sym more) has;
      breaches =
          step ∙ ap (λ us. least_with h1 (again_breaches us used)) (sym (all_grown [] (take i uses)))
          ∙ ap (λ k. least_with k (again_breaches (fold grown [] (take i uses)) used)) found.breaches
          ∙ least_with-append h0 (threaded grown again_breaches [] (take i uses)) (again_breaches (fold grown [] (take i uses)) used)
          ∙ sym (ap (λ l. least_with h0 (threaded grown again_breaches [] l)) more ∙ ap (least_with h0) (threaded_push grown again_breaches [] (take i uses) used));
    }
