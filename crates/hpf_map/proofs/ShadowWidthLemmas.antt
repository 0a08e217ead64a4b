-- The widths of a SHADOW without a breach.
use Rattle.std.proofs.Common.{◌≡◌, ℕ, zero, suc, ◌≤◌, Bool, true, false, cond, List, [], ◌∷◌, length, map, All, Option, Some, None, ℤ, pos, neg_ℤ, refl, sym, ap, subst, arith}
use Rattle.std.specs.Prelude.{option_and_then, option_map, slice_get, unsigned_abs, int_lt, int_le}
use Rattle.std.specs.List.{flat_map}
use Rattle.std.proofs.lemmas.Int.{ints}
use Rattle.std.proofs.lemmas.List.Elements.{All-nil, All-cons}
use Rattle.hpf_own.specs.Mapping.{IsSmallWidth}
use Rattle.hpf_own.specs.declared.widths.Width.{Width}
use Rattle.hpf_syntax.specs.declared.tree.At.{At}
use Rattle.hpf_syntax.specs.declared.tree.Spot.{Spot}
use Rattle.hpf_syntax.specs.Plain.{Tree, WidthTree, ItemTree, Shadow}
use Rattle.hpf_map.specs.declared.constraint.Constraint.TheVariants as constraint
use Rattle.hpf_map.specs.declared.name.Name.{Name}
use Rattle.hpf_map.specs.Constraint.{breach_if}
use Rattle.hpf_map.specs.Declarations.{threaded, names_after, declaration_breaches}
use Rattle.hpf_map.specs.Expressions.{directive_breaches}
use Rattle.hpf_map.specs.Gathered.{all_of}
use Rattle.hpf_map.specs.Layers.{ordered_breaches, breaches_in}
use Rattle.hpf_map.specs.Paired.{at_place}
use Rattle.hpf_map.specs.Sound.{IsInRange}
use Rattle.hpf_map.specs.Values.{greatest, in_range, value, place_of}
use Rattle.hpf_map.specs.ShadowWidths.{not_negative, is_negative, both_widths, one_width, high_width, width_of, one_width_breaches, maybe_width_breaches, width_breaches, statement_shadow, all_shadow_widths}
use Rattle.hpf_map.proofs.EmptyLemmas.{first_empty, others_empty, breach_if_none}
use Rattle.hpf_map.proofs.FreeLemmas.{HasValue, IsUsable, IsReady, usable_names, item_ready, expression_there}
use Rattle.hpf_map.proofs.SoundLemmas.{first_true, second_true}

-- a width that is there
abbrev HasElements : Option ℕ → Type 0
HasElements None = ⊥
HasElements (Some n) = n ≤ 2147483647

abbrev HasWidth : Option Width → Type 0
HasWidth None = ⊥
HasWidth (Some w) = IsSmallWidth w

value_small : (v : ℤ) → IsInRange v → unsigned_abs v ≤ 2147483647
unfolding in_range
value_small v h =
    let least : int_le (neg_ℤ (pos greatest)) v ≡ true = first_true (int_le (neg_ℤ (pos greatest)) v) (int_le v (pos greatest)) h in
    let most : int_le v (pos greatest) ≡ true = second_true (int_le (neg_ℤ (pos greatest)) v) (int_le v (pos greatest)) h in
    omega (arith, ints, least, most)

elements_there : (o : Option ℤ) (at : At) → HasValue o → breach_if (is_negative o) constraint.Shadow at ≡ [] → HasElements (option_and_then not_negative o)
elements_there None at h none = absurd h
elements_there (Some v) at h none = by (int_lt v (pos 0)) (breach_if_none (int_lt v (pos 0)) _ at none) where
  by : (b : Bool) → b ≡ false → HasElements (cond b None (Some (unsigned_abs v)))
  by true e = absurd cc
  by false e = value_small v h

both_there : (low high : Option ℕ) → HasElements low → HasElements high → HasWidth (both_widths low high)
both_there None high h k = absurd h
both_there (Some low) None h k = absurd k
both_there (Some low) (Some high) h k = record { low = omega (arith, h); high = omega (arith, k) }

module _ (before : List Name) (usable : All IsUsable before) where
  one_there : (e : Tree) → one_width_breaches before e ≡ [] → HasElements (one_width before e)
  unfolding one_width_breaches
  one_there e none = elements_there (value before e) (place_of e) (expression_there before usable e (first_empty _ _ none)) (others_empty _ _ none)

  high_there : (low : Option ℕ) (high : Option Tree) → HasElements low → maybe_width_breaches before high ≡ [] → HasElements (high_width before low high)
  high_there low None h none = h
  high_there low (Some e) h none = one_there e none

  width_there : (w : WidthTree) → width_breaches before w ≡ [] → HasWidth (width_of before w)
  unfolding width_breaches width_of
  width_there w none =
      let low = one_there w.low (first_empty _ _ none) in
      both_there (one_width before w.low) (high_width before (one_width before w.low) w.high) low
      (high_there (one_width before w.low) w.high low (others_empty _ _ none))

-- so many widths that are there
pub record AreThere (count : ℕ) (o : Option (List Width)) : Type 0 where
  pub widths : List Width
  pub is : o ≡ Some widths
  pub size : length widths ≡ count
  pub small : All IsSmallWidth widths

all_there : (before : List Name) → All IsUsable before → (ws : List WidthTree) → flat_map (width_breaches before) ws ≡ [] → AreThere (length ws) (all_of (map (width_of before) ws))
unfolding all_of
all_there before usable [] none = record { widths = []; is = refl; size = refl; small = All-nil IsSmallWidth }
all_there before usable (w ∷ ws) none =
    by (width_of before w) (width_there before usable w (first_empty _ _ none)) (all_there before usable ws (others_empty _ _ none)) where
      by : (o : Option Width) → HasWidth o → AreThere (length ws) (all_of (map (width_of before) ws)) → AreThere (length (w ∷ ws)) (all_of (o ∷ map (width_of before) ws))
      by None h r = absurd h
      by (Some x) h r = record {
        widths = x ∷ r.widths;
        is = ap (option_map (λ ys. x ∷ ys)) r.is;
        size = ap suc r.size;
        small = All-cons IsSmallWidth x r.widths h r.small;
      }

-- ---- statements

shadow_there : (before : List Name) → All IsUsable before → (shadowed : List Spot) (ws : List WidthTree) → ordered_breaches before (Shadow shadowed ws) ≡ []
    → AreThere (length ws) (statement_shadow before (Shadow shadowed ws))
unfolding ordered_breaches directive_breaches
shadow_there before usable shadowed ws none =
    all_there before usable ws (first_empty (flat_map (width_breaches before) ws) (declaration_breaches before (Shadow shadowed ws)) none)

there_at : (items : List ItemTree) (before : List Name) → All IsReady before → threaded names_after ordered_breaches before items ≡ [] → (k : ℕ) (shadowed : List Spot) (ws : List WidthTree)
    → slice_get items k ≡ Some (Shadow shadowed ws) → AreThere (length ws) (at_place k (threaded names_after (λ names item. statement_shadow names item ∷ []) before items))
there_at [] before h none k shadowed ws is = absurd cc
there_at (item ∷ items) before h none zero shadowed ws is =
    let same : Shadow shadowed ws ≡ item = cc in
    subst (λ i. AreThere (length ws) (statement_shadow before i)) same
    (shadow_there before (usable_names before h) shadowed ws (subst (λ i. ordered_breaches before i ≡ []) (sym same) (first_empty _ _ none)))
there_at (item ∷ items) before h none (suc k) shadowed ws is =
    there_at items (names_after before item) (item_ready before item h (first_empty _ _ none)) (others_empty _ _ none) k shadowed ws is

-- what a SHADOW gives, in a text without a breach
pub widths_there : (items : List ItemTree) (k : ℕ) (shadowed : List Spot) (ws : List WidthTree) → breaches_in items ≡ [] → slice_get items k ≡ Some (Shadow shadowed ws)
    → AreThere (length ws) (at_place k (all_shadow_widths items))
unfolding breaches_in all_shadow_widths
widths_there items k shadowed ws none is = there_at items [] (All-nil IsReady) (first_empty _ _ none) k shadowed ws is
