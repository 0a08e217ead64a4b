-- Where a text has no breach, what a statement distributes can be cut by its formats.
use Rattle.std.proofs.Common.{◌≡◌, ℕ, cond, List, [], length, All, Option, Some, refl, sym, ap, subst, ◌∙◌, eq-eqb}
use Rattle.std.specs.Prelude.{unwrap_or}
use Rattle.hpf_map.specs.declared.name.Name.{Name}
use Rattle.hpf_map.specs.declared.name.Space.TheVariants.{Arrangement}
use Rattle.hpf_map.specs.declared.name.Span.{Span}
use Rattle.hpf_map.specs.declared.program.Need.{Need}
use Rattle.hpf_map.specs.declared.role.Role.TheVariants as role
use Rattle.hpf_map.specs.declared.way.Way.TheVariants.{Distributed}
use Rattle.hpf_syntax.specs.Plain.{ItemTree}
use Rattle.hpf_map.specs.Dealing.{Dealt, matching, dealing, dealing_breaches, sized_breaches, formats_breaches}
use Rattle.hpf_map.specs.Distributions.{divided, target_shape, distributee_breaches, distribute_breaches}
use Rattle.hpf_map.specs.Fit.{IsFree}
use Rattle.hpf_map.specs.Layers.{names_of}
use Rattle.hpf_map.specs.Mapped.{IsDistributed}
use Rattle.hpf_map.specs.Ownership.{dealing_of, dealing_by}
use Rattle.hpf_map.specs.Paired.{at_place}
use Rattle.hpf_map.specs.Spaces.{shape_of}
use Rattle.hpf_map.specs.Ways.{ways_of, way_at}
use Rattle.hpf_map.specs.Widths.{all_widths}
use Rattle.hpf_map.proofs.DealingLemmas.{HaveWidths, widths_there, all_met}
use Rattle.hpf_map.proofs.EmptyLemmas.{first_empty, others_empty, each_empty, each_with_empty}
use Rattle.hpf_map.proofs.FirstUseLemmas.{IsDistributee, says}
use Rattle.hpf_map.proofs.MappingLemmas.{target_sound, root_sound, IsShapeOf}
use Rattle.hpf_map.proofs.SoundLemmas.{names_of_sound}
use Rattle.hpf_map.proofs.UnbrokenLemmas.{AreNone, used_is, counted, same_shape, contains_get, uses_free, distributed_shape, target_is}

-- the dimensions of a shape that has so many
matched : (count : ℕ) (o : Option (List Span)) (spans : List Span) → o ≡ Some spans → count ≡ length spans → matching count o ≡ spans
matched count o spans is same = ap (matching count) is ∙ ap (λ b. cond b spans []) (eq-eqb (length spans) count (sym same))

sized : (dealt : Dealt) (o : Option (List Span)) (spans : List Span) → o ≡ Some spans → length dealt.formats ≡ length spans → sized_breaches dealt o ≡ [] → dealing_breaches dealt spans ≡ []
sized dealt o spans is same none =
    sym (ap (sized_breaches dealt) is ∙ ap (λ b. cond b (dealing_breaches dealt spans) []) (eq-eqb (length spans) (length dealt.formats) (sym same))) ∙ none

module _ (need : Need) (items : List ItemTree) (none : AreNone need items) (free : All IsFree (names_of items)) where
  pub distributed_is : (base k : ℕ) → way_at (ways_of (names_of items) items) base ≡ Distributed k → IsDistributed (names_of items) items base k
  unfolding distribute_breaches formats_breaches dealing_by
  distributed_is base k is =
      let names : List Name = names_of items in
      let d : IsDistributee names items base k = says names items base (Distributed k) is refl in
      let shape = distributed_shape need items none free base k is in
      let u = used_is names role.Mapped d.spot.word base d.name in
      let root : List Span = shape.0 in
      let has_root : shape_of names role.Mapped d.spot.word ≡ Some root = same_shape names role.Mapped d.spot.word base u ∙ shape.1 in
      let told = each_empty (distribute_breaches names) items none.distributes _ (contains_get items k _ d.said) in
      let own = each_empty (distributee_breaches names (length d.formats)) d.distributees (first_empty _ _ told) d.spot d.stands in
      let uses = uses_free need items none free k _ d.said in
      let target = target_is need items none free d.distributees d.formats d.onto d.spot d.stands (others_empty _ _ told) (others_empty _ _ uses) in
      let widths = widths_there items k d.distributees d.formats d.onto none.layers d.said in
      let dealt : Dealt = dealing names d.formats d.onto (at_place k (all_widths items)) in
      let is_target : dealt.target ≡ target.target = matched (divided d.formats) (target_shape names d.formats d.onto) target.target target.has target.over in
      let rank : length d.formats ≡ length root = counted (length d.formats) d.spot (shape_of names role.Mapped d.spot.word) root has_root own in
      let over : divided d.formats ≡ length dealt.target = target.over ∙ ap length (sym is_target) in
      let asked = each_with_empty (formats_breaches names) items (all_widths items) none.formats k _ d.said in
      let sizes = each_empty (λ spot. sized_breaches dealt (shape_of names role.Mapped spot.word)) d.distributees (others_empty _ _ asked) d.spot d.stands in
      let there : dealt.widths ≡ widths.0 = ap (λ o. unwrap_or o []) widths.1 in
      record {
        dealt = dealt;
        root = root;
        said = ap (λ o. dealing_of names o (at_place k (all_widths items))) d.said;
        has_root = shape.1;
        cut = record {
          spans_are = root_sound names items base root (names_of_sound items) shape.1;
          target_is = subst (IsShapeOf Arrangement) (sym is_target) (target_sound names d.formats d.onto target.target (names_of_sound items) target.has);
          rank = rank;
          over = over;
          met = all_met dealt root free rank over (subst (HaveWidths d.formats) (sym there) widths.2) (others_empty _ _ (first_empty _ _ uses)) (sized dealt (shape_of names role.Mapped d.spot.word) root has_root rank sizes);
        };
      }
