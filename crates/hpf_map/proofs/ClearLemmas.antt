-- The images that an alignee without a breach has in its base.
use Rattle.std.proofs.Common.{◌≡◌, ℕ, Bool, true, false, cond, not, ◌&&◌, List, [], ◌++◌, length, Option, Some, None, refl, sym, ap, subst, ◌∙◌}
use Rattle.std.specs.Prelude.{IfSome}
use Rattle.hpf_own.specs.declared.image.Image.{Image}
use Rattle.hpf_syntax.specs.declared.tree.Spot.{Spot}
use Rattle.hpf_syntax.specs.declared.tree.SourceItem.{SourceItem}
use Rattle.hpf_syntax.specs.Plain.{SubTree}
use Rattle.hpf_map.specs.declared.name.Name.{Name}
use Rattle.hpf_map.specs.declared.name.Span.{Span}
use Rattle.hpf_map.specs.declared.role.Role.{Role}
use Rattle.hpf_map.specs.declared.role.Role.TheVariants.{Array, Mapped}
use Rattle.hpf_map.specs.declared.subscript.Subscript.{Subscript}
use Rattle.hpf_map.specs.Alignments.{colons, arranged, written_subscripts, is_outside, images_between, position_breaches, count_breaches, alignee_breaches}
use Rattle.hpf_map.specs.Composed.{AreAligned}
use Rattle.hpf_map.specs.Sound.{AreSoundNames, AreGood}
use Rattle.hpf_map.specs.Spaces.{shape_of, counts_agree}
use Rattle.hpf_map.proofs.AlignedLemmas.{arranged_aligned}
use Rattle.hpf_map.proofs.EmptyLemmas.{first_empty, others_empty, breach_if_none}
use Rattle.hpf_map.specs.Fit.{AreFit}
use Rattle.hpf_map.proofs.SoundLemmas.{shape_good}

-- ---- breaches that there aren't

not_false : (b : Bool) → not b ≡ false → b ≡ true
not_false true h = refl
not_false false h = sym h

counted : {A : Type 0} (written : Option (List A)) (spot : Spot) (spans : List Span) → count_breaches written spot (Some spans) ≡ [] → counts_agree written spans ≡ true
counted written spot spans h = not_false (counts_agree written spans) (breach_if_none (not (counts_agree written spans)) _ spot.at h)

both_true : (a b : Bool) → a ≡ true → b ≡ true → (a && b) ≡ true
both_true true b h k = k
both_true false b h k = h

chosen : {A : Type 0} (b : Bool) (x y : A) → b ≡ true → cond b x y ≡ x
chosen true x y h = refl
chosen false x y h = absurd cc

-- ---- images

-- images of which none is outside
record HasPlaces (array space : List Span) (o : Option (List Image)) : Type 0 where
  images : List Image
  are : o ≡ Some images
  inside : is_outside array space images ≡ false

has_places : (sources : Option (List SourceItem)) (subs : Option (List SubTree)) (alignee : Spot) (array space : List Span) (o : Option (List Image))
    → position_breaches sources subs alignee (Some array) (Some space) (Some o) ≡ [] → HasPlaces array space o
has_places sources subs alignee array space None h = absurd cc
has_places sources subs alignee array space (Some images) h =
    record { images = images; are = refl; inside = breach_if_none (is_outside array space images) _ alignee.at h }

at_shapes : (names : List Name) (sources : Option (List SourceItem)) (base : Spot) (subs : Option (List SubTree)) (said : List Subscript) (alignee : Spot) (array space : List Span)
    → alignee_breaches names sources base subs (Some said) alignee ≡ [] → shape_of names Array alignee.word ≡ Some array → shape_of names Mapped base.word ≡ Some space
    → (count_breaches sources alignee (Some array) ++ position_breaches sources subs alignee (Some array) (Some space) (images_between sources subs (Some said) (Some array) (Some space))) ≡ []
unfolding alignee_breaches
at_shapes names sources base subs said alignee array space h is_array is_space =
    subst (λ (s : Option (List Span)). (count_breaches sources alignee (Some array) ++ position_breaches sources subs alignee (Some array) s (images_between sources subs (Some said) (Some array) s)) ≡ []) is_space
    (subst (λ (a : Option (List Span)). (count_breaches sources alignee a ++ position_breaches sources subs alignee a (shape_of names Mapped base.word) (images_between sources subs (Some said) a (shape_of names Mapped base.word))) ≡ []) is_array h)

good_at : (names : List Name) (role : Role) (word : List ℕ) (spans : List Span) → AreSoundNames names → shape_of names role word ≡ Some spans → AreGood spans
good_at names role word spans sound is = subst (λ o. IfSome o AreGood) is (shape_good names role word sound)

-- An alignee without a breach has images in its base, and they are as images there have to be.
pub images_clear : (names : List Name) (sources : Option (List SourceItem)) (base : Spot) (subs : Option (List SubTree)) (said : List Subscript) (alignee : Spot) (array space : List Span)
    → AreSoundNames names → alignee_breaches names sources base subs (Some said) alignee ≡ [] → count_breaches subs base (shape_of names Mapped base.word) ≡ []
    → shape_of names Array alignee.word ≡ Some array → shape_of names Mapped base.word ≡ Some space → AreFit sources said → IfSome subs (λ written. length said ≡ length written)
    → (images : List Image) × (images_between sources subs (Some said) (Some array) (Some space) ≡ Some (Some images)) × AreAligned array space images
images_clear names sources base subs said alignee array space sound clear counts is_array is_space fit count =
    let all = at_shapes names sources base subs said alignee array space clear is_array is_space in
    let positions = position_breaches sources subs alignee (Some array) (Some space) (images_between sources subs (Some said) (Some array) (Some space)) in
    let as_sources : counts_agree sources array ≡ true = counted sources alignee array (first_empty (count_breaches sources alignee (Some array)) positions all) in
    let as_subs : counts_agree subs space ≡ true = counted subs base space (subst (λ o. count_breaches subs base o ≡ []) is_space counts) in
    let found = arranged array sources (colons (length array) sources) (written_subscripts (length space) subs said) space in
    let is : images_between sources subs (Some said) (Some array) (Some space) ≡ Some found =
    chosen (counts_agree sources array && counts_agree subs space) (Some found) None (both_true (counts_agree sources array) (counts_agree subs space) as_sources as_subs) in
    let none : position_breaches sources subs alignee (Some array) (Some space) (Some found) ≡ [] =
    subst (λ o. position_breaches sources subs alignee (Some array) (Some space) o ≡ []) is (others_empty (count_breaches sources alignee (Some array)) positions all) in
    let placed = has_places sources subs alignee array space found none in (
      placed.images,
      is ∙ ap Some placed.are,
      arranged_aligned array space sources subs said placed.images (good_at names Array alignee.word array sound is_array) (good_at names Mapped base.word space sound is_space) fit as_sources as_subs count placed.are placed.inside,
    )
