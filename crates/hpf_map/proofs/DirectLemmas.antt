-- The table of the images of all alignments.
use Rattle.std.proofs.Common.{◌≡◌, ℕ, zero, suc, ◌+◌, ◌<◌, List, [], ◌∷◌, ◌++◌, length, map, sym, ap, ◌∙◌, Option, Some, arith}
use Rattle.std.specs.Prelude.{slice_get, option_map, IfOk, Result, Ok, Err}
use Rattle.std.specs.List.{range_with_len}
use Rattle.std.proofs.lemmas.List.{map-append, length-map}
use Rattle.std.proofs.lemmas.List.FromFn.{length-range_with_len}
use Rattle.std.proofs.lemmas.Option.{slice_get-map, slice_get_within}
use Rattle.hpf_own.specs.declared.image.Image.{Image}
use Rattle.hpf_syntax.specs.declared.tree.Item.{Item}
use Rattle.hpf_syntax.specs.Plain.{ItemTree, item_tree}
use Rattle.hpf_map.specs.declared.name.Span.{Span}
use Rattle.hpf_map.specs.declared.subscript.Subscript.{Subscript}
use Rattle.hpf_map.specs.Paired.{at_place}
use Rattle.hpf_map.specs.Subscripts.{all_subscripts}
use Rattle.hpf_map.specs.declared.name.Name.{Name}
use Rattle.hpf_map.specs.declared.way.Way.{Way}
use Rattle.hpf_map.specs.Direct.{images_along, direct_images}
use Rattle.hpf_map.specs.Landings.{AreSaid, name_shape}
use Rattle.hpf_map.specs.Ownership.{images_by, images_of}
use Rattle.hpf_map.specs.Ways.{ways_of, way_at}

range_push : (a n : ℕ) → range_with_len a (suc n) ≡ range_with_len a n ++ (a + n) ∷ []
range_push a zero = let same : a ≡ a + 0 = omega arith in ap (λ m. m ∷ []) same
range_push a (suc n) =
    let same : a + 1 + n ≡ a + suc n = omega arith in
    ap (λ l. a ∷ l) (range_push (a + 1) n ∙ ap (λ m. range_with_len (a + 1) n ++ m ∷ []) same)

-- one more of what is made of each number from 0 on
pub range_more : {B : Type 0} (f : ℕ → B) (n : ℕ) (xs ys : List B) → xs ≡ map f (range_with_len 0 n) → ys ≡ xs ++ f n ∷ []
    → ys ≡ map f (range_with_len 0 (n + 1))
range_more f n xs ys before step =
    let next : suc n ≡ n + 1 = omega arith in
    let here : 0 + n ≡ n = omega arith in
    let push : range_with_len 0 (n + 1) ≡ range_with_len 0 n ++ n ∷ [] =
    ap (range_with_len 0) (sym next) ∙ range_push 0 n ∙ ap (λ m. range_with_len 0 n ++ m ∷ []) here in
    step ∙ ap (λ l. l ++ f n ∷ []) before ∙ sym (map-append f (range_with_len 0 n) (n ∷ [])) ∙ ap (map f) (sym push)

range_get : (a n k : ℕ) → k < n → slice_get (range_with_len a n) k ≡ Some (a + k)
range_get a zero k below = absurd (omega (arith, below))
range_get a (suc n) zero below = let same : a ≡ a + 0 = omega arith in ap Some same
range_get a (suc n) (suc k) below =
    let same : a + 1 + k ≡ a + suc k = omega arith in
    range_get (a + 1) n k (omega (arith, below)) ∙ ap Some same

module _ (names : List Name) (items : List ItemTree) where
  -- the images of a name that is there
  pub direct_at : (ways : List Way) (n : ℕ) → n < length names → slice_get (direct_images names items ways) n ≡ Some (images_along names items n (way_at ways n))
  direct_at ways n below =
      let here : 0 + n ≡ n = omega arith in
      slice_get-map (λ m. images_along names items m (way_at ways m)) (range_with_len 0 (length names)) n
      ∙ ap (option_map (λ m. images_along names items m (way_at ways m))) (range_get 0 (length names) n below ∙ ap Some here)

  direct_below : (ways : List Way) (n : ℕ) (o : Option (List Image)) → slice_get (direct_images names items ways) n ≡ Some o → n < length names
  direct_below ways n o is =
      let long = slice_get_within (direct_images names items ways) n o is in
      let size : length (direct_images names items ways) ≡ length names = simp (length-map, length-range_with_len) in
      omega (arith, long, size)

  some_same : {A : Type 0} (x y : A) → Some x ≡ Some y → x ≡ y
  some_same x y e = cc

  -- The images in the table are those that the statements say.
  pub direct_said : AreSaid names items (direct_images names items (ways_of names items))
  direct_said n k b images way is =
      let there = direct_at (ways_of names items) n (direct_below (ways_of names items) n (Some images) is) in
      some_same _ _ (sym (ap (λ w. Some (images_along names items n w)) way) ∙ sym there ∙ is)

-- ---- the images by one statement

pub ok_of : {T E : Type 0} (P Q : T → Type 0) → ((x : T) → P x → Q x) → (r : Result T E) → IfOk r P → IfOk r Q
ok_of P Q f (Ok x) h = f x h
ok_of P Q f (Err e) h = tt

pub images_by_parts : (names : List Name) (items : List Item) (said : List (Option (List Subscript))) (k n b : ℕ) (item : Item)
    (subs : Option (List Subscript)) (array base : Option (List Span)) (o : Option (List Image))
    → said ≡ all_subscripts (map item_tree items) → Some item ≡ slice_get items k → subs ≡ at_place k said → array ≡ name_shape names n → base ≡ name_shape names b
    → o ≡ images_of names (map item_tree items) (Some (item_tree item)) subs array base → o ≡ images_by names (map item_tree items) k n b
unfolding images_by
images_by_parts names items said k n b item subs array base o all is at first second h =
    let trees = map item_tree items in
    let there : Some (item_tree item) ≡ slice_get trees k = ap (option_map item_tree) is ∙ sym (slice_get-map item_tree items k) in
    h ∙ ap (λ i. images_of names trees i subs array base) there
    ∙ ap (λ s. images_of names trees (slice_get trees k) s array base) (at ∙ ap (at_place k) all)
    ∙ ap (λ a. images_of names trees (slice_get trees k) (at_place k (all_subscripts trees)) a base) first
    ∙ ap (images_of names trees (slice_get trees k) (at_place k (all_subscripts trees)) (name_shape names n)) second
