-- Uses that map names, in the order of the text.
use Rattle.std.proofs.Common.{◌≡◌, ℕ, ◌+◌, ◌<◌, List, [], ◌∷◌, ◌++◌, length, get_or, take, map, Option, Some, None, refl, sym, ap, ◌∙◌, append_assoc, arith}
use Rattle.std.specs.Prelude.{option_to_list, fold}
use Rattle.std.specs.List.{filter_map, flat_map}
use Rattle.std.proofs.lemmas.List.{get_or_default, take_more, length-map, length-take, append-nil}
use Rattle.std.proofs.lemmas.List.Elements.{filter_map-append}
use Rattle.std.proofs.lemmas.List.Sums.{fold-append}
use Rattle.hpf_lex.specs.declared.refusal.MapRefusal.{MapRefusal}
use Rattle.hpf_syntax.specs.declared.tree.Item.{Item}
use Rattle.hpf_syntax.specs.Plain.{ItemTree, item_tree}
use Rattle.hpf_map.specs.declared.name.Name.{Name}
use Rattle.hpf_map.specs.declared.way.Use.{Use}
use Rattle.hpf_map.specs.declared.way.Way.{Way}
use Rattle.hpf_map.specs.declared.way.Way.TheVariants.{Unmapped}
use Rattle.hpf_map.specs.Declarations.{threaded}
use Rattle.hpf_map.specs.Found.{least_with}
use Rattle.hpf_map.specs.Ways.{statement_uses, uses_from, ways_after, mapped_breaches, first_use}
use Rattle.hpf_map.proofs.DeclareLemmas.{threaded_push, seen_more}
use Rattle.hpf_map.proofs.FoundLemmas.{least_with-nil, least_with-append, each_more}

one_found : {A B : Type 0} (f : A → Option B) (x : A) (o : Option B) → f x ≡ o → option_to_list o ≡ filter_map f (x ∷ [])
one_found f x None e = rw e refl
one_found f x (Some y) e = rw e refl

-- what is found of one more of a list
pub filter_map_more : {A B : Type 0} (f : A → Option B) (xs : List A) (i : ℕ) (x : A) (u0 u1 u2 : List B) → i < length xs → x ≡ get_or xs i x
    → u1 ≡ u0 ++ filter_map f (take i xs) → u2 ≡ u1 ++ option_to_list (f x) → u2 ≡ u0 ++ filter_map f (take (i + 1) xs)
filter_map_more f xs i x u0 u1 u2 below is before step =
    let more : take (i + 1) xs ≡ take i xs ++ x ∷ [] = take_more xs i x below ∙ ap (λ y. take i xs ++ y ∷ []) (sym is) in
    step ∙ ap (λ u. u ++ option_to_list (f x)) before
    ∙ append_assoc u0 (filter_map f (take i xs)) (option_to_list (f x))
    ∙ ap (λ l. u0 ++ (filter_map f (take i xs) ++ l)) (one_found f x (f x) refl)
    ∙ ap (λ l. u0 ++ l) (sym (filter_map-append f (take i xs) (x ∷ [])))
    ∙ ap (λ l. u0 ++ filter_map f l) (sym more)

uses_from_push : (names : List Name) (k : ℕ) (items : List ItemTree) (item : ItemTree)
    → uses_from names k (items ++ item ∷ []) ≡ uses_from names k items ++ statement_uses names (k + length items) item
uses_from_push names k [] item =
    let same : k ≡ k + 0 = omega arith in append-nil (statement_uses names k item) ∙ ap (λ m. statement_uses names m item) same
uses_from_push names k (first ∷ items) item =
    let same : k + 1 + length items ≡ k + length (first ∷ items) = omega arith in
    ap (λ l. statement_uses names k first ++ l) (uses_from_push names (k + 1) items item)
    ∙ ap (λ m. statement_uses names k first ++ (uses_from names (k + 1) items ++ statement_uses names m item)) same
    ∙ sym (append_assoc (statement_uses names k first) (uses_from names (k + 1) items) (statement_uses names (k + length (first ∷ items)) item))

-- the uses of one more statement
pub uses_more : (names : List Name) (items : List Item) (i : ℕ) (item : Item) (u1 u2 : List Use) → i < length items → item ≡ get_or items i item
    → u1 ≡ uses_from names 0 (map item_tree (take i items)) → u2 ≡ u1 ++ statement_uses names i (item_tree item)
    → u2 ≡ uses_from names 0 (map item_tree (take (i + 1) items))
uses_more names items i item u1 u2 below is before step =
    let seen = map item_tree (take i items) in
    let long : 0 + length (map item_tree (take i items)) ≡ i = simp (length-map, length-take) (omega arith) in
    step ∙ ap (λ u. u ++ statement_uses names i (item_tree item)) before
    ∙ ap (λ m. uses_from names 0 (map item_tree (take i items)) ++ statement_uses names m (item_tree item)) (sym long)
    ∙ sym (uses_from_push names 0 (map item_tree (take i items)) (item_tree item))
    ∙ ap (uses_from names 0) (sym (seen_more item_tree items i item below is))

-- a use in a list, where the list has one there
abbrev pub use_at : List Use → ℕ → Use
use_at uses i = get_or uses i (record { name = 0; at = record { line = 0; column = 0 }; way = Unmapped })

pub use_at_self : (uses : List Use) (i : ℕ) → i < length uses → use_at uses i ≡ get_or uses i (use_at uses i)
use_at_self uses i below = get_or_default uses i _ _ below

-- one more use of which each is taken in
pub each_use_more : (f : Use → List MapRefusal) (uses : List Use) (i : ℕ) (h0 h1 h2 : Option MapRefusal) → i < length uses
    → h1 ≡ least_with h0 (flat_map f (take i uses)) → h2 ≡ least_with h1 (f (use_at uses i))
    → h2 ≡ least_with h0 (flat_map f (take (i + 1) uses))
each_use_more f uses i h0 h1 h2 below before step =
    each_more f uses i (use_at uses i) h0 h1 h2 below (use_at_self uses i below) before step

-- The ways, the uses that count and the breaches after some uses.
pub record IsMapped (uses : List Use) (i : ℕ) (w0 w1 : List Way) (u0 u1 : List Use) (h0 h1 : Option MapRefusal) : Type 0 where
  pub ways : w1 ≡ fold ways_after w0 (take i uses)
  pub first : u1 ≡ u0 ++ threaded ways_after first_use w0 (take i uses)
  pub breaches : h1 ≡ least_with h0 (threaded ways_after mapped_breaches w0 (take i uses))

-- no use yet
pub IsMapped-none : (uses : List Use) (ways : List Way) (first : List Use) (found : Option MapRefusal)
    → IsMapped uses 0 ways ways first first found found
IsMapped-none uses ways first found = record {
  ways = refl;
  first = sym (append-nil first);
  breaches = sym (least_with-nil found);
}

-- one use more
pub IsMapped-more : {uses : List Use} {i : ℕ} {w0 w1 : List Way} {u0 u1 : List Use} {h0 h1 : Option MapRefusal}
    (used : Use) (w2 : List Way) (u2 : List Use) (h2 : Option MapRefusal) → IsMapped uses i w0 w1 u0 u1 h0 h1
    → i < length uses → used ≡ get_or uses i used → w2 ≡ ways_after w1 used → u2 ≡ u1 ++ first_use w1 used
    → h2 ≡ least_with h1 (mapped_breaches w1 used) → IsMapped uses (i + 1) w0 w2 u0 u2 h0 h2
IsMapped-more {uses = uses} {i = i} {w0 = w0} {w1 = w1} {u0 = u0} {u1 = u1} {h0 = h0} {h1 = h1} used w2 u2 h2 m below is w u h =
    let more : take (i + 1) uses ≡ take i uses ++ used ∷ [] = take_more uses i used below ∙ ap (λ y. take i uses ++ y ∷ []) (sym is) in
    record {
      ways = w ∙ ap (λ v. ways_after v used) m.ways ∙ sym (ap (fold ways_after w0) more ∙ fold-append ways_after w0 (take i uses) (used ∷ []));
      first =
          u ∙ ap (λ v. u1 ++ first_use v used) m.ways
          ∙ ap (λ k. k ++ first_use (fold ways_after w0 (take i uses)) used) m.first
          ∙ append_assoc u0 (threaded ways_after first_use w0 (take i uses)) (first_use (fold ways_after w0 (take i uses)) used)
          ∙ sym (ap (λ l. u0 ++ threaded ways_after first_use w0 l) more ∙ ap (λ l. u0 ++ l) (threaded_push ways_after first_use w0 (take i uses) used));
      breaches =
          h ∙ ap (λ v. least_with h1 (mapped_breaches v used)) m.ways
          ∙ ap (λ k. least_with k (mapped_breaches (fold ways_after w0 (take i uses)) used)) m.breaches
          ∙ least_with-append h0 (threaded ways_after mapped_breaches w0 (take i uses)) (mapped_breaches (fold ways_after w0 (take i uses)) used)
          ∙ sym (ap (λ l. least_with h0 (threaded ways_after mapped_breaches w0 l)) more ∙ ap (least_with h0) (threaded_push ways_after mapped_breaches w0 (take i uses) used));
    }
