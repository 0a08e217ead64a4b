-- Two mappings of one array have the same owners, and so all that is told of them is the same.
use Rattle.std.proofs.Common.{◌≡◌, ℕ, zero, suc, ◌+◌, ◌<◌, ◌≤◌, nat_lt, Bool, true, false, ◌&&◌, ◌||◌, cond, List, [], ◌∷◌, ◌++◌, length, map, get_or, ℤ, Option, Some, None, IsTrue, refl, sym, ap, ◌∙◌, arith, subst}
use Rattle.std.specs.List.{filter, range_with_len, list_any, flat_map}
use Rattle.std.proofs.lemmas.Bool.Decides.{nat_tests}
use Rattle.hpf_lex.specs.Name.{is_name}
use Rattle.hpf_map.specs.Layers.{names_of}
use Rattle.hpf_map.specs.Ownership.{IsMappingOf}
use Rattle.hpf_map.specs.Shadows.{shadow_at}
use Rattle.hpf_map.specs.Program.{Maps, MapsBy, ultimate, statement_for, array_place, mapping_in}
use Rattle.hpf_num.specs.declared.run.Run.{Run}
use Rattle.hpf_own.specs.declared.widths.Width.{Width}
use Rattle.hpf_own.specs.Held.{owned_part, held_part, is_held, is_around}
use Rattle.hpf_own.specs.Mapping.{PlainMapping}
use Rattle.hpf_own.specs.Owners.{owns, owners}
use Rattle.hpf_own.specs.Space.{indices, product, LiesIn}
use Rattle.hpf_report.specs.LocalText.{local_text}
use Rattle.hpf_report.specs.OwnersText.{owners_line, owners_text, owner_text}
use Rattle.hpf_report.specs.IndexText.{index_text}
use Rattle.hpf_syntax.specs.Plain.{ItemTree}
use Rattle.hpf_status.specs.declared.status.Status.TheVariants as status
use Rattle.hpf_request.specs.Named.{IsNamed}
use Rattle.hpf_request.specs.Order.{Granted, Denied, owners_verdict, local_verdict}
use Rattle.hpf_request.specs.Deed.{Print}

-- what is known of the element order: it lists nothing but indices
abbrev pub OnlyIndices : Type 0
OnlyIndices = (bounds : List Run) (k : ℕ) (d : List ℤ) → k < length (indices bounds) → LiesIn bounds (get_or (indices bounds) k d)

-- ---- the same of each item

pub map_in_range : {A : Type 0} (f g : ℕ → A) (a n : ℕ) → ((k : ℕ) → a ≤ k → k < a + n → f k ≡ g k) → map f (range_with_len a n) ≡ map g (range_with_len a n)
map_in_range f g a zero same = refl
map_in_range f g a (suc n) same =
    let first : f a ≡ g a = same a (omega arith) (omega arith) in
    let rest = map_in_range f g (a + 1) n (λ k least most. same k (omega arith) (omega arith)) in
    cc (first, rest)

pub filter_in_range : (f g : ℕ → Bool) (a n : ℕ) → ((k : ℕ) → a ≤ k → k < a + n → f k ≡ g k) → filter f (range_with_len a n) ≡ filter g (range_with_len a n)
filter_in_range f g a zero same = refl
filter_in_range f g a (suc n) same =
    let first : f a ≡ g a = same a (omega arith) (omega arith) in
    let rest = filter_in_range f g (a + 1) n (λ k least most. same k (omega arith) (omega arith)) in
    ap (λ (b : Bool). cond b (a ∷ filter f (range_with_len (a + 1) n)) (filter f (range_with_len (a + 1) n))) first
    ∙ ap (λ (xs : List ℕ). cond (g a) (a ∷ xs) xs) rest

-- two functions agree on each item
abbrev Agree : {A B : Type 0} → (A → B) → (A → B) → List A → Type 0
Agree {A} f g xs = (k : ℕ) (d : A) → k < length xs → f (get_or xs k d) ≡ g (get_or xs k d)

agree_behind : {A B : Type 0} (f g : A → B) (x : A) (xs : List A) → Agree f g (x ∷ xs) → Agree f g xs
agree_behind f g x xs same = λ k d below. same (suc k) d (omega arith)

pub filter_alike : {A : Type 0} (f g : A → Bool) (xs : List A) → Agree f g xs → filter f xs ≡ filter g xs
filter_alike f g [] same = refl
filter_alike {A} f g (x ∷ xs) same =
    ap (λ (b : Bool). cond b (x ∷ filter f xs) (filter f xs)) (same 0 x (omega arith))
    ∙ ap (λ (ys : List A). cond (g x) (x ∷ ys) ys) (filter_alike f g xs (agree_behind f g x xs same))

any_alike : {A : Type 0} (f g : A → Bool) (xs : List A) → Agree f g xs → list_any f xs ≡ list_any g xs
any_alike f g [] same = refl
any_alike f g (x ∷ xs) same =
    ap (λ (b : Bool). b || list_any f xs) (same 0 x (omega arith)) ∙ ap (λ (b : Bool). g x || b) (any_alike f g xs (agree_behind f g x xs same))

flat_alike : {A B : Type 0} (f g : A → List B) (xs : List A) → Agree f g xs → flat_map f xs ≡ flat_map g xs
flat_alike f g [] same = refl
flat_alike {A} {B} f g (x ∷ xs) same =
    ap (λ (ys : List B). ys ++ flat_map f xs) (same 0 x (omega arith)) ∙ ap (λ (ys : List B). g x ++ ys) (flat_alike f g xs (agree_behind f g x xs same))

-- ---- one mapping

one_bool : (a b : Bool) → (IsTrue a → IsTrue b) → (IsTrue b → IsTrue a) → a ≡ b
one_bool true true f g = refl
one_bool false false f g = refl
one_bool true false f g = sym (f refl)
one_bool false true f g = g refl

-- two mappings with the same owners and shadows
pub record IsSame (m w : PlainMapping) : Type 0 where
  pub bounds : m.bounds ≡ w.bounds
  pub procs : m.procs ≡ w.procs
  pub shadow : m.shadow ≡ w.shadow
  pub owners : (p : ℕ) (index : List ℤ) → p < product m.procs → LiesIn m.bounds index → owns m p index ≡ owns w p index

same_mapping : (items : List ItemTree) (n base k : ℕ) (m w : PlainMapping) → IsMappingOf (names_of items) items n base k m → IsMappingOf (names_of items) items n base k w → IsSame m w
same_mapping items n base k m w f g =
    let both : Some m.bounds ≡ Some w.bounds = sym f.bounds ∙ g.bounds in
    let bounds : m.bounds ≡ w.bounds = cc in
    let procs : m.procs ≡ w.procs = f.procs ∙ sym g.procs in
    let rank = ap (λ (runs : List Run). shadow_at (names_of items) items n (length runs)) bounds in
    let shadows : Some m.shadow ≡ Some w.shadow = sym f.shadow ∙ (rank ∙ g.shadow) in
    let widths : m.shadow ≡ w.shadow = cc in
    record {
      bounds = bounds;
      procs = procs;
      shadow = widths;
      owners = λ p index below lies.
          let first = f.owners p index below lies in
          let second = g.owners p index (subst (λ (sizes : List ℕ). p < product sizes) procs below) (subst (λ (runs : List Run). LiesIn runs index) bounds lies) in
          one_bool (owns m p index) (owns w p index) (λ is. second.1 (first.0 is)) (λ is. first.1 (second.0 is));
    }

-- two mappings are there and are the same, or neither is there
abbrev pub AreAlike : Option PlainMapping → Option PlainMapping → Type 0
AreAlike None None = Unit {0}
AreAlike None (Some w) = ⊥
AreAlike (Some m) None = ⊥
AreAlike (Some m) (Some w) = IsSame m w

none_alike : (m w : Option PlainMapping) → m ≡ None → w ≡ None → AreAlike m w
none_alike None None f g = tt
none_alike None (Some w) f g = absurd cc
none_alike (Some m) w f g = absurd cc

alike_by : (items : List ItemTree) (n : ℕ) (k : Option ℕ) (m w : Option PlainMapping) → MapsBy items n k m → MapsBy items n k w → AreAlike m w
alike_by items n None m w f g = none_alike m w f g
alike_by items n (Some k) None w f g = absurd f
alike_by items n (Some k) (Some m) None f g = absurd g
alike_by items n (Some k) (Some m) (Some w) f g = same_mapping items n (ultimate items n) k m w f g

pub alike : (items : List ItemTree) (n : Option ℕ) (m w : Option PlainMapping) → Maps items n m → Maps items n w → AreAlike m w
alike items None m w f g = none_alike m w f g
alike items (Some n) m w f g = alike_by items n (statement_for items n) m w f g

-- ---- one part

owned_alike : OnlyIndices → (m w : PlainMapping) (p : ℕ) → IsSame m w → p < product m.procs → Agree (owns m p) (owns w p) (indices m.bounds)
owned_alike only m w p same below = λ k d few. same.owners p (get_or (indices m.bounds) k d) below (only m.bounds k d few)

pub same_held : OnlyIndices → (m w : PlainMapping) (p : ℕ) (index : List ℤ) → IsSame m w → p < product m.procs → is_held m p index ≡ is_held w p index
same_held only m w p index same below =
    any_alike (λ other. owns m p other && is_around m.shadow other index) (λ other. owns w p other && is_around m.shadow other index) (indices m.bounds)
    (λ k d few. ap (λ (b : Bool). b && is_around m.shadow (get_or (indices m.bounds) k d) index) (owned_alike only m w p same below k d few))
    ∙ (ap (λ (widths : List Width). list_any (λ other. owns w p other && is_around widths other index) (indices m.bounds)) same.shadow
    ∙ ap (λ (runs : List Run). list_any (λ other. owns w p other && is_around w.shadow other index) (indices runs)) same.bounds)

same_owned_part : OnlyIndices → (m w : PlainMapping) (p : ℕ) → IsSame m w → p < product m.procs → (owned_part m p).indices ≡ (owned_part w p).indices
same_owned_part only m w p same below =
    filter_alike (owns m p) (owns w p) (indices m.bounds) (owned_alike only m w p same below)
    ∙ ap (λ (runs : List Run). filter (owns w p) (indices runs)) same.bounds

same_held_part : OnlyIndices → (m w : PlainMapping) (p : ℕ) → IsSame m w → p < product m.procs → (held_part m p).indices ≡ (held_part w p).indices
same_held_part only m w p same below =
    filter_alike (is_held m p) (is_held w p) (indices m.bounds) (λ k d few. same_held only m w p (get_or (indices m.bounds) k d) same below)
    ∙ ap (λ (runs : List Run). filter (is_held w p) (indices runs)) same.bounds

-- ---- one text of owners

same_line : OnlyIndices → (m w : PlainMapping) → IsSame m w → Agree (owners_line m) (owners_line w) (indices m.bounds)
same_line only m w same = λ k d few.
    let index = get_or (indices m.bounds) k d in
    let here : owners m index ≡ owners w index =
    filter_in_range (λ p. owns m p index) (λ p. owns w p index) 0 (product m.procs) (λ p least most. same.owners p index (omega arith) (only m.bounds k d few))
    ∙ ap (λ (sizes : List ℕ). filter (λ p. owns w p index) (range_with_len 0 (product sizes))) same.procs in
    ap (λ (ps : List ℕ). index_text index ++ flat_map owner_text ps ++ 10 ∷ []) here

same_owners_text : OnlyIndices → (m w : PlainMapping) → IsSame m w → owners_text m ≡ owners_text w
same_owners_text only m w same =
    flat_alike (owners_line m) (owners_line w) (indices m.bounds) (same_line only m w same) ∙ ap (λ (runs : List Run). flat_map (owners_line w) (indices runs)) same.bounds

-- ---- one verdict on a name

named_alike : (items : List ItemTree) (name : List ℕ) (b : Bool) (m w : Option PlainMapping) (p q : Option PlainMapping) → Maps items (array_place items name) p → Maps items (array_place items name) q
    → m ≡ cond b p None → w ≡ cond b q None → AreAlike m w
named_alike items name true m w p q f g is at =
    alike items (array_place items name) m w (subst (Maps items (array_place items name)) (sym is) f) (subst (Maps items (array_place items name)) (sym at) g)
named_alike items name false m w p q f g is at = none_alike m w is at

name_once : (items : List ItemTree) (name : List ℕ) (m w : Option PlainMapping) → IsNamed items name m → IsNamed items name w → AreAlike m w
name_once items name m w f g =
    named_alike items name (is_name name) m w (mapping_in f.program name) (mapping_in g.program name) (f.is_program.mappings name) (g.is_program.mappings name) f.mapping_is g.mapping_is

owners_alike : OnlyIndices → (m w : Option PlainMapping) → AreAlike m w → owners_verdict m ≡ owners_verdict w
owners_alike only None None same = refl
owners_alike only None (Some w) same = absurd same
owners_alike only (Some m) None same = absurd same
owners_alike only (Some m) (Some w) same = ap (λ (text : List ℕ). Granted (Print text [])) (same_owners_text only m w same)

part_alike : OnlyIndices → (m w : PlainMapping) (p : ℕ) (b : Bool) → IsSame m w → (nat_lt p (product m.procs)) ≡ b
    → cond b (Granted (Print (local_text (owned_part m p).indices (held_part m p).indices) [])) (Denied (status.Usage 3))
    ≡ cond b (Granted (Print (local_text (owned_part w p).indices (held_part w p).indices) [])) (Denied (status.Usage 3))
part_alike only m w p false same is = refl
part_alike only m w p true same is =
    let below : p < product m.procs = grind (arith, nat_tests, is) in
    ap (λ (owned : List (List ℤ)). Granted (Print (local_text owned (held_part m p).indices) [])) (same_owned_part only m w p same below)
    ∙ ap (λ (held : List (List ℤ)). Granted (Print (local_text (owned_part w p).indices held) [])) (same_held_part only m w p same below)

local_alike : OnlyIndices → (p : ℕ) (m w : Option PlainMapping) → AreAlike m w → local_verdict p m ≡ local_verdict p w
local_alike only p None None same = refl
local_alike only p None (Some w) same = absurd same
local_alike only p (Some m) None same = absurd same
local_alike only p (Some m) (Some w) same =
    part_alike only m w p (nat_lt p (product m.procs)) same refl
    ∙ ap (λ (sizes : List ℕ). cond (nat_lt p (product sizes)) (Granted (Print (local_text (owned_part w p).indices (held_part w p).indices) [])) (Denied (status.Usage 3))) same.procs

pub one_owners : OnlyIndices → (items : List ItemTree) (name : List ℕ) (m w : Option PlainMapping) → IsNamed items name m → IsNamed items name w → owners_verdict m ≡ owners_verdict w
one_owners only items name m w f g = owners_alike only m w (name_once items name m w f g)

pub one_local : OnlyIndices → (items : List ItemTree) (name : List ℕ) (p : ℕ) (m w : Option PlainMapping) → IsNamed items name m → IsNamed items name w → local_verdict p m ≡ local_verdict p w
one_local only items name p m w f g = local_alike only p m w (name_once items name m w f g)
