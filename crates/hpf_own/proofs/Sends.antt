-- A processor sends exactly where its coordinate leads in each dimension of the arrangement.
use Rattle.std.proofs.Common.{◌≡◌, ◌==◌, ℕ, zero, suc, ◌+◌, ◌/◌, ◌%◌, ◌<◌, ◌≤◌, Bool, true, false, ◌&&◌, ◌||◌, List, ◌∷◌, length, get_or, drop, drop-cons, add-one, below_more, Some, ℤ, pos, ◌+ℤ◌, ◌*ℤ◌, arith, sym, ap, ◌∙◌, subst, refl, inl, inr, eq-eqb}
use Rattle.std.specs.List.{filter, find, range_with_len}
use Rattle.std.proofs.lemmas.Bool.{or_left, cases_lt, cases_eq, cases_Bool, eqb-true, false≢true, and_from, and_parts, false_from_ne_true}
use Rattle.std.proofs.lemmas.List.{get_or-set_same, get_or-set_other}
use Rattle.std.proofs.lemmas.List.Folds.{Any-from_list_any, list_any_at}
use Rattle.hpf_num.specs.declared.run.Run.{Run}
use Rattle.hpf_num.specs.Run.{LiesWithin}
use Rattle.hpf_dist.specs.Axis.{Divided}
use Rattle.hpf_dist.specs.Spread.{owner_at}
use Rattle.hpf_own.specs.declared.image.Image.{Image}
use Rattle.hpf_own.specs.declared.image.Image.TheVariants.{Along, Fixed, Spread}
use Rattle.hpf_own.specs.declared.image.Cut.{Cut}
use Rattle.hpf_own.specs.declared.image.Cut.TheVariants.{Whole, Over}
use Rattle.hpf_own.specs.declared.image.BaseDim.{BaseDim}
use Rattle.hpf_own.specs.KeptLists.{no_run as no_bound}
use Rattle.hpf_own.specs.Space.{product, indices, LiesIn}
use Rattle.hpf_own.specs.Image.{positions, subscript}
use Rattle.hpf_own.specs.Mapping.{PlainMapping, IsMapping, AreDims, divides, follows, FollowsBelow}
use Rattle.hpf_own.specs.Owners.{owns, sender, sends, holds_at, IsLeast, LeadsAt, LeadsOf}
use Rattle.hpf_own.proofs.Digits.{digits, length-digits, lower_digit}
use Rattle.hpf_own.proofs.Divider.{least_found}
use Rattle.hpf_own.proofs.Each.{no_dim, divided_below, owns_digits, owns_from}
use Rattle.hpf_own.proofs.Indices.{LiesIn-at}
use Rattle.hpf_own.proofs.Leads.{lies_low}
use Rattle.hpf_own.proofs.Linear.{single_least}
use Rattle.hpf_own.proofs.Only.{IsFound, found, find_only, filter_some}
use Rattle.hpf_own.proofs.Order.{indices_only, indices_has, index_with}
use Rattle.hpf_own.proofs.Sending.{sender_from, first_skips, first_stays}

-- ---- one dimension
or_nothing : (b : Bool) → b ≡ (b || false)
or_nothing true = refl
or_nothing false = refl

single_owner : (axis : Divided) (u : ℤ) (c : ℕ) → ((owner_at axis u == c) || false) ≡ true → owner_at axis u ≡ c
single_owner axis u c h = eqb-true _ _ (or_nothing _ ∙ h)

-- what leads and holds a position of an element is the least that does
pub least_here : (image : Image) (cut : Cut) (bounds : List Run) (index : List ℤ) (e c : ℕ) → divides e cut ≡ true → LeadsAt image cut bounds c → holds_at cut (positions image index) c ≡ true → IsLeast (holds_at cut (positions image index)) c
least_here image Whole bounds index e c over leads held = absurd (false≢true over)
least_here (Along dim a b) (Over d axis) bounds index e c over leads held = single_least axis _ c (sym (single_owner axis _ c held))
least_here (Fixed n) (Over d axis) bounds index e c over leads held = single_least axis n c (sym leads)
least_here (Spread first step count) (Over d axis) bounds index e c over leads held = leads

-- what holds a position of an element, and the least one where it is replicated, leads
pub leads_here : (image : Image) (cut : Cut) (bounds : List Run) (index : List ℤ) (e c : ℕ) → LiesIn bounds index → FollowsBelow (length bounds) image → divides e cut ≡ true → holds_at cut (positions image index) c ≡ true → ((j : ℕ) → j < c → holds_at cut (positions image index) j ≡ false) → LeadsAt image cut bounds c
leads_here image Whole bounds index e c lies followed over held least = tt
leads_here (Along dim a b) (Over d axis) bounds index e c lies followed over held least =
    (subscript index dim, LiesIn-at bounds index dim no_bound (pos 0) lies followed, single_owner axis _ c held)
leads_here (Fixed n) (Over d axis) bounds index e c lies followed over held least = single_owner axis n c held
leads_here (Spread first step count) (Over d axis) bounds index e c lies followed over held least = record { passes = held; least = least }

-- ---- all dimensions
-- the coordinates of a processor lead
abbrev pub LeadsAll : PlainMapping → ℕ → Type 0
LeadsAll m p = (e : ℕ) → e < length m.procs → LeadsOf m.bounds (get_or (digits m.procs p) e 0) (find (λ d. divides e d.cut) m.dims)

-- the dimension of the base that is divided over one of the arrangement
pub divider : (m : PlainMapping) (e : ℕ) → AreDims m.bounds m.dims m.procs → e < length m.procs → IsFound (λ (d : BaseDim). divides e d.cut) m.dims no_dim
divider m e dims within = found (λ (d : BaseDim). divides e d.cut) m.dims no_dim (omega (arith, dims.each_once e within))

-- a processor whose coordinates lead sends each element that it owns
pub sends_owned : (m : PlainMapping) (p : ℕ) (index : List ℤ) → IsMapping m → p < product m.procs → LiesIn m.bounds index → LeadsAll m p → owns m p index ≡ true → sender m index ≡ p
sends_owned m p index is below lies leads owned =
    let held = owns_digits m p index is.dims below owned in
    (sender_from m p index is.dims below (λ e within.
    let c = get_or (digits m.procs p) e 0 in
    let f = divider m e is.dims within in
    let d = get_or m.dims f.place no_dim in
    let here : LeadsAt d.image d.cut m.bounds c = rw f.is at (leads e within) in
    let holding : holds_at d.cut (positions d.image index) c ≡ true = rw f.is at (held e within) in
    least_found m.dims index e d c f.is (least_here d.image d.cut m.bounds index e c f.passes here holding))).1

-- the first of the numbers that pass is at most each of them
not_there : (q : ℕ → Bool) (a j : ℕ) → a ≤ j → q a ≡ false → q j ≡ true → a < j
not_there q a j low failed passed =
    elim (cases_lt a j) [
      | inl less ↦ less
      | inr more ↦ absurd (false≢true (sym failed ∙ ap q (let z : a ≡ j = omega arith in z) ∙ passed))
    ]

first_least_from : (q : ℕ → Bool) (a n j d : ℕ) → a ≤ j → j < a + n → q j ≡ true → get_or (filter q (range_with_len a n)) 0 d ≤ j
first_least_from q a zero j d low high h = absurd (omega arith)
first_least_from q a (suc n) j d low high h =
    elim (cases_Bool (q a)) [
      | inl passed ↦ omega (arith, first_stays q a n d passed)
      | inr failed ↦
          let later : a < j = not_there q a j low failed h in
          omega (arith, first_least_from q (a + 1) n j d (omega arith) (omega arith) h, ap (λ (ps : List ℕ). get_or ps 0 d) (first_skips q a n failed))
    ]

-- and it passes
first_passes_from : (q : ℕ → Bool) (a n j d : ℕ) → a ≤ j → j < a + n → q j ≡ true → q (get_or (filter q (range_with_len a n)) 0 d) ≡ true
first_passes_from q a zero j d low high h = absurd (omega arith)
first_passes_from q a (suc n) j d low high h =
    elim (cases_Bool (q a)) [
      | inl passed ↦ ap q (first_stays q a n d passed) ∙ passed
      | inr failed ↦
          let later : a < j = not_there q a j low failed h in
          ap q (ap (λ (ps : List ℕ). get_or ps 0 d) (first_skips q a n failed)) ∙ first_passes_from q (a + 1) n j d (omega arith) (omega arith) h
    ]

pub first_passes : (q : ℕ → Bool) (n j d : ℕ) → j < n → q j ≡ true → q (get_or (filter q (range_with_len 0 n)) 0 d) ≡ true
first_passes q n j d below h = first_passes_from q 0 n j d (omega arith) (omega arith) h

pub first_least : (q : ℕ → Bool) (n j d : ℕ) → j < n → q j ≡ true → get_or (filter q (range_with_len 0 n)) 0 d ≤ j
first_least q n j d below h = first_least_from q 0 n j d (omega arith) (omega arith) h

-- the sender of an element leads
pub sender_leads : (m : PlainMapping) (p : ℕ) (index : List ℤ) → IsMapping m → p < product m.procs → LiesIn m.bounds index → owns m p index ≡ true → sender m index ≡ p → LeadsAll m p
sender_leads m p index is below lies owned first =
    let held = owns_digits m p index is.dims below owned in
    λ e within.
    let c = get_or (digits m.procs p) e 0 in
    let f = divider m e is.dims within in
    let d = get_or m.dims f.place no_dim in
    let holding : holds_at d.cut (positions d.image index) c ≡ true = rw f.is at (held e within) in
    let least : (j : ℕ) → j < c → holds_at d.cut (positions d.image index) j ≡ false = λ j less.
    false_from_ne_true (holds_at d.cut (positions d.image index) j) (λ other.
    let lower = lower_digit m.procs p e j below within less in
    let q = lower.0 in
    let owner : owns m q index ≡ true = owns_from m q index is.dims (omega (arith, lower.1)) (λ i inside.
    rw lower.2 (elim (cases_eq i e) [
      | inl same ↦ rw (same, get_or-set_same (digits m.procs p) e j 0 (omega (arith, length-digits m.procs p)), f.is) other
      | inr apart ↦ rw (get_or-set_other (digits m.procs p) e i j 0 apart) (held i inside)
    ])) in
    absurd (let z : sender m index ≤ q = first_least (λ k. owns m k index) (product m.procs) q (product m.procs) (omega (arith, lower.1)) owner in omega (arith, lower.1, first))) in
    rw f.is (leads_here d.image d.cut m.bounds index e c lies (is.dims.followed f.place no_dim f.below) f.passes holding least)

-- ---- an element that a processor sends
-- a subscript at which a dimension of the base is owned at these coordinates, if it follows that dimension of the array
abbrev pub Suits : Image → Cut → List ℕ → ℕ → ℤ → Type 0
Suits (Along dim a b) (Over e axis) at j x = dim ≡ j → owner_at axis (a *ℤ x +ℤ b) ≡ get_or at e 0
Suits (Along dim a b) Whole at j x = Unit {0}
Suits (Fixed n) cut at j x = Unit {0}
Suits (Spread first step count) cut at j x = Unit {0}

suits_other : (image : Image) (cut : Cut) (at : List ℕ) (j : ℕ) (x : ℤ) → follows j image ≡ false → Suits image cut at j x
suits_other (Along dim a b) (Over e axis) at j x h = λ same. absurd (false≢true (sym h ∙ eq-eqb dim j same))
suits_other (Along dim a b) Whole at j x h = tt
suits_other (Fixed n) cut at j x h = tt
suits_other (Spread first step count) cut at j x h = tt

suits_some : (image : Image) (cut : Cut) (bounds : List Run) (at : List ℕ) (j : ℕ) → LiesWithin (get_or bounds j no_bound) (get_or bounds j no_bound).low → ((e : ℕ) → divides e cut ≡ true → LeadsAt image cut bounds (get_or at e 0)) → follows j image ≡ true → (x : ℤ) × LiesWithin (get_or bounds j no_bound) x × Suits image cut at j x
suits_some (Along dim a b) Whole bounds at j low leads h = ((get_or bounds j no_bound).low, low, tt)
suits_some (Along dim a b) (Over e axis) bounds at j low leads h =
    let l = leads e (eq-eqb e e refl) in
    let same = eqb-true dim j h in
    (l.0, subst (λ (i : ℕ). LiesWithin (get_or bounds i no_bound) l.0) same l.1, λ s. l.2)
suits_some (Fixed n) cut bounds at j low leads h = absurd (false≢true h)
suits_some (Spread first step count) cut bounds at j low leads h = absurd (false≢true h)

suits_held : (image : Image) (cut : Cut) (bounds : List Run) (index : List ℤ) (at : List ℕ) (e : ℕ) → divides e cut ≡ true → LeadsAt image cut bounds (get_or at e 0) → ((j : ℕ) → follows j image ≡ true → Suits image cut at j (get_or index j (pos 0))) → holds_at cut (positions image index) (get_or at e 0) ≡ true
suits_held image Whole bounds index at e over leads suits = absurd (false≢true over)
suits_held (Along dim a b) (Over d axis) bounds index at e over leads suits =
    let own = suits dim (eq-eqb dim dim refl) refl in
    or_left _ _ (eq-eqb _ _ (own ∙ ap (λ (i : ℕ). get_or at i 0) (eqb-true d e over)))
suits_held (Fixed n) (Over d axis) bounds index at e over leads suits = or_left _ _ (eq-eqb _ _ leads)
suits_held (Spread first step count) (Over d axis) bounds index at e over leads suits = leads.passes

some_same : {A : Type 0} {x y : A} → Some x ≡ Some y → x ≡ y
some_same e = cc

followed_below : (image : Image) (j rank : ℕ) → follows j image ≡ true → FollowsBelow rank image → j < rank
followed_below (Along dim a b) j rank h below = subst (λ (i : ℕ). i < rank) (eqb-true dim j h) below
followed_below (Fixed n) j rank h below = absurd (false≢true h)
followed_below (Spread first step count) j rank h below = absurd (false≢true h)

-- in each dimension of the array there is a subscript that suits all dimensions of the base
suitable : (m : PlainMapping) (p j : ℕ) → IsMapping m → LeadsAll m p → j < length m.bounds → (x : ℤ) × LiesWithin (get_or m.bounds j no_bound) x × ((k : ℕ) → k < length m.dims → Suits (get_or m.dims k no_dim).image (get_or m.dims k no_dim).cut (digits m.procs p) j x)
suitable m p j is leads within =
    let run = get_or m.bounds j no_bound in
    let low = lies_low run (is.bounds.ordered j no_bound within) in
    let at = digits m.procs p in
    let q : BaseDim → Bool = λ d. follows j d.image in
    elim (cases_lt 0 (length (filter q m.dims))) [
      | inl some ↦
          let f = found q m.dims no_dim some in
          let d = get_or m.dims f.place no_dim in
          let x = suits_some d.image d.cut m.bounds at j low (λ e over.
          let inside = divided_below d.cut e (length m.procs) over (is.dims.divided f.place no_dim f.below) in
          let only = find_only (λ (d : BaseDim). divides e d.cut) m.dims f.place no_dim (omega (arith, is.dims.each_once e inside)) f.below over in
          rw only at (leads e inside)) f.passes in (
            x.0,
            x.1,
            λ k below.
                let o = get_or m.dims k no_dim in
                elim (cases_Bool (q o)) [
                  | inl passed ↦
                      let only = find_only q m.dims k no_dim (is.dims.once j) below passed in
                      let same : o ≡ d = some_same (sym only ∙ f.is) in
                      subst (λ (y : BaseDim). Suits y.image y.cut at j x.0) (sym same) x.2
                  | inr failed ↦ suits_other o.image o.cut at j x.0 failed
                ],
          )
      | inr none ↦ (
        run.low,
        low,
        λ k below.
            let o = get_or m.dims k no_dim in
            elim (cases_Bool (q o)) [
              | inl passed ↦ absurd (omega (arith, filter_some q m.dims k no_dim below passed))
              | inr failed ↦ suits_other o.image o.cut at j run.low failed
            ],
      )
    ]

-- a processor whose coordinates lead sends some element
pub leads_some : (m : PlainMapping) (p : ℕ) → IsMapping m → p < product m.procs → LeadsAll m p → (index : List ℤ) × LiesIn m.bounds index × (owns m p index ≡ true) × (sender m index ≡ p)
leads_some m p is below leads =
    let at = digits m.procs p in
    let P : ℕ → ℤ → Type 0 = λ j x. (k : ℕ) → k < length m.dims → Suits (get_or m.dims k no_dim).image (get_or m.dims k no_dim).cut at j x in
    let i = index_with m.bounds P (λ j within. suitable m p j is leads within) in
    let index = i.0 in
    let s = sender_from m p index is.dims below (λ e within.
    let f = divider m e is.dims within in
    let d = get_or m.dims f.place no_dim in
    let here : LeadsAt d.image d.cut m.bounds (get_or at e 0) = rw f.is at (leads e within) in
    let held = suits_held d.image d.cut m.bounds index at e f.passes here (λ j follow. i.2 j (followed_below d.image j (length m.bounds) follow (is.dims.followed f.place no_dim f.below)) f.place f.below) in
    least_found m.dims index e d (get_or at e 0) f.is (least_here d.image d.cut m.bounds index e (get_or at e 0) f.passes here held)) in
    (index, i.1, s.0, s.1)

-- ---- the sender is the processor that sends and owns
pub sender_below : (m : PlainMapping) (p : ℕ) (index : List ℤ) → p < product m.procs → owns m p index ≡ true → sender m index < product m.procs
sender_below m p index below h =
    let l = first_least (λ q. owns m q index) (product m.procs) p (product m.procs) below h in
    omega arith

pub sender_owns : (m : PlainMapping) (p : ℕ) (index : List ℤ) → p < product m.procs → owns m p index ≡ true → owns m (sender m index) index ≡ true
sender_owns m p index below h = first_passes (λ q. owns m q index) (product m.procs) p (product m.procs) below h

pub sends_from : (m : PlainMapping) (p : ℕ) (index : List ℤ) → LiesIn m.bounds index → owns m p index ≡ true → sender m index ≡ p → sends m p ≡ true
sends_from m p index lies owned is =
    let test : List ℤ → Bool = λ index. owns m p index && (sender m index == p) in
    let place = indices_has m.bounds index lies in
    list_any_at test (indices m.bounds) place.0 index place.1
    (ap test place.2 ∙ and_from (owns m p index) (sender m index == p) owned (eq-eqb _ _ is))

-- ---- so a processor sends where its coordinates lead
pub sends_leads : (m : PlainMapping) (p : ℕ) → IsMapping m → p < product m.procs → sends m p ≡ true → LeadsAll m p
sends_leads m p is below h =
    let test : List ℤ → Bool = λ index. owns m p index && (sender m index == p) in
    let found = Any-from_list_any test (indices m.bounds) h in
    let index = found.1 in
    let both = and_parts (owns m p index) (sender m index == p) found.4 in
    let lies : LiesIn m.bounds index = subst (LiesIn m.bounds) found.3 (indices_only m.bounds found.0 index found.2) in
    sender_leads m p index is below lies both.0 (eqb-true _ _ both.1)

pub leads_sends : (m : PlainMapping) (p : ℕ) → IsMapping m → p < product m.procs → LeadsAll m p → sends m p ≡ true
leads_sends m p is below leads =
    let s = leads_some m p is below leads in
    sends_from m p s.0 s.1 s.2 s.3

-- ---- the loop over the dimensions of the arrangement
pub record IsLedSoFar (m : PlainMapping) (p : ℕ) (sizes : List ℕ) (e rest : ℕ) : Type 0 where
  pub left : digits (drop e sizes) rest ≡ drop e (digits sizes p)
  pub led : (j : ℕ) → j < e → LeadsOf m.bounds (get_or (digits sizes p) j 0) (find (λ d. divides j d.cut) m.dims)

-- the next coordinate by division
pub next_digit : (sizes : List ℕ) (p e rest : ℕ) → e < length sizes → digits (drop e sizes) rest ≡ drop e (digits sizes p) → (rest % get_or sizes e 0 ≡ get_or (digits sizes p) e 0) × (digits (drop (e + 1) sizes) (rest / get_or sizes e 0) ≡ drop (e + 1) (digits sizes p))
next_digit sizes p e rest within h =
    let split : drop e sizes ≡ get_or sizes e 0 ∷ drop (e + 1) sizes = rw (add-one) (drop-cons sizes e 0 within) in
    let inside : e < length (digits sizes p) = omega (arith, length-digits sizes p) in
    let other : drop e (digits sizes p) ≡ get_or (digits sizes p) e 0 ∷ drop (e + 1) (digits sizes p) = rw (add-one) (drop-cons (digits sizes p) e 0 inside) in
    let both : rest % get_or sizes e 0 ∷ digits (drop (e + 1) sizes) (rest / get_or sizes e 0) ≡ get_or (digits sizes p) e 0 ∷ drop (e + 1) (digits sizes p) =
    sym (ap (λ (ns : List ℕ). digits ns rest) split) ∙ h ∙ other in
    (let z : rest % get_or sizes e 0 ≡ get_or (digits sizes p) e 0 = cc in z, let z : digits (drop (e + 1) sizes) (rest / get_or sizes e 0) ≡ drop (e + 1) (digits sizes p) = cc in z)

pub led_none : (m : PlainMapping) (p : ℕ) (sizes : List ℕ) → IsLedSoFar m p sizes 0 p
led_none m p sizes = record { left = refl; led = λ j below. absurd (omega arith) }

pub led_more : (m : PlainMapping) (p : ℕ) (sizes : List ℕ) (e rest : ℕ) → e < length sizes → IsLedSoFar m p sizes e rest → LeadsOf m.bounds (rest % get_or sizes e 0) (find (λ d. divides e d.cut) m.dims) → IsLedSoFar m p sizes (e + 1) (rest / get_or sizes e 0)
led_more m p sizes e rest within h leads =
    let n = next_digit sizes p e rest within h.left in
    record {
      left = n.1;
      led = below_more (λ j. LeadsOf m.bounds (get_or (digits sizes p) j 0) (find (λ d. divides j d.cut) m.dims)) e h.led (subst (λ (c : ℕ). LeadsOf m.bounds c (find (λ d. divides e d.cut) m.dims)) n.0 leads);
    }

pub led_all : (m : PlainMapping) (p : ℕ) (sizes : List ℕ) (e rest : ℕ) → IsMapping m → p < product m.procs → sizes ≡ m.procs → e ≡ length sizes → IsLedSoFar m p sizes e rest → true ≡ sends m p
led_all m p sizes e rest is below same end h =
    let led : (j : ℕ) → j < length sizes → LeadsOf m.bounds (get_or (digits sizes p) j 0) (find (λ d. divides j d.cut) m.dims) = λ j within. h.led j (omega arith) in
    sym (leads_sends m p is below (subst (λ (ns : List ℕ). (j : ℕ) → j < length ns → LeadsOf m.bounds (get_or (digits ns p) j 0) (find (λ d. divides j d.cut) m.dims)) same led))

pub led_stop : (m : PlainMapping) (p : ℕ) (sizes : List ℕ) (e rest : ℕ) → IsMapping m → p < product m.procs → sizes ≡ m.procs → e < length sizes → IsLedSoFar m p sizes e rest → (LeadsOf m.bounds (rest % get_or sizes e 0) (find (λ d. divides e d.cut) m.dims) → ⊥) → false ≡ sends m p
led_stop m p sizes e rest is below same within h other =
    let n = next_digit sizes p e rest within h.left in
    sym (false_from_ne_true (sends m p) (λ all.
    let leads = subst (λ (ns : List ℕ). (j : ℕ) → j < length ns → LeadsOf m.bounds (get_or (digits ns p) j 0) (find (λ d. divides j d.cut) m.dims)) (sym same) (sends_leads m p is below all) in
    other (subst (λ (c : ℕ). LeadsOf m.bounds c (find (λ d. divides e d.cut) m.dims)) (sym n.0) (leads e within))))
