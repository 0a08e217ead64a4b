-- Walks from name to name: tables of where one comes to, and strides that are doubled.
use Rattle.std.proofs.Common.{inl, inr, ◌≡◌, ℕ, ◌+◌, ◌/◌, ◌%◌, ◌<◌, ◌≤◌, suc, zero, Bool, true, false, cond, List, [], ◌∷◌, ◌++◌, length, get_or, refl, sym, ap, ◌∙◌, arith}
use Rattle.std.specs.Prelude.{◌==◌}
use Rattle.std.specs.Fn.{iterate}
use Rattle.std.proofs.Math.ListN.{get_or-eq_default}
use Rattle.std.proofs.lemmas.Bool.Decides.{nat_tests}
use Rattle.std.proofs.lemmas.Grind.{common_steps}
use Rattle.std.proofs.lemmas.Bool.{cases_lt}
use Rattle.hpf_map.specs.declared.way.Way.{Way}
use Rattle.hpf_map.specs.Ways.{step, walk, walk_end}

-- ---- tables

-- a table of where one comes to from the names below a number
pub record IsTable (target : ℕ → ℕ) (targets : List ℕ) (count : ℕ) : Type 0 where
  pub long : length targets ≡ count
  pub value : (n : ℕ) → n < count → get_or targets n n ≡ target n

pub IsTable-none : (target : ℕ → ℕ) (targets : List ℕ) → targets ≡ [] → IsTable target targets 0
IsTable-none target targets e = record { long = ap length e; value = λ n h. absurd (omega arith) }

-- one name more
pub IsTable-more : {target : ℕ → ℕ} {before : List ℕ} {count : ℕ} (x : ℕ) (after : List ℕ) → IsTable target before count
    → after ≡ before ++ x ∷ [] → x ≡ target count → IsTable target after (count + 1)
IsTable-more {target = target} {before = before} {count = count} x after t e is =
    let long : length before ≡ count = t.long in
    record {
      long = grind (arith, common_steps);
      value = λ n h. elim (cases_lt n count) [
        | inl below ↦ let v : get_or before n n ≡ target n = t.value n below in grind (arith, common_steps)
        | inr from ↦ let same : n ≡ count = omega arith in grind (arith, common_steps)
      ];
    }

-- a whole table, where one stays at each name that isn't in it
pub IsTable-whole : {target : ℕ → ℕ} {targets : List ℕ} {count : ℕ} → IsTable target targets count
    → ((n : ℕ) → count ≤ n → target n ≡ n) → (n : ℕ) → get_or targets n n ≡ target n
IsTable-whole {target = target} {targets = targets} {count = count} t past n = elim (cases_lt n count) [
  | inl below ↦ t.value n below
  | inr from ↦ let long : length targets ≡ count = t.long in get_or-eq_default targets n (omega arith) ∙ sym (past n from)
]

-- ---- steps again and again

pub walk-iterate : (ways : List Way) (k n : ℕ) → walk ways k n ≡ iterate (step ways) k n
unfolding walk
walk-iterate ways zero n = refl
walk-iterate ways (suc k) n = walk-iterate ways k (step ways n)

pub iterate-add : (f : ℕ → ℕ) (j k n : ℕ) → iterate f (j + k) n ≡ iterate f k (iterate f j n)
iterate-add f zero k n = let none : 0 + k ≡ k = omega arith in ap (λ m. iterate f m n) none
iterate-add f (suc j) k n =
    let more : suc j + k ≡ suc (j + k) = omega arith in ap (λ m. iterate f m n) more ∙ iterate-add f j k (f n)

-- strides of two steps
iterate_twice : (f g : ℕ → ℕ) → ((n : ℕ) → g n ≡ f (f n)) → (k n : ℕ) → iterate g k n ≡ iterate f (k + k) n
iterate_twice f g twice zero n = refl
iterate_twice f g twice (suc k) n =
    let more : suc (suc (k + k)) ≡ suc k + suc k = omega arith in
    ap (iterate g k) (twice n) ∙ iterate_twice f g twice k (f (f n)) ∙ ap (λ m. iterate f m n) more

-- So many strides are left of a walk of so many steps.
pub record IsLeft (f : ℕ → ℕ) (count left : ℕ) (reached stride : ℕ → ℕ) : Type 0 where
  pub rest : (n : ℕ) → iterate stride left (reached n) ≡ iterate f count n

iterate-same : (f g : ℕ → ℕ) → ((n : ℕ) → f n ≡ g n) → (k n : ℕ) → iterate f k n ≡ iterate g k n
iterate-same f g same zero n = refl
iterate-same f g same (suc k) n = ap (iterate f k) (same n) ∙ iterate-same f g same k (g n)

-- all are left of single steps
pub IsLeft-all : (f reached stride : ℕ → ℕ) (count left : ℕ) → left ≡ count → ((n : ℕ) → reached n ≡ n) → ((n : ℕ) → stride n ≡ f n)
    → IsLeft f count left reached stride
IsLeft-all f reached stride count left all nowhere single = record {
  rest = λ n. ap (iterate stride left) (nowhere n) ∙ iterate-same stride f single left n ∙ ap (λ k. iterate f k n) all;
}

halved : (left : ℕ) (odd : Bool) → odd ≡ (left % 2 == 1) → left ≡ cond odd (suc (left / 2 + left / 2)) (left / 2 + left / 2)
halved left true e = grind (arith, nat_tests)
halved left false e = grind (arith, nat_tests)

doubled : (f stride twice : ℕ → ℕ) (half start end : ℕ) (odd : Bool) → ((n : ℕ) → twice n ≡ stride (stride n))
    → end ≡ cond odd (stride start) start
    → iterate twice half end ≡ iterate stride (cond odd (suc (half + half)) (half + half)) start
doubled f stride twice half start end true e is = ap (iterate twice half) is ∙ iterate_twice stride twice e half (stride start)
doubled f stride twice half start end false e is = ap (iterate twice half) is ∙ iterate_twice stride twice e half start

-- half of them are left of strides that are twice as long, after one where their number is odd
pub IsLeft-half : {f reached stride : ℕ → ℕ} {count left : ℕ} (further twice : ℕ → ℕ) (half : ℕ) (odd : Bool) → IsLeft f count left reached stride
    → odd ≡ (left % 2 == 1) → ((n : ℕ) → further n ≡ cond odd (stride (reached n)) (reached n)) → ((n : ℕ) → twice n ≡ stride (stride n))
    → half ≡ left / 2 → IsLeft f count half further twice
IsLeft-half {f = f} {reached = reached} {stride = stride} {count = count} {left = left} further twice half odd l parity on double is = record {
  rest = λ n.
      ap (λ h. iterate twice h (further n)) is
      ∙ doubled f stride twice (left / 2) (reached n) (further n) odd double (on n)
      ∙ ap (λ k. iterate stride k (reached n)) (sym (halved left odd parity))
      ∙ l.rest n;
}

-- nothing is left
pub IsLeft-none : {reached stride : ℕ → ℕ} {left : ℕ} (ways : List Way) → IsLeft (step ways) (length ways) left reached stride → left ≤ 0
    → (n : ℕ) → reached n ≡ walk_end ways n
IsLeft-none {reached = reached} {stride = stride} {left = left} ways l done n =
    let none : 0 ≡ left = omega arith in
    ap (λ k. iterate stride k (reached n)) none ∙ l.rest n ∙ sym (walk-iterate ways (length ways) n)
