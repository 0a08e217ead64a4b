-- A short list is copied into its places, one item after another.
use Rattle.std.proofs.Common.{◌≡◌, ℕ, ◌+◌, ◌-◌, ◌<◌, ◌≤◌, List, [], ◌∷◌, ◌++◌, length, get_or, take, drop, replicate, arith, sym, ap, ◌∙◌}
use Rattle.std.proofs.Math.ListN.{set, length-set}
use Rattle.std.proofs.lemmas.List.{take_more, take_more_set, drop-set-lt, drop-drop, drop-replicate}
use Rattle.hpf_own.specs.Kept.{IsFilled}
use Rattle.hpf_own.specs.Limits.{dimension_limit}

-- the first i items stand in their places, and nothing behind them
pub record IsFilling {A : Type 0} (filler : A) (places items : List A) (i : ℕ) : Type 0 where
  pub size : length places ≡ dimension_limit
  pub written : take i places ≡ take i items
  pub rest : drop i places ≡ replicate (dimension_limit - i) filler

rest_left : {A : Type 0} (filler : A) (places : List A) (i : ℕ) (x : A) → i < dimension_limit → drop i places ≡ replicate (dimension_limit - i) filler → drop (i + 1) (set places i x) ≡ replicate (dimension_limit - (i + 1)) filler
rest_left {A} filler places i x lt h =
    let e : (dimension_limit - i) - 1 ≡ dimension_limit - (i + 1) = omega arith in
    let a : drop (i + 1) (set places i x) ≡ drop (i + 1) places = drop-set-lt (i + 1) places i x (omega arith) in
    let b : drop 1 (drop i places) ≡ drop (i + 1) places = drop-drop 1 i places in
    let d : drop 1 (replicate (dimension_limit - i) filler) ≡ replicate ((dimension_limit - i) - 1) filler = drop-replicate {X = A} 1 (dimension_limit - i) filler in
    a ∙ sym b ∙ ap (λ (t : List A). drop 1 t) h ∙ d ∙ ap (λ (n : ℕ). replicate n filler) e

pub fill_more : {A : Type 0} (filler d : A) (places items : List A) (i : ℕ) → length items ≤ dimension_limit → i < length items → IsFilling filler places items i → IsFilling filler (set places i (get_or items i d)) items (i + 1)
fill_more {A} filler d places items i few lt h =
    let x = get_or items i d in
    let a = take_more_set places i x (omega (arith, h.size)) in
    let b = take_more items i d lt in
    record {
      size = length-set places i x ∙ h.size;
      written = a ∙ ap (λ (front : List A). front ++ x ∷ []) h.written ∙ sym b;
      rest = rest_left filler places i x (omega arith) h.rest;
    }

pub fill_all : {A : Type 0} (filler : A) (places items : List A) → length items ≤ dimension_limit → IsFilling filler places items (length items) → IsFilled filler places (length items)
fill_all filler places items few h = record { size = h.size; fits = few; rest = h.rest }
