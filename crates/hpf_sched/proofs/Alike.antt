-- What goes between mappings that nobody can tell from others is what goes between those.
use Rattle.std.proofs.Common.{◌≡◌, ℕ, suc, ◌<◌, ◌≤◌, ◌==◌, Bool, cond, List, [], ◌∷◌, length, map, filter, get_or, Contains, ℤ, refl, ap, ◌∙◌, arith}
use Rattle.std.proofs.lemmas.List.Elements.{Contains-get_or}
use Rattle.hpf_num.specs.declared.run.Run.{Run}
use Rattle.hpf_own.specs.Alike.{AreAlike}
use Rattle.hpf_own.specs.Correspondence.{corresponding}
use Rattle.hpf_own.specs.Held.{Part, owned_part, held_part}
use Rattle.hpf_own.specs.Mapping.{PlainMapping}
use Rattle.hpf_own.specs.Owners.{sender}
use Rattle.hpf_own.specs.Space.{product, LiesIn}
use Rattle.hpf_sched.specs.declared.step.Move.{Move}
use Rattle.hpf_sched.specs.Transfer.{place_in, source_of, transfer}
use Rattle.hpf_sched.proofs.Planning.{Pair, source_lies}

filter_alike : {A : Type 0} (f g : A → Bool) (xs : List A) → ((k : ℕ) (d : A) → k < length xs → f (get_or xs k d) ≡ g (get_or xs k d)) → filter f xs ≡ filter g xs
filter_alike f g [] same = refl
filter_alike {A} f g (x ∷ xs) same =
    ap (λ (b : Bool). cond b (x ∷ filter f xs) (filter f xs)) (same 0 x (omega arith))
    ∙ ap (λ (ys : List A). cond (g x) (x ∷ ys) ys) (filter_alike f g xs (λ k d below. same (suc k) d (omega arith)))

-- what goes between parts, by the senders of elements
abbrev sent : List ℕ → ℕ → (List ℤ → ℕ) → List (List ℤ) → List (List ℤ) → List Run → List Run → List Move
sent perm p senders owned held before bounds =
    map (λ i. let move : Move = record { from = place_in owned (corresponding before bounds perm i); to = place_in held i } in move)
    (filter (λ i. senders (corresponding before bounds perm i) == p) held)

module _ (from to other receiving : PlainMapping) (perm : List ℕ) (p q : ℕ) (pair : Pair from to perm p q)
    (before : AreAlike from other) (behind : AreAlike to receiving)
    (owned : owned_part from p ≡ owned_part other p) (held : held_part to q ≡ held_part receiving q)
    (senders : (index : List ℤ) → LiesIn from.bounds index → sender from index ≡ sender other index) where
  pub same_transfer : transfer from to perm p q ≡ transfer other receiving perm p q
  same_transfer =
      let xs = (held_part to q).indices in
      let os = (owned_part from p).indices in
      let first : transfer from to perm p q ≡ sent perm p (sender other) os xs from.bounds to.bounds =
      ap (map (λ i. let move : Move = record { from = place_in os (source_of from to perm i); to = place_in xs i } in move))
      (filter_alike (λ i. sender from (source_of from to perm i) == p) (λ i. sender other (source_of from to perm i) == p) xs
      (λ k d below. ap (λ (n : ℕ). n == p) (senders (source_of from to perm (get_or xs k d)) (source_lies from to perm p q pair (get_or xs k d) (Contains-get_or xs k d below))))) in
      first
      ∙ ap (λ (o : List (List ℤ)). sent perm p (sender other) o xs from.bounds to.bounds) (ap (λ (part : Part). part.indices) owned)
      ∙ ap (λ (h : List (List ℤ)). sent perm p (sender other) (owned_part other p).indices h from.bounds to.bounds) (ap (λ (part : Part). part.indices) held)
      ∙ ap (λ (runs : List Run). sent perm p (sender other) (owned_part other p).indices (held_part receiving q).indices runs to.bounds) before.bounds
      ∙ ap (λ (runs : List Run). sent perm p (sender other) (owned_part other p).indices (held_part receiving q).indices other.bounds runs) behind.bounds
