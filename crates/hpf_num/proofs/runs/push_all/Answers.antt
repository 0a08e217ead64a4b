use Rattle.std.proofs.Common.{◌≡◌, ℕ, ◌+◌, ◌++◌, ◌∷◌, [], List, ℤ, map, pos, ◌+ℤ◌, to_z-of_z, append_assoc, arith, refl, of_z, to_z, w64, ap, ◌∙◌}
use Rattle.std.specs.List.{range_with_len}
use Rattle.std.proofs.lemmas.List.FromFn.{map-range_with_len_more}
use Rattle.hpf_num.proofs.Members.{fits_small}
use Rattle.hpf_num.proofs.runs.push_all.Goals as goal

-- one integer more
one_more : (low x : ℤ) (xs : List ℤ) (k : ℕ) → x ≡ low +ℤ pos k → (xs ++ map (λ j. low +ℤ pos j) (range_with_len 0 k)) ++ (x ∷ []) ≡ xs ++ map (λ j. low +ℤ pos j) (range_with_len 0 (k + 1))
one_more low x xs k e =
    rw (append_assoc, map-range_with_len_more (λ j. low +ℤ pos j) 0 k k (omega arith), e) refl

pub loop-k-preserved : goal.loop-k-preserved
loop-k-preserved c =
    c.in_ok-push.ensures.items
    ∙ ap (λ (xs : List ℤ). xs ++ to_z w64 (of_z w64 c.at.result) ∷ []) c.loop-k.invariant
    ∙ one_more c.args.run.low _ c.args.items.now.items c.loop-k.k (to_z-of_z (fits_small _ c.at.ensures.small) ∙ c.at.ensures.integer)
