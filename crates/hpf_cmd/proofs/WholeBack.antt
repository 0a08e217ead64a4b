-- A slice of all parts that is written back.
use Rattle.std.proofs.Common.{◌≡◌, ℕ, List, ◌++◌, length, take, drop, ap, ◌∙◌, arith}
use Rattle.std.proofs.lemmas.List.{take_all, drop_all, append-nil}
use Rattle.hpf_request.specs.Parts.{Holding}

-- a list that is written back whole
pub whole_back : (old new : List Holding) (n : ℕ) → length new ≡ length old → n ≡ length old → take n (new ++ drop (length new) old) ≡ new
whole_back old new n same many =
    ap (λ (rest : List Holding). take n (new ++ rest)) (drop_all (length new) old (omega (arith, same)))
    ∙ (ap (take n) (append-nil new) ∙ take_all n new (omega (arith, same, many)))
