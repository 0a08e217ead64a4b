-- A lender whose least buffer at home was written.
use Rattle.std.specs.Prelude.{◌≡◌, ℕ, ◌+◌, List, [], ◌∷◌, ◌++◌, length, take, drop, ℤ, Option, Some, None}
use Rattle.std.proofs.Common.{refl, sym, ap, ◌∙◌, arith}
use Rattle.std.proofs.lemmas.List.{append-nil, take_all, drop_all}
use Rattle.hpf_lend.specs.Plain.{Plain, Home}
use Rattle.hpf_lend.specs.Shelf.{least, with_values, with_least_values, IsShelf}
use Rattle.hpf_lend.specs.Lending.{Lending, IsLender}
use Rattle.hpf_lend.specs.Borrowing.{SameLender}
use Rattle.hpf_lend.specs.Filling.{filled}
use Rattle.hpf_lend.specs.History.{KeepsHistory}
use Rattle.hpf_lend.specs.Ends.{exit_of}
use Rattle.hpf_lend.proofs.Shelves.{length-values}
use Rattle.hpf_lend.proofs.Lending.{written}
use Rattle.hpf_lend.proofs.Histories.{same_history}

pub filled_lawful : (x : Lending) (values : List ℤ) → IsLender x → IsLender (filled x values)
filled_lawful x values is =
    written x (filled x values) values is (record { size = refl; shelf = refl; out = refl; sent = refl; kept = refl; taken = refl; strayed = refl })

pub filled_end : (x : Lending) (values : List ℤ) → SameLender x (filled x values)
filled_end x values = record { size = refl; buffers = length-values x.shelf values; forward = refl; back = refl }

pub filled_exit : (x : Lending) (values : List ℤ) (places : List ℕ) → exit_of places (filled x values) ≡ exit_of places x
filled_exit x values places = ap (λ (n : ℕ). record (exit_of places x) { buffers = n }) (length-values x.shelf values)

-- the least buffer has exactly what was written, where that has its length
least_written : (size first : ℕ) (shelf : List (Option Plain)) (values : List ℤ) (b : Plain) → IsShelf size first shelf → length values ≡ size
    → least (with_least_values shelf values) ≡ Some b → b.values ≡ values
least_written size first [] values b is n e = absurd (cc)
least_written size first (None ∷ shelf) values b is n e = least_written size (first + 1) shelf values b is n e
least_written size first (Some a ∷ shelf) values b is n e =
    let s : with_values a values ≡ b = cc in
    let m : length a.values ≡ size = ap (λ (h : Home). h.size) is.0 in
    let rest : drop (length values) a.values ≡ [] = drop_all (length values) a.values (omega arith) in
    ap (λ (p : Plain). p.values) (sym s) ∙ ap (λ (l : List ℤ). take (length a.values) (values ++ l)) rest
    ∙ ap (take (length a.values)) (append-nil values) ∙ take_all (length a.values) values (omega arith)

pub filled_values : (x : Lending) (values : List ℤ) (b : Plain) → IsLender x → length values ≡ x.size → least (filled x values).shelf ≡ Some b → b.values ≡ values
filled_values x values b is n e = least_written x.size 0 x.shelf values b is.shelved n e

pub filled_history : (x : Lending) (values : List ℤ) → KeepsHistory x (filled x values)
filled_history x values = same_history x (filled x values) (length-values x.shelf values) refl refl
