-- Ends in memory that are sure to do their part.
use Rattle.std.proofs.Common.{◌≡◌, ◌≢◌, ◌<◌, List, [], Bool, true, false, ◌&&◌, Some, None, if◌then◌else◌, refl, ap, sym, ◌∙◌, arith, inl, inr, ℕ}
use Rattle.std.proofs.lemmas.Bool.{ne_eqb}
use Rattle.hpf_io.specs.Counts.{Rose, last_count}
use Rattle.hpf_io.specs.Files.{Files}
use Rattle.hpf_io.specs.Loaders.{LoaderInMemory, load_fails, file_in, files_told_by}
use Rattle.hpf_io.specs.States.{LoaderState}
use Rattle.hpf_request.specs.declared.words.Action.{Action}
use Rattle.hpf_request.specs.Deed.{Deed}
use Rattle.hpf_request.specs.Order.{Granted, Order, NoAction, NotBuilt, OfText, IsGranted}
use Rattle.hpf_request.specs.Words.{Asks}

-- a loader in memory whose count is below the last value tells its files
tells : (l : LoaderInMemory) → l.faults < last_count → files_told_by l ≡ Some (file_in l.files)
tells l few = ap (λ b. if b then None else Some (file_in l.files)) (ne_eqb l.faults last_count (λ e. omega (arith, e, few)))

-- where a call left the count, the loader tells the same files as before
pub still_tells : (old new : LoaderInMemory) → old.faults < last_count → new.faults ≡ old.faults
    → ((all : Files) → files_told_by new ≡ Some all → files_told_by old ≡ Some all) → files_told_by old ≡ files_told_by new
still_tells old new few same kept =
    let now = tells new (omega (arith, few, same)) in kept (file_in new.files) now ∙ sym now

-- what is granted over files is granted over the same files later
pub still_granted : (words : List (List ℕ)) (before after : LoaderState) (deed : Deed)
    → before.files ≡ after.files → IsGranted words before deed → IsGranted words after deed
still_granted words before after deed same granted =
    record { all = granted.all; told = sym same ∙ granted.told; order = ordered granted.order }
  where
    ordered : Order words before (Granted deed) → Order words after (Granted deed)
    ordered (NoAction unasked is) = NoAction unasked is
    ordered (NotBuilt asked name asks unbuilt is) = NotBuilt asked name asks unbuilt is
    ordered (OfText asked name text asks loaded judged) =
        OfText asked name text asks (record { within = loaded.within; front = λ all told. loaded.front all (same ∙ told) }) judged

and_false : (b : Bool) → (b && false) ≡ false
and_false true = refl
and_false false = refl

-- no load of a name that it holds fails, where no call was chosen
never_misses : (l : LoaderInMemory) (name text : List ℕ) → l.calls.fails ≡ [] → file_in l.files name ≡ Some text → load_fails l name ≡ false
never_misses l name text none here = rw here (rw none (and_false _))

-- a source that never fails has no count that rises
pub never_rises : ¬ Rose 0 0
never_rises (inl more) = omega (arith, more)
never_rises (inr last) = omega (arith, last)

-- the words ask for one thing at most
abbrev pub OneAsking : Type 0
OneAsking = (words : List (List ℕ)) (a b : Action) (m n : List ℕ) → Asks words a m → Asks words b n → (a ≡ b) × (m ≡ n)

-- where a deed is granted over a loader in memory of which no call was chosen, no load of the map fails
pub map_is_held : OneAsking → (words : List (List ℕ)) (l : LoaderInMemory) (state : LoaderState) (deed : Deed) → state.files ≡ files_told_by l
    → l.calls.fails ≡ [] → l.faults < last_count → IsGranted words state deed
    → (asked : Action) (name : List ℕ) → Asks words asked name → load_fails l name ≢ true
map_is_held one words l state deed is none few granted asked name asks = held granted.order
  where
    same : granted.all ≡ file_in l.files
    same = let both : Some granted.all ≡ Some (file_in l.files) = sym granted.told ∙ (is ∙ tells l few) in cc

    held : Order words state (Granted deed) → load_fails l name ≢ true
    held (NoAction unasked denied) = absurd cc
    held (NotBuilt other map asks' unbuilt denied) = absurd cc
    held (OfText other map text asks' loaded judged) =
        let front = loaded.front granted.all granted.told in
        let here : file_in l.files name ≡ Some front.0 =
        ap (file_in l.files) (one words asked other name map asks asks').1 ∙ (ap (λ (files : Files). files map) (sym same) ∙ front.1) in
        λ misses. absurd (let no : true ≡ false = sym misses ∙ never_misses l name front.0 none here in cc)
