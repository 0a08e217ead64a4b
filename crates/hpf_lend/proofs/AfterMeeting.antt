-- What the calls that take answer just after the ends have met.
use Rattle.std.specs.Prelude.{◌≡◌, true, false, List, [], ◌∷◌, ◌++◌, length}
use Rattle.std.proofs.Common.{sym, ap, ◌∙◌, arith, append_assoc, append-nil, inl, inr}
use Rattle.std.proofs.lemmas.Bool.{false≢true}
use Rattle.std.proofs.lemmas.List.{nil_from_length}
use Rattle.hpf_lend.specs.declared.message.Message.{Message}
use Rattle.hpf_lend.specs.Plain.{Plain}
use Rattle.hpf_lend.specs.Messages.{lent}
use Rattle.hpf_lend.specs.Lending.{Lending}
use Rattle.hpf_lend.specs.Borrowing.{Borrowing, HaveMet}
use Rattle.hpf_lend.specs.Calls.{TakesBack, LenderWaits, HoldsBack, NothingHome, Takes, BorrowerWaits, HasNoRoom, NothingCame}

pub nothing_waits : (x : Lending) (old new : Borrowing) → HaveMet x old → BorrowerWaits old new → old.received ≡ x.sent
nothing_waits x old new met (HasNoRoom full same) = absurd (omega (arith, full, ap length met.borrower_kept))
nothing_waits x old new met (NothingCame none same) = sym (met.messages ∙ ap (λ (l : List Message). old.received ++ l) none ∙ append-nil old.received)

pub took_next : (x : Lending) (old new : Borrowing) (message : Message) → HaveMet x old → old.fresh ≡ true → Takes old new message
    → (rest : List Message) × (new.received ++ rest ≡ x.sent)
took_next x old new message met fresh t =
    let received : new.received ≡ old.received ++ message ∷ [] = ap (λ (y : Borrowing). y.received) t.change in
    let knew : old.known ≡ message ∷ new.known = elim t.next [ inl e ↦ e | inr n ↦ absurd (false≢true (sym n.1 ∙ fresh)) ] in (
      new.known,
      ap (λ (l : List Message). l ++ new.known) received ∙ append_assoc old.received (message ∷ []) new.known
          ∙ ap (λ (l : List Message). old.received ++ l) (sym knew) ∙ sym met.messages,
    )

none_known : (old : Lending) (y : Borrowing) → HaveMet old y → old.known ≡ [] → old.taken ≡ y.returned
none_known old y met none = sym (met.back ∙ ap (λ (l : List Plain). old.taken ++ l) none ∙ append-nil old.taken)

pub no_home_waits : (old new : Lending) (y : Borrowing) → HaveMet old y → old.strayed ≡ false → LenderWaits old new → old.taken ≡ y.returned
no_home_waits old new y met straight (HoldsBack (inl all) same) =
    let kept = ap (λ (l : List Message). length (lent l)) met.lender_kept in
    none_known old y met (nil_from_length old.known (omega (arith, all, kept, met.on_their_way)))
no_home_waits old new y met straight (HoldsBack (inr strayed) same) = absurd (false≢true (sym straight ∙ strayed))
no_home_waits old new y met straight (NothingHome none same) = none_known old y met none

pub took_next_home : (old new : Lending) (y : Borrowing) → HaveMet old y → old.fresh ≡ true → TakesBack old new
    → (rest : List Plain) × (new.taken ++ rest ≡ y.returned)
took_next_home old new y met fresh t =
    let taken : new.taken ≡ old.taken ++ t.buffer ∷ [] = elim t.result [
      | inl home ↦ ap (λ (x : Lending). x.taken) home.change
      | inr strays ↦ ap (λ (x : Lending). x.taken) strays.change
    ] in
    let knew : old.known ≡ t.buffer ∷ new.known = elim t.next [ inl e ↦ e | inr n ↦ absurd (false≢true (sym n.1 ∙ fresh)) ] in (
      new.known,
      ap (λ (l : List Plain). l ++ new.known) taken ∙ append_assoc old.taken (t.buffer ∷ []) new.known
          ∙ ap (λ (l : List Plain). old.taken ++ l) (sym knew) ∙ sym met.back,
    )
