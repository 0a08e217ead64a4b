-- What each call does to an end as its worker has it.
use Rattle.std.specs.Prelude.{◌≡◌, ℕ, Bool, true, List, [], ◌∷◌, ◌++◌, length, map, Some}
use Rattle.std.proofs.Common.{refl, sym, ap, ◌∙◌, subst, append_assoc, append-nil, inl, inr}
use Rattle.std.proofs.lemmas.List.{map_push, length-set}
use Rattle.std.proofs.lemmas.Bool.{false≢true}
use Rattle.hpf_lend.specs.declared.message.EndKind.{EndKind}
use Rattle.hpf_lend.specs.declared.message.Message.{Message}
use Rattle.hpf_lend.specs.declared.message.Message.TheVariants.{Frame, End}
use Rattle.hpf_lend.specs.Plain.{Plain, Home, home_of}
use Rattle.hpf_lend.specs.Lending.{Lending}
use Rattle.hpf_lend.specs.Borrowing.{Borrowing}
use Rattle.hpf_lend.specs.Calls.{Lends, Ends, TakesBack, LenderWaits, HoldsBack, NothingHome, Takes, BorrowerWaits, HasNoRoom, NothingCame, GivesBack}
use Rattle.hpf_lend.specs.Ends.{Entry, Exit, entry_of, exit_of, EntryGoesOn, ExitGoesOn}
use Rattle.hpf_lend.proofs.Shelves.{length_without}
use Rattle.hpf_lend.proofs.Prefixes.{prefix_refl, prefix_trans}

-- ---- entries

pub entry_itself : (entry : Entry) → EntryGoesOn entry entry
entry_itself entry = record { places = refl; more = prefix_refl entry.received; received = refl; returned = prefix_refl entry.returned }

pub entry_onward : (first second third : Entry) → EntryGoesOn first second → EntryGoesOn second third → EntryGoesOn first third
entry_onward first second third p q = record {
  places = q.places ∙ p.places;
  more = prefix_trans _ _ _ p.more q.more;
  received = q.received ∙ p.received;
  returned = prefix_trans _ _ _ p.returned q.returned;
}

-- an entry that is the same goes on
entry_same : (old new : Entry) → new ≡ old → EntryGoesOn old new
entry_same old new same = subst (λ (e : Entry). EntryGoesOn old e) (sym same) (entry_itself old)

pub entry_takes : (old new : Borrowing) (message : Message) (places : List ℕ) (before after : Bool) → old.fresh ≡ true → Takes old new message
    → EntryGoesOn (entry_of places before old) (entry_of places after new)
entry_takes old new message places before after fresh t =
    let received : new.received ≡ old.received ++ message ∷ [] = ap (λ (y : Borrowing). y.received) t.change in
    let returned : new.returned ≡ old.returned = ap (λ (y : Borrowing). y.returned) t.change in
    let knew : old.known ≡ message ∷ new.known = elim t.next [ inl e ↦ e | inr n ↦ absurd (false≢true (sym n.1 ∙ fresh)) ] in
    record {
      places = refl;
      more = (message ∷ [], sym received);
      received =
          ap (λ (l : List Message). l ++ new.known) received ∙ append_assoc old.received (message ∷ []) new.known
          ∙ ap (λ (l : List Message). old.received ++ l) (sym knew);
      returned = ([], append-nil (map home_of old.returned) ∙ ap (map home_of) (sym returned));
    }

pub entry_waits : (old new : Borrowing) (places : List ℕ) (lost : Bool) → BorrowerWaits old new → EntryGoesOn (entry_of places lost old) (entry_of places lost new)
entry_waits old new places lost (HasNoRoom full same) = entry_same _ _ (ap (entry_of places lost) same)
entry_waits old new places lost (NothingCame none same) = entry_same _ _ (ap (entry_of places lost) same)

pub entry_gives : (old new : Borrowing) (number : ℕ) (buffer : Plain) (places : List ℕ) (lost : Bool) → GivesBack old new number buffer
    → EntryGoesOn (entry_of places lost old) (entry_of places lost new)
entry_gives old new number buffer places lost same =
    let received : new.received ≡ old.received = ap (λ (y : Borrowing). y.received) same in
    let known : new.known ≡ old.known = ap (λ (y : Borrowing). y.known) same in
    let returned : new.returned ≡ old.returned ++ buffer ∷ [] = ap (λ (y : Borrowing). y.returned) same in
    record {
      places = refl;
      more = ([], append-nil old.received ∙ sym received);
      received = ap (λ (l : List Message). l ++ new.known) received ∙ ap (λ (l : List Message). old.received ++ l) known;
      returned = (home_of buffer ∷ [], sym (map_push home_of old.returned buffer) ∙ ap (map home_of) (sym returned));
    }

-- ---- exits

pub exit_itself : (exit : Exit) → ExitGoesOn exit exit
exit_itself exit = record { places = refl; buffers = refl; sent = prefix_refl exit.sent; more = prefix_refl exit.taken_back; taken_back = refl }

pub exit_onward : (first second third : Exit) → ExitGoesOn first second → ExitGoesOn second third → ExitGoesOn first third
exit_onward first second third p q = record {
  places = q.places ∙ p.places;
  buffers = q.buffers ∙ p.buffers;
  sent = prefix_trans _ _ _ p.sent q.sent;
  more = prefix_trans _ _ _ p.more q.more;
  taken_back = q.taken_back ∙ p.taken_back;
}

exit_same : (old new : Exit) → new ≡ old → ExitGoesOn old new
exit_same old new same = subst (λ (e : Exit). ExitGoesOn old e) (sym same) (exit_itself old)

-- an exit that sent one message more
record SendsOn (old new : Lending) (message : Message) : Type 0 where
  pub buffers : length new.shelf ≡ length old.shelf
  pub sent : new.sent ≡ old.sent ++ message ∷ []
  pub taken : new.taken ≡ old.taken
  pub known : new.known ≡ old.known

exit_sends : (old new : Lending) (message : Message) (places : List ℕ) → SendsOn old new message → ExitGoesOn (exit_of places old) (exit_of places new)
exit_sends old new message places s = record {
  places = refl;
  buffers = s.buffers;
  sent = (message ∷ [], sym s.sent);
  more = ([], append-nil (map home_of old.taken) ∙ ap (map home_of) (sym s.taken));
  taken_back = ap (λ (l : List Plain). map home_of l ++ map home_of new.known) s.taken ∙ ap (λ (l : List Plain). map home_of old.taken ++ map home_of l) s.known;
}

pub exit_lends : (old new : Lending) (frame : ℕ) (buffer : Plain) (places : List ℕ) → Lends old new frame buffer → ExitGoesOn (exit_of places old) (exit_of places new)
exit_lends old new frame buffer places l = exit_sends old new (Frame frame buffer) places (record {
  buffers = ap (λ (x : Lending). length x.shelf) l.change ∙ length_without old.shelf;
  sent = ap (λ (x : Lending). x.sent) l.change;
  taken = ap (λ (x : Lending). x.taken) l.change;
  known = ap (λ (x : Lending). x.known) l.change;
})

pub exit_ends : (old new : Lending) (kind : EndKind) (places : List ℕ) → Ends old new kind → ExitGoesOn (exit_of places old) (exit_of places new)
exit_ends old new kind places e = exit_sends old new (End kind) places (record {
  buffers = ap (λ (x : Lending). length x.shelf) e.change;
  sent = ap (λ (x : Lending). x.sent) e.change;
  taken = ap (λ (x : Lending). x.taken) e.change;
  known = ap (λ (x : Lending). x.known) e.change;
})

-- an exit that took back the first home that it knew to wait
record TakesOn (old new : Lending) (buffer : Plain) : Type 0 where
  pub buffers : length new.shelf ≡ length old.shelf
  pub sent : new.sent ≡ old.sent
  pub taken : new.taken ≡ old.taken ++ buffer ∷ []
  pub knew : old.known ≡ buffer ∷ new.known

exit_takes : (old new : Lending) (buffer : Plain) (places : List ℕ) → TakesOn old new buffer → ExitGoesOn (exit_of places old) (exit_of places new)
exit_takes old new buffer places t =
    let taken : map home_of new.taken ≡ map home_of old.taken ++ home_of buffer ∷ [] = ap (map home_of) t.taken ∙ map_push home_of old.taken buffer in
    record {
      places = refl;
      buffers = t.buffers;
      sent = ([], append-nil old.sent ∙ sym t.sent);
      more = (home_of buffer ∷ [], sym taken);
      taken_back =
          ap (λ (l : List Home). l ++ map home_of new.known) taken ∙ append_assoc (map home_of old.taken) (home_of buffer ∷ []) (map home_of new.known)
          ∙ ap (λ (l : List Plain). map home_of old.taken ++ map home_of l) (sym t.knew);
    }

pub exit_takes_back : (old new : Lending) (places : List ℕ) → old.fresh ≡ true → TakesBack old new → ExitGoesOn (exit_of places old) (exit_of places new)
exit_takes_back old new places fresh t =
    let knew : old.known ≡ t.buffer ∷ new.known = elim t.next [ inl e ↦ e | inr n ↦ absurd (false≢true (sym n.1 ∙ fresh)) ] in
    exit_takes old new t.buffer places (elim t.result [
      | inl home ↦ record {
        buffers = ap (λ (x : Lending). length x.shelf) home.change ∙ length-set old.shelf t.buffer.number (Some t.buffer);
        sent = ap (λ (x : Lending). x.sent) home.change;
        taken = ap (λ (x : Lending). x.taken) home.change;
        knew = knew;
      }
      | inr strays ↦ record {
        buffers = ap (λ (x : Lending). length x.shelf) strays.change;
        sent = ap (λ (x : Lending). x.sent) strays.change;
        taken = ap (λ (x : Lending). x.taken) strays.change;
        knew = knew;
      }
    ])

pub exit_waits : (old new : Lending) (places : List ℕ) → LenderWaits old new → ExitGoesOn (exit_of places old) (exit_of places new)
exit_waits old new places (HoldsBack why same) = exit_same _ _ (ap (exit_of places) same)
exit_waits old new places (NothingHome none same) = exit_same _ _ (ap (exit_of places) same)
