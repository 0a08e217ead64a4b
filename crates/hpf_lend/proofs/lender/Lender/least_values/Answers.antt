use Rattle.std.proofs.Common.{◌≡◌, ℕ, ◌+◌, ◌∙◌, sym, refl, ap, List, length, ℤ, Option, Some}
use Rattle.std.proofs.Math.ListN.{set}
use Rattle.std.proofs.lemmas.List.{length-set}
use Rattle.hpf_lend.specs.Plain.{Plain}
use Rattle.hpf_lend.specs.Shelf.{least, with_values, with_least_values}
use Rattle.hpf_lend.specs.Lending.{Lending}
use Rattle.hpf_lend.specs.Filling.{filled}
use Rattle.hpf_lend.specs.KeepsLender.{lending}
use Rattle.hpf_lend.proofs.Shelves.{written_at, least_size}
use Rattle.hpf_lend.proofs.Lending.{written}
use Rattle.hpf_lend.proofs.lender.Lender.least_values.Goals as goal

-- the shelf after its least buffer was written
abbrev after : (c : goal.After-values_mut) → List ℤ → List (Option Plain)
after c values = set c.self.inside.shelf.items c.least_place-place.result (Some (with_values c.buffer_mut.result.now values))

writes : (c : goal.After-values_mut) → (least c.self.inside.shelf.items ≡ Some c.buffer_mut.result.now) × ((values : List ℤ) → after c values ≡ with_least_values c.self.inside.shelf.items values)
writes c =
    written_at c.self.inside.shelf.items c.least_place-place.result c.index_mut.result.now c.buffer_mut.result.now
    (rw (sym c.as_slice.ensures.value) c.least_place-place.ensures) c.index_mut.ensures.value c.buffer_mut.ensures.value

pub invariant_of-self-lent : goal.invariant_of-self-lent
invariant_of-self-lent c = λ w.
    let k = c.self.invariant in
    let x = lending c.self.inside in
    let n = length-set x.shelf c.least_place-place.result (Some (with_values c.buffer_mut.result.now w)) in
    record {
      lawful = written x (record x { shelf = after c w }) w k.lawful (record { size = refl; shelf = (writes c).1 w; out = refl; sent = refl; kept = refl; taken = refl; strayed = refl });
      room = k.room ∙ ap (λ (m : ℕ). m + 1) (sym n);
      row = k.row ∙ ap (λ (m : ℕ). m + 1) (sym n);
      places = k.places ∙ sym n;
      closed = k.closed;
    }

pub returns : goal.returns
returns c =
    let x = lending c.self.inside in
    let first = (writes c.before).0 in (
      (refl, λ w. ap (λ (s : List (Option Plain)). record x { shelf = s }) ((writes c.before).1 w) ∙ ap (λ (y : Lending). filled y w) c.self.view_is),
      record {
        writes = tt;
        value = rw (← c.self.view_is) (rw first c.values_mut.ensures.value);
        size = rw (← c.self.view_is) (ap length c.values_mut.ensures.value ∙ least_size x.size 0 x.shelf c.buffer_mut.result.now c.self.invariant.lawful.shelved first);
      },
    )
