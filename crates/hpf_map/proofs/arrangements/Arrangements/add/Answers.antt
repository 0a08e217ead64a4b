use Rattle.std.proofs.Common.{arith, ◌≡◌, false, refl}
use Rattle.std.specs.Prelude.{◌==◌}
use Rattle.std.proofs.lemmas.Bool.Decides.{nat_tests}
use Rattle.hpf_map.proofs.ArrangementLemmas.{add_other, add_some}
use Rattle.hpf_map.proofs.arrangements.Arrangements.add.Goals as goal

pub returns-then-count-lt-COUNTS : goal.returns-then-count-lt-COUNTS
returns-then-count-lt-COUNTS c names at h =
    add_some names c.args.name.now c.args.self.now c.in-Some.count c.args.place _ c.is_broken.result c.in-Some.ensures c.if-count-lt-COUNTS.true at c.or_place.ensures c.is_broken.ensures h

pub returns-else-count-lt-COUNTS : goal.returns-else-count-lt-COUNTS
returns-else-count-lt-COUNTS c names at h =
    let long = c.if-count-lt-COUNTS.false in
    add_other names c.args.name.now c.args.self.now _ c.is_broken.result c.in-Some.ensures (λ k small. let other : (c.in-Some.count == k) ≡ false = grind (arith, nat_tests, long, small) in other) c.is_broken.ensures h

pub returns-in-None : goal.returns-in-None
returns-in-None c names at h = add_other names c.args.name.now c.args.self.now _ c.is_broken.result c.in-None.ensures (λ k small. refl) c.is_broken.ensures h
