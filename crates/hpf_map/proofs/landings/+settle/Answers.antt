use Rattle.std.proofs.Common.{arith, ◌≡◌, ◌-◌, ◌∙◌, ap, inr, refl, subst}
use Rattle.std.specs.Prelude.{slice_get}
use Rattle.hpf_map.specs.declared.way.Way.TheVariants.{Distributed}
use Rattle.hpf_map.specs.Paired.{inner}
use Rattle.hpf_map.specs.Ways.{way_at, walk}
use Rattle.hpf_map.proofs.IndexLemmas.{is_some_copied}
use Rattle.hpf_map.proofs.LandingLemmas.{walk_on, aligned_way, no_steps, base_ends, base_below, kept_on, found_settled}
use Rattle.hpf_map.proofs.landings.+settle.Goals as goal

pub returns-then-is_some-clause-settled : goal.returns-then-is_some-clause-settled
returns-then-is_some-clause-settled t c k ends =
    let there = c.at_place.ensures ∙ ap (λ l. inner (slice_get l c.args.n)) c.as_slice.ensures.value in
    found_settled c.args.landings.now.items c.args.n _ there (is_some_copied c.at_place.result _ c.is_some.result refl c.is_some.ensures ∙ c.if-is_some.true)

pub returns-then-steps-eq0-clause-settled : goal.returns-then-steps-eq0-clause-settled
returns-then-steps-eq0-clause-settled t c =
    absurd (no_steps c.args.ways.now c.args.n c.in-Aligned-default-Some.statement c.in-Aligned-default-Some.base c.args.steps _ c.in-Aligned-default-Some.ensures c.in-Aligned-default-Some.base-is c.if-steps-eq0.true c.requires.ends)

pub settle-requires : goal.settle-requires
settle-requires t c =
    let way = c.in-Aligned-default-Some.ensures in
    let is = c.in-Aligned-default-Some.base-is in (
      omega (arith, c.decreases, c.if-steps-eq0.false),
      (
        c.requires.clear,
        (
          c.requires.listed,
          (
            c.requires.many,
            (
              base_below c.args.names.now c.args.ways.now c.args.direct.now c.args.n _ _ _ c.requires.clear way is,
              base_ends c.args.ways.now c.args.n _ _ c.args.steps _ way is (omega (arith, c.if-steps-eq0.false)) c.requires.ends,
            ),
          ),
        ),
      ),
    )

pub returns-in_ok-list_one-in-Aligned-default-Some-clause-kept : goal.returns-in_ok-list_one-in-Aligned-default-Some-clause-kept
returns-in_ok-list_one-in-Aligned-default-Some-clause-kept t c = kept_on _ _ _ c.in_ok-settle-in-Aligned-default-Some.ensures.kept c.in_ok-list_one-in-Aligned-default-Some.ensures.kept

pub returns-in_ok-list_one-in-Aligned-default-Some-clause-settled : goal.returns-in_ok-list_one-in-Aligned-default-Some-clause-settled
returns-in_ok-list_one-in-Aligned-default-Some-clause-settled t c =
    let ways = c.args.ways.now in
    let way = c.in-Aligned-default-Some.ensures in
    let is = c.in-Aligned-default-Some.base-is in
    let k = c.in-Aligned-default-Some.statement in
    let b = c.in-Aligned-default-Some.base in
    λ j ends.
    let there : way_at ways (walk ways (c.args.steps - 1) b) ≡ Distributed j = subst (λ m. way_at ways m ≡ Distributed j) (walk_on ways c.args.n k b c.args.steps _ way is (omega (arith, c.if-steps-eq0.false))) ends in
    c.in_ok-list_one-in-Aligned-default-Some.ensures.settled (inr (k, b, aligned_way c.args.names.now ways c.args.direct.now c.args.n k b _ way is, c.in_ok-settle-in-Aligned-default-Some.ensures.settled j there))
