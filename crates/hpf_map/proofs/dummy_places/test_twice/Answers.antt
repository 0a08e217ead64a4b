use Rattle.std.proofs.Common.{rules, ap, ◌∙◌, ◌++◌, ◌||◌, Some}
use Rattle.hpf_map.specs.Dummies.{stands_among, seen_breaches}
use Rattle.hpf_map.specs.Found.{least_with}
use Rattle.hpf_map.specs.Hidden.{hides}
use Rattle.hpf_syntax.specs.declared.tree.Spot.{Spot}
use Rattle.std.proofs.Common.{List}
use Rattle.hpf_map.proofs.DummyLemmas.{SeenBy-none, SeenBy-more}
use Rattle.hpf_map.proofs.dummy_places.test_twice.Goals as goal

pub loop-holder-init : goal.loop-holder-init
loop-holder-init g c = SeenBy-none c.new-seen.result c.args.breaches.now (λ word. search rules)

pub loop-holder-preserved : goal.loop-holder-preserved
loop-holder-preserved g c =
    SeenBy-more c.holder-item.result c.add_to.new.spots.items c.add_seen.new.seen c.test_seen.new.breaches c.loop-holder.invariant
    c.loop-holder-test.true c.holder-item.is
    (c.in_ok-add_to.ensures
    ∙ ap (λ (l : List Spot). l ++ g.H.Holder.held (hides (Some c.args.dummies.now)) (g.H.Holder.tree c.holder-item.result)) c.clear.ensures.items)
    (c.test_seen.ensures
    ∙ ap (λ (l : List Spot). least_with c.loop-holder.breaches (seen_breaches (hides (Some c.loop-holder.seen)) l)) c.as_slice.ensures.value)
    (λ word.
    c.in_ok-add_seen.ensures word
    ∙ ap (λ (l : List Spot). hides (Some c.loop-holder.seen) word || stands_among l word) c.as_slice-in-loop-holder.ensures.value)
