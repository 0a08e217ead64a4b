use Rattle.std.proofs.Common.{Some}
use Rattle.hpf_map.specs.Hidden.{hides}
use Rattle.hpf_map.proofs.DummyLemmas.{SeenBy}
use Rattle.hpf_map.proofs.dummy_places.test_twice.Given as goal

abbrev pub invariant-loop-holder : goal.invariant-loop-holder
invariant-loop-holder g l =
    SeenBy g.H.Holder.tree (g.H.Holder.held (hides (Some l.dummies))) l.holders l.holder-index l.seen l.initial.breaches l.breaches
