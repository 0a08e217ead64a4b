use Rattle.hpf_map.proofs.WayLemmas.{use_at, use_at_self, IsMapped-none, IsMapped-more}
use Rattle.hpf_map.proofs.ways.map_names.Goals as goal

pub loop-used-init : goal.loop-used-init
loop-used-init c = IsMapped-none c.args.uses.now c.args.ways.now.items c.args.first.now.items c.args.breaches.now

pub loop-used-preserved : goal.loop-used-preserved
loop-used-preserved c =
    IsMapped-more (use_at c.args.uses.now c.loop-used.used-index) c.map_name.new.ways.items c.map_name.new.first.items c.map_name.new.breaches c.loop-used.invariant
    c.loop-used-test.true (use_at_self c.args.uses.now c.loop-used.used-index c.loop-used-test.true)
    c.in_ok-map_name.ensures.ways c.in_ok-map_name.ensures.first c.in_ok-map_name.ensures.breaches
