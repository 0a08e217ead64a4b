use Rattle.std.proofs.Common.{◌≡◌, map, length, ap, ◌∙◌, arith}
use Rattle.hpf_syntax.specs.Plain.{item_tree}
use Rattle.hpf_map.specs.Layers.{names_of}
use Rattle.hpf_map.proofs.ResolveLemmas.{AreFirst-more, AreFirst-all}
use Rattle.hpf_map.proofs.mappings.Mapper.all_mappings.Goals as goal

pub loop-n-preserved : goal.loop-n-preserved
loop-n-preserved c = AreFirst-more _ _ c.loop-n.invariant c.in_ok-mapping_at.ensures c.in_ok-push.ensures.items

pub returns : goal.returns
returns c =
    let low = c.loop-n-test.false in
    let high = c.loop-n.auto.n-end in
    let all : length c.as_slice-n-end.result.now ≡ length (names_of (map item_tree c.args.self.now.items.now)) = ap length (c.as_slice-n-end.ensures ∙ c.requires.ready.names) in
    AreFirst-all c.loop-n.invariant (omega (arith, low, high, all))
