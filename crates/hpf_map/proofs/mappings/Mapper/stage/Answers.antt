use Rattle.std.proofs.Common.{map, subst}
use Rattle.hpf_syntax.specs.Plain.{item_tree}
use Rattle.hpf_map.specs.Mappings.{MapsAt}
use Rattle.hpf_map.proofs.ResolveLemmas.{array_below, array_word, line_mapped}
use Rattle.hpf_map.proofs.mappings.Mapper.stage.Goals as goal

pub mapping_at-requires-clause-below : goal.mapping_at-requires-clause-below
mapping_at-requires-clause-below c = array_below (map item_tree c.args.self.now.items.now) c.args.self.now.names.now c.args.line.now.array.word c.in-Some.n c.requires.ready.names c.in-Some.ensures

pub unreachable-requires-in-None : goal.unreachable-requires-in-None
unreachable-requires-in-None c =
    let items = map item_tree c.args.self.now.items.now in
    line_mapped items c.args.line.now.array c.in-Some.n c.requires.line.mapped
    (array_word items c.args.self.now.names.now c.args.line.now.array.word c.in-Some.n c.requires.ready.names c.in-Some.ensures)
    (subst (MapsAt items c.in-Some.n) c.in-None.is c.in_ok-mapping.ensures)
