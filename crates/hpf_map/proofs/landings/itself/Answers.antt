use Rattle.hpf_map.proofs.LandingLemmas.{itself_along, itself_fixed}
use Rattle.hpf_map.proofs.landings.itself.Goals as goal

pub returns-then-low-high : goal.returns-then-low-high
returns-then-low-high c = itself_along c.args.array.now c.args.dim c.requires.sound c.requires.dimension c.if-low-high.true

pub returns-else-low-high : goal.returns-else-low-high
returns-else-low-high c = itself_fixed c.args.array.now c.args.dim c.from.result c.requires.sound c.requires.dimension c.if-low-high.false c.from.ensures
