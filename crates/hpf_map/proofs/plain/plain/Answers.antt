use Rattle.hpf_map.proofs.PlainLemmas.{plain_only}
use Rattle.hpf_map.proofs.plain.plain.Goals as goal

pub returns-else-low-high : goal.returns-else-low-high
returns-else-low-high c =
    plain_only c.args.array.now c.args.image c.in-Along.dim c.in-Along.a c.in-Along.b c.only.result c.requires.bounds c.requires.followed c.requires.coefficients c.in-Along.is c.if-low-high.false c.only.ensures
