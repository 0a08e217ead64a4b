use Rattle.std.proofs.Common.{◌∙◌}
use Rattle.hpf_map.proofs.MoveLemmas.{only_is, lower_fits}
use Rattle.hpf_map.proofs.plain.only.Goals as goal

pub returns : goal.returns
returns c = only_is c.args.a c.args.b c.args.low c.from.result c.requires.step c.requires.start c.requires.low (c.from.ensures ∙ lower_fits c.args.low c.requires.low)
