use Rattle.hpf_map.proofs.OutsideLemmas.{no_images, no_base}
use Rattle.hpf_map.proofs.alignments.+is_outside.Goals as goal

pub returns-in_default : goal.returns-in_default
returns-in_default t c = no_images c.args.array.now c.args.base.now c.args.images.now c.in_default.ensures.cases

pub returns-in_default-split_first : goal.returns-in_default-split_first
returns-in_default-split_first t c = no_base c.args.array.now c.args.base.now c.args.images.now c.in_default-split_first.ensures.cases
