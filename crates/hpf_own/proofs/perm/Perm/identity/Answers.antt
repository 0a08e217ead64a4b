use Rattle.std.proofs.Common.{◌∙◌}
use Rattle.hpf_own.proofs.Perms.{first_of_seven, ordered_is}
use Rattle.hpf_own.proofs.perm.Perm.identity.Goals as goal

pub keep-requires : goal.keep-requires
keep-requires c = rw (first_of_seven c.args.rank c.requires.greatest) (ordered_is c.args.rank c.requires.least c.requires.greatest)

pub returns : goal.returns
returns c = c.keep.ensures ∙ first_of_seven c.args.rank c.requires.greatest
