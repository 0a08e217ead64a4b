use Rattle.std.proofs.Common.{w64, to_z-of_z, FitsSigned, rules}
use Rattle.hpf_num.proofs.Divisions.{remainder_is}
use Rattle.hpf_num.proofs.division.modulo.Goals as goal

pub returns : goal.returns
returns c =
    let fits : FitsSigned w64 c.rem_euclid.result = search rules in
    rw (to_z-of_z fits, c.rem_euclid.ensures.value, to_z-of_z c.ranges.a, to_z-of_z c.ranges.b) (remainder_is c.args.a c.args.b c.requires)
