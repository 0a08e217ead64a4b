use Rattle.std.proofs.Common.{w64, to_z-of_z, FitsSigned, rules}
use Rattle.hpf_num.proofs.Divisions.{floor_is}
use Rattle.hpf_num.proofs.division.div_floor.Goals as goal

pub returns : goal.returns
returns c =
    let fits : FitsSigned w64 c.div_euclid.result = search rules in
    rw (to_z-of_z fits, c.div_euclid.ensures, to_z-of_z c.ranges.a, to_z-of_z c.ranges.b) (floor_is c.args.a c.args.b c.requires)
