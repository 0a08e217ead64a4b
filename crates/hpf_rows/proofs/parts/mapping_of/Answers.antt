-- What is asked of the one dimension of the base.
use Rattle.std.proofs.Common.{rules, arith}
use Rattle.std.proofs.lemmas.Grind.{common_steps}
use Rattle.hpf_rows.proofs.parts.mapping_of.Goals as goal

pub new-requires-4-clause-dims : goal.new-requires-4-clause-dims
new-requires-4-clause-dims c =
    record {
      followed = first_of (search rules, grind (arith, common_steps));
      once = first_of (search rules, grind (arith, common_steps));
      divided = first_of (search rules, grind (arith, common_steps));
      each_once = first_of (search rules, grind (arith, common_steps));
      sizes = first_of (search rules, grind (arith, common_steps));
      within = first_of (search rules, grind (arith, common_steps));
      coefficients = first_of (search rules, grind (arith, common_steps));
      some = first_of (search rules, grind (arith, common_steps));
    }
