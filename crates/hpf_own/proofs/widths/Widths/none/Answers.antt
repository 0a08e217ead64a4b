use Rattle.std.proofs.Common.{◌≡◌, length, take, replicate, refl, arith}
use Rattle.std.proofs.lemmas.List.{take-replicate, drop-replicate, length-take-le}
use Rattle.hpf_own.specs.declared.widths.Width.{Width}
use Rattle.hpf_own.specs.KeptLists.{no_width}
use Rattle.hpf_own.proofs.widths.Widths.none.Goals as goal
use Rattle.hpf_own.specs.Limits.{dimension_limit}

pub invariant_of-result : goal.invariant_of-result
invariant_of-result c =
    let n = c.args.rank in
    let many : length (take n (replicate dimension_limit no_width)) ≡ n = length-take-le n (replicate dimension_limit no_width) (omega (arith, c.requires.greatest)) in
    record {
      filled = record { size = refl; fits = c.requires.greatest; rest = drop-replicate {X = Width} n dimension_limit no_width };
      short = record { some = omega (arith, many, c.requires.least); few = omega (arith, many, c.requires.greatest) };
    }

pub returns : goal.returns
returns c = take-replicate c.args.rank dimension_limit no_width c.requires.greatest
