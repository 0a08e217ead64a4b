use Rattle.std.proofs.Common.{◌≡◌, ◌+◌, ◌++◌, List, ℕ, arith, ap, sym}
use Rattle.hpf_gen.specs.Left.{records_left}
use Rattle.hpf_gen.proofs.Files.{none_left}
use Rattle.hpf_gen.proofs.piece.behind.Goals as goal

pub returns-then-from-frames-clause-same : goal.returns-then-from-frames-clause-same
returns-then-from-frames-clause-same c =
    ap (λ (xs : List ℕ). xs ++ records_left c.args.frames (c.args.frame + 1)) (sym (none_left c.args.frames c.args.frame c.args.from (omega arith)))
