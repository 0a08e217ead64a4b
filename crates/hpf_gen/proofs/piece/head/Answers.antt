use Rattle.std.proofs.Common.{◌≡◌, ◌∷◌, [], ◌++◌, append-nil, sym, ap, ◌∙◌, arith}
use Rattle.hpf_gen.proofs.Files.{last_left, record_left}
use Rattle.hpf_gen.proofs.piece.head.Goals as goal

pub returns-then-frame-frames-clause-same : goal.returns-then-frame-frames-clause-same
returns-then-frame-frames-clause-same c =
    rw (append-nil c.of.result) (c.of.ensures ∙ c.head_of.ensures ∙ sym (last_left c.args.frames c.args.frame c.if-frame-frames.true))

pub returns-else-frame-frames-clause-same : goal.returns-else-frame-frames-clause-same
returns-else-frame-frames-clause-same c =
    rw (c.of-else-frame-frames.ensures, c.head_of-else-frame-frames.ensures) (sym (record_left c.args.frames c.args.frame (omega (arith, c.requires.next, c.if-frame-frames.false))))
