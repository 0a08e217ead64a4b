use Rattle.hpf_syntax.proofs.Printing.{listed_whole}
use Rattle.hpf_syntax.proofs.printer.piece.listed.Goals as goal

pub returns-after-loop-piece : goal.returns-after-loop-piece
returns-after-loop-piece g c =
    listed_whole g.P.Piece.text g.P.Piece.tree c.args.pieces.now c.first-item.result c.loop-piece.piece-index c.args.out.now c.print.new.out c.loop-piece.out
    c.in-len1-up.len_at_least c.first-item.is c.loop-piece-test.false c.in_ok-print.ensures c.loop-piece.invariant
