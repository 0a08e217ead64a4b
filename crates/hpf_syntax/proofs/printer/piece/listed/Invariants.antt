use Rattle.std.proofs.Common.{◌≡◌, map, ◌++◌, take}
use Rattle.hpf_syntax.proofs.Printing.{later}
use Rattle.hpf_syntax.proofs.printer.piece.listed.Given as goal

abbrev pub invariant-loop-piece : goal.invariant-loop-piece
invariant-loop-piece g l = l.out ≡ l.initial.out ++ later g.P.Piece.text (map g.P.Piece.tree (take l.piece-index l.rest))
