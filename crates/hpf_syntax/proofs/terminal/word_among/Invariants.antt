use Rattle.std.proofs.Common.{◌≡◌, drop}
use Rattle.hpf_syntax.specs.Terminal.{word_among}
use Rattle.hpf_syntax.proofs.terminal.word_among.Given as goal

abbrev pub invariant-loop-word : goal.invariant-loop-word
invariant-loop-word l = word_among (drop l.word-index l.words) l.bytes ≡ word_among l.words l.bytes
