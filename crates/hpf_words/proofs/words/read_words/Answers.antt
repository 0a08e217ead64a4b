use Rattle.std.proofs.Common.{sym}
use Rattle.hpf_words.proofs.words.read_words.Goals as goal

pub returns-clause-refused : goal.returns-clause-refused
returns-clause-refused c = λ is asked name asks. c.in-None.ensures.none asked name (rw (sym c.in_ok-matches.ensures.rows) at asks.found)
