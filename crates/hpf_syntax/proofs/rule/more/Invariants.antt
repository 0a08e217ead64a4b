use Rattle.std.proofs.Common.{◌≡◌, ◌-◌, map, length}
use Rattle.hpf_syntax.specs.Reading.{more_at}
use Rattle.hpf_syntax.proofs.rule.more.Given as goal

abbrev pub invariant-loop : goal.invariant-loop
invariant-loop g l =
    more_at g.R.Rule.reading (l.end - l.counter) (map g.R.Rule.tree l.list) l.rest ≡ more_at g.R.Rule.reading (length l.fn.tokens) (map g.R.Rule.tree l.fn.list) l.fn.tokens
