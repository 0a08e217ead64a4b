use Rattle.std.proofs.lemmas.Result.{err_from_is_err_and}
use Rattle.hpf_words.proofs.Options.{has_numbers}
use Rattle.hpf_words.proofs.Taken.{are_taken, found_there, not_taken}
use Rattle.hpf_words.proofs.matches.parse.Goals as goal

pub returns-in_err-matches-clause-refused : goal.returns-in_err-matches-clause-refused
returns-in_err-matches-clause-refused c = λ refused.
    let p = err_from_is_err_and c.from_residual-in_err-matches.result c.from_residual-in_err-matches.ensures.1 in
    not_taken c.in_ok-command.command _ c.in_err-matches.field-0.0 c.in_ok-command.ensures c.in_err-matches.ensures.kinds cc

pub returns-clause-taken : goal.returns-clause-taken
returns-clause-taken c = are_taken c.in_ok-command.command _ c.in_ok-matches.matches c.in_ok-command.ensures c.in_ok-matches.ensures.kinds

pub returns-clause-rows : goal.returns-clause-rows
returns-clause-rows c = found_there c.in_ok-command.command _ c.in_ok-matches.matches c.in_ok-command.ensures c.in_ok-matches.ensures.matches

pub returns-clause-numbers : goal.returns-clause-numbers
returns-clause-numbers c = has_numbers c.in_ok-command.command c.in_ok-matches.matches c.in_ok-command.ensures c.in_ok-matches.ensures.parsed
