use Rattle.std.proofs.Common.{◌∙◌, codes}
use Rattle.clap.proofs.WalkLemmas.{first_value-rows}
use Rattle.clap.specs.Words.{found_of, rows_of}
use Rattle.hpf_words.proofs.Lines.{found, in_range, no_row, without_action, without_map}
use Rattle.hpf_words.proofs.words.line_in.Goals as goal

pub returns-in_err-action-clause-none : goal.returns-in_err-action-clause-none
returns-in_err-action-clause-none c =
    let f = found_of c.args.matches.now in
    rw c.from_residual.ensures (without_action (rows_of f) (c.in_err-action.ensures ∙ first_value-rows f (codes "ACTION")))

pub returns-in_err-map-clause-none : goal.returns-in_err-map-clause-none
returns-in_err-map-clause-none c =
    let f = found_of c.args.matches.now in
    rw c.from_residual-in_err-map.ensures (without_map (rows_of f) (c.in_err-map.ensures ∙ first_value-rows f (codes "MAP")))

pub returns-in-Some-clause-found : goal.returns-in-Some-clause-found
returns-in-Some-clause-found c =
    let f = found_of c.args.matches.now in
    found (rows_of f) _ _ c.in-Some.asked (c.in_ok-action.ensures ∙ first_value-rows f (codes "ACTION")) (c.in_ok-map.ensures ∙ first_value-rows f (codes "MAP"))
    (rw c.given_in.ensures at c.in-Some.ensures.found)

pub returns-in-Some-clause-in_range : goal.returns-in-Some-clause-in_range
returns-in-Some-clause-in_range c =
    let row = rw c.given_in.ensures at c.in-Some.ensures.found in
    in_range (found_of c.args.matches.now) c.in-Some.asked c.requires row.1

pub returns-in-None-clause-none : goal.returns-in-None-clause-none
returns-in-None-clause-none c =
    let f = found_of c.args.matches.now in
    no_row (rows_of f) c.in_ok-action.action.now (c.in_ok-action.ensures ∙ first_value-rows f (codes "ACTION")) (rw c.given_in.ensures at c.in-None.ensures.none)
