use Rattle.std.proofs.lemmas.Result.{err_from_is_err_and}
use Rattle.hpf_request.proofs.Decisions.{denied_as, granted_as, of_text, faulty, shown, judged_as}
use Rattle.hpf_request.proofs.request.request_in.Goals as goal

pub returns-in_err-items : goal.returns-in_err-items
returns-in_err-items c =
    let p = err_from_is_err_and c.from_residual.result c.from_residual.ensures.1 in
    denied_as _ p.0 p.1 (of_text c.in_err-items.field-0.0 p.0 p.2)
    (faulty c.args.action c.args.text.now c.in_err-items.field-0.0 p.0 p.2 c.in_err-items.ensures.refused)

pub returns-in-Show : goal.returns-in-Show
returns-in-Show c = granted_as _ (shown _ _ _ c.in-Show.is c.in_ok-items.ensures.found) (c.args.text.now, c.in_ok-items.ensures.found)

pub returns-in-Check : goal.returns-in-Check
returns-in-Check c = judged_as c.args.action _ c.args.text.now _ c.check_of.result c.in-Check.is c.in_ok-items.ensures.found c.check_of.ensures

pub returns-in-Owners : goal.returns-in-Owners
returns-in-Owners c = judged_as c.args.action _ c.args.text.now _ c.owners_of.result c.in-Owners.is c.in_ok-items.ensures.found c.owners_of.ensures

pub returns-in-Local : goal.returns-in-Local
returns-in-Local c = judged_as c.args.action _ c.args.text.now _ c.local_of.result c.in-Local.is c.in_ok-items.ensures.found c.local_of.ensures

pub returns-in-Run : goal.returns-in-Run
returns-in-Run c = judged_as c.args.action _ c.args.text.now _ c.run_of.result c.in-Run.is c.in_ok-items.ensures.found c.run_of.ensures

pub returns-in-Make : goal.returns-in-Make
returns-in-Make c = judged_as c.args.action _ c.args.text.now _ c.make_of.result c.in-Make.is c.in_ok-items.ensures.found c.make_of.ensures
