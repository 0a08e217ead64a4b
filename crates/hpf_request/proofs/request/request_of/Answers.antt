use Rattle.std.proofs.lemmas.Result.{err_from_is_err_and}
use Rattle.hpf_request.proofs.Decisions.{granted_in, denied_in, loaded_as}
use Rattle.hpf_request.proofs.request.request_of.Goals as goal

pub returns-in_err-command-clause-denied : goal.returns-in_err-command-clause-denied
returns-in_err-command-clause-denied g c = λ status is load memory.
    let p = err_from_is_err_and c.from_residual.result c.from_residual.ensures.1 in
    let denied = c.in_err-command.ensures.denied status in
    denied (cc) memory _

pub returns-clause-granted : goal.returns-clause-granted
returns-clause-granted g c =
    granted_in _ _ c.in_ok-command.command.action c.in_ok-command.command.map.now c.as_slice.result.now c.request_in.result c.in_ok-command.ensures.found
    (loaded_as _ _ _ _ c.as_slice.ensures c.in_ok-text.ensures.within c.in_ok-text.ensures.front) c.request_in.ensures

pub returns-clause-denied : goal.returns-clause-denied
returns-clause-denied g c = λ status is load memory.
    denied_in _ _ c.in_ok-command.command.action c.in_ok-command.command.map.now c.as_slice.result.now c.request_in.result status is c.in_ok-command.ensures.found
    (loaded_as _ _ _ _ c.as_slice.ensures c.in_ok-text.ensures.within c.in_ok-text.ensures.front) c.request_in.ensures memory
