use Rattle.std.proofs.Common.{map, refl}
use Rattle.std.proofs.lemmas.Result.{err_from_is_err_and}
use Rattle.hpf_syntax.specs.Plain.{item_tree}
use Rattle.hpf_request.specs.Named.{NoArray}
use Rattle.hpf_request.proofs.Decisions.{denied_by, unresolved_name}
use Rattle.hpf_request.proofs.named.mapping_of.Goals as goal

pub returns-in_err-program-clause-denied : goal.returns-in_err-program-clause-denied
returns-in_err-program-clause-denied c =
    let p = err_from_is_err_and c.from_residual.result c.from_residual.ensures.1 in
    denied_by _ _ _ p.1 (λ memory. unresolved_name (map item_tree c.args.items.now) c.args.name.now c.in_err-program.field-0.0 p.0 p.2 c.in_err-program.ensures memory)

pub returns-in-None-clause-denied : goal.returns-in-None-clause-denied
returns-in-None-clause-denied c = λ memory.
    NoArray c.in_ok-program.ensures.0 (record { program = c.in_ok-program.program; is_program = c.in_ok-program.ensures.1; mapping_is = cc }) refl

pub returns-in-Some-clause-named : goal.returns-in-Some-clause-named
returns-in-Some-clause-named c = record { program = c.in_ok-program.program; is_program = c.in_ok-program.ensures.1; mapping_is = cc }
