use Rattle.std.proofs.Common.{◌≡◌, true, false, refl}
use Rattle.hpf_lex.specs.Name.{is_name}
use Rattle.hpf_request.proofs.ArrayNames.{untrue, named_word, no_word}
use Rattle.hpf_request.proofs.named.named.Goals as goal

pub returns-in-Some : goal.returns-in-Some
returns-in-Some c =
    let is : is_name c.as_bytes.result.now ≡ true = c.in-Some.ensures.some.0 refl in
    named_word c.args.program c.args.name.now c.as_str.result.now c.as_bytes.result.now c.in-Some.word _ c.as_str.ensures c.as_bytes.ensures.value is c.in-Some.ensures.upper_case c.into_mapping.ensures

pub returns-in-None : goal.returns-in-None
returns-in-None c =
    let is : is_name c.as_bytes.result.now ≡ false = untrue (is_name c.as_bytes.result.now) c.in-None.ensures.some.1 in
    no_word c.args.program c.args.name.now c.as_str.result.now c.as_bytes.result.now c.as_str.ensures c.as_bytes.ensures.value is
