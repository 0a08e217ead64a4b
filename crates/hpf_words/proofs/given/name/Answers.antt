use Rattle.std.proofs.Common.{◌∙◌, ap, map, codes, Some}
use Rattle.std.specs.Prelude.{option_map}
use Rattle.std.specs.Char.{to_ascii_uppercase}
use Rattle.clap.proofs.WalkLemmas.{first_value-rows}
use Rattle.clap.specs.Words.{found_of}
use Rattle.hpf_words.proofs.given.name.Goals as goal

pub returns-in_err-text : goal.returns-in_err-text
returns-in_err-text c =
    c.from_residual.ensures ∙ ap (option_map (map to_ascii_uppercase)) (c.in_err-text.ensures ∙ first_value-rows (found_of c.args.matches.now) (codes "NAME"))

pub returns : goal.returns
returns c =
    ap Some c.new.ensures ∙ ap (option_map (map to_ascii_uppercase)) (c.in_ok-text.ensures ∙ first_value-rows (found_of c.args.matches.now) (codes "NAME"))
