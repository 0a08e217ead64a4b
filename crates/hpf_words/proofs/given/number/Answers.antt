use Rattle.std.proofs.Common.{◌∙◌, ap}
use Rattle.std.specs.Prelude.{option_map}
use Rattle.clap.proofs.WalkLemmas.{one_text-rows}
use Rattle.clap.specs.Words.{found_of, one_text}
use Rattle.hpf_words.specs.Given.{said_by}
use Rattle.hpf_words.proofs.Numbers.{read_number}
use Rattle.hpf_words.proofs.given.number.Goals as goal

pub returns : goal.returns
returns c =
    read_number (one_text (found_of c.args.matches.now) c.args.option.now) c.get_one.result c.get_one.ensures.none c.get_one.ensures.value c.requires
    ∙ ap (option_map said_by) (one_text-rows (found_of c.args.matches.now) c.args.option.now)
