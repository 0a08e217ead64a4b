use Rattle.std.proofs.Common.{◌≡◌, ◌∙◌, ap, ap₂, codes}
use Rattle.std.proofs.lemmas.Result.{IfOk-weaker}
use Rattle.clap.specs.Words.{with_rule}
use Rattle.hpf_words.specs.Command.{number_rule, numbers}
use Rattle.hpf_words.proofs.command.command.Goals as goal

pub returns : goal.returns
returns c =
    let action = c.in_ok-arg.ensures.shape c.required.ensures.local ∙ ap₂ with_rule c.new.ensures.app c.required.ensures.rule in
    let map = c.in_ok-arg-2.ensures.shape c.required-2.ensures.local ∙ ap₂ with_rule action c.required-2.ensures.rule in
    let name = c.in_ok-arg-3.ensures.shape c.new-2.ensures.optional.1 ∙ ap₂ with_rule map c.new-2.ensures.rule in
    let workers_in : c.range.result ≡ numbers 1 64 = rw (c.value_parser.ensures, c.new-3.ensures.start, c.new-3.ensures.end) at c.range.ensures in
    let workers = c.in_ok-arg-4.ensures.shape c.number.ensures.local
    ∙ ap₂ with_rule name (c.number.ensures.rule ∙ ap (number_rule (codes "workers")) workers_in) in
    let stage_in : c.range-2.result ≡ numbers 0 15 = rw (c.value_parser-2.ensures, c.new-4.ensures.start, c.new-4.ensures.end) at c.range-2.ensures in
    let stage = c.in_ok-arg-5.ensures.shape c.number-2.ensures.local
    ∙ ap₂ with_rule workers (c.number-2.ensures.rule ∙ ap (number_rule (codes "stage")) stage_in) in
    let processor_in : c.range-3.result ≡ numbers 0 63 = rw (c.value_parser-3.ensures, c.new-5.ensures.start, c.new-5.ensures.end) at c.range-3.ensures in
    let processor = c.in_ok-arg-6.ensures.shape c.number-3.ensures.local
    ∙ ap₂ with_rule stage (c.number-3.ensures.rule ∙ ap (number_rule (codes "proc")) processor_in) in
    let seed = c.in_ok-arg-7.ensures.shape c.number-4.ensures.local
    ∙ ap₂ with_rule processor (c.number-4.ensures.rule ∙ ap (number_rule (codes "seed")) c.value_parser-4.ensures) in
    IfOk-weaker c.arg-8.result _ _ (λ command added. added.shape c.number-5.ensures.local
    ∙ ap₂ with_rule seed (c.number-5.ensures.rule ∙ ap (number_rule (codes "frames")) c.value_parser-5.ensures)) c.arg-8.ensures
