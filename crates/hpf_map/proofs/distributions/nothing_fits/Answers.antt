use Rattle.std.proofs.Common.{ap, sym, refl, ◌∙◌, true, false, not, ◌||◌}
use Rattle.std.specs.List.{list_any}
use Rattle.hpf_map.specs.Distributions.{fits, is_broken}
use Rattle.hpf_map.proofs.ArrangementLemmas.{nothing_is}
use Rattle.hpf_map.proofs.distributions.nothing_fits.Goals as goal

pub returns-then-has_broken_arrangement : goal.returns-then-has_broken_arrangement
returns-then-has_broken_arrangement c =
    nothing_is c.args.names.now _ true _ (sym c.if-has_broken_arrangement.true ∙ c.has_broken_arrangement.ensures) refl

pub returns-in-Some : goal.returns-in-Some
returns-in-Some c =
    nothing_is c.args.names.now c.divided.result false _ (sym c.if-has_broken_arrangement.false ∙ c.has_broken_arrangement.ensures) c.in-Some.ensures
    ∙ ap (λ k. not (list_any (λ n. is_broken n || fits k n) c.args.names.now)) c.divided.ensures

pub returns-in-None : goal.returns-in-None
returns-in-None c =
    nothing_is c.args.names.now c.divided.result false _ (sym c.if-has_broken_arrangement.false ∙ c.has_broken_arrangement.ensures) c.in-None.ensures
    ∙ ap (λ k. not (list_any (λ n. is_broken n || fits k n) c.args.names.now)) c.divided.ensures
