use Rattle.std.proofs.Common.{sym, ◌∙◌}
use Rattle.hpf_map.specs.Alignments.{no_span}
use Rattle.hpf_map.specs.Seen.{seen}
use Rattle.hpf_map.proofs.DimLemmas.{dim_found, seen_tree, target_procs, cut_found, whole_found}
use Rattle.hpf_map.proofs.cuts.divided_cut.Goals as goal

pub format_of-requires-clause-procs : goal.format_of-requires-clause-procs
format_of-requires-clause-procs c = target_procs c.args.dealing.now.target.now c.requires.cut.target_is c.args.dim no_span c.requires.within

pub axis_of-requires-clause-procs : goal.axis_of-requires-clause-procs
axis_of-requires-clause-procs c = target_procs c.args.dealing.now.target.now c.requires.cut.target_is c.args.dim no_span c.requires.within

pub format_of-requires-clause-met : goal.format_of-requires-clause-met
format_of-requires-clause-met c =
    (dim_found (seen c.args.dealing.now) c.args.root.now c.args.k c.args.dim _ c.copied-width.result c.requires.cut c.requires.below c.requires.over
    (seen_tree c.args.dealing.now.formats.now c.args.root.now c.args.k c.index-dealing-k.result c.requires.cut.rank c.requires.below) (c.copied-width.ensures ∙ c.at_place.ensures)).met

pub returns-in_ok-axis_of-in-Some : goal.returns-in_ok-axis_of-in-Some
returns-in_ok-axis_of-in-Some c =
    let found = dim_found (seen c.args.dealing.now) c.args.root.now c.args.k c.args.dim _ c.copied-width.result c.requires.cut c.requires.below c.requires.over
    (seen_tree c.args.dealing.now.formats.now c.args.root.now c.args.k c.index-dealing-k.result c.requires.cut.rank c.requires.below) (c.copied-width.ensures ∙ c.at_place.ensures) in
    cut_found (seen c.args.dealing.now) c.args.root.now c.args.k c.args.dim c.in-Some.format c.in_ok-axis_of-in-Some.field-0 ((found.format ∙ sym c.in_ok-format.ensures.format) ∙ c.in-Some.is) c.requires.over
    c.in_ok-axis_of-in-Some.ensures

pub returns-in-None : goal.returns-in-None
returns-in-None c =
    let found = dim_found (seen c.args.dealing.now) c.args.root.now c.args.k c.args.dim _ c.copied-width.result c.requires.cut c.requires.below c.requires.over
    (seen_tree c.args.dealing.now.formats.now c.args.root.now c.args.k c.index-dealing-k.result c.requires.cut.rank c.requires.below) (c.copied-width.ensures ∙ c.at_place.ensures) in
    whole_found (seen c.args.dealing.now) c.args.root.now c.args.k ((found.format ∙ sym c.in_ok-format.ensures.format) ∙ c.in-None.is)
