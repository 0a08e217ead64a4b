use Rattle.std.proofs.Common.{length, subst, sym, ap, ◌∙◌, ◌<◌}
use Rattle.hpf_map.specs.Distributions.{divides}
use Rattle.hpf_map.specs.Seen.{seen}
use Rattle.hpf_map.proofs.DimLemmas.{seen_tree, undivided, dim_inside}
use Rattle.hpf_map.proofs.OverLemmas.{over_seen}
use Rattle.hpf_map.proofs.cuts.cut_at.Goals as goal

pub returns-then-not-divides : goal.returns-then-not-divides
returns-then-not-divides c =
    let formats = c.args.dealing.now.formats.now in
    let tree = ap divides (seen_tree formats c.args.root.now c.args.k c.index-dealing-k.result c.requires.cut.rank c.requires.below) in
    undivided (seen c.args.dealing.now) c.args.root.now c.args.k c.requires.cut c.requires.below (sym tree ∙ sym c.divides.ensures ∙ c.if-not-divides.true)

pub divided_cut-requires-clause-over : goal.divided_cut-requires-clause-over
divided_cut-requires-clause-over c = c.divided-dim.ensures ∙ sym (over_seen c.args.dealing.now.formats.now c.args.k)

pub divided_cut-requires-clause-within : goal.divided_cut-requires-clause-within
divided_cut-requires-clause-within c =
    let formats = c.args.dealing.now.formats.now in
    let tree = ap divides (seen_tree formats c.args.root.now c.args.k c.index-dealing-k.result c.requires.cut.rank c.requires.below) in
    subst (λ n. n < length c.args.dealing.now.target.now) (sym (c.divided-dim.ensures ∙ sym (over_seen formats c.args.k)))
    (dim_inside (seen c.args.dealing.now) c.args.root.now c.args.k c.requires.cut c.requires.below (sym tree ∙ sym c.divides.ensures ∙ c.if-not-divides.false))
