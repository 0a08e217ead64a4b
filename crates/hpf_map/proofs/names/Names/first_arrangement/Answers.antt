use Rattle.std.proofs.Common.{arith, ap, ◌∙◌, Some, sym}
use Rattle.hpf_map.proofs.ArrangementLemmas.{first_there, first_found, none_found}
use Rattle.hpf_map.proofs.names.Names.first_arrangement.Goals as goal

pub index-requires : goal.index-requires
index-requires c =
    let f = first_there c.self.inside.names.items c.self.inside.arrangements c.args.count c.in-Some.place c.self.invariant.1 c.if-count-ge-COUNTS.false (sym c.in-Some.is) in
    omega (arith, f.below, c.self.inside.names.ok.0)

pub returns-in-Some : goal.returns-in-Some
returns-in-Some c =
    rw (← c.self.view_is) (ap Some c.index.ensures ∙ first_found c.self.inside.names.items c.self.inside.arrangements c.args.count c.in-Some.place c.index.result.now c.self.invariant.1 c.if-count-ge-COUNTS.false (sym c.in-Some.is))

pub returns-in-None : goal.returns-in-None
returns-in-None c = rw (← c.self.view_is) (none_found c.self.inside.names.items c.self.inside.arrangements c.args.count c.self.invariant.1 c.if-count-ge-COUNTS.false (sym c.in-None.is))
