use Rattle.std.proofs.Common.{arith, ap, ◌∙◌, Some}
use Rattle.hpf_map.proofs.IndexLemmas.{placed, known_at, unknown_at}
use Rattle.hpf_map.proofs.names.Names.find.Goals as goal

pub index-requires : goal.index-requires
index-requires c =
    let f = placed c.self.inside.names.items c.self.inside.places c.args.word.now c.in-Some.place.now c.self.invariant.0 c.in-Some.ensures.value in
    omega (arith, f.below, c.self.inside.names.ok.0)

pub returns-in-Some : goal.returns-in-Some
returns-in-Some c =
    rw (← c.self.view_is) (ap Some c.index.ensures ∙ known_at c.self.inside.names.items c.self.inside.places c.args.word.now c.in-Some.place.now c.index.result.now c.self.invariant.0 c.in-Some.ensures.value)

pub returns-in-None : goal.returns-in-None
returns-in-None c = rw (← c.self.view_is) (unknown_at c.self.inside.names.items c.self.inside.places c.args.word.now c.self.invariant.0 c.in-None.ensures.value)
