use Rattle.std.proofs.Common.{◌≡◌, ◌∷◌, ◌++◌, [], None, length, sym, ◌∙◌, ap, arith}
use Rattle.hpf_map.specs.Known.{known}
use Rattle.hpf_map.proofs.IndexLemmas.{is_some_copied, none_copied, declare_known, declare_unknown, HasPlaces-push}
use Rattle.hpf_map.proofs.names.Names.declare.Goals as goal

pub returns-then-is_some : goal.returns-then-is_some
returns-then-is_some c =
    sym (declare_known c.args.self.now c.args.name (is_some_copied c.find.result _ c.is_some.result c.find.ensures c.is_some.ensures ∙ c.if-is_some.true))

pub invariant_of-self-in-Ok : goal.invariant_of-self-in-Ok
invariant_of-self-in-Ok c =
    let free : known c.args.self.now c.args.name.word ≡ None = none_copied c.find.result _ c.is_some.result c.find.ensures c.is_some.ensures c.if-is_some.false in
    let free_inside : known c.self.inside.names.items c.args.name.word ≡ None = ap (λ ns. known ns c.args.name.word) c.self.view_is ∙ free in
    let place : c.len-place.result ≡ length c.self.inside.names.items = omega (arith, c.len-place.ensures, c.self.inside.names.ok.0) in
    let updates = rw place at c.in-Ok.ensures.updates in
    rw c.in_ok-push.ensures.items (HasPlaces-push c.self.inside.names.items c.args.name c.self.inside.places c.insert.new.self c.self.invariant.0 free_inside updates, c.add.ensures c.self.inside.names.items place c.self.invariant.1)

pub returns-in-Ok : goal.returns-in-Ok
returns-in-Ok c =
    let free : known c.args.self.now c.args.name.word ≡ None = none_copied c.find.result _ c.is_some.result c.find.ensures c.is_some.ensures c.if-is_some.false in
    c.in_ok-push.ensures.items ∙ ap (λ ns. ns ++ c.args.name ∷ []) c.self.view_is ∙ sym (declare_unknown c.args.self.now c.args.name free)
