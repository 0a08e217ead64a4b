use Rattle.std.proofs.Common.{◌≡◌, List, length, sym, subst, map}
use Rattle.std.specs.Prelude.{Some, option_copied}
use Rattle.hpf_syntax.specs.Plain.{item_tree}
use Rattle.hpf_map.specs.declared.name.Span.{Span}
use Rattle.hpf_map.specs.Layers.{names_of}
use Rattle.hpf_map.specs.Mapped.{CanMap}
use Rattle.hpf_map.specs.Ownership.{shape_at, IsMappingOf}
use Rattle.hpf_map.specs.Shaded.{or_none, IsShadow}
use Rattle.hpf_map.proofs.LandingLemmas.{get_inner}
use Rattle.hpf_map.proofs.ResolveLemmas.{can_map, maps_listed, array_seen}
use Rattle.hpf_map.proofs.mappings.Mapper.mapping_at.Goals as goal

pub array_mapping-requires-clause-can : goal.array_mapping-requires-clause-can
array_mapping-requires-clause-can c =
    let l = c.in-Some.landing.now in
    let items = map item_tree c.args.self.now.items.now in
    let ready = c.requires.ready in
    subst (λ names. CanMap names items c.args.n l.base l.statement l.images) (sym ready.names)
    (can_map items c.args.self.now.landings.now ready.can c.args.n l (array_seen items c.args.self.now.names.now c.args.n c.is_array.result ready.names c.is_array.ensures c.if-not-is_array.false) (get_inner _ l c.in-Some.ensures))

pub array_mapping-requires-clause-shadow : goal.array_mapping-requires-clause-shadow
array_mapping-requires-clause-shadow c =
    let items = map item_tree c.args.self.now.items.now in
    subst (λ names. (spans : List Span) → shape_at names items c.args.n ≡ Some spans → IsShadow names items c.args.n (length spans) (or_none (length spans) (option_copied c.given.result))) (sym c.requires.ready.names)
    (λ spans has. subst (λ g. IsShadow (names_of items) items c.args.n (length spans) (or_none (length spans) g)) (sym c.given.ensures) (c.requires.ready.shadows.each c.args.n spans has))

pub returns-in_ok-array_mapping-in-Some : goal.returns-in_ok-array_mapping-in-Some
returns-in_ok-array_mapping-in-Some c =
    let l = c.in-Some.landing.now in
    let items = map item_tree c.args.self.now.items.now in
    let ready = c.requires.ready in
    maps_listed items c.args.self.now.landings.now ready.can c.args.n l c.in_ok-array_mapping-in-Some.field-0 (array_seen items c.args.self.now.names.now c.args.n c.is_array.result ready.names c.is_array.ensures c.if-not-is_array.false) (get_inner _ l c.in-Some.ensures)
    (subst (λ names. IsMappingOf names items c.args.n l.base l.statement c.in_ok-array_mapping-in-Some.field-0) ready.names c.in_ok-array_mapping-in-Some.ensures)
