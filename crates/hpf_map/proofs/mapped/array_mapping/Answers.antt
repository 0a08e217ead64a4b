use Rattle.std.proofs.Common.{All, sym, subst, map, length, ◌≡◌}
use Rattle.hpf_own.specs.Mapping.{IsSmallWidth}
use Rattle.hpf_syntax.specs.Plain.{item_tree}
use Rattle.hpf_map.specs.Mapped.{CanBeMapped, IsMapped}
use Rattle.hpf_map.specs.Ownership.{IsMappingOf}
use Rattle.hpf_map.specs.Seen.{seen}
use Rattle.hpf_map.specs.Shaded.{IsShadow}
use Rattle.hpf_map.proofs.DirectLemmas.{ok_of}
use Rattle.hpf_map.proofs.MappingLemmas.{array_sound, found, shapes_map, shapes_mapping}
use Rattle.hpf_map.proofs.mapped.array_mapping.Goals as goal

pub shadow_of-requires : goal.shadow_of-requires
shadow_of-requires c =
    let shadow = c.requires.shadow c.in-Some.shape.now (sym c.in-Some.ensures) in
    let is = array_sound c.args.names.now (map item_tree c.args.items.now) c.args.array c.args.landing.now.base c.args.landing.now.statement c.args.landing.now.images c.requires.can
    c.in-Some.shape.now (sym c.in-Some.ensures) in
    record { some = is.some; few = is.few; size = shadow.size }

pub mapped-requires : goal.mapped-requires
mapped-requires c =
    let shadow = c.requires.shadow c.in-Some.shape.now (sym c.in-Some.ensures) in
    let have = found c.args.names.now (map item_tree c.args.items.now) c.args.array c.args.landing.now.base c.args.landing.now.statement
    c.in-Some.shape.now c.in-Some-name_shape.root.now (seen c.in-Some-dealing_by.dealing) c.in-Some.ensures c.in-Some-name_shape.ensures c.in-Some-dealing_by.ensures in
    record {
      shapes =
          subst (CanBeMapped c.in-Some.shape.now c.in-Some-name_shape.root.now (seen c.in-Some-dealing_by.dealing)) (sym c.as_slice.ensures)
          (shapes_map c.args.names.now (map item_tree c.args.items.now) c.args.array c.args.landing.now.base c.args.landing.now.statement c.args.landing.now.images
          c.in-Some.shape.now c.in-Some-name_shape.root.now (seen c.in-Some-dealing_by.dealing) c.requires.can have);
      size = subst (λ ws. length ws ≡ length c.in-Some.shape.now) (sym c.in_ok-shadow.ensures) shadow.size;
      small = subst (All IsSmallWidth) (sym c.in_ok-shadow.ensures) shadow.small;
    }

pub returns : goal.returns
returns c =
    let shadow = c.requires.shadow c.in-Some.shape.now (sym c.in-Some.ensures) in
    let items = map item_tree c.args.items.now in
    let have = found c.args.names.now items c.args.array c.args.landing.now.base c.args.landing.now.statement
    c.in-Some.shape.now c.in-Some-name_shape.root.now (seen c.in-Some-dealing_by.dealing) c.in-Some.ensures c.in-Some-name_shape.ensures c.in-Some-dealing_by.ensures in
    ok_of (IsMapped c.in-Some.shape.now c.in-Some-name_shape.root.now (seen c.in-Some-dealing_by.dealing) c.as_slice.result.now c.in_ok-shadow.shadow)
    (IsMappingOf c.args.names.now items c.args.array c.args.landing.now.base c.args.landing.now.statement)
    (λ m is.
    shapes_mapping c.args.names.now items c.args.array c.args.landing.now.base c.args.landing.now.statement c.args.landing.now.images
    c.in-Some.shape.now c.in-Some-name_shape.root.now (seen c.in-Some-dealing_by.dealing) c.requires.can have
    c.in_ok-shadow.shadow (subst (IsShadow c.args.names.now items c.args.array (length c.in-Some.shape.now)) (sym c.in_ok-shadow.ensures) shadow) m
    (subst (λ images. IsMapped c.in-Some.shape.now c.in-Some-name_shape.root.now (seen c.in-Some-dealing_by.dealing) images c.in_ok-shadow.shadow m) c.as_slice.ensures is))
    c.mapped.result c.mapped.ensures
