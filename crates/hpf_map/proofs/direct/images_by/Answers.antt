use Rattle.std.proofs.Common.{◌≡◌, map, refl, sym, Some}
use Rattle.std.specs.Prelude.{slice_get}
use Rattle.std.proofs.lemmas.Option.{slice_get_read}
use Rattle.hpf_syntax.specs.Plain.{item_tree}
use Rattle.hpf_map.proofs.DirectLemmas.{ok_of, images_by_parts}
use Rattle.hpf_map.proofs.direct.images_by.Goals as goal

pub returns : goal.returns
returns c =
    let names = c.args.names.now in
    let items = c.args.items.now in
    let found = c.in-Some.ensures.lookup in
    let there : Some c.in-Some.item.now ≡ slice_get items c.args.statement = sym (slice_get_read items _ c.args.statement c.in-Some.item.now refl found.3.0 found.1) in
    ok_of _ _ (λ o h. images_by_parts names items c.args.said.now c.args.statement c.args.array c.args.base c.in-Some.item.now _ _ _ o
    c.requires.said there c.at_place.ensures c.good_shape.ensures.shape c.good_shape-2.ensures.shape (h names (map item_tree items))) c.images_of.result c.images_of.ensures
