use Rattle.std.proofs.Common.{sym, subst, ◌∙◌, map}
use Rattle.hpf_syntax.specs.Plain.{item_tree}
use Rattle.hpf_map.specs.Sound.{AreSoundNames}
use Rattle.hpf_map.proofs.ResolveLemmas.{clear_of, ends_of, ways_long, can_map_by, ok_both}
use Rattle.hpf_map.proofs.SoundLemmas.{names_of_sound}
use Rattle.hpf_map.proofs.resolution.landings_of.Goals as goal

pub direct_images-requires-clause-sound : goal.direct_images-requires-clause-sound
direct_images-requires-clause-sound c = subst AreSoundNames (sym c.requires.checked.names) (names_of_sound (map item_tree c.args.items.now))

pub all_landings-requires-clause-clear : goal.all_landings-requires-clause-clear
all_landings-requires-clause-clear c =
    let is = c.as_slice.ensures.value ∙ c.in_ok-direct.ensures in
    rw (is, c.requires.checked.ways, c.requires.checked.names) (clear_of c.args.need (map item_tree c.args.items.now) c.requires.none)

pub all_landings-requires-clause-many : goal.all_landings-requires-clause-many
all_landings-requires-clause-many c = rw (c.requires.checked.ways, c.requires.checked.names) (ways_long _ (map item_tree c.args.items.now))

pub all_landings-requires-clause-ends : goal.all_landings-requires-clause-ends
all_landings-requires-clause-ends c n below = rw c.requires.checked.ways (ends_of c.args.need (map item_tree c.args.items.now) n c.requires.none)

pub returns : goal.returns
returns c =
    ok_both _ _ _
    (λ landings lands settled. can_map_by c.args.need (map item_tree c.args.items.now) c.args.checked.now.statements.names c.args.checked.now.ways c.as_slice.result.now landings.items
    c.requires.checked.names c.requires.checked.ways (c.as_slice.ensures.value ∙ c.in_ok-direct.ensures) c.requires.none lands settled)
    c.all_landings.result c.all_landings.ensures.lands c.all_landings.ensures.settled
