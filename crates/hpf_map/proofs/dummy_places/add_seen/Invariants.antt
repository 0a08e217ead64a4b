use Rattle.std.proofs.Common.{◌≡◌, ℕ, List, ◌||◌, take, Some}
use Rattle.hpf_map.specs.Dummies.{stands_among}
use Rattle.hpf_map.specs.Hidden.{hides}
use Rattle.hpf_map.proofs.dummy_places.add_seen.Given as goal

abbrev pub invariant-loop-spot : goal.invariant-loop-spot
invariant-loop-spot l =
    (word : List ℕ) → hides (Some l.seen) word ≡ (hides (Some l.initial.seen) word || stands_among (take l.spot-index l.spots) word)
