use Rattle.std.proofs.Common.{◌≡◌, ℕ, List, take, Some}
use Rattle.hpf_map.specs.Hidden.{hides}
use Rattle.hpf_map.specs.Uses.{dummies}
use Rattle.hpf_map.proofs.dummies.dummies_among.Given as goal

abbrev pub invariant-loop-source : goal.invariant-loop-source
invariant-loop-source l = (word : List ℕ) → hides (Some l.words) word ≡ dummies (Some (take l.source-index l.sources)) word
