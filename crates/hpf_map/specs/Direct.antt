-- The images of each alignment, name by name (this project defines the table).
use Rattle.std.specs.Prelude.{ℕ, List, length, map, Option, Some, None}
use Rattle.std.specs.List.{range_with_len}
use Rattle.hpf_own.specs.declared.image.Image.{Image}
use Rattle.hpf_syntax.specs.Plain.{ItemTree}
use Rattle.hpf_map.specs.declared.name.Name.{Name}
use Rattle.hpf_map.specs.declared.way.Way.{Way}
use Rattle.hpf_map.specs.declared.way.Way.TheVariants.{Unmapped, Distributed, Aligned}
use Rattle.hpf_map.specs.Ownership.{images_by}
use Rattle.hpf_map.specs.Ways.{way_at}

module _ (names : List Name) (items : List ItemTree) where
  -- the images of a name in its base, where it goes this way
  abbrev pub images_along : ℕ → Way → Option (List Image)
  images_along n Unmapped = None
  images_along n (Distributed k) = None
  images_along n (Aligned k None) = None
  images_along n (Aligned k (Some b)) = images_by names items k n b

  -- those of each name, in order
  abbrev pub direct_images : List Way → List (Option (List Image))
  direct_images ways = map (λ n. images_along n (way_at ways n)) (range_with_len 0 (length names))
