-- Mappings of one array that nobody can tell apart.
use Rattle.std.specs.Prelude.{◌≡◌, ◌<◌, ℕ, List, ℤ}
use Rattle.hpf_own.specs.Mapping.{PlainMapping}
use Rattle.hpf_own.specs.Owners.{owns}
use Rattle.hpf_own.specs.Space.{product, LiesIn}

-- The mappings have the same bounds, arrangement and shadow, and each element has the same owners.
pub record AreAlike (m w : PlainMapping) : Type 0 where
  pub bounds : m.bounds ≡ w.bounds
  pub procs : m.procs ≡ w.procs
  pub shadow : m.shadow ≡ w.shadow
  pub owners : (p : ℕ) (index : List ℤ) → p < product m.procs → LiesIn m.bounds index → owns m p index ≡ owns w p index
