-- How bounds, sizes, widths and permutations are kept.
use Rattle.std.specs.Prelude.{ℕ, ◌≡◌, List, length, take, pos}
use Rattle.std.proofs.Common.{ap, ◌∙◌}
use Rattle.hpf_num.specs.declared.run.Run.{Run}
use Rattle.hpf_own.specs.declared.widths.Width.{Width}
use Rattle.hpf_own.specs.declared.bounds.Bounds.TheInside.{Inside as BoundsInside}
use Rattle.hpf_own.specs.declared.sizes.Sizes.TheInside.{Inside as SizesInside}
use Rattle.hpf_own.specs.declared.widths.Widths.TheInside.{Inside as WidthsInside}
use Rattle.hpf_own.specs.declared.perm.Perm.TheInside.{Inside as PermInside}
use Rattle.hpf_own.specs.Kept.{IsFilled, filled, length-used, filled-take}
use Rattle.hpf_own.specs.Lists.{IsShort, IsBounds, IsSizes, IsPerm}

-- what stands in places that aren't used
abbrev pub no_run : Run
no_run = record { low = pos 0; high = pos 0 }

abbrev pub no_width : Width
no_width = record { low = 0; high = 0 }

-- bounds
abbrev pub bounds_of : BoundsInside → List Run
bounds_of b = take b.rank b.runs

pub record AreKeptBounds (b : BoundsInside) : Type 0 where
  pub filled : IsFilled no_run b.runs b.rank
  pub bounds : IsBounds (bounds_of b)

abbrev pub kept_bounds : List Run → BoundsInside
kept_bounds runs = record { runs = filled no_run runs; rank = length runs }

pub kept_bounds-bounds_of : (b : BoundsInside) → AreKeptBounds b → kept_bounds (bounds_of b) ≡ b
kept_bounds-bounds_of b h =
    let make : List Run → ℕ → BoundsInside = λ runs n. record { runs = runs; rank = n } in
    ap (λ (runs : List Run). make runs (length (bounds_of b))) (filled-take no_run b.runs b.rank h.filled)
    ∙ ap (make b.runs) (length-used no_run b.runs b.rank h.filled)

-- sizes
abbrev pub sizes_of : SizesInside → List ℕ
sizes_of s = take s.rank s.sizes

pub record AreKeptSizes (s : SizesInside) : Type 0 where
  pub filled : IsFilled 0 s.sizes s.rank
  pub sizes : IsSizes (sizes_of s)

abbrev pub kept_sizes : List ℕ → SizesInside
kept_sizes sizes = record { sizes = filled 0 sizes; rank = length sizes }

pub kept_sizes-sizes_of : (s : SizesInside) → AreKeptSizes s → kept_sizes (sizes_of s) ≡ s
kept_sizes-sizes_of s h =
    let make : List ℕ → ℕ → SizesInside = λ sizes n. record { sizes = sizes; rank = n } in
    ap (λ (sizes : List ℕ). make sizes (length (sizes_of s))) (filled-take 0 s.sizes s.rank h.filled)
    ∙ ap (make s.sizes) (length-used 0 s.sizes s.rank h.filled)

-- widths
abbrev pub widths_of : WidthsInside → List Width
widths_of w = take w.rank w.widths

pub record AreKeptWidths (w : WidthsInside) : Type 0 where
  pub filled : IsFilled no_width w.widths w.rank
  pub short : IsShort (widths_of w)

abbrev pub kept_widths : List Width → WidthsInside
kept_widths widths = record { widths = filled no_width widths; rank = length widths }

pub kept_widths-widths_of : (w : WidthsInside) → AreKeptWidths w → kept_widths (widths_of w) ≡ w
kept_widths-widths_of w h =
    let make : List Width → ℕ → WidthsInside = λ widths n. record { widths = widths; rank = n } in
    ap (λ (widths : List Width). make widths (length (widths_of w))) (filled-take no_width w.widths w.rank h.filled)
    ∙ ap (make w.widths) (length-used no_width w.widths w.rank h.filled)

-- permutations
abbrev pub perm_of : PermInside → List ℕ
perm_of p = take p.rank p.dims

pub record IsKeptPerm (p : PermInside) : Type 0 where
  pub filled : IsFilled 0 p.dims p.rank
  pub perm : IsPerm (perm_of p)

abbrev pub kept_perm : List ℕ → PermInside
kept_perm dims = record { dims = filled 0 dims; rank = length dims }

pub kept_perm-perm_of : (p : PermInside) → IsKeptPerm p → kept_perm (perm_of p) ≡ p
kept_perm-perm_of p h =
    let make : List ℕ → ℕ → PermInside = λ dims n. record { dims = dims; rank = n } in
    ap (λ (dims : List ℕ). make dims (length (perm_of p))) (filled-take 0 p.dims p.rank h.filled)
    ∙ ap (make p.dims) (length-used 0 p.dims p.rank h.filled)
