use Rattle.std.proofs.Common.{sym, subst}
use Rattle.hpf_own.specs.Mapping.{AreInLimits, AreDims}
use Rattle.hpf_map.specs.Seen.{seen}
use Rattle.hpf_map.proofs.DimLemmas.{mapped_dims}
use Rattle.hpf_map.proofs.MappedLemmas.{array_bounds, array_limits, target_sizes}
use Rattle.hpf_map.proofs.mapped.mapped.Goals as goal

pub bounds-requires : goal.bounds-requires
bounds-requires c = array_bounds c.args.array.now c.requires.shapes.array_is

pub sizes-requires-clause-sizes : goal.sizes-requires-clause-sizes
sizes-requires-clause-sizes c = target_sizes (seen c.args.dealing.now).target c.requires.shapes.cut.target_is

pub new-requires-clause-limits : goal.new-requires-clause-limits
new-requires-clause-limits c = subst AreInLimits (sym c.in_ok-bounds.ensures) (array_limits c.args.array.now c.requires.shapes.array_is)

-- what is asked of the dimensions
dims_are : (c : goal.In_ok-dims) → AreDims c.in_ok-bounds.bounds c.in_ok-dims.dims c.in_ok-sizes.sizes
dims_are c =
    mapped_dims c.args.array.now c.args.root.now (seen c.args.dealing.now) c.args.images.now c.in_ok-bounds.bounds c.in_ok-sizes.sizes c.in_ok-dims.dims c.requires.shapes
    c.in_ok-bounds.ensures c.in_ok-sizes.ensures c.in_ok-dims.ensures

pub new-requires-clause-dims : goal.new-requires-clause-dims
new-requires-clause-dims c = dims_are c
