use Rattle.std.proofs.Common.{◌≡◌, ◌+◌, ◌*◌, ◌≤◌, List, [], length, map, take, slice_get, Some, ℤ, arith}
use Rattle.std.proofs.lemmas.Option.{get_or_from_slice_get, slice_get_within}
use Rattle.hpf_own.specs.Space.{product}
use Rattle.hpf_own.specs.Held.{IsMadeOf}
use Rattle.hpf_sched.proofs.Strides.{stride_few, stride_more}
use Rattle.hpf_sched.proofs.plan.stride.Goals as goal
use Rattle.hpf_own.specs.Limits.{element_limit}

next_stride : (c : goal.After-count-stride) → (sides : List (List ℤ)) → IsMadeOf c.args.part.now sides → c.loop-e.stride * c.count-stride.result ≡ product (take (c.loop-e.e + 1) (map length sides))
next_stride c sides made =
    let m = c.runs.ensures.made in
    let same = c.places.ensures.one_way c.args.part.now m.0 sides m.1 made in
    let at : slice_get sides c.loop-e.e ≡ Some c.runs.result.now = rw same at m.2 in
    stride_more sides c.loop-e.e c.count-stride.result c.loop-e.stride c.runs.result.now c.products.ensures.more (slice_get_within sides c.loop-e.e _ at) (get_or_from_slice_get sides c.loop-e.e c.runs.result.now [] at) c.count-stride.ensures.count (c.loop-e.invariant.stride sides made)

small_stride : (c : goal.After-count-stride) → c.loop-e.stride * c.count-stride.result ≤ element_limit
small_stride c =
    let m = c.runs.ensures.made in
    rw (next_stride c m.0 m.1) (stride_few c.args.part.now m.0 (c.loop-e.e + 1) c.products.ensures.front m.1 c.rank.ensures.few)

pub overflow_mul-stride : goal.overflow_mul-stride
overflow_mul-stride c = omega (arith, small_stride c)

pub loop-e-preserved : goal.loop-e-preserved
loop-e-preserved c = record { stride = next_stride c; few = small_stride c }
