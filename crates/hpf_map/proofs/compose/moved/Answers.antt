use Rattle.std.proofs.Common.{refl}
use Rattle.hpf_map.proofs.MoveLemmas.{cast, times_cast, plus_cast, minus_cast, times_asked, plus_asked, minus_asked, image_fits, fixed_fits, spread_fits}
use Rattle.hpf_map.proofs.compose.moved.Goals as goal

pub times-requires : goal.times-requires
times-requires c =
    let f = (image_fits c.args.array.now c.args.a c.args.b _ c.in-Along.dim c.in-Along.step c.in-Along.start _ c.requires c.in-Along.is c.from-low.ensures).fits in
    times_asked _ _ _ _ f.steps refl f.step refl f.lower

pub plus-requires : goal.plus-requires
plus-requires c =
    let f = (image_fits c.args.array.now c.args.a c.args.b _ c.in-Along.dim c.in-Along.step c.in-Along.start _ c.requires c.in-Along.is c.from-low.ensures).fits in
    let steps = times_cast _ _ _ _ _ c.times.ensures refl f.step refl f.lower in
    plus_asked _ _ _ _ f.first.place steps f.steps refl f.start

pub times-requires-in-Along : goal.times-requires-in-Along
times-requires-in-Along c =
    let f = (image_fits c.args.array.now c.args.a c.args.b _ c.in-Along.dim c.in-Along.step c.in-Along.start _ c.requires c.in-Along.is c.from-low.ensures).fits in
    let steps = times_cast _ _ _ _ _ c.times.ensures refl f.step refl f.lower in
    let place = plus_cast _ _ _ _ _ c.plus.ensures steps f.steps refl f.start in
    times_asked _ _ _ _ f.first.product refl f.first.scale place f.first.place

pub plus-first-requires : goal.plus-first-requires
plus-first-requires c =
    let f = (image_fits c.args.array.now c.args.a c.args.b _ c.in-Along.dim c.in-Along.step c.in-Along.start _ c.requires c.in-Along.is c.from-low.ensures).fits in
    let steps = times_cast _ _ _ _ _ c.times.ensures refl f.step refl f.lower in
    let place = plus_cast _ _ _ _ _ c.plus.ensures steps f.steps refl f.start in
    let product = times_cast _ _ _ _ _ c.times-in-Along.ensures refl f.first.scale place f.first.place in
    plus_asked _ _ _ _ f.first.sum product f.first.product refl f.first.shift

pub times-step-requires : goal.times-step-requires
times-step-requires c =
    let f = (image_fits c.args.array.now c.args.a c.args.b _ c.in-Along.dim c.in-Along.step c.in-Along.start _ c.requires c.in-Along.is c.from-low.ensures).fits in
    times_asked _ _ _ _ f.stride refl f.first.scale refl f.step

pub times-requires-in-Along-2 : goal.times-requires-in-Along-2
times-requires-in-Along-2 c =
    let f = (image_fits c.args.array.now c.args.a c.args.b _ c.in-Along.dim c.in-Along.step c.in-Along.start _ c.requires c.in-Along.is c.from-low.ensures).fits in
    let stride = times_cast _ _ _ _ _ c.times-step.ensures refl f.first.scale refl f.step in
    times_asked _ _ _ _ f.strides stride f.stride refl f.lower

pub minus-requires : goal.minus-requires
minus-requires c =
    let f = (image_fits c.args.array.now c.args.a c.args.b _ c.in-Along.dim c.in-Along.step c.in-Along.start _ c.requires c.in-Along.is c.from-low.ensures).fits in
    let steps = times_cast _ _ _ _ _ c.times.ensures refl f.step refl f.lower in
    let place = plus_cast _ _ _ _ _ c.plus.ensures steps f.steps refl f.start in
    let product = times_cast _ _ _ _ _ c.times-in-Along.ensures refl f.first.scale place f.first.place in
    let first = plus_cast _ _ _ _ _ c.plus-first.ensures product f.first.product refl f.first.shift in
    let stride = times_cast _ _ _ _ _ c.times-step.ensures refl f.first.scale refl f.step in
    let strides = times_cast _ _ _ _ _ c.times-in-Along-2.ensures stride f.stride refl f.lower in
    minus_asked _ _ _ _ f.start_there first f.first.sum strides f.strides

pub returns-in-Along : goal.returns-in-Along
returns-in-Along c =
    let m = image_fits c.args.array.now c.args.a c.args.b _ c.in-Along.dim c.in-Along.step c.in-Along.start _ c.requires c.in-Along.is c.from-low.ensures in
    let f = m.fits in
    let steps = times_cast _ _ _ _ _ c.times.ensures refl f.step refl f.lower in
    let place = plus_cast _ _ _ _ _ c.plus.ensures steps f.steps refl f.start in
    let product = times_cast _ _ _ _ _ c.times-in-Along.ensures refl f.first.scale place f.first.place in
    let first = plus_cast _ _ _ _ _ c.plus-first.ensures product f.first.product refl f.first.shift in
    let stride = times_cast _ _ _ _ _ c.times-step.ensures refl f.first.scale refl f.step in
    let strides = times_cast _ _ _ _ _ c.times-in-Along-2.ensures stride f.stride refl f.lower in
    let start = minus_cast _ _ _ _ _ c.minus.ensures first f.first.sum strides f.strides in
    rw (c.in-Along.is, ← m.lower, cast _ _ stride f.stride, cast _ _ start f.start_there) refl

pub times-requires-in-Fixed : goal.times-requires-in-Fixed
times-requires-in-Fixed c =
    let f = fixed_fits c.args.array.now c.args.a c.args.b _ c.in-Fixed.n c.requires c.in-Fixed.is in
    times_asked _ _ _ _ f.product refl f.scale refl f.place

pub times-requires-in-Spread : goal.times-requires-in-Spread
times-requires-in-Spread c =
    let f = spread_fits c.args.array.now c.args.a c.args.b _ c.in-Spread.first c.in-Spread.step c.in-Spread.count c.requires c.in-Spread.is in
    times_asked _ _ _ _ f.first.product refl f.first.scale refl f.first.place

pub plus-requires-in-Spread : goal.plus-requires-in-Spread
plus-requires-in-Spread c =
    let f = spread_fits c.args.array.now c.args.a c.args.b _ c.in-Spread.first c.in-Spread.step c.in-Spread.count c.requires c.in-Spread.is in
    let product = times_cast _ _ _ _ _ c.times-in-Spread.ensures refl f.first.scale refl f.first.place in
    plus_asked _ _ _ _ f.first.sum product f.first.product refl f.first.shift

pub times-requires-in-Spread-2 : goal.times-requires-in-Spread-2
times-requires-in-Spread-2 c =
    let f = spread_fits c.args.array.now c.args.a c.args.b _ c.in-Spread.first c.in-Spread.step c.in-Spread.count c.requires c.in-Spread.is in
    times_asked _ _ _ _ f.stride refl f.first.scale refl f.step
