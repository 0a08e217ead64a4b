use Rattle.std.proofs.Common.{◌≡◌, ◌≢◌, ℤ, pos, sym, ◌∙◌, of_z, w64, to_z-of_z, FitsSigned, rules, arith}
use Rattle.std.proofs.lemmas.Int.{ints}
use Rattle.std.specs.Int.{int_rem_euclid}
use Rattle.hpf_num.proofs.Divisions.{whole_is, rest_is, rest_fits}
use Rattle.hpf_num.proofs.division.div_ceil.Goals as goal

nothing : (r : ℤ) → of_z w64 r ≡ 0 → FitsSigned w64 r → r ≡ pos 0
nothing r e f = omega (arith, ints)

pub returns-then-rem_euclid-eq0 : goal.returns-then-rem_euclid-eq0
returns-then-rem_euclid-eq0 c =
    let q = rw (to_z-of_z c.ranges.a, to_z-of_z c.ranges.b) at c.div_euclid-floor.ensures in
    let r = rw (to_z-of_z c.ranges.a, to_z-of_z c.ranges.b) at c.rem_euclid.ensures.value in
    let fits : FitsSigned w64 c.div_euclid-floor.result = search rules in
    let fits_too : FitsSigned w64 c.rem_euclid.result = search rules in
    rw (to_z-of_z fits, q) (whole_is c.args.a c.args.b c.requires (sym r ∙ nothing _ c.if-rem_euclid-eq0.true fits_too))

pub returns-else-rem_euclid-eq0 : goal.returns-else-rem_euclid-eq0
returns-else-rem_euclid-eq0 c =
    let q = rw (to_z-of_z c.ranges.a, to_z-of_z c.ranges.b) at c.div_euclid-floor.ensures in
    let r = rw (to_z-of_z c.ranges.a, to_z-of_z c.ranges.b) at c.rem_euclid.ensures.value in
    let fits : FitsSigned w64 c.div_euclid-floor.result = search rules in
    let some : int_rem_euclid c.args.a c.args.b ≢ pos 0 = λ e. c.if-rem_euclid-eq0.false (rw (r, e)) in
    let more = rest_fits c.args.a c.args.b c.ranges.a c.requires some in
    rw (to_z-of_z fits, q, to_z-of_z more) (rest_is c.args.a c.args.b c.requires some)
