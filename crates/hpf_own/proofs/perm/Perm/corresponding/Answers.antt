use Rattle.std.proofs.Common.{◌≡◌, List, ℕ, length, sym, ap, ◌∙◌, subst, refl, arith, to_z-of_z, FitsSigned, w64}
use Rattle.std.proofs.lemmas.Int.{ints}
use Rattle.hpf_own.specs.Lists.{IsPerm}
use Rattle.hpf_own.specs.Correspondence.{source, ExtentsAgree, corresponding}
use Rattle.hpf_own.proofs.Indices.{LiesIn-length}
use Rattle.hpf_own.proofs.Correspondence.{entry_within, source_below, can_move, moved_more, moved_value, moved_all, corresponding_within}
use Rattle.hpf_own.proofs.perm.Perm.corresponding.Goals as goal

pub overflow_sub-source : goal.overflow_sub-source
overflow_sub-source c =
    let perm = c.as_slice-dim-items.result.now in
    let is : IsPerm perm = rw c.as_slice-dim-items.ensures.same c.as_slice-dim-items.ensures.perm in
    (entry_within perm c.loop-d.d is (omega arith)).0

pub bounds-index-d : goal.bounds-index-d
bounds-index-d c =
    omega (arith, LiesIn-length c.args.to.now c.args.index.now c.requires.index, c.requires.agree.receiving, ap (λ (xs : List ℕ). length xs) c.as_slice-dim-items.ensures.same)

pub bounds-into-source : goal.bounds-into-source
bounds-into-source c =
    let perm = c.as_slice-dim-items.result.now in
    let is : IsPerm perm = rw c.as_slice-dim-items.ensures.same c.as_slice-dim-items.ensures.perm in
    omega (arith, source_below perm c.loop-d.d is (omega arith), ap (λ (xs : List ℕ). length xs) c.as_slice-dim-items.ensures.same)

pub at-requires-in-loop-d : goal.at-requires-in-loop-d
at-requires-in-loop-d c =
    let perm = c.as_slice-dim-items.result.now in
    let is : IsPerm perm = rw c.as_slice-dim-items.ensures.same c.as_slice-dim-items.ensures.perm in
    omega (arith, source_below perm c.loop-d.d is (omega arith), c.requires.agree.before, ap (λ (xs : List ℕ). length xs) c.as_slice-dim-items.ensures.same)

pub moved-requires-clause-above : goal.moved-requires-clause-above
moved-requires-clause-above c =
    let perm = c.as_slice-dim-items.result.now in
    let is : IsPerm perm = rw c.as_slice-dim-items.ensures.same c.as_slice-dim-items.ensures.perm in
    let agree = subst (ExtentsAgree c.args.from.now c.args.to.now) (sym c.as_slice-dim-items.ensures.same) c.requires.agree in
    let m = can_move c.args.from.now c.args.to.now perm c.args.index.now c.loop-d.d c.at.result c.at-in-loop-d.result is c.requires.before c.requires.receiving agree c.requires.index (omega arith) c.at.ensures.run c.at-in-loop-d.ensures.run in
    rw (to_z-of_z m.low_fits, to_z-of_z m.fits) m.above

pub moved-requires-clause-near : goal.moved-requires-clause-near
moved-requires-clause-near c =
    let perm = c.as_slice-dim-items.result.now in
    let is : IsPerm perm = rw c.as_slice-dim-items.ensures.same c.as_slice-dim-items.ensures.perm in
    let agree = subst (ExtentsAgree c.args.from.now c.args.to.now) (sym c.as_slice-dim-items.ensures.same) c.requires.agree in
    let m = can_move c.args.from.now c.args.to.now perm c.args.index.now c.loop-d.d c.at.result c.at-in-loop-d.result is c.requires.before c.requires.receiving agree c.requires.index (omega arith) c.at.ensures.run c.at-in-loop-d.ensures.run in
    rw (to_z-of_z m.low_fits, to_z-of_z m.fits) m.near

pub moved-requires-clause-room : goal.moved-requires-clause-room
moved-requires-clause-room c =
    let perm = c.as_slice-dim-items.result.now in
    let is : IsPerm perm = rw c.as_slice-dim-items.ensures.same c.as_slice-dim-items.ensures.perm in
    let agree = subst (ExtentsAgree c.args.from.now c.args.to.now) (sym c.as_slice-dim-items.ensures.same) c.requires.agree in
    let m = can_move c.args.from.now c.args.to.now perm c.args.index.now c.loop-d.d c.at.result c.at-in-loop-d.result is c.requires.before c.requires.receiving agree c.requires.index (omega arith) c.at.ensures.run c.at-in-loop-d.ensures.run in
    rw (to_z-of_z m.low_fits, to_z-of_z m.fits, to_z-of_z m.other_fits) m.room

pub loop-d-preserved : goal.loop-d-preserved
loop-d-preserved c =
    let perm = c.as_slice-dim-items.result.now in
    let same = c.as_slice-dim-items.ensures.same in
    let is : IsPerm perm = rw same c.as_slice-dim-items.ensures.perm in
    let agree = subst (ExtentsAgree c.args.from.now c.args.to.now) (sym same) c.requires.agree in
    let m = can_move c.args.from.now c.args.to.now perm c.args.index.now c.loop-d.d c.at.result c.at-in-loop-d.result is c.requires.before c.requires.receiving agree c.requires.index (omega arith) c.at.ensures.run c.at-in-loop-d.ensures.run in
    let fits : FitsSigned w64 c.moved.result = omega (arith, ints, c.moved.type_inv) in
    let value = rw (to_z-of_z m.other_fits, to_z-of_z m.fits, to_z-of_z m.low_fits) at c.moved.ensures in
    let long : length c.loop-d.into ≡ length perm = omega (arith, ap (λ (xs : List ℕ). length xs) same) in
    rw (to_z-of_z fits)
    (moved_more c.args.from.now c.args.to.now perm c.args.index.now c.loop-d.into c.loop-d.d (source perm c.loop-d.d) c.moved.result is (omega arith) long refl
    (value ∙ moved_value c.args.from.now c.args.to.now perm c.args.index.now c.loop-d.d c.at.result c.at-in-loop-d.result c.at.ensures.run c.at-in-loop-d.ensures.run) c.loop-d.invariant)

pub returns-clause-same : goal.returns-clause-same
returns-clause-same c =
    let perm = c.as_slice-dim-items.result.now in
    let same = c.as_slice-dim-items.ensures.same in
    let is : IsPerm perm = rw same c.as_slice-dim-items.ensures.perm in
    let long : length c.loop-d.into ≡ length perm = omega (arith, ap (λ (xs : List ℕ). length xs) same) in
    moved_all c.args.from.now c.args.to.now perm c.args.index.now c.loop-d.into c.loop-d.d is long (omega arith) c.loop-d.invariant
    ∙ ap (λ (xs : List ℕ). corresponding c.args.from.now c.args.to.now xs c.args.index.now) same

pub returns-clause-lies : goal.returns-clause-lies
returns-clause-lies c =
    let whole = returns-clause-same c in
    rw whole (corresponding_within c.args.from.now c.args.to.now c.args.self.now c.args.index.now c.as_slice-dim-items.ensures.perm c.requires.agree c.requires.index)
