use Rattle.std.proofs.Common.{true, get_or, w64, to_z-of_z, SFits, rules, ◌∙◌}
use Rattle.std.proofs.lemmas.List.{get_or_default, length-set}
use Rattle.hpf_own.specs.KeptLists.{no_run}
use Rattle.hpf_own.proofs.Walking.{lows, first_place, first_lies, place_is, written_more, written_all}
use Rattle.hpf_own.proofs.bounds.Bounds.first_index.Goals as goal

pub loop-d-preserved : goal.loop-d-preserved
loop-d-preserved c =
    let bounds = c.as_slice-run-items.result.now in
    let into = c.loop-d.into in
    let d = c.loop-d.d in
    let run = get_or bounds d no_run in
    let fits : SFits w64 run.low = search rules in
    rw (to_z-of_z fits) (record {
      rank = length-set into d run.low ∙ c.loop-d.invariant.rank;
      front = written_more bounds into d run c.loop-d-test.true c.loop-d.invariant.rank (get_or_default bounds d no_run run c.loop-d-test.true) c.loop-d.invariant.front;
    })

pub returns-clause-first : goal.returns-clause-first
returns-clause-first c =
    let m = c.args.self.now in
    let bounds = c.as_slice-run-items.result.now in
    let whole = written_all bounds c.loop-d.into c.loop-d.d c.loop-d-test.false c.loop-d.invariant.rank c.loop-d.invariant.front in
    rw (whole, c.as_slice-run-items.ensures.same) (place_is m 0 (lows m) true (first_place m c.as_slice-run-items.ensures.bounds.ordered))

pub returns-clause-lies : goal.returns-clause-lies
returns-clause-lies c =
    let m = c.args.self.now in
    let bounds = c.as_slice-run-items.result.now in
    let whole = written_all bounds c.loop-d.into c.loop-d.d c.loop-d-test.false c.loop-d.invariant.rank c.loop-d.invariant.front in
    rw (whole, c.as_slice-run-items.ensures.same) (first_lies m c.as_slice-run-items.ensures.bounds.ordered)
