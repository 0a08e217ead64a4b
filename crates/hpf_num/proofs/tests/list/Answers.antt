use Rattle.std.proofs.Common.{ℤ, All, ◌<ℤ◌, arith}
use Rattle.std.proofs.lemmas.Int.{ints}
use Rattle.std.proofs.lemmas.List.Elements.{All-append}
use Rattle.hpf_num.specs.declared.run.Run.{Run}
use Rattle.hpf_num.specs.Run.{integers}
use Rattle.hpf_num.proofs.Members.{run_all}
use Rattle.hpf_num.proofs.tests.list.Goals as goal

-- the integers of a run below another
run_below : (run : Run) (i : ℤ) → run.high <ℤ i → All (λ j. j <ℤ i) (integers run)
run_below run i h = run_all (λ j. j <ℤ i) run (λ j l. let g = l.greatest in omega (arith, ints))

pub push-requires-2-clause-above : goal.push-requires-2-clause-above
push-requires-2-clause-above c =
    rw (c.in_ok-push.ensures.ok, c.new-runs.ensures) (run_below c.args.first c.args.second.low c.requires.apart)

pub push-requires-3-clause-above : goal.push-requires-3-clause-above
push-requires-3-clause-above c =
    rw (c.in_ok-push-2.ensures.ok, c.in_ok-push.ensures.ok, c.new-runs.ensures)
    (All-append (λ j. j <ℤ c.args.third.low) (integers c.args.first) (integers c.args.second) (run_below c.args.first c.args.third.low c.requires.apart_too) (run_below c.args.second c.args.third.low c.requires.rest_apart))
