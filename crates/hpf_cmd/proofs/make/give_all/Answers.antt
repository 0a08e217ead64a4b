use Rattle.std.proofs.Common.{◌≡◌, ℕ, List, [], ◌++◌, length, length-append, length-take-le, take, append_assoc, append-nil, arith, sym, ap, ◌∙◌}
use Rattle.std.proofs.lemmas.Result.{err_from_is_err_and}
use Rattle.hpf_io.specs.Writes.{Writes-then, Writes-cut, Writes-nothing}
use Rattle.hpf_cmd.proofs.make.give_all.Goals as goal

pub loop-count-init : goal.loop-count-init
loop-count-init g c = record {
  front = [];
  given = Writes-nothing (g.K.Sink.state c.args.out.now) tt;
  rest = c.take-count.ensures.moved;
  within = omega (arith, c.take-count.ensures.within, c.take-count.auto.into);
  len = c.take-count.auto.into;
  over = λ none. c.take-count.ensures.ended none (omega arith);
}

pub returns-in_err-write_all : goal.returns-in_err-write_all
returns-in_err-write_all g c =
    let p = err_from_is_err_and c.from_residual.result c.from_residual.ensures.1 in
    let l = c.loop-count.invariant in
    rw (p.1) (rw l.rest (Writes-then l.given (Writes-cut c.loop-count.source c.in_err-write_all.ensures)))

pub loop-count-preserved : goal.loop-count-preserved
loop-count-preserved g c =
    let l = c.loop-count.invariant in
    let given = take c.loop-count.count c.loop-count.piece in
    let taken = c.take-count-in-loop-count.ensures in
    record {
      front = l.front ++ given;
      given = Writes-then l.given c.in_ok-write_all.ensures;
      rest = l.rest ∙ sym (append_assoc l.front given c.loop-count.source) ∙ ap (λ (xs : List ℕ). (l.front ++ given) ++ xs) taken.moved;
      within = omega (arith, taken.within, c.take-count-in-loop-count.auto.into);
      len = c.take-count-in-loop-count.auto.into ∙ l.len;
      over = λ none. taken.ended none (omega (arith, l.len));
    }

pub loop-count-smaller : goal.loop-count-smaller
loop-count-smaller g c =
    let l = c.loop-count.invariant in
    let taken = c.take-count-in-loop-count.ensures in
    let n = c.take-count-in-loop-count.result in
    let piece = c.take-count-in-loop-count.new.into in
    let whole = ap length taken.moved in
    let parts = length-append (take n piece) c.take-count-in-loop-count.new.self in
    let front = length-take-le n piece (omega (arith, taken.within, c.take-count-in-loop-count.auto.into)) in
    omega (arith, whole, parts, front, c.loop-count-test.true)

pub returns : goal.returns
returns g c =
    let l = c.loop-count.invariant in
    let none : c.loop-count.count ≡ 0 = omega (arith, c.loop-count-test.false) in
    let all : c.args.source.now ≡ l.front = l.rest ∙ ap (λ (xs : List ℕ). l.front ++ (take c.loop-count.count c.loop-count.piece ++ xs)) (l.over none) ∙ ap (λ (n : ℕ). l.front ++ (take n c.loop-count.piece ++ [])) none ∙ append-nil l.front in
    rw all l.given
