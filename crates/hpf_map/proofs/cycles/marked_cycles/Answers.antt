use Rattle.std.proofs.Common.{rules, ◌≡◌, cond, true, false, set, replicate, ap, ◌∙◌, arith}
use Rattle.hpf_map.specs.Ways.{leads_on}
use Rattle.hpf_map.proofs.CycleLemmas.{IsMarked-none, IsMarked-more, IsMarked-all}
use Rattle.hpf_map.proofs.cycles.marked_cycles.Goals as goal

pub loop-name-init : goal.loop-name-init
loop-name-init c =
    let none : c.in_ok-marks.marks.items ≡ replicate c.len.result false = search rules in
    IsMarked-none c.args.ways.now c.in_ok-marks.marks.items c.len.result none c.len.ensures

pub loop-name-preserved : goal.loop-name-preserved
loop-name-preserved c =
    IsMarked-more c.end-end.result c.mark.new.marks.items c.loop-name.invariant c.end-end.ensures
    (c.mark.ensures
    ∙ ap (λ asked. cond asked (set c.loop-name.marks.items c.end-end.result true) c.loop-name.marks.items) (c.leads_on.ensures ∙ ap leads_on c.way.ensures))

pub returns : goal.returns
returns c = let all = c.loop-name-test.false in IsMarked-all c.loop-name.invariant (omega (arith, all, c.loop-name.auto.name-end, c.len-name-end.ensures))
