use Rattle.std.proofs.Common.{◌≡◌, length, sym, ap, ◌∙◌, arith}
use Rattle.std.proofs.Math.ListN.{get_or-eq_default}
use Rattle.hpf_map.specs.Ends.{target}
use Rattle.hpf_map.proofs.WalkLemmas.{IsTable-none, IsTable-more, IsTable-whole}
use Rattle.hpf_map.proofs.walk.Walk.then.Goals as goal

pub loop-name-init : goal.loop-name-init
loop-name-init c = IsTable-none (λ n. target c.args.other.now (target c.args.self.now n)) _ c.new-targets.ensures.items

pub loop-name-preserved : goal.loop-name-preserved
loop-name-preserved c =
    IsTable-more c.target-in-loop-name.result c.push.new.self.items c.loop-name.invariant c.in_ok-push.ensures.items
    (c.target-in-loop-name.ensures ∙ ap (target c.args.other.now) c.target.ensures)

pub returns : goal.returns
returns c = IsTable-whole c.loop-name.invariant (λ n past.
    let all = c.loop-name-test.false in
    let own : length c.args.self.now ≡ length c.self.inside.targets.items = ap length (sym c.self.view_is) in
    let others : length c.args.other.now ≡ length c.other.inside.targets.items = ap length (sym c.other.view_is) in
    let first : target c.args.self.now n ≡ n = get_or-eq_default c.args.self.now n (omega (arith, c.self.inside.targets.ok.0)) in
    let second : target c.args.other.now n ≡ n = get_or-eq_default c.args.other.now n (omega (arith, c.other.inside.targets.ok.0)) in
    ap (target c.args.other.now) first ∙ second)
