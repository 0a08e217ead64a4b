use Rattle.std.proofs.Common.{◌≡◌, ◌∙◌, ℕ, ap, length, arith}
use Rattle.hpf_lend.specs.Plain.{home_of, home_with}
use Rattle.hpf_lend.proofs.Shelves.{filled_more}
use Rattle.hpf_lend.proofs.shelf.filled.Goals as goal

pub loop-number-preserved : goal.loop-number-preserved
loop-number-preserved c =
    let e : home_of c.new.result ≡ home_with (length c.in_ok-values.values.items) c.loop-number.number = ap home_of c.new.ensures in
    let o = c.in_ok-values.values.ok in
    let l = c.in_ok-values.ensures.len in
    let n : length c.in_ok-values.values.items ≡ c.args.size = omega arith in
    rw c.in_ok-push.ensures.items (filled_more c.args.size c.loop-number.number c.loop-number.shelf.items c.new.result c.loop-number.invariant
    (e ∙ ap (λ (m : ℕ). home_with m c.loop-number.number) n))
