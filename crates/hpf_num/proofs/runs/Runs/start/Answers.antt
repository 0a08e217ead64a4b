use Rattle.std.proofs.Common.{◌≡◌, ℕ, ◌<◌, List, length, ℤ, not, Some, get_or, slice_get, pos, ◌-ℤ◌, ap, sym, ◌∙◌, arith, subst}
use Rattle.hpf_num.specs.Runs.{has, starts}
use Rattle.hpf_num.proofs.Ends.{start_at}
use Rattle.hpf_num.proofs.runs.Runs.start.Goals as goal

pub returns-then-before-k : goal.returns-then-before-k
returns-then-before-k c =
    let members = c.args.self.now in
    let place = c.loop-place.place in
    let same = ap (λ (xs : List ℤ). length xs) c.self.view_is in
    let within : place < length members = omega (arith, c.self.inside.members.ok.0) in
    let e = start_at (λ i. not (has members (i -ℤ pos 1))) members place within (sym c.starts_at.ensures ∙ c.if-starts_at.true) in
    record { below = within; start = subst (λ (n : ℕ). slice_get (starts members) n ≡ Some (get_or members place (pos 0))) (sym c.loop-place.invariant.0 ∙ c.if-before-k.true) e }
