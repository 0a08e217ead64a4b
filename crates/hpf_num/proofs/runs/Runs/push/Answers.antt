use Rattle.std.proofs.Common.{◌≡◌, Result, Ok, Err, All, ◌<ℤ◌, false, subst, sym, ◌∙◌}
use Rattle.std.specs.Prelude.{OnOk, is_err}
use Rattle.std.proofs.lemmas.Bool.{false≢true}
use Rattle.hpf_num.specs.Runs.{AreMembers}
use Rattle.hpf_num.proofs.Members.{push_members}
use Rattle.hpf_num.proofs.runs.Runs.push.Goals as goal

at_ok : {A E : Type 0} (r : Result A E) (P : Type 0) → is_err r ≡ false → OnOk r P → P
at_ok (Ok x) P e h = h
at_ok (Err x) P e h = absurd (false≢true (sym e))

pub invariant_of-self-else-is_err : goal.invariant_of-self-else-is_err
invariant_of-self-else-is_err c =
    let is = at_ok c.push_all-pushed.result _ (sym c.is_err.ensures.value ∙ c.if-is_err.false) c.push_all-pushed.ensures.ok in
    subst AreMembers (sym is) (push_members c.self.inside.members.items c.args.run c.self.invariant c.requires.limits (subst (All (λ j. j <ℤ c.args.run.low)) (sym c.self.view_is) c.requires.above))
