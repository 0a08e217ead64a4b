use Rattle.std.proofs.Common.{ap, Err, refl, inl, inr}
use Rattle.hpf_cmd.proofs.Completed.{granted_keeps, denied_keeps}
use Rattle.hpf_cmd.proofs.command.command_one.Goals as goal

pub returns-in-Ok : goal.returns-in-Ok
returns-in-Ok g c =
    granted_keeps _ _ _ _ _ _ _ _ _ c.one_verdict.ensures c.in-Ok.ensures.granted
    (λ none. elim (c.in-Ok.ensures.usage none) [
      | inl e ↦ cc
      | inr e ↦ cc
    ])
    (λ asked name asks unbuilt. elim (c.in-Ok.ensures.not_built asked name asks unbuilt) [
      | inl e ↦ cc
      | inr e ↦ cc
    ])
    (c.in-Ok.ensures.loads (λ e. cc)) c.in-Ok.ensures.kept
    c.perform.ensures.done c.perform.ensures.kinds c.perform.ensures.memory

pub returns-in-Err : goal.returns-in-Err
returns-in-Err g c =
    denied_keeps _ _ _ _ _ _ c.in-Err.status c.one_verdict.ensures (c.in-Err.ensures.denied c.in-Err.status refl)
    (λ none. elim (c.in-Err.ensures.usage none) [
      | inl e ↦ inl (cc)
      | inr e ↦ inr (cc)
    ])
    (λ asked name asks unbuilt. elim (c.in-Err.ensures.not_built asked name asks unbuilt) [
      | inl e ↦ inl (cc)
      | inr e ↦ inr (cc)
    ])
    (λ is. c.in-Err.ensures.unasked (elim is [
      | inl e ↦ inl (ap Err e)
      | inr e ↦ inr (ap Err e)
    ]))
    (λ fault. c.in-Err.ensures.load_fault (ap Err fault)) (λ other. c.in-Err.ensures.loads (λ e. other (cc))) c.in-Err.ensures.kept c.in-Err.ensures.kinds
