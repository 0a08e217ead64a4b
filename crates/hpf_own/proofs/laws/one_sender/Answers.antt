use Rattle.std.proofs.Common.{◌≡◌, true, subst}
use Rattle.hpf_own.specs.Owners.{owns}
use Rattle.hpf_own.proofs.Numbers.{some_owner}
use Rattle.hpf_own.proofs.Sends.{sender_below, sender_owns, sends_from, sends_leads, sends_owned}
use Rattle.hpf_own.proofs.laws.one_sender.Goals as goal

pub returns-clause-below : goal.returns-clause-below
returns-clause-below c = λ m index is lies.
    let o = some_owner m index is lies in
    sender_below m o.0 index o.1 o.2

pub returns-clause-exactly : goal.returns-clause-exactly
returns-clause-exactly c = λ m p index is below lies. (
  λ sent.
      let o = some_owner m index is lies in
      let owned : owns m p index ≡ true = subst (λ q. owns m q index ≡ true) sent (sender_owns m o.0 index o.1 o.2) in
      (sends_from m p index lies owned sent, owned),
  λ h. sends_owned m p index is below lies (sends_leads m p is below h.0) h.1,
)
