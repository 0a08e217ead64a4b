-- What a text or its statements come to for an action, as the calls of the program answer it: what is asked for,
-- which does what is granted and can be done; or the status by which it is denied, unless memory ran out.
use Rattle.std.specs.Prelude.{◌≢◌, ℕ, List, Result, IfOk, IfErr}
use Rattle.hpf_status.specs.declared.status.Status.{Status}
use Rattle.hpf_status.specs.declared.status.Status.TheVariants.{OutOfMemory}
use Rattle.hpf_syntax.specs.Plain.{ItemTree}
use Rattle.hpf_request.specs.declared.request.Request.{Request}
use Rattle.hpf_request.specs.declared.words.Action.{Action}
use Rattle.hpf_request.specs.Denials.{IsOfText}
use Rattle.hpf_request.specs.Order.{Verdict, Granted, Denied, Judges, Decides}
use Rattle.hpf_request.specs.Request.{deed_of, IsMet}

-- This comes of what a verdict is known of.
pub record ComesTo (Is : Verdict → Type 0) (result : Result Request Status) : Type 0 where
  pub granted : IfOk result (λ request. Is (Granted (deed_of request)))
  pub met : IfOk result IsMet
  pub denied : IfErr result (λ end. end ≢ OutOfMemory → Is (Denied end))
  pub kinds : IfErr result IsOfText

-- of statements, whatever text says them
abbrev pub Decided : Action → List ItemTree → Result Request Status → Type 0
Decided asked items result = ComesTo (Decides asked items) result

-- of a text
abbrev pub Judged : Action → List ℕ → Result Request Status → Type 0
Judged asked text result = ComesTo (Judges asked text) result
